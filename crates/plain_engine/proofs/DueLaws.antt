-- The rows that become due to a query by what is held of it are those that become due by a view.
use Rattle.std.proofs.Common.{◌≡◌, ℕ, ◌*◌, ◌/◌, ◌^◌, ◌≤◌, ◌<◌, min, nat_lt, nat_le, Bool, true, false, not, cond, true≢false, ◌&&◌, List, [], ◌∷◌, ◌++◌, refl, sym, ap, ap₂, ◌∙◌, arith}
use Rattle.std.specs.List.{filter, flat_map, AllByRecursion}
use Rattle.std.proofs.lemmas.Bool.{and_parts, and_from, leb-true, leb-false, ltb-true, ltb-false, le-leb, lt-ltb, lt-leb, false_from_ne_true}
use Rattle.std.proofs.lemmas.Bool.Decides.{nat_tests}
use Rattle.std.proofs.lemmas.List.Elements.{filter-append}
use Rattle.std.proofs.Math.Nat.{div-mul-le_self}
use Rattle.as_base.specs.declared.item.Given.{Given}
use Rattle.as_base.specs.declared.message.Msg.TheVariants as msg
use Rattle.as_base.specs.declared.query.Kind.{Kind}
use Rattle.as_base.specs.declared.query.Plan.{Plan}
use Rattle.as_base.specs.declared.windows.WinSpec.{WinSpec}
use Rattle.as_base.specs.Range.{IsTime}
use Rattle.as_base.specs.Windows.{fits, start_of, end_of, in_window, first_window, last_window, windows_at}
use Rattle.as_base.proofs.WindowLaws.{moves_on, first-le-last, first_reaches, window-among}
use Rattle.views.specs.Query.{Query}
use Rattle.views.specs.View.{View, query_watermark}
use Rattle.views.specs.Passed.{rising_once, windows_with, within, given_to, windows_of, is_passed}
use Rattle.views.specs.Rows.{rows_as, rows_with, rows}
use Rattle.views.specs.Message.{after}
use Rattle.views.specs.IsView.{IsQuery}
use Rattle.views.proofs.ListLaws.{All-by, All-every, All-append, All-passed, filter-none, filter-same, filter-within, flat_map-same}
use Rattle.views.proofs.RisingLaws.{All-put_once, filter-rising_once}
use Rattle.views.proofs.WindowLaws.{All-windows_at}
use Rattle.views.proofs.DueLaws.{rows_between as rows_by}
use Rattle.plain_engine.specs.Held.{awaits, is_needed, is_join, given_on_right, held_of}
use Rattle.plain_engine.specs.Walk.{is_between, rows_between, text_of_rows}
use Rattle.plain_engine.specs.Holding.{mark_by, due_text}

-- ---- windows of the records that are held

-- a window from the first that is left on wants each record that it holds
needs : (w : WinSpec) (mark k t : ℕ) → fits w ≡ true → first_window w mark ≤ k → in_window w k t ≡ true → nat_le (first_window w mark) (last_window w t) ≡ true
needs w mark k t fit low inside = let among = (window-among w k t (moves_on w fit) inside).1 in le-leb (first_window w mark) (last_window w t) (omega (arith, low, among))

held-within : (w : WinSpec) (mark k : ℕ) (gs : List Given) → fits w ≡ true → first_window w mark ≤ k → within w k (filter (is_needed w mark) gs) ≡ within w k gs
held-within w mark k gs fit low = filter-within (λ (g : Given). in_window w k g.time) (is_needed w mark) gs (λ g inside. needs w mark k g.time fit low inside)

-- no window from there on holds a record that none wants
windows-unneeded : (w : WinSpec) (mark until t : ℕ) → fits w ≡ true → nat_le (first_window w mark) (last_window w t) ≡ false → filter (is_between (first_window w mark) until) (windows_at w t) ≡ []
windows-unneeded w mark until t fit unneeded =
    filter-none (is_between (first_window w mark) until) (windows_at w t)
    (All-by (λ k. in_window w k t ≡ true) (λ k. is_between (first_window w mark) until k ≡ false)
    (λ k inside.
    false_from_ne_true (is_between (first_window w mark) until k)
    (λ both.
    let low = leb-true (first_window w mark) k (and_parts (nat_le (first_window w mark) k) (nat_lt k until) both).0 in
    true≢false (sym (needs w mark k t fit low inside) ∙ unneeded)))
    (windows_at w t) (All-windows_at w t fit))

held-numbers : (w : WinSpec) (mark until : ℕ) (gs : List Given) → fits w ≡ true
    → filter (is_between (first_window w mark) until) (flat_map (λ (g : Given). windows_at w g.time) (filter (is_needed w mark) gs))
    ≡ filter (is_between (first_window w mark) until) (flat_map (λ (g : Given). windows_at w g.time) gs)
held-numbers w mark until [] fit = refl
held-numbers w mark until (g ∷ gs) fit = go (is_needed w mark g) refl (held-numbers w mark until gs fit)
  where
    p : ℕ → Bool
    p = is_between (first_window w mark) until

    at : Given → List ℕ
    at g = windows_at w g.time

    go : (b : Bool) → is_needed w mark g ≡ b → filter (is_between (first_window w mark) until) (flat_map (λ (g : Given). windows_at w g.time) (filter (is_needed w mark) gs))
        ≡ filter (is_between (first_window w mark) until) (flat_map (λ (g : Given). windows_at w g.time) gs)
        → filter (is_between (first_window w mark) until) (flat_map (λ (g : Given). windows_at w g.time) (cond b (g ∷ filter (is_needed w mark) gs) (filter (is_needed w mark) gs)))
        ≡ filter (is_between (first_window w mark) until) (windows_at w g.time ++ flat_map (λ (g : Given). windows_at w g.time) gs)
    go true e rest = filter-append p (at g) (flat_map at (filter (is_needed w mark) gs)) ∙ ap (λ l. filter p (at g) ++ l) rest ∙ sym (filter-append p (at g) (flat_map at gs))
    go false e rest = rest ∙ ap (λ l. l ++ filter p (flat_map at gs)) (sym (windows-unneeded w mark until g.time fit e)) ∙ sym (filter-append p (at g) (flat_map at gs))

held-windows : (w : WinSpec) (mark until : ℕ) (gs : List Given) → fits w ≡ true
    → filter (is_between (first_window w mark) until) (windows_with w (filter (is_needed w mark) gs)) ≡ filter (is_between (first_window w mark) until) (windows_with w gs)
held-windows w mark until gs fit =
    filter-rising_once (is_between (first_window w mark) until) (flat_map (λ (g : Given). windows_at w g.time) (filter (is_needed w mark) gs))
    ∙ ap rising_once (held-numbers w mark until gs fit)
    ∙ sym (filter-rising_once (is_between (first_window w mark) until) (flat_map (λ (g : Given). windows_at w g.time) gs))

-- the rows from what is held are those from all records
held-rows : (p : Plan) (mark until : ℕ) (lefts rights : List Given) → fits p.win ≡ true
    → rows_between p (first_window p.win mark) until (filter (is_needed p.win mark) lefts) (filter (is_needed p.win mark) rights) ≡ rows_between p (first_window p.win mark) until lefts rights
held-rows p mark until lefts rights fit =
    ap (flat_map (rows_with p (filter needed lefts) (filter needed rights))) (held-windows p.win mark until lefts fit)
    ∙ flat_map-same (rows_with p (filter needed lefts) (filter needed rights)) (rows_with p lefts rights) (filter between (windows_with p.win lefts))
    (All-by (λ k. between k ≡ true) (λ k. rows_with p (filter needed lefts) (filter needed rights) k ≡ rows_with p lefts rights k)
    (λ k both.
    let low = leb-true (first_window p.win mark) k (and_parts (nat_le (first_window p.win mark) k) (nat_lt k until) both).0 in
    ap₂ (rows_as p.kind p k) (held-within p.win mark k lefts fit low) (held-within p.win mark k rights fit low))
    (filter between (windows_with p.win lefts)) (All-passed between (windows_with p.win lefts)))
  where
    between : ℕ → Bool
    between = is_between (first_window p.win mark) until

    needed : Given → Bool
    needed = is_needed p.win mark

-- a query that is no join does not look at right records
rows-sides : (p : Plan) (first until : ℕ) (lefts rights : List Given) → rows_between p first until lefts (cond (is_join p.kind) rights []) ≡ rows_between p first until lefts rights
rows-sides p first until lefts rights =
    flat_map-same (rows_with p lefts (cond (is_join p.kind) rights [])) (rows_with p lefts rights) (filter (is_between first until) (windows_with p.win lefts))
    (All-every (λ k. rows_with p lefts (cond (is_join p.kind) rights []) k ≡ rows_with p lefts rights k) (λ k. go k p.kind) (filter (is_between first until) (windows_with p.win lefts)))
  where
    go : (k : ℕ) (kind : Kind) → rows_as kind p k (within p.win k lefts) (within p.win k (cond (is_join kind) rights [])) ≡ rows_as kind p k (within p.win k lefts) (within p.win k rights)
    go k Kind.Select = refl
    go k (Kind.Sum c) = refl
    go k Kind.Count = refl
    go k Kind.Join = refl

-- ---- which windows are passed

-- all windows that hold records are below the end of time
All-rising : (P : ℕ → Type 0) (ks : List ℕ) → AllByRecursion P ks → AllByRecursion P (rising_once ks)
All-rising P [] h = tt
All-rising P (k ∷ ks) h = All-put_once P k (rising_once ks) h.0 (All-rising P ks h.1)

low-window : (w : WinSpec) (k t : ℕ) → fits w ≡ true → IsTime t → in_window w k t ≡ true → k < 2 ^ 62
low-window w k t fit time inside =
    let start = leb-true (start_of w k) t (and_parts (nat_le (start_of w k) t) (nat_lt t (end_of w k)) inside).0 in
    let some = moves_on w fit in
    let more = times_more k w.slide some in
    omega (arith, start, time, more)
  where
    times_more : (k s : ℕ) → 0 < s → k ≤ k * s
    times_more k s some = grind arith

low-windows : (w : WinSpec) (gs : List Given) → fits w ≡ true → AllByRecursion (λ (g : Given). IsTime g.time) gs → AllByRecursion (λ k. k < 2 ^ 62) (windows_with w gs)
low-windows w gs fit h = All-rising (λ k. k < 2 ^ 62) (flat_map (λ (g : Given). windows_at w g.time) gs) (each gs h)
  where
    each : (gs : List Given) → AllByRecursion (λ (g : Given). IsTime g.time) gs → AllByRecursion (λ k. k < 2 ^ 62) (flat_map (λ (g : Given). windows_at w g.time) gs)
    each [] h = tt
    each (g ∷ gs) h =
        All-append (λ k. k < 2 ^ 62) (windows_at w g.time) (flat_map (λ (g : Given). windows_at w g.time) gs)
        (All-by (λ k. in_window w k g.time ≡ true) (λ k. k < 2 ^ 62) (λ k inside. low-window w k g.time fit h.0 inside) (windows_at w g.time) (All-windows_at w g.time fit))
        (each gs h.1)

-- a mark has passed a window just where it is below the first that is left
passed-below : (w : WinSpec) (k mark : ℕ) → fits w ≡ true → nat_le (end_of w k) mark ≡ nat_lt k (first_window w mark)
passed-below w k mark fit = by_cases (nat_le (end_of w k) mark) refl (nat_lt k (first_window w mark)) refl
  where
    some : 0 < w.slide
    some = moves_on w fit

    mul_lt : (a b c : ℕ) → a * c < b * c → a < b
    mul_lt a b c h = grind arith

    low_first : (start : Bool) → nat_le (start_of w k) mark ≡ start → mark < end_of w k → first_window w mark ≤ k
    low_first true e l = (window-among w k mark (moves_on w fit) (and_from (nat_le (start_of w k) mark) (nat_lt mark (end_of w k)) e (lt-ltb mark (end_of w k) l))).0
    low_first false e l =
        let a = first-le-last w mark fit in
        let d = div-mul-le_self mark w.slide in
        let f = leb-false (start_of w k) mark e in
        let b = mul_lt (mark / w.slide) k w.slide (omega (arith, d, f)) in
        omega (arith, a, b)

    by_cases : (b : Bool) → nat_le (end_of w k) mark ≡ b → (c : Bool) → nat_lt k (first_window w mark) ≡ c → b ≡ c
    by_cases true e true f = refl
    by_cases true e false f =
        let l = first_reaches w k mark (nat_lt mark w.size) (moves_on w fit) refl (ltb-false k (first_window w mark) f) in
        let h = leb-true (end_of w k) mark e in
        absurd (omega (arith, l, h))
    by_cases false e true f =
        let l = low_first (nat_le (start_of w k) mark) refl (leb-false (end_of w k) mark e) in
        let h = ltb-true k (first_window w mark) f in
        absurd (omega (arith, l, h))
    by_cases false e false f = refl

-- the first window that is left, of a query with this end
abbrev left_by : WinSpec → ℕ → ℕ → ℕ
left_by w to mark = cond (nat_le to mark) (2 ^ 62) (first_window w mark)

passed-left : (w : WinSpec) (to k mark : ℕ) → fits w ≡ true → k < 2 ^ 62 → nat_le (min (end_of w k) to) mark ≡ nat_lt k (left_by w to mark)
passed-left w to k mark fit low = by_cases (nat_le to mark) refl
  where
    reached : (e to mark : ℕ) → to ≤ mark → min e to ≤ mark
    reached e to mark h = omega (arith, h)

    before : (e to mark : ℕ) → mark < to → nat_le (min e to) mark ≡ nat_le e mark
    before e to mark h = grind (arith, nat_tests)

    by_cases : (b : Bool) → nat_le to mark ≡ b → nat_le (min (end_of w k) to) mark ≡ nat_lt k (cond b (2 ^ 62) (first_window w mark))
    by_cases true e = le-leb (min (end_of w k) to) mark (reached (end_of w k) to mark (leb-true to mark e)) ∙ sym (lt-ltb k (2 ^ 62) low)
    by_cases false e = before (end_of w k) to mark (leb-false to mark e) ∙ passed-below w k mark fit

-- the windows between
between-is : (first until k : ℕ) → (nat_lt k until && not (nat_lt k first)) ≡ is_between first until k
between-is first until k = grind (arith, nat_tests)

rows-due : (v : View) (marks : List ℕ) (q : Query) → IsQuery q → AllByRecursion (λ (g : Given). IsTime g.time) (given_to v q q.plan.left) → awaits v q ≡ true
    → rows_between q.plan (first_window q.plan.win (query_watermark v q)) (left_by q.plan.win q.to (mark_by marks q.plan)) (given_to v q q.plan.left) (given_to v q q.plan.right) ≡ rows_by v marks q
rows-due v marks q made times waits =
    ap (flat_map (rows v q))
    (filter-same (is_between first until) (λ k. is_passed (after v (msg.Advance marks)) q k && not (is_passed v q k)) (windows_of v q)
    (All-by (λ k. k < 2 ^ 62) (λ k. is_between first until k ≡ (is_passed (after v (msg.Advance marks)) q k && not (is_passed v q k)))
    (λ k low.
    sym (ap₂ (λ a b. a && not b) (passed-left w q.to k (mark_by marks q.plan) fit low)
    (passed-left w q.to k (query_watermark v q) fit low ∙ ap (λ b. nat_lt k (cond b (2 ^ 62) first)) (lt-leb q.to (query_watermark v q) (ltb-true (query_watermark v q) q.to waits)))
    ∙ between-is first until k))
    (windows_of v q) (low-windows w (given_to v q q.plan.left) fit times)))
  where
    w : WinSpec
    w = q.plan.win

    fit : fits q.plan.win ≡ true
    fit = (made.fits).0

    first : ℕ
    first = first_window q.plan.win (query_watermark v q)

    until : ℕ
    until = left_by q.plan.win q.to (mark_by marks q.plan)

-- nothing becomes due to a query whose end was reached
pub rows-over : (v : View) (marks : List ℕ) (q : Query) → awaits v q ≡ false → rows_by v marks q ≡ []
rows-over v marks q over =
    ap (flat_map (rows v q))
    (filter-none (λ k. is_passed (after v (msg.Advance marks)) q k && not (is_passed v q k)) (windows_of v q)
    (each (windows_of v q)))
  where
    and_none : (a b : Bool) → b ≡ true → (a && not b) ≡ false
    and_none true b e = ap not e
    and_none false b e = refl

    reached : (e to mark : ℕ) → to ≤ mark → min e to ≤ mark
    reached e to mark h = omega (arith, h)

    each : (ks : List ℕ) → AllByRecursion (λ k. (is_passed (after v (msg.Advance marks)) q k && not (is_passed v q k)) ≡ false) ks
    each [] = tt
    each (k ∷ ks) = (
      and_none (is_passed (after v (msg.Advance marks)) q k) (is_passed v q k)
          (le-leb (min (end_of q.plan.win k) q.to) (query_watermark v q) (reached (end_of q.plan.win k) q.to (query_watermark v q) (ltb-false (query_watermark v q) q.to over))),
      each ks,
    )

-- the text that becomes due to a query by what is held of it
pub due-held : (v : View) (marks : List ℕ) (q : Query) → IsQuery q → AllByRecursion (λ (g : Given). IsTime g.time) (given_to v q q.plan.left) → awaits v q ≡ true
    → due_text (query_watermark v q) (mark_by marks q.plan) (held_of v q) ≡ text_of_rows (rows_by v marks q)
due-held v marks q made times waits =
    let open_still = lt-leb q.to (query_watermark v q) (ltb-true (query_watermark v q) q.to waits) in
    let until = left_by q.plan.win q.to (mark_by marks q.plan) in
    let first = first_window q.plan.win (query_watermark v q) in
    let lefts = given_to v q q.plan.left in
    ap (λ b. cond b [] (text_of_rows (rows_between q.plan (cond b (2 ^ 62) first) until (held_of v q).lefts (held_of v q).rights))) open_still
    ∙ ap text_of_rows
    (held-rows q.plan (query_watermark v q) until lefts (given_on_right v q) (made.fits).0 ∙ rows-sides q.plan first until lefts (given_to v q q.plan.right) ∙ rows-due v marks q made times waits)
