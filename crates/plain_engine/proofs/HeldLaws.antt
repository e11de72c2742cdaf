-- What is held of a query, after each message.
use Rattle.std.proofs.Common.{◌≡◌, ℕ, ◌*◌, ◌/◌, ◌^◌, ◌≤◌, ◌<◌, min, nat_lt, nat_le, eqb, Bool, true, false, cond, true≢false, ◌&&◌, ◌||◌, List, [], ◌∷◌, ◌++◌, inl, inr, refl, sym, ap, ap₂, ◌∙◌, append-nil, arith}
use Rattle.std.specs.List.{filter, AllByRecursion}
use Rattle.std.proofs.lemmas.Bool.{leb-true, leb-false, ltb-true, le-leb, lt-ltb, lt-leb, eqb-true, eq-eqb, false_from_ne_true}
use Rattle.std.proofs.lemmas.List.Elements.{filter-append}
use Rattle.std.proofs.lemmas.Nat.{le-div}
use Rattle.std.proofs.Math.Nat.{div-mul-le_self}
use Rattle.as_base.specs.declared.item.Given.{Given}
use Rattle.as_base.specs.declared.item.Record.{Record}
use Rattle.as_base.specs.declared.message.Change.TheVariants.{Opened, Closed}
use Rattle.as_base.specs.declared.message.Msg.TheVariants as msg
use Rattle.as_base.specs.declared.query.Kind.{Kind}
use Rattle.as_base.specs.declared.query.Plan.{Plan}
use Rattle.as_base.specs.declared.stream.StreamId.{StreamId}
use Rattle.as_base.specs.declared.windows.WinSpec.{WinSpec}
use Rattle.as_base.specs.Canonical.{FitsStreams}
use Rattle.as_base.specs.Query.{holds_all}
use Rattle.as_base.specs.Stream.{place_of}
use Rattle.as_base.specs.Windows.{fits, first_window, last_window}
use Rattle.as_base.proofs.WindowLaws.{moves_on, first-le-last}
use Rattle.views.specs.Query.{Query, opened, is_live, closed}
use Rattle.views.specs.View.{View, watermark_of, is_mine, query_watermark}
use Rattle.views.specs.Passed.{given_to}
use Rattle.views.specs.Message.{after, RecordFollows, MarksFollow, ChangeFollows}
use Rattle.views.specs.IsView.{IsQuery}
use Rattle.views.proofs.ListLaws.{All-by, All-both, All-filter, All-map, All-passed, filter-within, cond_same}
use Rattle.views.proofs.NumberLaws.{ended as dead}
use Rattle.views.proofs.GivenLaws.{mine-parts, at_mark, lasts-live, given_to-record, given_to-ended, given_to-opened}
use Rattle.views.proofs.PassedLaws.{watermark-advance, left_least, right_least}
use Rattle.session.proofs.ClockLaws.{same_or_other}
use Rattle.plain_engine.specs.Held.{Held, awaits, is_needed, is_join, given_on_right, held_of}
use Rattle.plain_engine.specs.Walk.{put_by_time}
use Rattle.plain_engine.specs.Holding.{mark_by, newly_held, with_records, wants_on, wants_left, wants_right, with_given, ended, forgotten}
use Rattle.plain_engine.proofs.TimeLaws.{put-last}
use Rattle.plain_engine.proofs.WalkLaws.{div_mono, first-mono}

-- ---- which records a window wants

-- a window wants a record just where it is not before the first window that is left
start_test : (first time slide : ℕ) → 0 < slide → nat_le (first * slide) time ≡ nat_le first (time / slide)
start_test first time slide some = by_cases (nat_le (first * slide) time) refl
  where
    mul_mono : (a b c : ℕ) → a ≤ b → a * c ≤ b * c
    mul_mono a b c h = grind arith

    by_cases : (b : Bool) → nat_le (first * slide) time ≡ b → b ≡ nat_le first (time / slide)
    by_cases true e = sym (le-leb first (time / slide) (le-div first time slide some (leb-true (first * slide) time e)))
    by_cases false e =
        sym (false_from_ne_true (nat_le first (time / slide))
        (λ k. let low = leb-false (first * slide) time e in let m = mul_mono first (time / slide) slide (leb-true first (time / slide) k) in let d = div-mul-le_self time slide in absurd (omega (arith, low, m, d))))

filter-by : (p q : Given → Bool) → ((g : Given) → p g ≡ q g) → (gs : List Given) → filter p gs ≡ filter q gs
filter-by p q same [] = refl
filter-by p q same (g ∷ gs) = ap (λ b. cond b (g ∷ filter p gs) (filter p gs)) (same g) ∙ ap (λ l. cond (q g) (g ∷ l) l) (filter-by p q same gs)

pub needed-from : (w : WinSpec) (mark : ℕ) (gs : List Given) → fits w ≡ true → filter (λ (g : Given). nat_le (first_window w mark * w.slide) g.time) gs ≡ filter (is_needed w mark) gs
needed-from w mark gs fit = filter-by (λ (g : Given). nat_le (first_window w mark * w.slide) g.time) (is_needed w mark) (λ g. start_test (first_window w mark) g.time w.slide (moves_on w fit)) gs

-- what is held once the records are forgotten that no window wants
pub forgotten-is : (h : Held) (mark : ℕ) (lefts rights : List Given) → mark < h.to → lefts ≡ filter (is_needed h.plan.win mark) h.lefts → rights ≡ filter (is_needed h.plan.win mark) h.rights
    → with_records h lefts rights ≡ forgotten mark h
forgotten-is h mark lefts rights before e f =
    ap₂ (with_records h) e f
    ∙ ap (λ b. cond b h (with_records h (filter (is_needed h.plan.win mark) h.lefts) (filter (is_needed h.plan.win mark) h.rights))) (sym (lt-leb h.to mark before))

-- a window wants each record from the watermark on
needed-new : (w : WinSpec) (mark : ℕ) (g : Given) → fits w ≡ true → mark ≤ g.time → is_needed w mark g ≡ true
needed-new w mark g fit low =
    let a = first-le-last w mark fit in
    let b = div_mono mark g.time w.slide (moves_on w fit) low in
    le-leb (first_window w mark) (last_window w g.time) (omega (arith, a, b))

-- one that a later watermark leaves, an earlier one does
pub needed-earlier : (w : WinSpec) (mark later : ℕ) (g : Given) → fits w ≡ true → mark ≤ later → is_needed w later g ≡ true → is_needed w mark g ≡ true
needed-earlier w mark later g fit low h =
    let a = first-mono w mark later (moves_on w fit) low in
    let b = leb-true (first_window w later) (last_window w g.time) h in
    le-leb (first_window w mark) (last_window w g.time) (omega (arith, a, b))

-- ---- the streams of a join

-- a join reads two streams
two_streams : (q : Query) → IsQuery q → is_join q.plan.kind ≡ true → eqb (place_of q.plan.left) (place_of q.plan.right) ≡ false
two_streams q made joins = elim (same_or_other q.plan.left q.plan.right) [ inl same ↦ absurd (apart q.plan.kind joins (made.fits).1 same) | inr other ↦ other ]
  where
    apart : (kind : Kind) → is_join kind ≡ true → FitsStreams kind q.plan → q.plan.left ≡ q.plan.right → ⊥
    apart Kind.Join e fits = fits
    apart Kind.Select e fits = absurd (true≢false (sym e))
    apart (Kind.Sum c) e fits = absurd (true≢false (sym e))
    apart Kind.Count e fits = absurd (true≢false (sym e))

-- a record of a query's own is just one that it wants, on the left
left-wants : (v : View) (q : Query) (r : Record) → is_mine q q.plan.left r ≡ wants_left (held_of v q) r.given
left-wants v q r =
    ap (λ b. (b || eqb (place_of q.plan.right) (place_of q.plan.left)) && eqb (place_of r.given.stream) (place_of q.plan.left) && nat_le q.from r.given.time && nat_lt r.given.time q.to
    && holds_all (cond b q.plan.left_bounds q.plan.right_bounds) r.given) (eq-eqb (place_of q.plan.left) (place_of q.plan.left) refl)

-- and on the right, of a join
right-wants : (v : View) (q : Query) (r : Record) → IsQuery q → is_join q.plan.kind ≡ true → is_mine q q.plan.right r ≡ wants_on (held_of v q) q.plan.right q.plan.right_bounds r.given
right-wants v q r made joins =
    ap₂ (λ a b. (a || b) && eqb (place_of r.given.stream) (place_of q.plan.right) && nat_le q.from r.given.time && nat_lt r.given.time q.to
    && holds_all (cond a q.plan.left_bounds q.plan.right_bounds) r.given) (two_streams q made joins) (eq-eqb (place_of q.plan.right) (place_of q.plan.right) refl)

-- a record that is wanted on the left is none that is wanted on the right
one-side : (v : View) (q : Query) (g : Given) → IsQuery q → wants_left (held_of v q) g ≡ true → wants_right (held_of v q) g ≡ false
one-side v q g made left = go (is_join q.plan.kind) refl
  where
    s : ℕ
    s = place_of g.stream

    of_three : (a b c d : Bool) → (a && b && c && d) ≡ true → a ≡ true
    of_three true b c d h = refl
    of_three false b c d h = absurd (true≢false (sym h))

    none : (a b c d : Bool) → a ≡ false → (true && (a && b && c && d)) ≡ false
    none true b c d h = absurd (true≢false h)
    none false b c d h = refl

    go : (b : Bool) → is_join q.plan.kind ≡ b → (b && wants_on (held_of v q) q.plan.right q.plan.right_bounds g) ≡ false
    go false e = refl
    go true e =
        let at_left = eqb-true s (place_of q.plan.left) (of_three (eqb s (place_of q.plan.left)) (nat_le q.from g.time) (nat_lt g.time q.to) (holds_all q.plan.left_bounds g) left) in
        none (eqb s (place_of q.plan.right)) (nat_le q.from g.time) (nat_lt g.time q.to) (holds_all q.plan.right_bounds g)
        (ap (λ n. eqb n (place_of q.plan.right)) at_left ∙ two_streams q made e)

-- ---- a record

-- what is held of a stream that a query reads
abbrev held_on : View → Query → StreamId → List Given
held_on v q s = filter (is_needed q.plan.win (query_watermark v q)) (given_to v q s)

-- the records of a query are not after a new one of its stream
given-earlier : (v : View) (q : Query) (s : StreamId) (r : Record) → RecordFollows v r → is_mine q s r ≡ true → AllByRecursion (λ (g : Given). g.time ≤ r.given.time) (given_to v q s)
given-earlier v q s r f own =
    All-map (λ (g : Given). g.time ≤ r.given.time) (λ (r : Record). r.given) (filter (is_mine q s) v.records)
    (All-by (λ (t : Record). (place_of t.given.stream ≡ place_of r.given.stream → t.given.time ≤ r.given.time) × (is_mine q s t ≡ true)) (λ (t : Record). t.given.time ≤ r.given.time)
    (λ t h. h.0 (at_stream t h.1 ∙ sym (at_stream r own)))
    (filter (is_mine q s) v.records)
    (All-both (λ (t : Record). place_of t.given.stream ≡ place_of r.given.stream → t.given.time ≤ r.given.time) (λ t. is_mine q s t ≡ true) (filter (is_mine q s) v.records)
    (All-filter (λ (t : Record). place_of t.given.stream ≡ place_of r.given.stream → t.given.time ≤ r.given.time) (is_mine q s) v.records f.stream)
    (All-passed (is_mine q s) v.records)))
  where
    at_stream : (t : Record) → is_mine q s t ≡ true → place_of t.given.stream ≡ place_of s
    at_stream t h = eqb-true (place_of t.given.stream) (place_of s) (mine-parts q s t h).0

-- a record goes to what is held of its stream
side-record : (v : View) (q : Query) (s : StreamId) (r : Record) (b : Bool) → IsQuery q → RecordFollows v r → query_watermark v q ≤ watermark_of v s → is_mine q s r ≡ b
    → cond b (put_by_time r.given (held_on v q s)) (held_on v q s) ≡ held_on (after v (msg.Rec r)) q s
side-record v q s r b made f least own = go b own ∙ sym (grown b own)
  where
    needed : Given → Bool
    needed = is_needed q.plan.win (query_watermark v q)

    grown : (b : Bool) → is_mine q s r ≡ b → held_on (after v (msg.Rec r)) q s ≡ held_on v q s ++ filter needed (cond b (r.given ∷ []) [])
    grown b e =
        ap (filter needed) (given_to-record v r q s ∙ ap (λ b. given_to v q s ++ cond b (r.given ∷ []) []) e) ∙ filter-append needed (given_to v q s) (cond b (r.given ∷ []) [])

    not_above : (a b c : ℕ) → a ≤ b → b ≤ c → a ≤ c
    not_above a b c h k = omega (arith, h, k)

    go : (b : Bool) → is_mine q s r ≡ b → cond b (put_by_time r.given (held_on v q s)) (held_on v q s) ≡ held_on v q s ++ filter needed (cond b (r.given ∷ []) [])
    go true e =
        let low = not_above (query_watermark v q) (watermark_of v s) r.given.time least (at_mark v r s f (mine-parts q s r e).0) in
        put-last r.given (held_on v q s) (All-filter (λ (g : Given). g.time ≤ r.given.time) needed (given_to v q s) (given-earlier v q s r f e))
        ∙ ap (λ b. held_on v q s ++ cond b (r.given ∷ []) []) (sym (needed-new q.plan.win (query_watermark v q) r.given (made.fits).0 low))
    go false e = sym (append-nil (held_on v q s))

-- what is held of each stream where a record is wanted on one side at most
given-sides : (g : Given) (h : Held) → (wants_left h g ≡ true → wants_right h g ≡ false)
    → with_given g h ≡ with_records h (cond (wants_left h g) (put_by_time g h.lefts) h.lefts) (cond (wants_right h g) (put_by_time g h.rights) h.rights)
given-sides g h one = go (wants_left h g) (wants_right h g) one
  where
    go : (a b : Bool) → (a ≡ true → b ≡ false) → cond a (with_records h (put_by_time g h.lefts) h.rights) (cond b (with_records h h.lefts (put_by_time g h.rights)) h)
        ≡ with_records h (cond a (put_by_time g h.lefts) h.lefts) (cond b (put_by_time g h.rights) h.rights)
    go true true e = absurd (true≢false (e refl))
    go true false e = refl
    go false true e = refl
    go false false e = refl

pub held-record : (v : View) (q : Query) (r : Record) → IsQuery q → RecordFollows v r → with_given r.given (held_of v q) ≡ held_of (after v (msg.Rec r)) q
held-record v q r made f =
    given-sides r.given (held_of v q) (one-side v q r.given made)
    ∙ ap₂ (with_records (held_of v q)) (side-record v q q.plan.left r (wants_left (held_of v q) r.given) made f (left_least v q) (left-wants v q r)) (right (is_join q.plan.kind) refl)
  where
    needed : Given → Bool
    needed = is_needed q.plan.win (query_watermark v q)

    right : (b : Bool) → is_join q.plan.kind ≡ b
        → cond (b && wants_on (held_of v q) q.plan.right q.plan.right_bounds r.given) (put_by_time r.given (filter needed (cond b (given_to v q q.plan.right) [])))
        (filter needed (cond b (given_to v q q.plan.right) []))
        ≡ filter needed (cond b (given_to (after v (msg.Rec r)) q q.plan.right) [])
    right true e =
        side-record v q q.plan.right r (wants_on (held_of v q) q.plan.right q.plan.right_bounds r.given) made f (right_least v q) (right-wants v q r made e)
    right false e = refl

-- ---- watermarks

pub held-advance : (v : View) (marks : List ℕ) (q : Query) → IsQuery q → MarksFollow v marks → awaits (after v (msg.Advance marks)) q ≡ true → forgotten (mark_by marks q.plan) (held_of v q) ≡ held_of (after v (msg.Advance marks)) q
held-advance v marks q made f still =
    sym (forgotten-is (held_of v q) (mark_by marks q.plan) (filter later (held_of v q).lefts) (filter later (held_of v q).rights) (ltb-true (mark_by marks q.plan) q.to still) refl refl)
    ∙ ap₂ (with_records (held_of v q)) (kept (given_to v q q.plan.left)) (kept (given_on_right v q))
  where
    later : Given → Bool
    later = is_needed q.plan.win (mark_by marks q.plan)

    kept : (gs : List Given) → filter later (filter (is_needed q.plan.win (query_watermark v q)) gs) ≡ filter later gs
    kept gs =
        filter-within later (is_needed q.plan.win (query_watermark v q)) gs
        (λ g h. needed-earlier q.plan.win (query_watermark v q) (mark_by marks q.plan) g (made.fits).0 (watermark-advance v marks q f) h)

pub awaits-earlier : (v : View) (marks : List ℕ) (q : Query) → MarksFollow v marks → awaits (after v (msg.Advance marks)) q ≡ true → awaits v q ≡ true
awaits-earlier v marks q f h =
    let a = ltb-true (mark_by marks q.plan) q.to h in
    let b = watermark-advance v marks q f in
    lt-ltb (query_watermark v q) q.to (omega (arith, a, b))

-- ---- a query that is opened or closed

pub held-opened : (v : View) (n slot at : ℕ) (plan : Plan) → ChangeFollows v at → held_of (after v (msg.Change (Opened n slot at plan))) (opened n plan at) ≡ newly_held n plan at
held-opened v n slot at plan f =
    ap₂ (λ lefts rights. with_records (newly_held n plan at) (filter needed lefts) (filter needed rights)) (given_to-opened v n slot at plan plan.left f)
    (ap (λ l. cond (is_join plan.kind) l []) (given_to-opened v n slot at plan plan.right f) ∙ cond_same (is_join plan.kind) [])
  where
    needed : Given → Bool
    needed = is_needed plan.win (query_watermark v (opened n plan at))

pub held-closed : (v : View) (n slot at : ℕ) (q : Query) → IsQuery q → (eqb q.n n ≡ true → q.live ≡ true) → ChangeFollows v at → AllByRecursion (λ (r : Record). r.given.time < 2 ^ 62) v.records
    → ended n at (held_of v q) ≡ held_of (after v (msg.Change (Closed n slot at))) (closed n at q)
held-closed v n slot at q made lives f timed = go (eqb q.n n) refl q.live refl
  where
    needed : Given → Bool
    needed = is_needed q.plan.win (query_watermark v q)

    go : (b : Bool) → eqb q.n n ≡ b → (l : Bool) → q.live ≡ l
        → cond b (record { n = q.n; plan = q.plan; from = q.from; to = min q.to at; lefts = (held_of v q).lefts; rights = (held_of v q).rights }) (held_of v q)
        ≡ held_of (after v (msg.Change (Closed n slot at))) (cond (b && l) (dead at q) q)
    go true e true k =
        let lasts = made.lasts k in
        let most = f.most in
        let ends : min q.to at ≡ at = omega (arith, lasts, most) in
        ap (λ t. record { n = q.n; plan = q.plan; from = q.from; to = t; lefts = (held_of v q).lefts; rights = (held_of v q).rights }) ends
        ∙ ap₂ (λ lefts rights. record { n = q.n; plan = q.plan; from = q.from; to = at; lefts = filter needed lefts; rights = filter needed (cond (is_join q.plan.kind) rights []) })
        (sym (given_to-ended v at q q.plan.left lasts timed f.records)) (sym (given_to-ended v at q q.plan.right lasts timed f.records))
    go true e false k = absurd (true≢false (sym (lives e) ∙ k))
    go false e l k = refl

pub awaits-closed : (v : View) (n at : ℕ) (q : Query) → IsQuery q → at ≤ 2 ^ 62 → awaits v (closed n at q) ≡ true → awaits v q ≡ true
awaits-closed v n at q made most = go (is_live n q) refl
  where
    go : (b : Bool) → is_live n q ≡ b → awaits v (cond b (dead at q) q) ≡ true → awaits v q ≡ true
    go true e h = let lasts = lasts-live n q made e in let low = ltb-true (query_watermark v q) at h in lt-ltb (query_watermark v q) q.to (omega (arith, lasts, low, most))
    go false e h = h
