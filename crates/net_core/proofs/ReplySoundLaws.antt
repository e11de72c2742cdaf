-- The replies of parts can be merged: no window ends too late, and no sum or count of a group grows too large.
use Rattle.std.proofs.Common.{◌≡◌, ◌⊎◌, inl, inr, ℕ, ℤ, pos, negsuc, ◌<ℤ◌, ◌+◌, ◌*◌, ◌≤◌, ◌<◌, ◌^◌, ◌&&◌, int_lt, int_le, nat_le, nat_lt, eqb, Bool, cond, true, false, true≢false, zero, suc, List, [], ◌∷◌, ◌++◌, length, refl, sym, ap, subst, ◌∙◌, append-nil, length-append, arith}
use Rattle.std.specs.List.{filter, flat_map, range_with_len, AllByRecursion}
use Rattle.std.specs.Ordering.{int_eq}
use Rattle.std.proofs.lemmas.Bool.{and_parts, and_from, eq-eqb, leb-true, eqb-true}
use Rattle.std.proofs.lemmas.Grind.{flat_map-append}
use Rattle.std.proofs.lemmas.Int.{ints}
use Rattle.std.proofs.lemmas.List.{length_push, take_all}
use Rattle.as_words.specs.Number.{IsSigned}
use Rattle.as_base.specs.declared.config.Config.{Config}
use Rattle.as_base.specs.declared.fragment.Cell.{Cell}
use Rattle.as_base.specs.declared.fragment.Couple.{Couple}
use Rattle.as_base.specs.declared.fragment.Fragment.{Fragment}
use Rattle.as_base.specs.declared.item.Given.{Given}
use Rattle.as_base.specs.declared.item.Item.{Item}
use Rattle.as_base.specs.declared.item.Item.TheVariants.{Rec, Mark, End, Create, Delete, Bad}
use Rattle.as_base.specs.declared.item.Record.{Record}
use Rattle.as_base.specs.declared.query.Col.{Col}
use Rattle.as_base.specs.declared.query.Col.TheVariants.{V1, V2, V3, V4}
use Rattle.as_base.specs.declared.query.Group.{Group}
use Rattle.as_base.specs.declared.query.Kind.{Kind}
use Rattle.as_base.specs.declared.query.Kind.TheVariants.{Select, Sum, Count, Join}
use Rattle.as_base.specs.declared.windows.WinSpec.{WinSpec}
use Rattle.as_base.specs.declared.query.Bounds.{Bounds}
use Rattle.as_base.specs.Canonical.{FitsBounds, FitsPlan}
use Rattle.as_base.specs.Query.{at, is_within, holds_all}
use Rattle.as_base.specs.Range.{InRange}
use Rattle.as_base.specs.Stream.{place_of}
use Rattle.as_base.specs.Windows.{fits, start_of, end_of, in_window, windows_at}
use Rattle.group_table.specs.Cells.{add_in, sums, count_at, IsSound}
use Rattle.group_table.proofs.CellLaws.{add_free, merge}
use Rattle.group_table.proofs.SumLaws.{count-sums}
use Rattle.group_table.proofs.UpLaws.{sound-sums}
use Rattle.shared_agg.specs.Shares.{cell_of, share_of}
use Rattle.views.specs.Groups.{value_at, group_of}
use Rattle.views.specs.IsView.{IsQuery, IsView}
use Rattle.views.specs.Passed.{windows_with, windows_of, given_to}
use Rattle.views.specs.Query.{Query}
use Rattle.views.specs.View.{View, is_mine}
use Rattle.views.proofs.GivenLaws.{All-given_to}
use Rattle.views.proofs.ListLaws.{All-passed, All-by, All-every, All-filter}
use Rattle.views.proofs.NumberLaws.{IsNumbered, first-number, rest-numbered, of_number, of_number-none}
use Rattle.views.proofs.WindowLaws.{All-windows_at}
use Rattle.contents.specs.Cells.{share, is_in_window, window_sums}
use Rattle.contents.specs.Free.{member, Once, Same}
use Rattle.contents.specs.Past.{Past, view_of}
use Rattle.contents.specs.Reply.{passes, passing, of_records, of_cells, of_couples, fragments_as}
use Rattle.contents.proofs.CellLaws.{mine-parts, once-filter}
use Rattle.contents.proofs.FreeLaws.{then, every_same}
use Rattle.result_router.specs.Rising.{with_key, start_of as start_in}
use Rattle.result_router.specs.Rows.{cells_in, cells_of}
use Rattle.result_router.specs.Sound.{IsSoundFragment, AreSound}
use Rattle.session.specs.Book.{accepts}
use Rattle.session.specs.View.{record_of, records, view}
use Rattle.session.proofs.BookLaws.{records-push}
use Rattle.session.proofs.FollowLaws.{view-is}
use Rattle.session.proofs.HistoryLaws.{by_push}
use Rattle.net_core.specs.Merged.{replied_by}
use Rattle.net_core.proofs.PartedLaws.{flat_map-none, flat_map-every, All-flat_map, once-range, those, those-parted}
use Rattle.net_core.proofs.PartedRowLaws.{cells-start, cells-in, past_at, once-passing, begins-rise, cells_made}
use Rattle.net_core.proofs.ReplyPieceLaws.{replied, replied-to, part_in, all-replied}
use Rattle.net_core.proofs.WindowedLaws.{All-rising, with-window, with-start}

-- ---- sums

-- a number between signed 64-bit numbers is one
between-signed : (low z high : ℤ) → IsSigned low → IsSigned high → is_within low z high ≡ true → IsSigned z
between-signed low z high a b h =
    let l = and_parts (int_lt (negsuc (2 ^ 63)) low) (int_lt low (pos (2 ^ 63))) a in
    let u = and_parts (int_lt (negsuc (2 ^ 63)) high) (int_lt high (pos (2 ^ 63))) b in
    let w = and_parts (int_le low z) (int_le z high) h in
    and_from (int_lt (negsuc (2 ^ 63)) z) (int_lt z (pos (2 ^ 63))) (above (negsuc (2 ^ 63)) low z l.0 w.0) (below z high (pos (2 ^ 63)) w.1 u.1)
  where
    above : (m x y : ℤ) → int_lt m x ≡ true → int_le x y ≡ true → int_lt m y ≡ true
    above m x y e f = grind (arith, ints)

    below : (x y m : ℤ) → int_le x y ≡ true → int_lt y m ≡ true → int_lt x m ≡ true
    below x y m e f = grind (arith, ints)

signed-at : (zs : List ℤ) (i : ℕ) → AllByRecursion IsSigned zs → IsSigned (at zs i)
signed-at [] i h = refl
signed-at (z ∷ zs) zero h = h.0
signed-at (z ∷ zs) (suc i) h = signed-at zs i h.1

-- the values of a record within bounds that are signed 64-bit numbers are such numbers
signed-value : (b : Bounds) (c : Col) (g : Given) → FitsBounds b → holds_all b g ≡ true → IsSigned (value_at c g)
signed-value b c g fit h = go c
  where
    within : ℕ → ℕ → Bool
    within i j = is_within (at b.lo j) (at g.v i) (at b.hi j)

    parts : (k a b c d : Bool) → ((k && (a && b)) && (c && d)) ≡ true → (a ≡ true) × (b ≡ true) × (c ≡ true) × (d ≡ true)
    parts true true true true true e = (refl, refl, refl, refl)
    parts false a b c d e = absurd (true≢false (sym e))
    parts true false b c d e = absurd (true≢false (sym e))
    parts true true false c d e = absurd (true≢false (sym e))
    parts true true true false d e = absurd (true≢false (sym e))
    parts true true true true false e = absurd (true≢false (sym e))

    place : (i j : ℕ) → is_within (at b.lo j) (at g.v i) (at b.hi j) ≡ true → IsSigned (at g.v i)
    place i j w = between-signed (at b.lo j) (at g.v i) (at b.hi j) (signed-at b.lo j fit.0.1) (signed-at b.hi j fit.1.1) w

    go : (c : Col) → IsSigned (value_at c g)
    go V1 = place 0 1 (parts (is_within (at b.lo 0) g.key (at b.hi 0)) (within 0 1) (within 1 2) (within 2 3) (within 3 4) h).0
    go V2 = place 1 2 (parts (is_within (at b.lo 0) g.key (at b.hi 0)) (within 0 1) (within 1 2) (within 2 3) (within 3 4) h).1
    go V3 = place 2 3 (parts (is_within (at b.lo 0) g.key (at b.hi 0)) (within 0 1) (within 1 2) (within 2 3) (within 3 4) h).2
    go V4 = place 3 4 (parts (is_within (at b.lo 0) g.key (at b.hi 0)) (within 0 1) (within 1 2) (within 2 3) (within 3 4) h).3

lower : (z y : ℤ) → int_lt z y ≡ true → z <ℤ y
lower z y h = grind (arith, ints)

sound-one : (group z : ℤ) → IsSigned z → IsSound (cell_of group z)
sound-one group z h =
    let both = and_parts (int_lt (negsuc (2 ^ 63)) z) (int_lt z (pos (2 ^ 63))) h in
    let a = lower (negsuc (2 ^ 63)) z both.0 in
    let b = lower z (pos (2 ^ 63)) both.1 in
    record { above = omega (arith, ints, a); below = omega (arith, ints, b) }

sound-share : (b : Bounds) (by : Group) (kind : Kind) (g : Given) → FitsBounds b → holds_all b g ≡ true → AllByRecursion IsSound (share_of by kind g)
sound-share b by (Sum c) g fit h = (sound-one (group_of by g) (value_at c g) (signed-value b c g fit h), tt)
sound-share b by Count g fit h = (sound-one (group_of by g) (pos 0) refl, tt)
sound-share b by Select g fit h = tt
sound-share b by Join g fit h = tt

-- the records of a query are within its bounds, and so are the sums of its windows
sound-window : (q : Query) (k : ℕ) (rs : List Record) → FitsPlan q.plan → AllByRecursion IsSound (window_sums q k rs)
sound-window q k rs fit =
    let inside : List Record = filter (is_in_window q.plan.left q k) rs in
    let cs : List Cell = flat_map (share q.plan) inside in
    subst (λ l. AllByRecursion IsSound (sums l)) (take_all (length cs) cs (omega arith))
    (sound-sums cs (length cs)
    (All-flat_map IsSound (share q.plan) inside
    (All-by (λ r. is_in_window q.plan.left q k r ≡ true) (λ r. AllByRecursion IsSound (share q.plan r))
    (λ r e. let own = mine-parts q q.plan.left r (and_parts (is_mine q q.plan.left r) (in_window q.plan.win k r.given.time) e).0 in
    sound-share q.plan.left_bounds q.plan.group q.plan.kind r.given (fit.2)
    (ap (λ b. holds_all (cond b q.plan.left_bounds q.plan.right_bounds) r.given) (sym (eq-eqb (place_of q.plan.left) (place_of q.plan.left) refl)) ∙ own.within))
    inside (All-passed (is_in_window q.plan.left q k) rs))))

-- ---- windows

short-window : (w : WinSpec) → fits w ≡ true → w.size ≤ 4294967296
short-window w h =
    let a = and_parts (nat_le 1 w.slide && nat_le w.slide w.size && nat_le w.size 4294967296) (nat_le w.size (64 * w.slide)) h in
    let b = and_parts (nat_le 1 w.slide && nat_le w.slide w.size) (nat_le w.size 4294967296) a.0 in
    leb-true w.size 4294967296 b.1

early-windows : (w : WinSpec) (gs : List Given) → fits w ≡ true → AllByRecursion (λ (g : Given). g.time < 2 ^ 62) gs → AllByRecursion (λ k. start_of w k < 2 ^ 62) (windows_with w gs)
early-windows w gs fit h =
    All-rising (λ k. start_of w k < 2 ^ 62) (flat_map (λ (g : Given). windows_at w g.time) gs)
    (All-flat_map (λ k. start_of w k < 2 ^ 62) (λ (g : Given). windows_at w g.time) gs
    (All-by (λ (g : Given). g.time < 2 ^ 62) (λ (g : Given). AllByRecursion (λ k. start_of w k < 2 ^ 62) (windows_at w g.time))
    (λ g low. All-by (λ k. in_window w k g.time ≡ true) (λ k. start_of w k < 2 ^ 62)
    (λ k inside. let le = leb-true (start_of w k) g.time (and_parts (nat_le (start_of w k) g.time) (nat_lt g.time (end_of w k)) inside).0 in omega (arith, le, low))
    (windows_at w g.time) (All-windows_at w g.time fit))
    gs h))

-- ---- fragments

sound-records : (q : Query) (rs : List Record) → fits q.plan.win ≡ true → AllByRecursion IsSoundFragment (of_records q rs)
sound-records q [] fit = tt
sound-records q (r ∷ rs) fit = (record { ends = let a = short-window q.plan.win fit in omega (arith, a); cells = tt }, tt)

sound-cells : (q : Query) (k : ℕ) (cs : List Cell) → fits q.plan.win ≡ true → start_of q.plan.win k < 2 ^ 62 → AllByRecursion IsSound cs → AllByRecursion IsSoundFragment (of_cells q k cs)
sound-cells q k [] fit low h = tt
sound-cells q k (c ∷ cs) fit low h = (record { ends = let a = short-window q.plan.win fit in omega (arith, a, low); cells = h }, tt)

sound-couples : (q : Query) (k : ℕ) (cs : List Couple) → fits q.plan.win ≡ true → start_of q.plan.win k < 2 ^ 62 → AllByRecursion IsSoundFragment (of_couples q k cs)
sound-couples q k [] fit low = tt
sound-couples q k (c ∷ cs) fit low = (record { ends = let a = short-window q.plan.win fit in omega (arith, a, low); cells = tt }, tt)

-- what a past has for a query
sound-fragments : (kind : Kind) (p : Past) (wm : List ℕ) (q : Query) → FitsPlan q.plan → AllByRecursion (λ (r : Record). r.given.time < 2 ^ 62) p.records → AllByRecursion IsSoundFragment (fragments_as kind p wm q)
sound-fragments kind p wm q fitting timed = go kind
  where
    fit : fits q.plan.win ≡ true
    fit = fitting.0

    early : AllByRecursion (λ k. start_of q.plan.win k < 2 ^ 62) (passing p wm q)
    early = All-filter (λ k. start_of q.plan.win k < 2 ^ 62) (passes p wm q) (windows_of (view_of p) q)
        (early-windows q.plan.win (given_to (view_of p) q q.plan.left) fit (All-given_to (λ (g : Given). g.time < 2 ^ 62) (view_of p) q q.plan.left timed))

    windows : (make : ℕ → List Fragment) → ((k : ℕ) → start_of q.plan.win k < 2 ^ 62 → AllByRecursion IsSoundFragment (make k)) → AllByRecursion IsSoundFragment (flat_map make (passing p wm q))
    windows make each = All-flat_map IsSoundFragment make (passing p wm q) (All-by (λ k. start_of q.plan.win k < 2 ^ 62) (λ k. AllByRecursion IsSoundFragment (make k)) each (passing p wm q) early)

    go : (kind : Kind) → AllByRecursion IsSoundFragment (fragments_as kind p wm q)
    go Select = sound-records q _ fit
    go (Sum c) = windows _ (λ k low. sound-cells q k (window_sums q k p.records) fit low (sound-window q k p.records fitting))
    go Count = windows _ (λ k low. sound-cells q k (window_sums q k p.records) fit low (sound-window q k p.records fitting))
    go Join = windows _ (λ k low. sound-couples q k _ fit low)

-- ---- counts

count-append : (g : ℤ) (cs ds : List Cell) → count_at (cs ++ ds) g ≡ count_at cs g + count_at ds g
count-append g [] ds = omega arith
count-append g (c ∷ cs) ds = let rest = count-append g cs ds in omega (arith, rest)

-- each element gives one record of the group at most
count-few : {X : Type 0} (g : ℤ) (f : X → List Cell) (xs : List X) → ((x : X) → count_at (f x) g ≤ 1) → count_at (flat_map f xs) g ≤ length xs
count-few g f [] one = omega arith
count-few g f (x ∷ xs) one = let a = count-append g (f x) (flat_map f xs) in let b = one x in let rest = count-few g f xs one in omega (arith, a, b, rest)

cells-append : (fs gs : List Fragment) → cells_of (fs ++ gs) ≡ cells_of fs ++ cells_of gs
cells-append fs gs = flat_map-append (λ (f : Fragment). cells_in f.body) fs gs

count-some : {X : Type 0} (g : ℤ) (p : X → Bool) (f : X → List Fragment) (xs : List X) → count_at (cells_of (flat_map (λ x. cond (p x) (f x) []) xs)) g ≤ count_at (flat_map (λ x. cells_of (f x)) xs) g
count-some g p f [] = omega arith
count-some g p f (x ∷ xs) = go (p x) (count-some g p f xs)
  where
    both : count_at (cells_of (f x) ++ flat_map (λ y. cells_of (f y)) xs) g ≡ count_at (cells_of (f x)) g + count_at (flat_map (λ y. cells_of (f y)) xs) g
    both = count-append g (cells_of (f x)) (flat_map (λ y. cells_of (f y)) xs)

    go : (b : Bool) → count_at (cells_of (flat_map (λ y. cond (p y) (f y) []) xs)) g ≤ count_at (flat_map (λ y. cells_of (f y)) xs) g
        → count_at (cells_of (cond b (f x) [] ++ flat_map (λ y. cond (p y) (f y) []) xs)) g ≤ count_at (cells_of (f x) ++ flat_map (λ y. cells_of (f y)) xs) g
    go true rest =
        let a = ap (λ l. count_at l g) (cells-append (f x) (flat_map (λ y. cond (p y) (f y) []) xs)) ∙ count-append g (cells_of (f x)) (cells_of (flat_map (λ y. cond (p y) (f y) []) xs)) in
        omega (arith, a, both, rest)
    go false rest = omega (arith, both, rest)

share-one : (by : Group) (kind : Kind) (r : Given) (g : ℤ) → count_at (share_of by kind r) g ≤ 1
share-one by (Sum c) r g = go (int_eq (group_of by r) g)
  where
    go : (b : Bool) → cond b 1 0 + 0 ≤ 1
    go true = omega arith
    go false = omega arith
share-one by Count r g = go (int_eq (group_of by r) g)
  where
    go : (b : Bool) → cond b 1 0 + 0 ≤ 1
    go true = omega arith
    go false = omega arith
share-one by Select r g = omega arith
share-one by Join r g = omega arith

-- the cells of a window, of some parts, count no more records than there are
sums-few : (q : Query) (k : ℕ) (part : Record → ℕ) (ns : List ℕ) (rs : List Record) (g : ℤ) → Once ns → count_at (flat_map (λ n. window_sums q k (those part rs n)) ns) g ≤ length rs
sums-few q k part ns rs g once =
    let each : ℕ → List Cell = λ n. flat_map (share q.plan) (filter (is_in_window q.plan.left q k) (those part rs n)) in
    let some : Record → List Cell = λ r. cond (is_in_window q.plan.left q k r && member (part r) ns) (share q.plan r) [] in
    let same : Same add_in (flat_map (λ n. window_sums q k (those part rs n)) ns) (flat_map some rs) =
    then (every_same (λ n. window_sums q k (those part rs n)) each ns (λ n. record { same = λ b. merge b (each n) }))
    (those-parted add_in add_free (share q.plan) (is_in_window q.plan.left q k) part ns rs once) in
    let a = sym (count-sums g (flat_map (λ n. window_sums q k (those part rs n)) ns)) ∙ ap (λ l. count_at l g) (same.same []) ∙ count-sums g (flat_map some rs) in
    let b = count-few g some rs (λ r. at_most r (is_in_window q.plan.left q k r && member (part r) ns)) in
    omega (arith, a, b)
  where
    at_most : (r : Record) (b : Bool) → count_at (cond b (share q.plan r) []) g ≤ 1
    at_most r true = share-one q.plan.group q.plan.kind r.given g
    at_most r false = omega arith

-- fragments without cells count nothing
cells-none : (g : ℤ) (p : Fragment → Bool) (fs : List Fragment) → AllByRecursion (λ (f : Fragment). cells_in f.body ≡ []) fs → count_at (cells_of (filter p fs)) g ≡ 0
cells-none g p fs h = ap (λ l. count_at l g) (flat_map-none (λ (f : Fragment). cells_in f.body) (filter p fs) (All-filter (λ (f : Fragment). cells_in f.body ≡ []) p fs h))

no-cells-records : (q : Query) (rs : List Record) → AllByRecursion (λ (f : Fragment). cells_in f.body ≡ []) (of_records q rs)
no-cells-records q [] = tt
no-cells-records q (r ∷ rs) = (refl, tt)

no-cells-couples : (q : Query) (k : ℕ) (cs : List Couple) → AllByRecursion (λ (f : Fragment). cells_in f.body ≡ []) (of_couples q k cs)
no-cells-couples q k [] = tt
no-cells-couples q k (c ∷ cs) = (refl, tt)

module _ (v : View) (wm : List ℕ) (part : Record → ℕ) (ns : List ℕ) (once : Once ns) where
  -- what the parts have for a query counts no more of a group, in a window, than there are records
  query-few : (q : Query) → IsQuery q → (s : ℕ) (g : ℤ) → count_at (cells_of (with_key start_in s (flat_map (λ n. fragments_as q.plan.kind (past_at v wm part n) wm q) ns))) g ≤ length v.records
  query-few q made s g = go q.plan.kind
    where
      in_cells : count_at (cells_of (with_key start_in s (flat_map (λ n. flat_map (cells_made v wm part q made n) (passing (past_at v wm part n) wm q)) ns))) g ≤ length v.records
      in_cells = elim (with-start (start_of q.plan.win) (begins-rise v wm part q made) (cells_made v wm part q made) (λ n k. cells-start q k (window_sums q k (those part v.records n))) (λ n. passing (past_at v wm part n) wm q) s
          (flat_map (λ n. flat_map (cells_made v wm part q made n) (passing (past_at v wm part n) wm q)) ns) starts) [
            | inl none ↦ (let a = ap (λ l. count_at (cells_of l) g) none in omega (arith, a))
            | inr some ↦ at-start some.0 some.1
          ]
        where
          starts : AllByRecursion (λ (f : Fragment). (k : ℕ) × (f.start ≡ start_of q.plan.win k)) (flat_map (λ n. flat_map (cells_made v wm part q made n) (passing (past_at v wm part n) wm q)) ns)
          starts = All-flat_map (λ (f : Fragment). (k : ℕ) × (f.start ≡ start_of q.plan.win k)) (λ n. flat_map (cells_made v wm part q made n) (passing (past_at v wm part n) wm q)) ns
              (All-every (λ n. AllByRecursion (λ (f : Fragment). (k : ℕ) × (f.start ≡ start_of q.plan.win k)) (flat_map (cells_made v wm part q made n) (passing (past_at v wm part n) wm q)))
              (λ n. All-flat_map (λ (f : Fragment). (k : ℕ) × (f.start ≡ start_of q.plan.win k)) (cells_made v wm part q made n) (passing (past_at v wm part n) wm q)
              (All-every (λ k. AllByRecursion (λ (f : Fragment). (j : ℕ) × (f.start ≡ start_of q.plan.win j)) (cells_made v wm part q made n k))
              (λ k. All-by (λ (f : Fragment). f.start ≡ start_of q.plan.win k) (λ (f : Fragment). (j : ℕ) × (f.start ≡ start_of q.plan.win j)) (λ f e. (k, e)) (cells_made v wm part q made n k) (cells-start q k (window_sums q k (those part v.records n))))
              (passing (past_at v wm part n) wm q))) ns)

          at-start : (k : ℕ) → s ≡ start_of q.plan.win k → count_at (cells_of (with_key start_in s (flat_map (λ n. flat_map (cells_made v wm part q made n) (passing (past_at v wm part n) wm q)) ns))) g ≤ length v.records
          at-start k e =
              let has : ℕ → Bool = λ n. member k (passing (past_at v wm part n) wm q) in
              let made_of : ℕ → List Fragment = λ n. cells_made v wm part q made n k in
              let a = ap (λ t. count_at (cells_of (with_key start_in t (flat_map (λ n. flat_map (cells_made v wm part q made n) (passing (past_at v wm part n) wm q)) ns))) g) e
              ∙ ap (λ l. count_at (cells_of l) g) (with-window (start_of q.plan.win) (begins-rise v wm part q made) (cells_made v wm part q made) (λ n j. cells-start q j (window_sums q j (those part v.records n))) (λ n. passing (past_at v wm part n) wm q) k ns (once-passing v wm part q made)) in
              let b = count-some g has made_of ns in
              let d = ap (λ l. count_at l g) (flat_map-every (λ n. cells_of (made_of n)) (λ n. window_sums q k (those part v.records n)) ns (λ n. cells-in q k (window_sums q k (those part v.records n)))) in
              let f = sums-few q k part ns v.records g once in
              omega (arith, a, b, d, f)

      none : (fs : List Fragment) → AllByRecursion (λ (f : Fragment). cells_in f.body ≡ []) fs → count_at (cells_of (with_key start_in s fs)) g ≤ length v.records
      none fs h = let a = cells-none g (λ f. eqb (start_in f) s) fs h in omega (arith, a)

      go : (kind : Kind) → count_at (cells_of (with_key start_in s (flat_map (λ n. fragments_as kind (past_at v wm part n) wm q) ns))) g ≤ length v.records
      go (Sum c) = in_cells
      go Count = in_cells
      go Select = none _ (All-flat_map (λ (f : Fragment). cells_in f.body ≡ []) (λ n. fragments_as Select (past_at v wm part n) wm q) ns (All-every (λ n. AllByRecursion (λ (f : Fragment). cells_in f.body ≡ []) (fragments_as Select (past_at v wm part n) wm q)) (λ n. no-cells-records q _) ns))
      go Join = none _ (All-flat_map (λ (f : Fragment). cells_in f.body ≡ []) (λ n. fragments_as Join (past_at v wm part n) wm q) ns (All-every (λ n. AllByRecursion (λ (f : Fragment). cells_in f.body ≡ []) (fragments_as Join (past_at v wm part n) wm q))
          (λ n. All-flat_map (λ (f : Fragment). cells_in f.body ≡ []) _ (passing (past_at v wm part n) wm q) (All-every _ (λ k. no-cells-couples q k _) (passing (past_at v wm part n) wm q))) ns))

-- a number is that of one query, or of none
find-number : {X : Type 0} (n k : ℕ) (qs : List Query) → IsNumbered k qs → AllByRecursion IsQuery qs
    → ((f : Query → List X) → of_number n f qs ≡ []) ⊎ ((q : Query) × IsQuery q × ((f : Query → List X) → of_number n f qs ≡ f q))
find-number n k [] e made = inl (λ f. refl)
find-number {X} n k (q ∷ qs) e made = go (eqb q.n n) refl (find-number n (k + 1) qs (rest-numbered k q qs e) made.1)
  where
    go : (b : Bool) → eqb q.n n ≡ b → ((f : Query → List X) → of_number n f qs ≡ []) ⊎ ((r : Query) × IsQuery r × ((f : Query → List X) → of_number n f qs ≡ f r))
        → ((f : Query → List X) → of_number n f (q ∷ qs) ≡ []) ⊎ ((r : Query) × IsQuery r × ((f : Query → List X) → of_number n f (q ∷ qs) ≡ f r))
    go true is rest = inr (
      q,
      made.0,
      λ f.
          ap (λ b. cond b (f q) [] ++ of_number n f qs) is
          ∙ ap (λ l. f q ++ l) (of_number-none n f (k + 1) qs (rest-numbered k q qs e) (let a = first-number k q qs e in let b = eqb-true q.n n is in omega (arith, a, b)))
          ∙ append-nil (f q),
    )
    go false is (inl none) = inl (λ f. ap (λ b. cond b (f q) [] ++ of_number n f qs) is ∙ none f)
    go false is (inr r) = inr (r.0, r.1, λ f. ap (λ b. cond b (f q) [] ++ of_number n f qs) is ∙ r.2 f)

-- what parts reply is sound, where the records are few
replied-sound : (v : View) (wm : List ℕ) (part : Record → ℕ) (ns : List ℕ) → Once ns → IsView v → length v.records ≤ 2 ^ 62 → AreSound (replied v wm part ns)
replied-sound v wm part ns once is few = record {
  each = All-flat_map IsSoundFragment (λ n. flat_map (λ (q : Query). fragments_as q.plan.kind (past_at v wm part n) wm q) v.queries) ns
      (All-every (λ n. AllByRecursion IsSoundFragment (flat_map (λ (q : Query). fragments_as q.plan.kind (past_at v wm part n) wm q) v.queries))
      (λ n. All-flat_map IsSoundFragment (λ (q : Query). fragments_as q.plan.kind (past_at v wm part n) wm q) v.queries
      (All-by IsQuery (λ (q : Query). AllByRecursion IsSoundFragment (fragments_as q.plan.kind (past_at v wm part n) wm q))
      (λ q made. sound-fragments q.plan.kind (past_at v wm part n) wm q made.fits
      (All-filter (λ (r : Record). r.given.time < 2 ^ 62) (λ r. eqb (part r) n) v.records is.timed))
      v.queries is.made)) ns);
  few = λ n s g. elim (find-number n 1 v.queries is.numbered is.made) [
    | inl none ↦ (let a = ap (λ l. count_at (cells_of (with_key start_in s l)) g) (replied-to v wm part ns n
        ∙ flat_map-none (λ m. of_number n (λ q. fragments_as q.plan.kind (past_at v wm part m) wm q) v.queries) ns (All-every _ (λ m. none (λ q. fragments_as q.plan.kind (past_at v wm part m) wm q)) ns)) in omega (arith, a))
    | inr q ↦ (let a = ap (λ l. count_at (cells_of (with_key start_in s l)) g) (replied-to v wm part ns n
        ∙ flat_map-every (λ m. of_number n (λ r. fragments_as r.plan.kind (past_at v wm part m) wm r) v.queries) (λ m. fragments_as q.0.plan.kind (past_at v wm part m) wm q.0) ns (λ m. q.2 (λ r. fragments_as r.plan.kind (past_at v wm part m) wm r))) in
        let b = query-few v wm part ns once q.0 q.1 s g in omega (arith, a, b, few))
  ];
}

-- ---- the items

record-one : (c : Config) (h : List Item) (x : Item) → length {A = Record} (record_of c h x) ≤ 1
record-one c h (Rec g) = go (accepts c h (Rec g))
  where
    go : (b : Bool) → length {A = Record} (cond b ((record { seq = length h + 1; given = g }) ∷ []) []) ≤ 1
    go true = omega arith
    go false = omega arith
record-one c h (Mark s t) = omega arith
record-one c h (End s) = omega arith
record-one c h (Create text) = omega arith
record-one c h (Delete n) = omega arith
record-one c h (Bad cause) = omega arith

records-few : (c : Config) (h : List Item) → length (records c h) ≤ length h
records-few c h = by_push (λ l. length (records c l) ≤ length l) (omega arith) more h
  where
    more : (l : List Item) (x : Item) → length (records c l) ≤ length l → length (records c (l ++ x ∷ [])) ≤ length (l ++ x ∷ [])
    more l x old = let a = ap length (records-push c l x) ∙ length-append (records c l) (record_of c l x) in let b = record-one c l x in let d = length_push l x in omega (arith, a, b, d, old)

-- the replies of any of the parts are sound
pub replies-sound : (c : Config) (h : List Item) (wm : List ℕ) (test : ℕ → Bool) → length h < 2 ^ 62 → AllByRecursion InRange h → AreSound (flat_map (replied_by c h wm) (filter test (range_with_len 0 c.parts)))
replies-sound c h wm test short all =
    let ns : List ℕ = filter test (range_with_len 0 c.parts) in
    subst AreSound (sym (all-replied c h wm ns))
    (replied-sound (view c h) wm (part_in c) ns (once-filter test (range_with_len 0 c.parts) (once-range 0 c.parts)) (view-is c h all) (let a = records-few c h in omega (arith, a, short)))
