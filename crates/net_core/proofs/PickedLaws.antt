-- The records that the parts pick for a selection, merged, are the rows of the windows that the watermarks pass.
use Rattle.std.proofs.Common.{◌≡◌, inl, inr, ℕ, ◌≤◌, ◌<◌, ◌&&◌, ◌||◌, nat_lt, eqb, Bool, cond, true, false, true≢false, List, [], ◌∷◌, ◌++◌, refl, sym, ap, ◌∙◌, arith}
use Rattle.std.specs.Cmp.{IsStrictWeakOrder}
use Rattle.std.specs.List.{filter, flat_map, AllByRecursion}
use Rattle.std.specs.List.Sorted.{IsStableBy, ties}
use Rattle.std.specs.Ordering.{is_lt, ordering_then}
use Rattle.std.specs.declared.cmp.Ordering.TheVariants.{Less, Equal, Greater}
use Rattle.std.proofs.lemmas.Bool.{eqb-true, eq-eqb, ne_eqb, cases_lt}
use Rattle.std.proofs.lemmas.Bool.Decides.{nat_tests}
use Rattle.std.proofs.lemmas.Cmp.{nat_cmp_total, on_total, then_total}
use Rattle.std.proofs.lemmas.List.Sorted.{ranks_by}
use Rattle.as_base.specs.declared.item.Given.{Given}
use Rattle.as_base.specs.declared.item.Record.{Record}
use Rattle.as_base.specs.Windows.{one_tick, in_window}
use Rattle.views.specs.Order.{comes_before, InOrder}
use Rattle.views.proofs.ListLaws.{All-by, All-every, All-filter, All-passed, filter-none, flat_map-same}
use Rattle.views.proofs.OrderLaws.{NeverFalls, InOrder-filter}
use Rattle.views.proofs.RisingLaws.{Rises}
use Rattle.views.proofs.SortLaws.{NeverFallsBy, sorted_from_NeverFallsBy, tied_apart}
use Rattle.contents.specs.Free.{member, Once}
use Rattle.result_router.specs.Rows.{in_order}
use Rattle.result_router.proofs.OrderLaws.{below, sorted-in_order}
use Rattle.net_core.proofs.PartedLaws.{filter-flat_map, filter-turn, flat_map-none, flat_map-every, one-of, those, GoTo}

-- ---- records in order

below_weak : IsStrictWeakOrder below
below_weak = ranks_by (then_total (on_total (λ (r : Record). r.given.time) nat_cmp_total) (on_total (λ (r : Record). r.seq) nat_cmp_total)) (λ r. r)

-- the comparison by time and line says which comes before
before_is : (r s : Record) → comes_before r s ≡ below r s
before_is r s = go (nat_lt r.given.time s.given.time) (eqb r.given.time s.given.time) (nat_lt r.seq s.seq) (eqb r.seq s.seq)
  where
    go : (lower same low alike : Bool) → (lower || (same && low)) ≡ is_lt (ordering_then (cond lower Less (cond same Equal Greater)) (cond low Less (cond alike Equal Greater)))
    go true same low alike = refl
    go false true true alike = refl
    go false true false true = refl
    go false true false false = refl
    go false false low alike = refl

above : (r s : Record) → comes_before r s ≡ true → below s r ≡ false
above r s e = below_weak.one_way r s (sym (before_is r s) ∙ e)

in-order-rises : (rs : List Record) → InOrder rs → NeverFallsBy below rs
in-order-rises [] h = tt
in-order-rises (r ∷ rs) h = (All-by (λ s. comes_before r s ≡ true) (λ s. below s r ≡ false) (λ s e. above r s e) rs h.0, in-order-rises rs h.1)

-- of records in order at most one ties with a record
few-parted : (z : Record) (part : Record → ℕ) (ns : List ℕ) (rs : List Record) → Once ns → GoTo part ns rs → InOrder rs → AllByRecursion (λ r. ties below z r ≡ true) rs → flat_map (λ n. those part rs n) ns ≡ rs
few-parted z part ns [] once all order tied = flat_map-none (λ n. those part [] n) ns (All-every (λ n. those part [] n ≡ []) (λ n. refl) ns)
few-parted z part ns (r ∷ []) once all order tied =
    flat_map-every (λ n. those part (r ∷ []) n) (λ n. cond (eqb n (part r)) (r ∷ []) []) ns (λ n. ap (λ b. cond b (r ∷ []) []) (turned (part r) n))
    ∙ one-of (part r) ns (r ∷ []) once
    ∙ ap (λ b. cond b (r ∷ []) []) all.0
  where
    turned : (a b : ℕ) → eqb a b ≡ eqb b a
    turned a b = grind (arith, nat_tests)
few-parted z part ns (r ∷ s ∷ rs) once all order tied =
    absurd (true≢false (sym (sym (before_is r s) ∙ order.0.0) ∙ tied_apart below below_weak z r s tied.0 tied.1.0))

-- what parts pick of records that then stand in order, put in order again
pub merged-records : (p : Record → Bool) (part : Record → ℕ) (ns : List ℕ) (rs : List Record) → Once ns → GoTo part ns rs → InOrder (filter p rs) → filter p rs ≡ in_order (flat_map (λ n. filter p (those part rs n)) ns)
merged-records p part ns rs once all order =
    sorted-in_order (flat_map (λ n. filter p (those part rs n)) ns) (filter p rs) (sorted_from_NeverFallsBy below (filter p rs) (in-order-rises (filter p rs) order)) stable
  where
    stable : IsStableBy below (flat_map (λ n. filter p (those part rs n)) ns) (filter p rs)
    stable z =
        let tied : List Record = filter (ties below z) (filter p rs) in
        sym (filter-flat_map (ties below z) (λ n. filter p (those part rs n)) ns
        ∙ flat_map-every (λ n. filter (ties below z) (filter p (those part rs n))) (λ n. those part tied n) ns
        (λ n. ap (filter (ties below z)) (filter-turn p (λ r. eqb (part r) n) rs) ∙ filter-turn (ties below z) (λ r. eqb (part r) n) (filter p rs))
        ∙ few-parted z part ns tied once (All-filter (λ r. member (part r) ns ≡ true) (ties below z) (filter p rs) (All-filter (λ r. member (part r) ns ≡ true) p rs all))
        (InOrder-filter (ties below z) (filter p rs) order) (All-passed (ties below z) (filter p rs)))

-- ---- records tick by tick

-- of the records those of one tick
abbrev pub at_tick : List Given → ℕ → List Given
at_tick gs t = filter (λ (g : Given). eqb g.time t) gs

early : (t : ℕ) (gs : List Given) → AllByRecursion (λ (g : Given). t < g.time) gs → at_tick gs t ≡ []
early t gs h = filter-none (λ (g : Given). eqb g.time t) gs (All-by (λ (g : Given). t < g.time) (λ (g : Given). eqb g.time t ≡ false) (λ g low. ne_eqb g.time t (λ e. omega (arith, low, e))) gs h)

-- one record more that is not later than the others comes first
tick-first : (g : Given) (gs : List Given) (ts : List ℕ) → Rises ts → member g.time ts ≡ true → AllByRecursion (λ (later : Given). g.time ≤ later.time) gs → flat_map (at_tick (g ∷ gs)) ts ≡ g ∷ flat_map (at_tick gs) ts
tick-first g gs [] rise some low = absurd (true≢false (sym some))
tick-first g gs (t ∷ ts) rise some low = go (eqb t g.time) refl some (λ m. tick-first g gs ts rise.1 m low)
  where
    later : (us : List ℕ) → AllByRecursion (λ u. g.time < u) us → flat_map (at_tick (g ∷ gs)) us ≡ flat_map (at_tick gs) us
    later us h = flat_map-same (at_tick (g ∷ gs)) (at_tick gs) us (All-by (λ u. g.time < u) (λ u. at_tick (g ∷ gs) u ≡ at_tick gs u) (λ u up. ap (λ b. cond b (g ∷ at_tick gs u) (at_tick gs u)) (ne_eqb g.time u (λ e. omega (arith, up, e)))) us h)

    below-all : member g.time ts ≡ true → t < g.time
    below-all m = elim (cases_lt t g.time) [ inl l ↦ l | inr h ↦ absurd (true≢false (sym m ∙ absent ts (All-by (λ u. t < u) (λ u. g.time < u) (λ u up. omega (arith, up, h)) ts rise.0))) ]
      where
        absent : (us : List ℕ) → AllByRecursion (λ u. g.time < u) us → member g.time us ≡ false
        absent [] h = refl
        absent (u ∷ us) h = let up = h.0 in ap (λ b. b || member g.time us) (ne_eqb u g.time (λ e. omega (arith, up, e))) ∙ absent us h.1

    go : (b : Bool) → eqb t g.time ≡ b → (b || member g.time ts) ≡ true → (member g.time ts ≡ true → flat_map (at_tick (g ∷ gs)) ts ≡ g ∷ flat_map (at_tick gs) ts) → at_tick (g ∷ gs) t ++ flat_map (at_tick (g ∷ gs)) ts ≡ g ∷ (at_tick gs t ++ flat_map (at_tick gs) ts)
    go true e m rest =
        let is = eqb-true t g.time e in
        ap (λ b. cond b (g ∷ at_tick gs t) (at_tick gs t) ++ flat_map (at_tick (g ∷ gs)) ts) (eq-eqb g.time t (sym is))
        ∙ ap (λ l. g ∷ (at_tick gs t ++ l)) (later ts (All-by (λ u. t < u) (λ u. g.time < u) (λ u up. omega (arith, up, is)) ts rise.0))
    go false e m rest =
        let up = below-all m in
        ap (λ b. cond b (g ∷ at_tick gs t) (at_tick gs t) ++ flat_map (at_tick (g ∷ gs)) ts) (ne_eqb g.time t (λ f. omega (arith, up, f)))
        ∙ ap (λ l. l ++ flat_map (at_tick (g ∷ gs)) ts) none
        ∙ rest m
        ∙ ap (λ l. g ∷ (l ++ flat_map (at_tick gs) ts)) (sym none)
      where
        none : at_tick gs t ≡ []
        none = let up = below-all m in early t gs (All-by (λ (later : Given). g.time ≤ later.time) (λ (later : Given). t < later.time) (λ later le. omega (arith, up, le)) gs low)

-- records that stand by time, taken tick by tick, are all of them
pub by-ticks : (gs : List Given) (ts : List ℕ) → Rises ts → NeverFalls gs → AllByRecursion (λ (g : Given). member g.time ts ≡ true) gs → flat_map (at_tick gs) ts ≡ gs
by-ticks [] ts rise order all = flat_map-none (at_tick []) ts (All-every (λ t. at_tick [] t ≡ []) (λ t. refl) ts)
by-ticks (g ∷ gs) ts rise order all = tick-first g gs ts rise all.0 order.0 ∙ ap (λ l. g ∷ l) (by-ticks gs ts rise order.1 all.1)

-- a window of one tick holds that tick
pub tick-window : (k t : ℕ) → in_window one_tick k t ≡ eqb t k
tick-window k t = grind (arith, nat_tests)
