-- What the parts of all streams say of the whole.
use Rattle.std.proofs.Common.{◌≡◌, inl, inr, ◌↔◌, ℕ, zero, suc, ◌+◌, ◌-◌, ◌<◌, ◌≤◌, ◌&&◌, eqb, min, max, Bool, true, false, cond, true≢false, Option, Some, None, List, [], ◌∷◌, ◌++◌, map, length, get_or, take, drop, length-append, refl, sym, ap, ap₂, subst, ◌∙◌, arith}
use Rattle.std.specs.List.{AllByRecursion, fold}
use Rattle.std.proofs.lemmas.Bool.{cases_lt, eqb-true, eq-eqb}
use Rattle.std.proofs.lemmas.Int.{clamps}
use Rattle.std.proofs.lemmas.List.FromFn.{length-map-range_with_len, get_or-map-range_with_len}
use Rattle.as_base.specs.declared.fragment.Cell.{Cell}
use Rattle.as_base.specs.declared.item.Given.{Given}
use Rattle.as_base.specs.declared.message.Change.{Change}
use Rattle.as_base.specs.declared.stream.StreamId.{StreamId}
use Rattle.as_base.specs.Stream.{place_of}
use Rattle.changelog.specs.BySlot.{by_slot, renewed}
use Rattle.changelog.specs.Changes.{slot_of, owner}
use Rattle.changelog.specs.EpochsFor.{EpochsFor, IsKept, owned}
use Rattle.changelog.specs.declared.epochs.Epochs.{Epochs}
use Rattle.changelog.proofs.BySlotLaws.{by_slot-between, by_slot-back, by_slot-anew, by_slot-push}
use Rattle.group_table.specs.Cells.{add_in}
use Rattle.group_table.specs.Tables.{cells_at}
use Rattle.shared_agg.specs.declared.aggs.Aggs.{Aggs}
use Rattle.shared_agg.specs.declared.aggs.Cache.{Cache}
use Rattle.shared_agg.specs.declared.duties.Duty.{Duty}
use Rattle.shared_agg.specs.declared.slices.Slice.{Slice}
use Rattle.shared_agg.specs.Duties.{duty_of, dues, all_slots}
use Rattle.shared_agg.specs.Shares.{shares}
use Rattle.shared_agg.specs.Slices.{Lane, starts, cells_from, epoch_from, StartsRise, HasCell, AreFed, ArePartlyFed}
use Rattle.shared_agg.specs.Fill.{has, due}
use Rattle.shared_agg.specs.Aggs.{lane_at, cache_at, IsCacheFor, AggsFor, HaveShares}
use Rattle.shared_agg.proofs.DutyLaws.{dues-shares}
use Rattle.shared_agg.proofs.OrderLaws.{all-at}
use Rattle.shared_agg.proofs.SliceLaws.{apart-above, total-empty}

-- ---- the duties are those of the changes

pub all-renewed : (e : Epochs) (cs : List Change) (to : ℕ) (xs ys : List (Option Duty)) (from : ℕ) → EpochsFor e cs → IsKept e to → xs ≡ by_slot duty_of cs from
    → ys ≡ renewed (λ slot. duty_of (owned e to slot)) xs all_slots → ys ≡ by_slot duty_of cs to
unfolding by_slot all_slots
all-renewed e cs to xs ys from stands kept was is =
    is ∙ by_slot-anew duty_of e cs to xs stands kept (ap length was ∙ length-map-range_with_len (λ slot. duty_of (owner cs from slot)) 0 512)

-- the slots of the changes between are renewed, forward or backward
pub some-renewed : (e : Epochs) (cs : List Change) (from to low high : ℕ) (slots : List ℕ) (xs : List (Option Duty))
    → EpochsFor e cs → IsKept e from → IsKept e to → from ≤ length cs → to ≤ length cs → low ≡ min from to → high ≡ max from to
    → AllByRecursion (λ slot. slot < 512) slots
    → (IsKept e low → low ≤ high → high ≤ length cs → slots ≡ map slot_of (take (high - low) (drop low cs))) → xs ≡ by_slot duty_of cs from
    → renewed (λ slot. duty_of (owned e to slot)) xs slots ≡ by_slot duty_of cs to
some-renewed e cs from to low high slots xs stands kept kept' le le' at at' below are was = elim (cases_lt to from) [
  | inl back ↦
      let l : low ≡ to = omega (arith, clamps, at, back) in
      let h : high ≡ from = omega (arith, clamps, at', back) in
      by_slot-back duty_of e cs from to slots xs stands kept' (omega (arith, back)) below
      (are (subst (IsKept e) (sym l) kept') (omega (arith, l, h, back)) (omega (arith, h, le)) ∙ ap₂ (λ a b. map slot_of (take (b - a) (drop a cs))) l h) was
  | inr on ↦
      let l : low ≡ from = omega (arith, clamps, at, on) in
      let h : high ≡ to = omega (arith, clamps, at', on) in
      by_slot-between duty_of e cs from to slots xs stands kept on below
      (are (subst (IsKept e) (sym l) kept) (omega (arith, l, h, on)) (omega (arith, h, le')) ∙ ap₂ (λ a b. map slot_of (take (b - a) (drop a cs))) l h) was
]

-- What stands for some changes stands for them and one more.
pub AggsFor-push : (a : Aggs) (cs : List Change) (c : Change) → AggsFor a cs → AggsFor a (cs ++ c ∷ [])
AggsFor-push a cs c h = record { caches = λ s. pushed (cache_at a.caches (place_of s)) (h.caches s) }
  where
    pushed : (k : Cache) → IsCacheFor k cs → IsCacheFor k (cs ++ c ∷ [])
    pushed k h = record {
      duties = h.duties ∙ sym (by_slot-push duty_of cs c k.epoch h.epoch);
      epoch = let l = length-append cs (c ∷ []) in let e = h.epoch in omega (arith, l, e);
    }

-- one cache was turned
pub turned : (old new : Aggs) (cs : List Change) (place : ℕ) → IsCacheFor (cache_at new.caches place) cs
    → ((i : ℕ) → eqb i place ≡ false → cache_at new.caches i ≡ cache_at old.caches i) → AggsFor old cs → AggsFor new cs
turned old new cs place one others h = record { caches = λ s. go s (eqb (place_of s) place) refl }
  where
    go : (s : StreamId) (b : Bool) → eqb (place_of s) place ≡ b → IsCacheFor (cache_at new.caches (place_of s)) cs
    go s true e = subst (λ n. IsCacheFor (cache_at new.caches n) cs) (sym (eqb-true (place_of s) place e)) one
    go s false e = subst (λ (k : Cache). IsCacheFor k cs) (sym (others (place_of s) e)) (h.caches s)

-- what is due by the duties is what is due for the owners
pub due-owner : (g : Given) (slots : List Bool) (duties : List (Option Duty)) (cs : List Change) (epoch slot : ℕ) → slot < 512 → duties ≡ by_slot duty_of cs epoch
    → due g slots duties slot ≡ cond (has slots slot) (shares g (owner cs epoch slot)) []
unfolding by_slot
due-owner g slots duties cs epoch slot lt are =
    let e : slot ≡ 0 + slot = omega arith in
    ap (λ o. cond (has slots slot) (dues g o) [])
    (ap (λ l. get_or l slot None) are ∙ get_or-map-range_with_len (λ n. duty_of (owner cs epoch n)) 0 512 slot slot None lt (sym e))
    ∙ ap (λ l. cond (has slots slot) l []) (dues-shares g (owner cs epoch slot))

-- ---- one lane of four

-- a record that was added to a slice of one lane, as all lanes see it
pub added-all : (g : Given) (slots : List Bool) (cs : List Change) (epoch start place other : ℕ) (duties : List (Option Duty)) (olds news : List Lane)
    → duties ≡ by_slot duty_of cs epoch → AreFed start (due g slots duties) (lane_at olds place).slices (lane_at news place).slices
    → ((i : ℕ) → eqb i place ≡ false → lane_at news i ≡ lane_at olds i)
    → (c slot : ℕ) → slot < 512 → cells_from (lane_at news other).slices c slot
    ≡ fold add_in (cells_from (lane_at olds other).slices c slot) (cond ((eqb other place && eqb c start) && has slots slot) (shares g (owner cs epoch slot)) [])
added-all g slots cs epoch start place other duties olds news are fed others c slot low = go (eqb other place) refl
  where
    within : (b : Bool) → cond b (cond (has slots slot) (shares g (owner cs epoch slot)) []) [] ≡ cond ((true && b) && has slots slot) (shares g (owner cs epoch slot)) []
    within true = refl
    within false = refl

    go : (b : Bool) → eqb other place ≡ b → cells_from (lane_at news other).slices c slot
        ≡ fold add_in (cells_from (lane_at olds other).slices c slot) (cond ((b && eqb c start) && has slots slot) (shares g (owner cs epoch slot)) [])
    go true e =
        let is : other ≡ place = eqb-true other place e in
        ap (λ n. cells_from (lane_at news n).slices c slot) is
        ∙ fed c slot low
        ∙ ap (λ l. fold add_in (cells_from (lane_at olds place).slices c slot) (cond (eqb c start) l [])) (due-owner g slots duties cs epoch slot low are)
        ∙ ap (fold add_in (cells_from (lane_at olds place).slices c slot)) (within (eqb c start))
        ∙ ap (λ n. fold add_in (cells_from (lane_at olds n).slices c slot) (cond ((true && eqb c start) && has slots slot) (shares g (owner cs epoch slot)) [])) (sym is)
    go false e = ap (λ (l : Lane). cells_from l.slices c slot) (others other e)

-- ---- which slices there are

pub epoch-at : (xs : List Slice) (i : ℕ) (d : Slice) → StartsRise xs → i < length xs → Some (get_or xs i d).epoch ≡ epoch_from xs (get_or (starts xs) i 0)
epoch-at [] i d rise lt = absurd (omega (arith, lt))
epoch-at (x ∷ xs) zero d rise lt = sym (ap (λ b. cond b (Some x.epoch) (epoch_from xs x.start)) (eq-eqb x.start x.start refl))
epoch-at (x ∷ xs) (suc i) d rise lt =
    epoch-at xs i d rise.1 (omega (arith, lt))
    ∙ sym (ap (λ b. cond b (Some x.epoch) (epoch_from xs (get_or (starts xs) i 0)))
    (apart-above (get_or (starts xs) i 0) x.start (subst (λ n. x.start < n) (sym (start-at xs i (omega (arith, lt)))) (all-at (λ (s : Slice). x.start < s.start) xs rise.0 i d (omega (arith, lt))))))
  where
    start-at : (ys : List Slice) (j : ℕ) → j < length ys → get_or (starts ys) j 0 ≡ (get_or ys j d).start
    start-at [] j l = absurd (omega (arith, l))
    start-at (y ∷ ys) zero l = refl
    start-at (y ∷ ys) (suc j) l = start-at ys j (omega (arith, l))

-- a slice is there while a slot has a cell in it
pub filled-there : (xs : List Slice) → AllByRecursion HasCell xs → (c : ℕ) → (epoch_from xs c ≡ None) ↔ ((slot : ℕ) → slot < 512 → cells_from xs c slot ≡ [])
filled-there xs filled c = (gone xs, none xs filled)
  where
    some-none : (n : ℕ) → Some n ≡ None → ⊥
    some-none n e = cc

    gone : (ys : List Slice) → epoch_from ys c ≡ None → (slot : ℕ) → slot < 512 → cells_from ys c slot ≡ []
    gone [] e slot lt = refl
    gone (y ∷ ys) e slot lt = go (eqb c y.start) e (λ h. gone ys h slot lt)
      where
        go : (b : Bool) → cond b (Some y.epoch) (epoch_from ys c) ≡ None → (epoch_from ys c ≡ None → cells_from ys c slot ≡ []) → cond b (cells_at y.table slot) (cells_from ys c slot) ≡ []
        go true h rest = absurd (some-none y.epoch h)
        go false h rest = rest h

    none : (ys : List Slice) → AllByRecursion HasCell ys → ((slot : ℕ) → slot < 512 → cells_from ys c slot ≡ []) → epoch_from ys c ≡ None
    none [] all h = refl
    none (y ∷ ys) all h = go (eqb c y.start) h (none ys all.1)
      where
        go : (b : Bool) → ((slot : ℕ) → slot < 512 → cond b (cells_at y.table slot) (cells_from ys c slot) ≡ [])
            → (((slot : ℕ) → slot < 512 → cells_from ys c slot ≡ []) → epoch_from ys c ≡ None) → cond b (Some y.epoch) (epoch_from ys c) ≡ None
        go true k rest = absurd (let a = total-empty (cells_at y.table) k in let b = all.0 in omega (arith, a, b))
        go false k rest = rest k

-- the same, from what the code has
pub added-at : (g : Given) (slots : List Bool) (cs : List Change) (epoch start place own other : ℕ) (duties : List (Option Duty)) (olds news : List Lane)
    → place ≡ own → duties ≡ by_slot duty_of cs epoch
    → AreFed start (due g slots duties) (lane_at olds place).slices (lane_at news place).slices
    → ((i : ℕ) → eqb i place ≡ false → lane_at news i ≡ lane_at olds i)
    → (c slot : ℕ) → slot < 512 → cells_from (lane_at news other).slices c slot
    ≡ fold add_in (cells_from (lane_at olds other).slices c slot) (cond ((eqb other own && eqb c start) && has slots slot) (shares g (owner cs epoch slot)) [])
added-at g slots cs epoch start place own other duties olds news at are fed others c slot low =
    added-all g slots cs epoch start place other duties olds news are fed others c slot low
    ∙ ap (λ n. fold add_in (cells_from (lane_at olds other).slices c slot) (cond ((eqb other n && eqb c start) && has slots slot) (shares g (owner cs epoch slot)) [])) at

-- some slots have got their shares
pub partly-at : (g : Given) (slots : List Bool) (cs : List Change) (epoch start place : ℕ) (s : StreamId) (duties : List (Option Duty)) (old new : Aggs)
    → place ≡ place_of s → duties ≡ by_slot duty_of cs epoch
    → ArePartlyFed start (due g slots duties) (lane_at old.lanes place).slices (lane_at new.lanes place).slices → HaveShares old new s start epoch g slots cs
partly-at g slots cs epoch start place s duties old new at are part = record {
  which = λ slot. part.which slot && has slots slot;
  among = λ slot h. second (part.which slot) (has slots slot) h;
  cells = λ slot low.
      ap (λ n. cells_from (lane_at new.lanes n).slices start slot) (sym at)
      ∙ part.fed start slot low
      ∙ ap (fold add_in (cells_from (lane_at old.lanes place).slices start slot)) (
      ap (λ b. cond b (cond (part.which slot) (due g slots duties slot) []) []) (eq-eqb start start refl)
      ∙ ap (λ l. cond (part.which slot) l []) (due-owner g slots duties cs epoch slot low are)
      ∙ joined (part.which slot) (has slots slot) (shares g (owner cs epoch slot)))
      ∙ ap (λ n. fold add_in (cells_from (lane_at old.lanes n).slices start slot) (cond (part.which slot && has slots slot) (shares g (owner cs epoch slot)) [])) at;
}
  where
    second : (b c : Bool) → (b && c) ≡ true → c ≡ true
    second true c h = h
    second false c h = absurd (true≢false (sym h))

    joined : (b c : Bool) (l : List Cell) → cond b (cond c l []) [] ≡ cond (b && c) l []
    joined true c l = refl
    joined false c l = refl
