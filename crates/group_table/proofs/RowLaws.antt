-- A cell added to the places of a row, slot by slot.
use Rattle.std.proofs.Common.{◌≡◌, inl, inr, ℕ, ◌+◌, ◌≤◌, ◌<◌, ◌^◌, ◌==◌, Bool, cond, true, false, List, length, get_or, set, refl, sym, ap, subst, ◌∙◌, arith, length-set}
use Rattle.std.specs.List.{AllByRecursion}
use Rattle.std.proofs.lemmas.Bool.{cases_eq, eq-eqb, ne_eqb}
use Rattle.std.proofs.lemmas.List.{get_or-set_same, get_or-set_other}
use Rattle.as_base.specs.declared.fragment.Cell.{Cell}
use Rattle.slot_walk.specs.Walk.{IsTaken}
use Rattle.group_table.specs.Cells.{blank, plus, IsSound}
use Rattle.group_table.specs.Grids.{shown, place_of, IsPlace, Takes, HasAdded}
use Rattle.group_table.specs.Totals.{total}
use Rattle.group_table.proofs.EachLaws.{AreStepping, each-begin, each-step, each-done, each-same}
use Rattle.group_table.proofs.ListLaws.{all-set}
use Rattle.group_table.proofs.TotalLaws.{total-step, total-most}
use Rattle.group_table.proofs.GridLaws.{shown-some, length-shown, shown-most, plus-is, place-in}

-- The cell was added to the places of the slots of a set but those that are left.
pub record IsAdding (old new : List Cell) (numbers : List ℕ) (slots left : List Bool) (c : Cell) (fresh : ℕ) : Type 0 where
  pub long : length new ≡ length old
  pub held : AllByRecursion (IsPlace c.group) new
  pub adding : AreStepping (λ d. plus c d) (place_of numbers old) (place_of numbers new) slots left
  pub counted : total (λ s. shown (place_of numbers new s)) ≡ total (λ s. shown (place_of numbers old s)) + fresh

module _ (old : List Cell) (numbers : List ℕ) (slots : List Bool) (c : Cell) (t : Takes old numbers slots c) where
  pub adding-begin : (left : List Bool) → left ≡ slots → IsAdding old old numbers slots left c 0
  adding-begin left is = record {
    long = refl;
    held = t.held;
    adding = each-begin (λ d. plus c d) (place_of numbers old) slots (place_of numbers old) left (λ s. refl) is;
    counted = omega arith;
  }

  module _ (now : List Cell) (left : List Bool) (fresh : ℕ) (h : IsAdding old now numbers slots left c fresh) where
    -- no slot has more than one place
    pub adding-most : fresh ≤ 512
    adding-most = let a = h.counted in let b = total-most (λ s. shown (place_of numbers now s)) (λ s. shown-most (place_of numbers now s)) in omega (arith, a, b)

    module _ (rest : List Bool) (slot : ℕ) (k : IsTaken left rest slot) where
      -- there is a place for a slot that is left
      pub adding-within : get_or numbers slot 512 < length now
      adding-within = let a = t.within slot (h.adding.among slot k.was) in let b = h.long in omega (arith, a, b)

      pub adding-sound : IsSound (place_of numbers now slot)
      adding-sound = (place-in c.group now (get_or numbers slot 512) h.held).sound

      pub adding-few : c.count + (place_of numbers now slot).count ≤ 2 ^ 62
      adding-few =
          let a = t.few slot (h.adding.among slot k.was) in
          let b = ap (λ (d : Cell). d.count) (each-same (λ d. plus c d) (place_of numbers old) slots (place_of numbers now) left h.adding slot k.was) in
          omega (arith, a, b)

      -- one place more
      pub adding-step : (next : List Cell) (more : ℕ) → next ≡ set now (get_or numbers slot 512) (plus c (place_of numbers now slot)) → more ≡ cond ((place_of numbers now slot).count == 0) 1 0
          → IsAdding old next numbers slots rest c (fresh + more)
      adding-step next more is one = subst (λ l. IsAdding old l numbers slots rest c (fresh + more)) (sym is) (record {
        long = length-set now number there ∙ h.long;
        held = all-set (IsPlace c.group) now number there h.held (plus-is c.group c (place_of numbers now slot) t.sound refl (place-in c.group now number h.held));
        adding = each-step (λ d. plus c d) (place_of numbers old) slots (place_of numbers now) left h.adding (place_of numbers (set now number there)) rest slot k step;
        counted =
            let a = h.counted in
            let b = total-step slot more (λ s. shown (place_of numbers now s)) (λ s. shown (place_of numbers (set now number there) s)) k.within count in
            omega (arith, a, b);
      })
        where
          number : ℕ
          number = get_or numbers slot 512

          there : Cell
          there = plus c (place_of numbers now slot)

          here : place_of numbers (set now number there) slot ≡ there
          here = get_or-set_same now number there blank adding-within

          other : (s : ℕ) → (s ≡ slot → ⊥) → place_of numbers (set now number there) s ≡ place_of numbers now s
          other s n = get_or-set_other now number (get_or numbers s 512) there blank (λ e. n (sym (t.apart slot s (let a = adding-within in let b = h.long in omega (arith, a, b)) (sym e))))

          step : (s : ℕ) → place_of numbers (set now number there) s ≡ cond (s == slot) (plus c (place_of numbers now s)) (place_of numbers now s)
          step s = elim (cases_eq s slot) [
            | inl at ↦
                ap (place_of numbers (set now number there)) at ∙ here ∙ sym (ap (λ n. plus c (place_of numbers now n)) at)
                ∙ sym (ap (λ b. cond b (plus c (place_of numbers now s)) (place_of numbers now s)) (eq-eqb s slot at))
            | inr n ↦ other s n ∙ sym (ap (λ b. cond b (plus c (place_of numbers now s)) (place_of numbers now s)) (ne_eqb s slot n))
          ]

          count : (s : ℕ) → length (shown (place_of numbers (set now number there) s)) ≡ length (shown (place_of numbers now s)) + cond (s == slot) more 0
          count s = elim (cases_eq s slot) [
            | inl at ↦
                let a = ap (λ n. length (shown (place_of numbers (set now number there) n))) at in
                let b = ap (λ (d : Cell). length (shown d)) here in
                let some = t.some in
                let d = ap length (shown-some there (omega (arith, some))) in
                let e = ap (λ n. length (shown (place_of numbers now n))) at in
                let f = length-shown (place_of numbers now slot) in
                let g = either ((place_of numbers now slot).count == 0) in
                let m = ap (λ b. cond {A = ℕ} b more 0) (eq-eqb s slot at) in
                omega (arith, a, b, d, e, f, g, m, one)
            | inr n ↦ let a = ap (λ (d : Cell). length (shown d)) (other s n) in let m = ap (λ b. cond {A = ℕ} b more 0) (ne_eqb s slot n) in omega (arith, a, m)
          ]
            where
              either : (b : Bool) → cond {A = ℕ} b 1 0 + cond b 0 1 ≡ 1
              either true = refl
              either false = refl

    pub adding-done : ((s : ℕ) → get_or left s false ≡ false) → HasAdded old now numbers slots c fresh
    adding-done none = record {
      long = h.long;
      held = h.held;
      cells = each-done (λ d. plus c d) (place_of numbers old) slots (place_of numbers now) left h.adding none;
      most = adding-most;
      counted = h.counted;
    }
