use Rattle.std.proofs.Common.{◌≡◌, ◌∙◌, ℕ, List, length, refl, sym, ap, subst, arith}
use Rattle.group_table.specs.Grids.{AreNumbers}
use Rattle.group_table.proofs.ListLaws.{written-back}
use Rattle.group_table.proofs.NumberLaws.{numbers-none}
use Rattle.group_table.proofs.numbers.Numbers.clear.Goals as goal

pub invariant_of-self : goal.invariant_of-self
invariant_of-self c =
    let items = c.self.inside.numbers.items in
    let new = c.clear_all.new.numbers in
    let long : length new ≡ length items = c.clear_all.ensures.len ∙ ap (λ (l : List ℕ). length l) c.deref_mut.ensures.value in
    subst (λ (l : List ℕ). AreNumbers l c.none-self-inside.result 0)
    (sym (written-back c.self.inside.numbers.len new items (let ok = c.self.inside.numbers.ok.0 in omega (arith, ok)) long))
    (numbers-none new c.none-self-inside.result 0 512 (long ∙ c.self.invariant.slots) c.clear_all.ensures.none c.none-self-inside.ensures refl refl)
