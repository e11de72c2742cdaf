use Rattle.std.proofs.Common.{◌+◌, true, ◌<◌, Bool, List, get_or, set, sym, ap, subst, ◌∙◌}
use Rattle.group_table.specs.Grids.{Numbering, AreNumbers}
use Rattle.group_table.proofs.NumberLaws.{width-few, numbers-one}
use Rattle.group_table.proofs.numbers.Numbers.give_one.Goals as goal

pub invariant_of-self : goal.invariant_of-self
invariant_of-self c =
    let numbers = c.self.inside.numbers.items in
    let width = c.self.inside.width in
    let none = ap (λ (n : Numbering). get_or n.numbers c.args.slot 512) c.self.view_is ∙ c.requires.none in
    subst (λ (known : List Bool). AreNumbers (set numbers c.from.result width) known (width + 1)) (sym c.with-self-inside.ensures.value)
    (subst (λ n. AreNumbers (set numbers n width) (set c.self.inside.known c.args.slot true) (width + 1)) (sym c.from.ensures)
    (numbers-one numbers c.self.inside.known width c.self.invariant c.args.slot c.requires.slot none))

pub returns-clause-few : goal.returns-clause-few
returns-clause-few c =
    let none = ap (λ (n : Numbering). get_or n.numbers c.args.slot 512) c.self.view_is ∙ c.requires.none in
    subst (λ (n : Numbering). n.width < 512) c.self.view_is (width-few c.self.inside.numbers.items c.self.inside.known c.self.inside.width c.self.invariant c.args.slot c.requires.slot none)
