use Rattle.std.proofs.Common.{◌<◌, ◌∙◌, List, Bool, false, get_or, sym, ap, subst}
use Rattle.group_table.specs.Grids.{Numbering}
use Rattle.group_table.proofs.NumberLaws.{lacking-none, lacking-others}
use Rattle.group_table.proofs.numbers.Numbers.lacking.Goals as goal

pub returns-clause-none : goal.returns-clause-none
returns-clause-none c = λ s on.
    ap (λ (n : Numbering). get_or n.numbers s 512) (sym c.self.view_is)
    ∙ lacking-none c.self.inside.numbers.items c.self.inside.known c.self.inside.width c.self.invariant c.args.slots.now (c.and_not.ensures.slots.0 ∙ sym c.and_not.ensures.slots.1) s
    (ap (λ (l : List Bool). get_or l s false) (sym c.and_not.ensures.value) ∙ on)

pub returns-clause-others : goal.returns-clause-others
returns-clause-others c = λ s on off.
    subst (λ (n : Numbering). get_or n.numbers s 512 < n.width) c.self.view_is
    (lacking-others c.self.inside.numbers.items c.self.inside.known c.self.inside.width c.self.invariant c.args.slots.now (c.and_not.ensures.slots.0 ∙ sym c.and_not.ensures.slots.1) s on
    (ap (λ (l : List Bool). get_or l s false) (sym c.and_not.ensures.value) ∙ off))
