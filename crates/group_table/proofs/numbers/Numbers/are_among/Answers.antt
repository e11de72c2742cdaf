use Rattle.std.proofs.Common.{◌≤◌, ◌∙◌, List, Bool, get_or, sym, ap, subst}
use Rattle.queryset_lanes.specs.Slots.{has_slot}
use Rattle.group_table.specs.Grids.{Numbering}
use Rattle.group_table.proofs.NumberLaws.{among-none, not-true}
use Rattle.group_table.proofs.numbers.Numbers.are_among.Goals as goal

pub returns : goal.returns
returns c = λ yes s off.
    subst (λ (n : Numbering). n.width ≤ get_or n.numbers s 512) c.self.view_is
    (among-none c.self.inside.numbers.items c.self.inside.known c.self.inside.width c.self.invariant c.args.slots.now (c.and_not.ensures.slots.1 ∙ sym c.and_not.ensures.slots.0)
    (ap (λ (l : List Bool). has_slot l) (sym c.and_not.ensures.value) ∙ not-true (has_slot c.and_not.result) (sym c.is_empty.ensures.value ∙ yes)) s off)
