use Rattle.std.proofs.Common.{◌∙◌, List, [], cond, false, get_or, sym, ap, subst}
use Rattle.group_table.specs.declared.small.Entry.{Entry}
use Rattle.group_table.specs.Cells.{sums}
use Rattle.group_table.specs.Held.{held, AreEntries}
use Rattle.group_table.proofs.HeldLaws.{entries-left, sums-left}
use Rattle.group_table.proofs.small.Small.drop_slots.Goals as goal

pub invariant_of-self : goal.invariant_of-self
invariant_of-self c = subst AreEntries (sym c.keep_others.ensures) (entries-left c.args.slots.now c.self.inside.entries.items c.self.invariant)

pub returns : goal.returns
returns c = λ s.
    ap (λ (es : List Entry). sums (held es s)) c.keep_others.ensures
    ∙ sums-left c.args.slots.now c.self.inside.entries.items s c.self.invariant.each
    ∙ ap (λ (es : List Entry). cond (get_or c.args.slots.now s false) [] (sums (held es s))) c.self.view_is
