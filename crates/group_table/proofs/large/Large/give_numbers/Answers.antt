use Rattle.std.proofs.Common.{◌∙◌, ap}
use Rattle.group_table.specs.Grids.{Grid, cells_of}
use Rattle.group_table.proofs.LargeLaws.{given-same, given-large}
use Rattle.group_table.proofs.large.Large.give_numbers.Goals as goal

pub invariant_of-self : goal.invariant_of-self
invariant_of-self c = given-large c.self.inside.groups.keys c.self.inside.rows.items c.self.inside.numbers.numbers c.self.inside.numbers.width c.self.inside.count c.self.invariant c.give.new.self.numbers c.give.new.self.width c.give.ensures.more

pub returns-clause-same : goal.returns-clause-same
returns-clause-same c = λ s.
    given-same c.self.inside.groups.keys c.self.inside.rows.items c.self.inside.numbers.numbers c.self.inside.numbers.width c.self.inside.count c.self.invariant c.give.new.self.numbers c.give.new.self.width s c.give.ensures.more
    ∙ ap (λ (grid : Grid). cells_of grid s) c.self.view_is
