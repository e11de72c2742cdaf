use Rattle.std.proofs.Common.{◌∙◌, sym, ap}
use Rattle.group_table.specs.Grids.{Grid, cells_of}
use Rattle.group_table.proofs.LargeLaws.{large-none}
use Rattle.group_table.proofs.large.Large.are_all.Goals as goal

pub returns : goal.returns
returns c = λ yes s off.
    ap (λ (grid : Grid). cells_of grid s) (sym c.self.view_is)
    ∙ large-none c.self.inside.groups.keys c.self.inside.rows.items c.self.inside.numbers.numbers c.self.inside.numbers.width c.self.inside.count c.self.invariant s (c.are_among.ensures yes s off)
