use Rattle.std.proofs.Common.{◌∙◌, sym, ap}
use Rattle.group_table.specs.Cells.{sums}
use Rattle.group_table.specs.Grids.{Grid, cells_of}
use Rattle.group_table.specs.Totals.{total}
use Rattle.group_table.proofs.SumLaws.{length-sums}
use Rattle.group_table.proofs.TotalLaws.{total-same}
use Rattle.group_table.proofs.LargeLaws.{cells_in, large-cells}
use Rattle.group_table.proofs.large.Large.len.Goals as goal

pub returns : goal.returns
returns c =
    let cells = cells_in c.self.inside.numbers.numbers c.self.inside.rows.items in
    c.self.invariant.counted
    ∙ sym (total-same cells (λ s. sums (cells s)) (λ s. length-sums (cells s) (λ g. (large-cells c.self.inside.groups.keys c.self.inside.rows.items c.self.inside.numbers.numbers c.self.inside.numbers.width c.self.inside.count c.self.invariant s).once g)))
    ∙ ap (λ (grid : Grid). total (λ s. sums (cells_of grid s))) c.self.view_is
