-- What callers see of a table's cells.
use Rattle.std.specs.Prelude.{ℕ}
use Rattle.group_table.specs.declared.table.Table.{Table}
use Rattle.group_table.specs.Cells.{IsRising}
use Rattle.group_table.specs.Tables.{held_at, cells_at}
use Rattle.group_table.proofs.SumLaws.{rising-sums}

-- the cells of a slot are by strictly rising group
pub rising-cells : (table : Table) (slot : ℕ) → IsRising (cells_at table slot)
unfolding cells_at
rising-cells table slot = rising-sums (held_at table.form slot)
