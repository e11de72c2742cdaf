-- What a table is: the cells of each slot.
use Rattle.std.specs.Prelude.{ℕ, List}
use Rattle.as_base.specs.declared.fragment.Cell.{Cell}
use Rattle.group_table.specs.declared.table.Table.{Table}
use Rattle.group_table.specs.declared.table.Form.{Form}
use Rattle.group_table.specs.declared.table.Form.TheVariants as form
use Rattle.group_table.specs.Cells.{sums}
use Rattle.group_table.specs.Held.{held}
use Rattle.group_table.specs.Grids.{cells_of}

-- the cells of a slot in the order in which they are held
abbrev pub held_at : Form → ℕ → List Cell
held_at (form.Small entries) slot = held entries slot
held_at (form.Large grid) slot = cells_of grid slot

-- the cells of a slot, by rising group
unfoldable pub cells_at : Table → ℕ → List Cell
cells_at table slot = sums (held_at table.form slot)
