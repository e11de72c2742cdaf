-- What a record adds to a table: slot by slot, for those slots of a set that have a duty.
use Rattle.std.specs.Prelude.{◌≡◌, ℕ, Bool, false, if◌then◌else◌, Option, List, [], fold, slice_index_or}
use Rattle.as_base.specs.declared.fragment.Cell.{Cell}
use Rattle.as_base.specs.declared.item.Given.{Given}
use Rattle.group_table.specs.Cells.{add_in}
use Rattle.group_table.specs.declared.table.Table.{Table}
use Rattle.group_table.specs.Tables.{cells_at}
use Rattle.views.specs.Groups.{group_of}
use Rattle.shared_agg.specs.declared.duties.Class.{Class}
use Rattle.shared_agg.specs.declared.duties.Duty.{Duty}
use Rattle.shared_agg.specs.Shares.{cell_of}
use Rattle.shared_agg.specs.Duties.{dues, duty_at, summand}

-- the slot is in the set
abbrev pub has : List Bool → ℕ → Bool
has set slot = slice_index_or set slot false

-- what a record adds to the cells of a slot: what its duty says, if the slot is in the set
abbrev pub due : Given → List Bool → List (Option Duty) → ℕ → List Cell
due g set duties slot = if has set slot then dues g (duty_at duties slot) else []

-- what a record adds to the cells of each slot of a class
abbrev pub class_cell : Class → Given → Cell
class_cell c g = cell_of (group_of c.group g) (summand c.column g)

-- The cells are those before with some more added.
abbrev pub IsFed : Table → Table → (ℕ → List Cell) → Type 0
IsFed old new adds = (slot : ℕ) → cells_at new slot ≡ fold add_in (cells_at old slot) (adds slot)

-- Some slots have got all that was to be added to them; the cells of the others are as they were.
pub record IsPartlyFed (old new : Table) (adds : ℕ → List Cell) : Type 0 where
  pub which : ℕ → Bool
  pub fed : IsFed old new (λ slot. if which slot then adds slot else [])
