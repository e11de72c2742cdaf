use Rattle.queryset_lanes.specs.Slots.{both}
use Rattle.group_table.specs.Tables.{cells_at}
use Rattle.shared_agg.specs.Duties.{class_at}
use Rattle.shared_agg.specs.Fill.{class_cell}
use Rattle.shared_agg.proofs.FillLaws.{none-added, none-of-both}
use Rattle.shared_agg.proofs.fill.add_class_at.Goals as goal

pub returns-in-None-clause-ok : goal.returns-in-None-clause-ok
returns-in-None-clause-ok c =
    let of_class = class_at c.args.duties.now c.args.place in
    none-added (cells_at c.args.table.now) (both c.args.set.now of_class.slots) (class_cell of_class c.args.g.now)
    (none-of-both c.args.set.now of_class.slots c.in-None.ensures.none)
