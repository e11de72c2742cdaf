use Rattle.std.proofs.Common.{◌≡◌, ◌++◌, map, take}
use Rattle.std.specs.List.{flat_map}
use Rattle.row_text.specs.RowText.{row_text}
use Rattle.result_router.specs.Rows.{record_row}
use Rattle.result_router.proofs.rows.append_records.Given as goal

abbrev pub invariant-loop-record : goal.invariant-loop-record
invariant-loop-record l = l.out.items ≡ l.initial.out.items ++ flat_map row_text (map record_row (take l.record-index l.records))
