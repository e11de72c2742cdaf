use Rattle.row_text.proofs.ReadingLaws.{read_none, read_some}
use Rattle.row_text.proofs.reading.read_row.Goals as goal

pub returns-in_err-row : goal.returns-in_err-row
returns-in_err-row c =
    rw c.from_residual-in_err-row.ensures
    (read_none c.args.plan.now c.in_ok-line.line.now c.args.bytes.now c.new-words.result _ c.in_ok-line.ensures c.new-words.ensures c.in_err-row.ensures)

pub returns : goal.returns
returns c =
    rw c.then_some.ensures
    (read_some c.args.plan.now c.in_ok-line.line.now c.args.bytes.now c.in_ok-row.row c.is_empty.result c.new-words.result _ c.in_ok-line.ensures c.new-words.ensures c.in_ok-row.ensures
    c.is_empty.ensures)
