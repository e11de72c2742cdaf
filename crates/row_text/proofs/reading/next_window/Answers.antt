use Rattle.row_text.proofs.RowLaws.{window_none, window_then}
use Rattle.row_text.proofs.reading.next_window.Goals as goal

pub returns-in_err-start : goal.returns-in_err-start
returns-in_err-start c = rw c.from_residual.ensures (window_none c.args.win.now _ _ _ c.in_err-start.ensures)

pub returns-in_err-end : goal.returns-in_err-end
returns-in_err-end c = rw c.from_residual-in_err-end.ensures (window_then c.args.win.now c.in_ok-start.start _ _ _ _ c.in_ok-start.ensures c.in_err-end.ensures)

pub returns : goal.returns
returns c = window_then c.args.win.now c.in_ok-start.start _ _ _ _ c.in_ok-start.ensures c.in_ok-end.ensures
