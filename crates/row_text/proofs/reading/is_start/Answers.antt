use Rattle.row_text.proofs.RowLaws.{start_is}
use Rattle.row_text.proofs.reading.is_start.Goals as goal

pub returns : goal.returns
returns c = start_is c.args.win.now c.args.start c.is_multiple_of.result c.is_multiple_of.ensures
