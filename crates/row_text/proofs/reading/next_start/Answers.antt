use Rattle.as_base.specs.Range.{IsTime}
use Rattle.row_text.specs.Fits.{IsStart}
use Rattle.row_text.specs.Taking.{natural_words}
use Rattle.row_text.proofs.TakingLaws.{kept}
use Rattle.row_text.proofs.reading.next_start.Goals as goal

pub returns : goal.returns
returns c = rw c.then_some.ensures (kept IsTime (IsStart c.args.win.now) natural_words c.in_ok-start.start c.is_start.result _ _ c.in_ok-start.ensures c.is_start.ensures)
