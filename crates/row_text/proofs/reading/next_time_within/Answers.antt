use Rattle.as_base.specs.Range.{IsTime}
use Rattle.row_text.specs.Fits.{IsWithin}
use Rattle.row_text.specs.Taking.{natural_words}
use Rattle.row_text.proofs.TakingLaws.{kept}
use Rattle.row_text.proofs.reading.next_time_within.Goals as goal

pub returns : goal.returns
returns c =
    rw c.then_some.ensures
    (kept IsTime (IsWithin c.args.start c.args.end) natural_words c.in_ok-time.time c.is_within.result _ _ c.in_ok-time.ensures c.is_within.ensures)
