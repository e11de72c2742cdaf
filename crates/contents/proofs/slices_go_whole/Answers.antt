use Rattle.contents.proofs.KeptLaws.{evicted}
use Rattle.contents.proofs.slices_go_whole.Goals as goal

pub returns : goal.returns
returns c = evicted
