use Rattle.contents.proofs.NeedLaws.{needed-before}
use Rattle.contents.proofs.PastLaws.{lowers-none, unended-all}
use Rattle.contents.proofs.needs_end.Goals as goal

pub returns : goal.returns
returns c is_there p m r i f low early = needed-before p r m (unended-all p i) low early (lowers-none is_there p m f)
