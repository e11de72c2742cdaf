use Rattle.contents.proofs.WholeLaws.{moves-all, cells-are_whole}
use Rattle.contents.proofs.cells_are_whole.Goals as goal

pub returns : goal.returns
returns c p s slot cut i = cells-are_whole p slot i.apart (moves-all p i.holders) s cut
