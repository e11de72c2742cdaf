use Rattle.std.proofs.Common.{[], refl, arith}
use Rattle.changelog.proofs.StartLaws.{starts-from}
use Rattle.changelog.proofs.laws.slices_are_those_of_views.Goals as goal

pub returns : goal.returns
returns c cs s t orderly low = starts-from s t 0 [] cs (omega arith) low (record { settled = tt; alone = tt }) tt refl orderly
