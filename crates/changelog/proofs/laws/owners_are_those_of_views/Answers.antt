use Rattle.std.proofs.Common.{[], arith}
use Rattle.changelog.proofs.HolderLaws.{owners-from}
use Rattle.changelog.proofs.laws.owners_are_those_of_views.Goals as goal

pub returns : goal.returns
returns c cs t slot orderly low = owners-from t slot 0 [] cs (omega arith) low (record { settled = tt; alone = tt }) orderly
