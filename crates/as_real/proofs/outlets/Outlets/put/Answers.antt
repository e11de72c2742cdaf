use Rattle.std.proofs.Common.{rules, refl, []}
use Rattle.as_real.proofs.FaultLaws.{put_rose, put_apart}
use Rattle.as_real.proofs.outlets.Outlets.put.Goals as goal

pub returns-in-Err-clause-err : goal.returns-in-Err-clause-err
returns-in-Err-clause-err g c =
    let raises = c.raise.ensures in
    ([], (_, refl), search (rules, put_rose _ [] _ _ raises, put_apart _ [] _ _ raises))
