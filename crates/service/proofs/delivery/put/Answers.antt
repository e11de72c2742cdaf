use Rattle.service.proofs.ServedLaws.{put_broke}
use Rattle.service.proofs.delivery.put.Goals as goal

pub returns-in-Err-clause-calls : goal.returns-in-Err-clause-calls
returns-in-Err-clause-calls g c =
    let failed = c.in-Err.ensures.err in
    put_broke _ _ c.args.piece.now _ failed.0 _ _ c.contains.result c.contains.ensures c.if-contains.false c.as_slice.ensures failed.1 failed.2 c.add.ensures.listed
