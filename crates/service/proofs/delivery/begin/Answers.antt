use Rattle.service.proofs.ServedLaws.{begin_broke}
use Rattle.service.proofs.delivery.begin.Goals as goal

pub returns-in-Err-clause-calls : goal.returns-in-Err-clause-calls
returns-in-Err-clause-calls g c = begin_broke _ _ c.args.n _ _ c.in-Err.ensures.err c.add.ensures.listed
