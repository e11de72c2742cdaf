use Rattle.plain_engine.proofs.TimeLaws.{waiting-put}
use Rattle.plain_engine.proofs.waiting.Waiting.put.Goals as goal

pub invariant_of-self : goal.invariant_of-self
invariant_of-self c =
    let w = c.self.inside in (
      c.put_from.ensures.within,
      waiting-put c.put_from.result c.args.given.now w.gone w.records.items c.put_from.new.records.items c.put_from.ensures.ok c.put_from.ensures.err c.requires c.self.invariant.1,
    )
