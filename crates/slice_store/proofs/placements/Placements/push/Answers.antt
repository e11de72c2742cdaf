use Rattle.slice_store.proofs.PlacedLaws.{push-found}
use Rattle.slice_store.proofs.placements.Placements.push.Goals as goal

pub returns-clause-ok : goal.returns-clause-ok
returns-clause-ok c =
    let p = c.self.inside in
    push-found c.push_both.result p.records.items c.push_both.new.records.items p.sets.items c.push_both.new.sets.items c.args.r c.args.set c.args.self.now
    c.self.invariant c.self.view_is c.push_both.ensures.records c.push_both.ensures.sets
