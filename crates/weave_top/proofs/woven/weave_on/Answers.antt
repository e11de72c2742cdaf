use Rattle.std.proofs.Common.{◌≡◌, ◌++◌, [], sym, ap, ◌∙◌, subst}
use Rattle.as_outside.proofs.MakesLaws.{makes_after}
use Rattle.inbox.specs.Passes.{taken, closed_taken}
use Rattle.feeder.specs.Loads.{AllEnded}
use Rattle.service.specs.Processor.{broken_in}
use Rattle.taker.specs.Gather.{Ends}
use Rattle.team.specs.Team.{all_of, AreKept}
use Rattle.weave_top.proofs.WholeLaws.{went_through}
use Rattle.weave_top.proofs.woven.weave_on.Goals as goal

pub returns-clause-ends : goal.returns-clause-ends
returns-clause-ends g c = λ w fresh.
    let seen = g.K.Shelf.seen in
    let processor = c.finish-outcome.new.self.taker.processor in
    let same : closed_taken c.close.result ≡ taken c.run_at.new.gather.pass =
    c.close.ensures.taken ∙ ap taken c.finish-outcome.ensures.pass in
    let one = c.run_at.ensures.stands w.config [] fresh.stands in
    let two = c.finish-outcome.ensures.ends w.config one.calls one.holds in
    record {
      calls = one.calls ++ two.calls;
      makes = makes_after (seen c.args.shelf.now) (seen c.run_at.new.shelf) (seen c.finish-outcome.new.shelf)
          one.calls two.calls one.makes two.makes;
      holds = subst
          (λ t. Ends w.config c.finish-outcome.result processor.lines (broken_in processor) t (one.calls ++ two.calls))
          (sym same) two.holds;
    }

pub returns-clause-through : goal.returns-clause-through
returns-clause-through g c = λ w fresh.
    let s = g.F.Source in
    let before = c.feeders_of-feeders.result in
    let closed = c.close.result in
    let same : closed_taken closed ≡ taken c.run_at.new.gather.pass =
    c.close.ensures.taken ∙ ap taken c.finish-outcome.ensures.pass in
    went_through s w.limit c.args.sources c.apart-sources.result.0 before c.in-Some.five
    c.args.loom.makers c.args.loom.passes c.apart-sources.result.1 closed
    (record {
      sources_in = c.feeders_of-feeders.ensures.sources;
      sources_out = c.apart-sources.ensures.sources;
      later = subst (AreKept s (all_of before)) c.in-Some.is c.run_at.ensures.kept;
      makers_in = c.feeders_of-feeders.ensures.makers;
      fresh = fresh.makers;
      passes_in = c.feeders_of-feeders.ensures.passes;
      none = fresh.offers;
      numbers = fresh.numbers;
      passes_out = c.apart-sources.ensures.passes;
      told = c.close.ensures.offered;
      sound = c.close.ensures.fed;
      fronts = c.close.ensures.prefix;
      ended = subst AllEnded (sym same) c.run_at.ensures.ended;
      left = c.close.ensures.left;
    })
