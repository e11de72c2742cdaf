use Rattle.std.proofs.Common.{ap, ◌∙◌, ◌+◌}
use Rattle.inbox.specs.Roles.{part, roles_in}
use Rattle.crossbeam_queue.specs.Passes.{view}
use Rattle.inbox.specs.Sound.{IsSound}
use Rattle.inbox.proofs.Passing.{merges}
use Rattle.inbox.proofs.Closing.{brought, keeps, gains, counts, roles_alone}
use Rattle.inbox.proofs.seats.bring.Goals as goal

pub absorb-requires-clause-rule : goal.absorb-requires-clause-rule
absorb-requires-clause-rule g c = merges IsSound g.W.Watch.sees _ _ _ _

pub returns-clause-kept : goal.returns-clause-kept
returns-clause-kept g c role parcels held =
    let t = brought IsSound g.W.Watch.sees (view c.args.into.now) (view c.args.feed.pass) _ _ c.absorb.ensures.rule c.learn_as.ensures.queue.1 c.learn_as.ensures.rule in
    ap (λ u. part u role) t.1 ∙ keeps (view c.args.into.now) (view c.args.feed.pass) t.0 role parcels held

pub returns-clause-gained : goal.returns-clause-gained
returns-clause-gained g c =
    let t = brought IsSound g.W.Watch.sees (view c.args.into.now) (view c.args.feed.pass) _ _ c.absorb.ensures.rule c.learn_as.ensures.queue.1 c.learn_as.ensures.rule in
    ap (λ u. part u c.args.feed.feeder) t.1 ∙ gains (view c.args.into.now) (view c.args.feed.pass) c.args.feed.feeder _ t.0 c.args.feed.own.2.1

pub returns-clause-count : goal.returns-clause-count
returns-clause-count g c =
    let t = brought IsSound g.W.Watch.sees (view c.args.into.now) (view c.args.feed.pass) _ _ c.absorb.ensures.rule c.learn_as.ensures.queue.1 c.learn_as.ensures.rule in
    ap roles_in t.1 ∙ counts (view c.args.into.now) (view c.args.feed.pass) t.0 ∙ ap (λ n. roles_in (view c.args.into.now) + n) (roles_alone c.args.feed.feeder (view c.args.feed.pass) c.args.feed.own.1 c.args.feed.own.2)
