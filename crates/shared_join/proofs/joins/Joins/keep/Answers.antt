use Rattle.std.proofs.lemmas.Result.{on_ok_weaker}
use Rattle.shared_join.specs.Joins.{met_of}
use Rattle.shared_join.proofs.JoinLaws.{met-more}
use Rattle.shared_join.proofs.joins.Joins.keep.Goals as goal

pub returns-clause-ok : goal.returns-clause-ok
unfolding met_of
returns-clause-ok c =
    on_ok_weaker c.put_at.result (λ more. met-more c.args.s c.args.t c.args.first c.args.second c.lane_place-place.result c.args.pairs c.args.self.now.lanes c.put_at.new.lanes
    c.lane_place-place.ensures.place more c.put_at.ensures.others) c.put_at.ensures.ok
