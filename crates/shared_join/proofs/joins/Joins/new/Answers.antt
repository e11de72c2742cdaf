use Rattle.shared_join.specs.Joins.{lane_place, met_of}
use Rattle.shared_join.proofs.JoinLaws.{met-none}
use Rattle.shared_join.proofs.joins.Joins.new.Goals as goal

pub returns : goal.returns
unfolding met_of
returns c = λ s x t y. met-none c.new_lanes.result c.new_lanes.ensures (lane_place s t) x y
