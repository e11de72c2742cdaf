use Rattle.std.proofs.lemmas.Result.{on_ok_weaker}
use Rattle.shared_join.proofs.LaneLaws.{put-row}
use Rattle.shared_join.proofs.lanes.put.Goals as goal

pub returns-in-Some-clause-ok : goal.returns-in-Some-clause-ok
returns-in-Some-clause-ok c =
    on_ok_weaker c.put_in_row.result (put-row c.args.lane.now c.put_in_row.new.lane c.in-Some.place c.args.first c.args.second c.args.pairs
    c.in-Some.ensures.begins c.in-Some.ensures.looked c.requires) c.put_in_row.ensures.looks
