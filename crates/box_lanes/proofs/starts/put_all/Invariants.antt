use Rattle.std.proofs.Common.{◌≡◌, ◌++◌, map, take, drop}
use Rattle.box_lanes.specs.Index.{put_slot}
use Rattle.box_lanes.proofs.starts.put_all.Given as goal

abbrev pub invariant-loop-start : goal.invariant-loop-start
invariant-loop-start l = l.starts ≡ map (put_slot l.slot l.on) (take l.start-index l.initial.starts) ++ drop l.start-index l.initial.starts
