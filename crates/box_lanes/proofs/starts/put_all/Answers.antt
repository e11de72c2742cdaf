use Rattle.std.proofs.Common.{◌∙◌, List, Bool, get_or, set, sym, ap, arith}
use Rattle.std.proofs.lemmas.List.Edits.{map_over_more}
use Rattle.box_lanes.specs.declared.start.Start.{Start}
use Rattle.box_lanes.specs.Index.{put_slot}
use Rattle.box_lanes.proofs.starts.put_all.Goals as goal

pub loop-start-preserved : goal.loop-start-preserved
loop-start-preserved c =
    let starts = c.loop-start.starts in
    let i = c.loop-start.start-index in
    let item = c.start-item.result in
    ap (λ (x : List Bool). set starts i (record { low = (get_or starts i item).low; set = x })) c.with-start.ensures.value
    ∙ ap (λ (s : Start). set starts i (put_slot c.args.slot c.args.on s)) (sym c.start-item.is)
    ∙ map_over_more (put_slot c.args.slot c.args.on) c.args.starts.now starts i item (omega arith) c.loop-start.invariant c.start-item.is
