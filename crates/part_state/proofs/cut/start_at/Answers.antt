use Rattle.std.proofs.Common.{sym, ◌∙◌, arith}
use Rattle.part_state.proofs.cut.start_at.Goals as goal

pub returns-then-time-cut : goal.returns-then-time-cut
returns-then-time-cut c = λ cs stands kept was. (
  was,
  sym (was.same (c.if-cut-changes.true ∙ c.last-changes.ensures.changes cs stands) c.args.time c.if-cut-time.true c.if-time-cut.true),
)

pub returns : goal.returns
returns c = λ cs stands kept was. (
  record {
    changes = let l = c.last-changes.ensures.changes cs stands in omega (arith, l);
    same = λ e u from until. c.slice_end.ensures.same cs stands kept u from until ∙ sym (c.slice_start-start.ensures cs stands kept);
  },
  c.slice_start-start.ensures cs stands kept,
)
