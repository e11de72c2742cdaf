use Rattle.std.proofs.Common.{ap, ◌∙◌, arith}
use Rattle.std.proofs.lemmas.Bool.{eqb-true}
use Rattle.as_base.specs.Stream.{place_of}
use Rattle.shared_agg.specs.Aggs.{cells_in}
use Rattle.contents.proofs.CellLaws.{same-stream}
use Rattle.part_state.proofs.DropLaws.{thinned-then, drop-step}
use Rattle.part_state.proofs.drop.drop_passed.Goals as goal

pub loop-next-preserved : goal.loop-next-preserved
loop-next-preserved c = (
  (let l = c.if-mark-start.false in omega (arith, l)),
  drop-step c.args.s c.args.marks.now c.args.entries.now c.args.aggs.now c.loop-next.aggs c.drop_at.new.aggs c.loop-next.next c.in-Some.start
      c.in-Some.ensures.from c.loop-next.invariant.1
      (λ t at slot e from before. ap (λ u. cells_in c.loop-next.aggs u at slot) (same-stream t c.args.s (eqb-true (place_of t) (place_of c.args.s) e)) ∙ c.in-Some.ensures.none at slot from before)
      c.drop_at.ensures.cells,
  thinned-then c.args.aggs.now c.loop-next.aggs c.drop_at.new.aggs c.loop-next.invariant.2 c.drop_at.ensures.thinned,
)
