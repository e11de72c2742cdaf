use Rattle.std.proofs.Common.{◌≡◌, ap, ◌∙◌, get_or, arith, to_z, of_z, w64}
use Rattle.std.specs.Int.{int_max}
use Rattle.std.proofs.lemmas.Int.{ints, to_z-of_z}
use Rattle.query_text.specs.declared.ast.Cond.{Cond}
use Rattle.query_plan.specs.Limits.{low_by}
use Rattle.query_plan.proofs.LimitLaws.{no_cond, low_of-kept, low_of-more}
use Rattle.query_plan.proofs.limits.low_of.Goals as goal
use Rattle.query_plan.proofs.limits.low_of.Goals.{then-cond-field, else-cond-field}

pub loop-cond-preserved : goal.loop-cond-preserved
loop-cond-preserved c =
    elim c.if-cond-field.branch [
      | then-cond-field w ↦
          let cond : Cond = get_or c.args.conds.now c.loop-cond.cond-index no_cond in
          let value : to_z w64 (of_z w64 cond.value) ≡ cond.value = grind (arith, ints, to_z-of_z) in
          let given : to_z w64 (of_z w64 w.low_by.result) ≡ w.low_by.result = grind (arith, ints, to_z-of_z) in
          let kept : to_z w64 (of_z w64 w.max-low.result) ≡ w.max-low.result = grind (arith, ints, to_z-of_z) in
          w.low-is ∙ kept
          ∙ low_of-more c.args.field c.loop-cond.cond-index c.args.conds.now (to_z w64 c.loop-cond.low-bits) w.low_by.result w.max-low.result
          c.loop-cond-test.true c.loop-cond.invariant w.if-cond-field.true (w.low_by.ensures ∙ ap (low_by cond.op) value) (w.max-low.ensures.value ∙ ap (int_max (to_z w64 c.loop-cond.low-bits)) given)
      | else-cond-field w ↦
          w.low-is ∙ low_of-kept c.args.field c.loop-cond.cond-index c.args.conds.now (to_z w64 c.loop-cond.low-bits) c.loop-cond-test.true c.loop-cond.invariant w.if-cond-field.false
    ]
