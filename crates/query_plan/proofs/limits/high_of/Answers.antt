use Rattle.std.proofs.Common.{◌≡◌, ap, ◌∙◌, get_or, arith, to_z, of_z, w64}
use Rattle.std.specs.Int.{int_min}
use Rattle.std.proofs.lemmas.Int.{ints, to_z-of_z}
use Rattle.query_text.specs.declared.ast.Cond.{Cond}
use Rattle.query_plan.specs.Limits.{high_by}
use Rattle.query_plan.proofs.LimitLaws.{no_cond, high_of-kept, high_of-more}
use Rattle.query_plan.proofs.limits.high_of.Goals as goal
use Rattle.query_plan.proofs.limits.high_of.Goals.{then-cond-field, else-cond-field}

pub loop-cond-preserved : goal.loop-cond-preserved
loop-cond-preserved c =
    elim c.if-cond-field.branch [
      | then-cond-field w ↦
          let cond : Cond = get_or c.args.conds.now c.loop-cond.cond-index no_cond in
          let value : to_z w64 (of_z w64 cond.value) ≡ cond.value = grind (arith, ints, to_z-of_z) in
          let given : to_z w64 (of_z w64 w.high_by.result) ≡ w.high_by.result = grind (arith, ints, to_z-of_z) in
          let kept : to_z w64 (of_z w64 w.min-high.result) ≡ w.min-high.result = grind (arith, ints, to_z-of_z) in
          w.high-is ∙ kept
          ∙ high_of-more c.args.field c.loop-cond.cond-index c.args.conds.now (to_z w64 c.loop-cond.high-bits) w.high_by.result w.min-high.result
          c.loop-cond-test.true c.loop-cond.invariant w.if-cond-field.true (w.high_by.ensures ∙ ap (high_by cond.op) value) (w.min-high.ensures.value ∙ ap (int_min (to_z w64 c.loop-cond.high-bits)) given)
      | else-cond-field w ↦
          w.high-is ∙ high_of-kept c.args.field c.loop-cond.cond-index c.args.conds.now (to_z w64 c.loop-cond.high-bits) c.loop-cond-test.true c.loop-cond.invariant w.if-cond-field.false
    ]
