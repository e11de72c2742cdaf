use Rattle.std.proofs.Common.{◌≡◌, ◌+◌, ◌-◌, FitsSigned, w64, length, drop, rules, sym, subst, ◌∙◌, arith}
use Rattle.std.proofs.lemmas.Int.{to_z-of_z}
use Rattle.views.specs.Groups.{groups}
use Rattle.views.proofs.GroupLaws.{RisesSigned-groups}
use Rattle.plain_engine.specs.Cells.{AreRising, AreWithin}
use Rattle.plain_engine.proofs.CellLaws.{fold-more, rising-cells}
use Rattle.plain_engine.proofs.cells.fold.Goals as goal

pub put-requires-clause-rising : goal.put-requires-clause-rising
put-requires-clause-rising c =
    let p = c.args.plan.now in
    let rest = drop c.loop-left.left c.args.records.now in
    subst AreRising (sym c.loop-left.invariant.1) (rising-cells p.kind p.group rest (groups p.group rest) (RisesSigned-groups p.group rest))

pub loop-left-preserved : goal.loop-left-preserved
loop-left-preserved c =
    let p = c.args.plan.now in
    let left = c.loop-left.left in
    let some = c.loop-left-test.true in
    let within = c.loop-left.invariant.0 in
    let group_fits : FitsSigned w64 c.group_of.result = search rules in
    let value_fits : FitsSigned w64 c.summand.result = search rules in
    let many : length c.args.records.now - left + 1 ≡ length c.args.records.now - (left - 1) = omega (arith, some, within) in (
      omega (arith, within),
      fold-more p.kind p.group c.args.records.now left _ c.loop-left.cells.items c.put.new.cells.items _ _ some within
          (to_z-of_z w64 c.group_of.result group_fits ∙ c.group_of.ensures) (to_z-of_z w64 c.summand.result value_fits ∙ c.summand.ensures) c.loop-left.invariant.1 c.in_ok-put.ensures.value,
      subst (λ n. AreWithin n c.put.new.cells.items) many c.in_ok-put.ensures.within,
    )
