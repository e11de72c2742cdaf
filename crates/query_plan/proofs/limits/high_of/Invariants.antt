use Rattle.std.proofs.Common.{◌≡◌, take}
use Rattle.query_plan.specs.Limits.{high_of}
use Rattle.query_plan.proofs.limits.high_of.Given as goal

abbrev pub invariant-loop-cond : goal.invariant-loop-cond
invariant-loop-cond l = l.high ≡ high_of l.field (take l.cond-index l.conds)
