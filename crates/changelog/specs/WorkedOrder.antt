-- Worked changes that may come one after another.
use Rattle.std.specs.Prelude.{refl, [], ◌∷◌}
use Rattle.std.proofs.Common.{arith}
use Rattle.as_base.specs.declared.message.Change.TheVariants.{Opened, Closed}
use Rattle.as_base.specs.declared.query.Plan.{Plan}
use Rattle.changelog.specs.Orderly.{IsOrderly}

-- a query is opened and closed, and its slot opened again
pub may_come : (plan : Plan) → IsOrderly (Opened 1 0 0 plan ∷ Closed 1 0 11 ∷ Opened 2 0 11 plan ∷ [])
may_come plan = (
  record { time = omega arith; most = omega arith; within = omega arith; suits = tt },
  (
    record { time = omega arith; most = omega arith; within = omega arith; suits = record { one = refl; each = ((λ live. refl), tt) } },
    (record { time = omega arith; most = omega arith; within = omega arith; suits = ((λ here. refl), tt) }, tt),
  ),
)
