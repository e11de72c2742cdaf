-- The plan of a query's text as a session takes it.
use Rattle.std.specs.Prelude.{ℕ, Result, List}
use Rattle.as_base.specs.declared.config.Config.{Config}
use Rattle.as_base.specs.declared.query.Plan.{Plan}
use Rattle.as_base.specs.declared.answer.Word.{Word}
use Rattle.query_plan.specs.Planning.{plan_of}

-- the plan of a text over the configured streams, or the word that refuses it
abbrev pub plan_for : Config → List ℕ → Result Plan Word
plan_for c text = plan_of c.streams text
