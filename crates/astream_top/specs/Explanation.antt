-- What the command `explain` says.
use Rattle.std.specs.Prelude.{ℕ, Result, Ok, Err, List, ◌++◌, codes}
use Rattle.as_base.specs.declared.query.Plan.{Plan}
use Rattle.as_base.specs.declared.answer.Word.{Word}
use Rattle.as_outside.specs.declared.entry.Entry.{Entry}
use Rattle.as_outside.specs.declared.report.Status.{Status}
use Rattle.as_lineform.specs.Answer.{word_text}
use Rattle.query_plan.specs.Planning.{plan_of}
use Rattle.query_plan.specs.Text.{canonical_text}
use Rattle.astream_top.specs.Says.{SaysOnce}

-- the canonical text of the plan, or the word of the refusal
abbrev pub planned_text : Result Plan Word → List ℕ
planned_text (Ok plan) = canonical_text plan
planned_text (Err w) = word_text w

-- What a query text is over the four streams: its canonical text, or the word that refuses it, and a line feed.
abbrev pub explanation : List ℕ → List ℕ
explanation text = planned_text (plan_of 4 text) ++ codes "\n"

-- What the calls of an explanation are: one say of it.
abbrev pub IsExplained : List ℕ → Status → List Entry → Type 0
IsExplained text s calls = SaysOnce (explanation text) s calls
