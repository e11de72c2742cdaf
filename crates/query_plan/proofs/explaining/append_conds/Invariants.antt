use Rattle.std.proofs.Common.{◌≡◌, ◌++◌}
use Rattle.query_text.specs.Spelling.{conds_words}
use Rattle.as_words.specs.Words.{spaced}
use Rattle.query_plan.proofs.TextLaws.{lead_after, first_conds}
use Rattle.query_plan.proofs.explaining.append_conds.Given as goal

abbrev pub invariant-loop-field : goal.invariant-loop-field
invariant-loop-field l =
    (l.out.items ≡ l.fn.out.items ++ spaced (conds_words l.fn.opening (first_conds l.bounds l.field))) × (l.lead ≡ lead_after l.fn.opening (first_conds l.bounds l.field))
