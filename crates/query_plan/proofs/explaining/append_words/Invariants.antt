use Rattle.std.proofs.Common.{◌≡◌, ◌++◌, take}
use Rattle.as_words.specs.Words.{spaced}
use Rattle.query_plan.specs.Text.{words_at}
use Rattle.query_plan.proofs.explaining.append_words.Given as goal

abbrev pub invariant-loop-word : goal.invariant-loop-word
invariant-loop-word l = l.out.items ≡ l.fn.out.items ++ spaced (words_at (take l.word-index l.words))
