use Rattle.std.proofs.Common.{◌≡◌, length}
use Rattle.std.specs.List.{list_all}
use Rattle.as_words.specs.Words.{is_word, is_words}
use Rattle.as_words.proofs.words.is_words.Given as goal

-- the words so far are words
abbrev pub invariant-loop-word : goal.invariant-loop-word
invariant-loop-word l = is_words l.bytes ≡ list_all is_word l.words

abbrev pub decreases-loop-word : goal.decreases-loop-word
decreases-loop-word l = length l.words
