-- When the outputs of a log are those of numbered texts, and which of them are broken.
use Rattle.std.specs.Prelude.{ℕ, ◌≡◌, ◌<◌, List, [], ◌∷◌}
use Rattle.std.specs.List.Sorted.{IsStrictlyIncreasing}
use Rattle.as_words.specs.Prefix.{IsPrefix}
use Rattle.as_base.specs.Times.{times}
use Rattle.as_outside.specs.declared.entry.Entry.{Entry}
use Rattle.as_outside.specs.Log.{begins, puts, held}
use Rattle.as_outside.specs.Failures.{failures, failed_on}

-- no call on output n follows one that failed
abbrev pub EndsAtFailure : ℕ → List Entry → Type 0
EndsAtFailure n [] = Unit {0}
EndsAtFailure n (e ∷ log) = (failed_on n e ≡ 1 → (begins n log ≡ 0) × (puts n log ≡ 0)) × EndsAtFailure n log

-- The outputs are those of the numbered texts.
pub record AreOutputs (numbers : List ℕ) (text : ℕ → List ℕ) (log : List Entry) : Type 0 where
  -- each number's output was begun as often as the number stands in the list, and no other was
  pub begun : (n : ℕ) → begins n log ≡ times n numbers
  -- nothing was put on any other output
  pub others : (n : ℕ) → times n numbers ≡ 0 → puts n log ≡ 0
  -- an output on which no call failed holds its text
  pub whole : (n : ℕ) → failures n log ≡ 0 → held n log ≡ text n
  -- one on which a call failed holds a prefix of it
  pub broken : (n : ℕ) → 0 < failures n log → IsPrefix (held n log) (text n)
  -- and had no further call
  pub ended : (n : ℕ) → EndsAtFailure n log

-- Each number stands in the list as often as a call on its output failed, which is at most once.
abbrev pub AreListed : List ℕ → List Entry → Type 0
AreListed broken log = (n : ℕ) → times n broken ≡ failures n log

-- These are the broken outputs, by rising number.
pub record AreBroken (broken : List ℕ) (log : List Entry) : Type 0 where
  pub rising : IsStrictlyIncreasing broken
  pub listed : AreListed broken log
