-- Which calls of a log failed, along `++`.
use Rattle.std.proofs.Common.{ℕ, ◌≡◌, ◌+◌, false, true≢false, List, [], ◌∷◌, ◌++◌, refl, arith}
use Rattle.std.proofs.lemmas.List.Sums.{sum_by-append, sum_by-cons}
use Rattle.as_outside.specs.declared.entry.Entry.{Entry}
use Rattle.as_outside.specs.declared.entry.Entry.TheVariants.{PullFailed, NoteFailed}
use Rattle.as_outside.specs.Entries.{HasNo}
use Rattle.as_outside.specs.Log.{is_cue}
use Rattle.as_outside.specs.Failures.{failed_on, failures, say_failed_by, say_failures, note_failed_by, note_failures, pull_failed_by, pull_failures}

pub failures-append : (n : ℕ) (a b : List Entry) → failures n (a ++ b) ≡ failures n a + failures n b
failures-append n a b = sum_by-append (failed_on n) a b

pub failures-cons : (n : ℕ) (e : Entry) (log : List Entry) → failures n (e ∷ log) ≡ failed_on n e + failures n log
failures-cons n e log = sum_by-cons (failed_on n) e log

pub say_failures-append : (a b : List Entry) → say_failures (a ++ b) ≡ say_failures a + say_failures b
say_failures-append a b = sum_by-append say_failed_by a b

pub note_failures-append : (a b : List Entry) → note_failures (a ++ b) ≡ note_failures a + note_failures b
note_failures-append a b = sum_by-append note_failed_by a b

pub pull_failures-append : (a b : List Entry) → pull_failures (a ++ b) ≡ pull_failures a + pull_failures b
pull_failures-append a b = sum_by-append pull_failed_by a b

-- calls that are no cues fail as none

not_pull : (e : Entry) → is_cue e ≡ false → pull_failed_by e ≡ 0
not_pull PullFailed quiet = absurd (true≢false quiet)
not_pull _ quiet = refl

not_note : (e : Entry) → is_cue e ≡ false → note_failed_by e ≡ 0
not_note (NoteFailed bytes) quiet = absurd (true≢false quiet)
not_note _ quiet = refl

pub pull_failures-quiet : (log : List Entry) → HasNo is_cue log → pull_failures log ≡ 0
pull_failures-quiet [] quiet = refl
pull_failures-quiet (e ∷ log) quiet = omega (arith, sum_by-cons pull_failed_by e log, not_pull e quiet.0, pull_failures-quiet log quiet.1)

pub note_failures-quiet : (log : List Entry) → HasNo is_cue log → note_failures log ≡ 0
note_failures-quiet [] quiet = refl
note_failures-quiet (e ∷ log) quiet = omega (arith, sum_by-cons note_failed_by e log, not_note e quiet.0, note_failures-quiet log quiet.1)
