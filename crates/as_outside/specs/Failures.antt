-- Which calls of a log failed, and how often calls of each kind did.
use Rattle.std.specs.Prelude.{ℕ, ◌≡◌, ◌==◌, if◌then◌else◌, List, [], ◌∷◌, ◌++◌}
use Rattle.std.specs.List.{sum_by}
use Rattle.as_outside.specs.declared.entry.Entry.{Entry}
use Rattle.as_outside.specs.declared.entry.Entry.TheVariants.{PullFailed, SayFailed, NoteFailed, BeginFailed, PutFailed}

-- The last call is this one.
abbrev pub EndsWith : List Entry → Entry → Type 0
EndsWith calls e = (before : List Entry) × (calls ≡ before ++ e ∷ [])

-- 1 where the call is a failed begin or put of output n
abbrev pub failed_on : ℕ → Entry → ℕ
failed_on n (BeginFailed m) = if m == n then 1 else 0
failed_on n (PutFailed m bytes) = if m == n then 1 else 0
failed_on n _ = 0

-- how often a call on output n failed
abbrev pub failures : ℕ → List Entry → ℕ
failures n log = sum_by (failed_on n) log

abbrev pub say_failed_by : Entry → ℕ
say_failed_by (SayFailed bytes) = 1
say_failed_by _ = 0

-- how often a say failed
abbrev pub say_failures : List Entry → ℕ
say_failures log = sum_by say_failed_by log

abbrev pub note_failed_by : Entry → ℕ
note_failed_by (NoteFailed bytes) = 1
note_failed_by _ = 0

-- how often a note failed
abbrev pub note_failures : List Entry → ℕ
note_failures log = sum_by note_failed_by log

abbrev pub pull_failed_by : Entry → ℕ
pull_failed_by PullFailed = 1
pull_failed_by _ = 0

-- how often a pull failed
abbrev pub pull_failures : List Entry → ℕ
pull_failures log = sum_by pull_failed_by log
