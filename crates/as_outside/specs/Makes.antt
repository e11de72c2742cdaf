-- What calls on a shelf or a desk do to all that is seen of it: the one relation for calls.
use Rattle.std.specs.Prelude.{ℕ, ◌≡◌, ◌⊎◌, ◌<◌, ◌≤◌, ◌-◌, ◌^◌, Option, Some, List, ◌++◌}
use Rattle.std.specs.Option.{option_map}
use Rattle.as_outside.specs.declared.entry.Entry.{Entry}
use Rattle.as_outside.specs.Log.{pulled}
use Rattle.as_outside.specs.Failures.{say_failures, note_failures, pull_failures, failures}

-- How often a call failed: of says, notes and pulls, and of the begins and puts of each output.
pub record Faults : Type 0 where
  pub say : ℕ
  pub note : ℕ
  pub pull : ℕ
  pub output : ℕ → ℕ

-- What is seen of a shelf or a desk: all calls in order and the bytes that are left, where they are told, and its faults.
pub record Seen : Type 0 where
  pub log : Option (List Entry)
  pub left : Option (List ℕ)
  pub faults : Faults

-- If the log is told now, it was told before, and it has grown by these calls. A log that is not told stays so.
abbrev pub Tells : Option (List Entry) → Option (List Entry) → List Entry → Type 0
Tells old new calls = (now : List Entry) → new ≡ Some now → (before : List Entry) × (old ≡ Some before) × (now ≡ before ++ calls)

-- these bytes were taken off the front of what is left, if that is told; whether it is told never changes
abbrev pub Takes : Option (List ℕ) → Option (List ℕ) → List ℕ → Type 0
Takes old new bytes = old ≡ option_map (λ rest. bytes ++ rest) new

-- The count did not fall, and it rose or stands at the last value of a counter.
abbrev pub Rose : ℕ → ℕ → Type 0
Rose old new = (old ≤ new) × ((old < new) ⊎ (2 ^ 64 - 1 ≤ new))

-- Where so many of the calls that it counts failed: the count stays where none did, and rose where one did.
pub record Counts (failed old new : ℕ) : Type 0 where
  pub stays : failed ≡ 0 → new ≡ old
  pub rose : 0 < failed → Rose old new

-- No output has another count but those on which calls failed, so many on each; or, for want of memory to tell outputs
-- apart, all rose.
abbrev pub KeepsApart : (ℕ → ℕ) → (ℕ → ℕ) → (ℕ → ℕ) → Type 0
KeepsApart failed old new = ((n : ℕ) → failed n ≡ 0 → new n ≡ old n) ⊎ ((m : ℕ) × (0 < failed m) × ((n : ℕ) → Rose (old n) (new n)))

-- Where so many of the calls on each output failed: the count of an output rose where one did, and outputs are kept apart.
pub record CountsOutputs (failed old new : ℕ → ℕ) : Type 0 where
  pub rose : (n : ℕ) → 0 < failed n → Rose (old n) (new n)
  pub apart : KeepsApart failed old new

-- These calls were made.
pub record Makes (old new : Seen) (calls : List Entry) : Type 0 where
  pub tells : Tells old.log new.log calls
  pub takes : Takes old.left new.left (pulled calls)
  pub says : Counts (say_failures calls) old.faults.say new.faults.say
  pub notes : Counts (note_failures calls) old.faults.note new.faults.note
  pub pulls : Counts (pull_failures calls) old.faults.pull new.faults.pull
  pub outputs : CountsOutputs (λ n. failures n calls) old.faults.output new.faults.output

-- Some calls were made, whether they are told or not, and they have P.
pub record Does (old new : Seen) (P : List Entry → Type 0) : Type 0 where
  pub calls : List Entry
  pub makes : Makes old new calls
  pub holds : P calls
