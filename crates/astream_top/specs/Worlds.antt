-- Two runs beside one another: what each made of an output, and which view it made that from.
use Rattle.std.specs.Prelude.{ℕ, ◌≡◌, true, List, ◌∷◌, ◌++◌}
use Rattle.as_base.specs.Times.{times}
use Rattle.as_base.specs.declared.config.Config.{Config}
use Rattle.as_outside.specs.declared.entry.Entry.{Entry}
use Rattle.as_outside.specs.declared.report.Status.{Status}
use Rattle.as_outside.specs.declared.report.Status.TheVariants as status
use Rattle.as_outside.specs.Log.{is_pull, pulled, begins, held}
use Rattle.as_outside.specs.Failures.{failures}
use Rattle.as_lineform.specs.Lines.{lines, items}
use Rattle.views.specs.View.{View}
use Rattle.session.specs.View.{view}
use Rattle.session.specs.Shut.{shut}

-- What calls made of an output: how often it was begun, and the bytes that it holds.
pub record Output : Type 0 where
  pub begun : ℕ
  pub bytes : List ℕ

-- what these calls made of output n
abbrev pub output : ℕ → List Entry → Output
output n calls = record { begun = begins n calls; bytes = held n calls }

-- none of these calls on output n failed
abbrev pub IsUnbroken : ℕ → List Entry → Type 0
IsUnbroken n calls = failures n calls ≡ 0

-- output n is none of the broken ones
abbrev pub IsNotAmong : ℕ → List ℕ → Type 0
IsNotAmong n broken = times n broken ≡ 0

-- A run that ended so took all of its input: nothing failed, or nothing but outputs.
abbrev pub TakesAll : Status → Type 0
TakesAll status.Done = Unit {0}
TakesAll status.OutputBroken = Unit {0}
TakesAll _ = ⊥

-- the view of all the input that these calls pulled, and of the ends that follow it
abbrev pub view_in_the_end : Config → List Entry → View
view_in_the_end c calls = view c (shut c (items (pulled calls)))

-- the view of the whole lines that these calls pulled
abbrev pub view_so_far : Config → List Entry → View
view_so_far c calls = view c (lines (pulled calls))

-- Of all calls, these are the ones before some pull, failed or not.
pub record StandBeforePull (before calls : List Entry) : Type 0 where
  pub pull : Entry
  pub after : List Entry
  pub pulls : is_pull pull ≡ true
  pub all : calls ≡ before ++ pull ∷ after
