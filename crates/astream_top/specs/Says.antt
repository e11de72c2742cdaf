-- What the calls are of a command that says one text.
use Rattle.std.specs.Prelude.{ℕ, ◌≡◌, List, [], ◌∷◌}
use Rattle.as_words.specs.Prefix.{IsPrefix}
use Rattle.as_outside.specs.declared.entry.Entry.{Entry}
use Rattle.as_outside.specs.declared.entry.Entry.TheVariants.{Said, SayFailed}
use Rattle.as_outside.specs.declared.report.Status.{Status}
use Rattle.as_outside.specs.declared.report.Status.TheVariants as status

-- The calls are one say of the text, of which a prefix was said where it failed, and none at all where there was no memory.
abbrev pub SaysOnce : List ℕ → Status → List Entry → Type 0
SaysOnce text status.Done calls = calls ≡ Said text ∷ []
SaysOnce text status.AnswerFault calls = (front : List ℕ) × IsPrefix front text × (calls ≡ SayFailed front ∷ [])
SaysOnce text status.NoMemory calls = calls ≡ []
SaysOnce text _ calls = ⊥
