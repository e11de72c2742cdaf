-- What the calls that were made say of the counts of faults, and of the input.
use Rattle.std.proofs.Common.{◌≡◌, ◌⊎◌, ◌≤◌, ◌<◌, ℕ, Bool, true, false, cond, Result, Ok, Err, OnOk, Option, Some, None, List, [], ◌∷◌, ◌++◌, length, length-append, refl, sym, ap, subst, ◌∙◌, arith, inl, inr, ⊎_elim, is_none, true≢false}
use Rattle.as_base.specs.declared.config.Config.{Config}
use Rattle.as_base.specs.Times.{times}
use Rattle.as_base.proofs.TimesLaws.{times-cons}
use Rattle.as_outside.specs.declared.entry.Entry.{Entry}
use Rattle.as_outside.specs.declared.entry.Entry.TheVariants.{Said, SayFailed}
use Rattle.as_outside.specs.declared.report.Status.{Status}
use Rattle.as_outside.specs.declared.report.Status.TheVariants as status
use Rattle.as_outside.specs.Log.{pulled}
use Rattle.as_outside.specs.Failures.{failures, say_failures, pull_failures, note_failures}
use Rattle.as_outside.specs.Makes.{Seen, Faults, Rose, Counts, CountsOutputs, Takes, Makes, Does}
use Rattle.as_outside.proofs.MakesLaws.{CountsOutputs-same, same_number}
use Rattle.service.specs.declared.stop.Stop.{Stop}
use Rattle.service.specs.declared.stop.Stop.TheVariants as stop
use Rattle.soak.specs.Soaked.{items_of, soak_text}
use Rattle.astream_top.specs.declared.command.Command.{Command}
use Rattle.astream_top.specs.declared.command.Command.TheVariants.{Run, Soak, Generate, Explain}
use Rattle.astream_top.specs.Command.{OnlySays}
use Rattle.astream_top.specs.Explanation.{explanation, IsExplained}
use Rattle.astream_top.specs.Generation.{IsGenerated, IsSoaked}
use Rattle.astream_top.specs.Says.{SaysOnce}
use Rattle.astream_top.specs.Ends.{pulls_failed, says_failed, StandsBy, IsEnded}
use Rattle.astream_top.specs.Causes.{Tells, IsCaused, IsRead, EndsSurely}
use Rattle.astream_top.specs.Run.{status_of, ended_by, IsEmptied}

-- what a status tells of the broken outputs
tells : (c : Config) (limit count : ℕ) (s : Status) (broken : List ℕ) (calls : List Entry) → StandsBy c limit s count broken calls → Tells s broken
tells c limit count status.Done broken calls h = h.0
tells c limit count status.OutputBroken broken calls h = h.0
tells c limit count status.NoMemory broken calls h = tt
tells c limit count status.ReadFault broken calls h = tt
tells c limit count status.AnswerFault broken calls h = tt
tells c limit count status.TooLong broken calls h = tt
tells c limit count status.Usage broken calls h = absurd h
tells c limit count status.JournalFault broken calls h = absurd h

-- A run ended so only where the counts of faults tell it.
pub caused : (c : Config) (limit count : ℕ) (s : Status) (broken : List ℕ) (a b : Seen) → Does a b (IsEnded c limit s count broken) → IsCaused s broken a.faults b.faults
caused c limit count s broken a b h = record {
  pulls = subst (λ n. Counts n a.faults.pull b.faults.pull) h.holds.pulls h.makes.pulls;
  says = subst (λ n. Counts n a.faults.say b.faults.say) h.holds.says h.makes.says;
  notes = h.makes.notes.stays h.holds.notes;
  outputs = CountsOutputs-same (λ n. failures n h.calls) (λ n. times n broken) a.faults.output b.faults.output h.holds.outputs_broken.listed h.makes.outputs;
  told = tells c limit count s broken h.calls h.holds.stands;
}

-- calls that say, at most, end so by the says that failed
pub said_so : (s : Status) (calls : List Entry) (a b : Seen) → Makes a b calls → pull_failures calls ≡ pulls_failed s → say_failures calls ≡ says_failed s → note_failures calls ≡ 0
    → ((n : ℕ) → failures n calls ≡ 0) → Tells s [] → IsCaused s [] a.faults b.faults
said_so s calls a b makes pulls says notes outputs told = record {
  pulls = subst (λ n. Counts n a.faults.pull b.faults.pull) pulls makes.pulls;
  says = subst (λ n. Counts n a.faults.say b.faults.say) says makes.says;
  notes = makes.notes.stays notes;
  outputs = CountsOutputs-same (λ n. failures n calls) (λ n. times n []) a.faults.output b.faults.output (λ n. sym (outputs n)) makes.outputs;
  told = told;
}

pub said_causes : (a b : Seen) (bytes : List ℕ) → Makes a b (Said bytes ∷ []) → IsCaused status.Done [] a.faults b.faults
said_causes a b bytes makes = said_so status.Done (Said bytes ∷ []) a b makes refl refl refl (λ n. refl) refl

pub unsaid_causes : (a b : Seen) (front : List ℕ) → Makes a b (SayFailed front ∷ []) → IsCaused status.AnswerFault [] a.faults b.faults
unsaid_causes a b front makes = said_so status.AnswerFault (SayFailed front ∷ []) a b makes refl refl refl (λ n. refl) tt

-- ---- the input

-- what was told to be left is what was pulled, and what is left then
all_pulled : (a b : Option (List ℕ)) (bytes input : List ℕ) → Takes a b bytes → a ≡ Some input → (rest : List ℕ) × (b ≡ Some rest) × (input ≡ bytes ++ rest)
all_pulled a None bytes input takes is = absurd (true≢false (ap is_none (sym takes ∙ is)))
all_pulled a (Some rest) bytes input takes is = (rest, refl, some (sym is ∙ takes))
  where
    some : Some input ≡ Some (bytes ++ rest) → input ≡ bytes ++ rest
    some e = cc

pub read : (c : Config) (limit count : ℕ) (s : Status) (broken input : List ℕ) (a b : Seen) → Does a b (IsEnded c limit s count broken) → ((s ≡ status.Done) ⊎ (s ≡ status.OutputBroken) → IsEmptied b)
    → a.left ≡ Some input → IsRead limit input s b.left
read c limit count s broken input a b h emptied is = go s h.holds.stands emptied
  where
    all : (rest : List ℕ) × (b.left ≡ Some rest) × (input ≡ pulled h.calls ++ rest)
    all = all_pulled a.left b.left (pulled h.calls) input h.makes.takes is

    whole : IsEmptied b → length (pulled h.calls) ≤ limit → (length input ≤ limit) × (b.left ≡ Some [])
    whole none fits = (omega (arith, fits, ap length all.2, length-append (pulled h.calls) all.0, ap length (none all.0 all.1)), all.1 ∙ ap Some (none all.0 all.1))

    go : (s : Status) → StandsBy c limit s count broken h.calls → ((s ≡ status.Done) ⊎ (s ≡ status.OutputBroken) → IsEmptied b) → IsRead limit input s b.left
    go status.Done t none = whole (none (inl refl)) t.1.fits
    go status.OutputBroken t none = whole (none (inr refl)) t.1.fits
    go status.TooLong t none = omega (arith, t.over, ap length all.2, length-append (pulled h.calls) all.0)
    go status.NoMemory t none = tt
    go status.ReadFault t none = tt
    go status.AnswerFault t none = tt
    go status.Usage t none = tt
    go status.JournalFault t none = tt

-- ---- the outcome

abbrev reads_all : Status → Bool
reads_all status.Done = true
reads_all status.OutputBroken = true
reads_all _ = false

-- only a run that was not stopped has read all its input
pub not_stopped : (r : Result (Unit {0}) Stop) (broken : List ℕ) (P : Type 0) → OnOk r P → (ended_by r broken ≡ status.Done) ⊎ (ended_by r broken ≡ status.OutputBroken) → P
not_stopped (Ok tt) broken P holds is = holds
not_stopped (Err s) broken P holds is = absurd (no s (⊎_elim (λ e. ap reads_all e) (λ e. ap reads_all e) is))
  where
    no : (s : Stop) → reads_all (status_of s) ≡ true → ⊥
    no stop.NoMemory e = true≢false (sym e)
    no stop.ReadFault e = true≢false (sym e)
    no stop.AnswerFault e = true≢false (sym e)
    no stop.TooLong e = true≢false (sym e)

-- ---- an outside that never fails

never_rose : (a b : ℕ) → a ≡ 0 → b ≡ 0 → Rose a b → ⊥
never_rose a b za zb rose = ⊎_elim (λ l. omega (arith, za, zb, l)) (λ l. omega (arith, zb, l)) rose.1

stands_first : (n : ℕ) (broken : List ℕ) → 0 < times n (n ∷ broken)
stands_first n broken = let one = ap {B = ℕ} (λ b. cond b 1 0) (same_number n) in omega (arith, times-cons n n broken, one)

pub surely : (limit : ℕ) (input : List ℕ) (s : Status) (broken : List ℕ) (left : Option (List ℕ)) (old new : Faults) → old.say ≡ 0 → new.say ≡ 0 → old.pull ≡ 0 → new.pull ≡ 0
    → ((n : ℕ) → old.output n ≡ 0) → ((n : ℕ) → new.output n ≡ 0) → IsCaused s broken old new → IsRead limit input s left → (s ≡ status.Usage → ⊥) → EndsSurely limit input s
surely limit input status.Done broken left old new a b p q m n caused read used = read.0
surely limit input status.TooLong broken left old new a b p q m n caused read used = read
surely limit input status.NoMemory broken left old new a b p q m n caused read used = tt
surely limit input status.Usage broken left old new a b p q m n caused read used = absurd (used refl)
surely limit input status.JournalFault broken left old new a b p q m n caused read used = absurd caused.told
surely limit input status.ReadFault broken left old new a b p q m n caused read used = absurd (never_rose old.pull new.pull p q (caused.pulls.rose (omega arith)))
surely limit input status.AnswerFault broken left old new a b p q m n caused read used = absurd (never_rose old.say new.say a b (caused.says.rose (omega arith)))
surely limit input status.OutputBroken broken left old new a b p q m n caused read used = absurd (go broken caused.outputs caused.told)
  where
    go : (broken : List ℕ) → CountsOutputs (λ k. times k broken) old.output new.output → (broken ≡ [] → ⊥) → ⊥
    go [] outputs some = some refl
    go (k ∷ rest) outputs some = never_rose (old.output k) (new.output k) (m k) (n k) (outputs.rose k (stands_first k rest))

-- a command that only says something ends so
abbrev EndsSaying : Status → Type 0
EndsSaying status.Done = Unit {0}
EndsSaying status.NoMemory = Unit {0}
EndsSaying status.AnswerFault = Unit {0}
EndsSaying _ = ⊥

once_ends : (text : List ℕ) (s : Status) (calls : List Entry) → SaysOnce text s calls → EndsSaying s
once_ends text status.Done calls h = tt
once_ends text status.NoMemory calls h = tt
once_ends text status.AnswerFault calls h = tt
once_ends text status.Usage calls h = absurd h
once_ends text status.ReadFault calls h = absurd h
once_ends text status.OutputBroken calls h = absurd h
once_ends text status.TooLong calls h = absurd h
once_ends text status.JournalFault calls h = absurd h

lines_end : (number lines streams : ℕ) (s : Status) (count : ℕ) (calls : List Entry) → IsGenerated number lines streams s count calls → EndsSaying s
lines_end number lines streams status.Done count calls h = tt
lines_end number lines streams status.NoMemory count calls h = tt
lines_end number lines streams status.AnswerFault count calls h = tt
lines_end number lines streams status.Usage count calls h = absurd h
lines_end number lines streams status.ReadFault count calls h = absurd h
lines_end number lines streams status.OutputBroken count calls h = absurd h
lines_end number lines streams status.TooLong count calls h = absurd h
lines_end number lines streams status.JournalFault count calls h = absurd h

-- so ends each command that is no run, by what is said of each
pub ends : (command : Command) (s : Status) (lines : ℕ) (a b : Seen) → OnlySays command
    → ((c : Config) (number count : ℕ) → command ≡ Soak c number count → Does a b (IsSoaked c number count s lines))
    → ((number count streams : ℕ) → command ≡ Generate number count streams → Does a b (IsGenerated number count streams s lines))
    → ((text : List ℕ) → command ≡ Explain text → Does a b (IsExplained text s))
    → EndsSaying s
ends (Run c limit) s lines a b only soaked generated explained = absurd only
ends (Soak c number count) s lines a b only soaked generated explained = let h = soaked c number count refl in once_ends (soak_text c (items_of number count c.streams)) s h.calls h.holds.1
ends (Generate number count streams) s lines a b only soaked generated explained = let h = generated number count streams refl in lines_end number count streams s lines h.calls h.holds
ends (Explain text) s lines a b only soaked generated explained = let h = explained text refl in once_ends (explanation text) s h.calls h.holds

pub surely_said : (s : Status) (broken : List ℕ) (old new : Faults) → old.say ≡ 0 → new.say ≡ 0 → IsCaused s broken old new → EndsSaying s → (s ≡ status.Done) ⊎ (s ≡ status.NoMemory)
surely_said status.Done broken old new a b caused h = inl refl
surely_said status.NoMemory broken old new a b caused h = inr refl
surely_said status.AnswerFault broken old new a b caused h = absurd (never_rose old.say new.say a b (caused.says.rose (omega arith)))
surely_said status.Usage broken old new a b caused h = absurd h
surely_said status.ReadFault broken old new a b caused h = absurd h
surely_said status.OutputBroken broken old new a b caused h = absurd h
surely_said status.TooLong broken old new a b caused h = absurd h
surely_said status.JournalFault broken old new a b caused h = absurd h
