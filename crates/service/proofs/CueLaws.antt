-- A cue, a pull or a note, changes nothing that is due.
use Rattle.std.proofs.Common.{ℕ, ◌≡◌, true, List, [], ◌∷◌, ◌++◌, false, refl, ap, ◌∙◌, append-nil, arith}
use Rattle.std.proofs.lemmas.Bool.{false≢true}
use Rattle.as_base.specs.declared.config.Config.{Config}
use Rattle.as_base.specs.declared.item.Item.{Item}
use Rattle.as_outside.specs.declared.entry.Entry.{Entry}
use Rattle.as_outside.specs.declared.entry.Entry.TheVariants.{Pulled, PullFailed, Noted, NoteFailed}
use Rattle.as_outside.specs.Log.{said, is_cue, is_on_output}
use Rattle.as_outside.specs.Failures.{say_failures}
use Rattle.as_outside.specs.Outputs.{AreListed}
use Rattle.as_outside.proofs.LogLaws.{said-append}
use Rattle.as_outside.proofs.FailureLaws.{say_failures-append}
use Rattle.as_outside.proofs.OutputLaws.{AreOutputs-off, AreListed-off}
use Rattle.session.specs.Book.{numbers}
use Rattle.session.specs.View.{text_of}
use Rattle.service.specs.Due.{IsDue}

-- it is on no output, and says nothing
off_outputs : (e : Entry) → is_cue e ≡ true → (is_on_output e ≡ false) × (said (e ∷ []) ≡ []) × (say_failures (e ∷ []) ≡ 0)
off_outputs (Pulled bytes) cue = (refl, refl, refl)
off_outputs PullFailed cue = (refl, refl, refl)
off_outputs (Noted bytes) cue = (refl, refl, refl)
off_outputs (NoteFailed bytes) cue = (refl, refl, refl)
off_outputs _ cue = absurd (false≢true cue)

pub due-cue : (c : Config) (h : List Item) (log : List Entry) (e : Entry) → is_cue e ≡ true → IsDue c h log → IsDue c h (log ++ e ∷ [])
due-cue c h log e cue due =
    let off = off_outputs e cue in
    record {
      answers = said-append log (e ∷ []) ∙ ap (λ t. said log ++ t) off.1 ∙ append-nil (said log) ∙ due.answers;
      no_say_failed = omega (arith, say_failures-append log (e ∷ []), due.no_say_failed, off.2);
      outputs = AreOutputs-off (numbers c h) (text_of c h) log (e ∷ []) (off.0, tt) due.outputs;
    }

pub listed-cue : (broken : List ℕ) (log : List Entry) (e : Entry) → is_cue e ≡ true → AreListed broken log → AreListed broken (log ++ e ∷ [])
listed-cue broken log e cue h = AreListed-off broken log (e ∷ []) ((off_outputs e cue).0, tt) h
