-- One more item is woven, or the taker is halted there.
use Rattle.std.proofs.Common.{◌≡◌, ℕ, List, [], ◌∷◌, ◌++◌, length, take, inl, inr, Result, Err, IsErrAnd, refl, sym, ap, ◌∙◌, subst, arith, append_assoc, append-nil}
use Rattle.std.proofs.lemmas.List.{take_all}
use Rattle.std.proofs.lemmas.Result.{err_from_is_err_and}
use Rattle.as_base.specs.declared.config.Config.{Config}
use Rattle.as_base.specs.declared.item.Item.{Item}
use Rattle.as_base.specs.Range.{IsSpelled}
use Rattle.as_outside.specs.declared.entry.Entry.{Entry}
use Rattle.as_outside.specs.declared.entry.Entry.TheVariants.{Noted, NoteFailed}
use Rattle.as_outside.specs.Entries.{HasNo}
use Rattle.as_outside.specs.Log.{is_cue}
use Rattle.as_outside.specs.Failures.{note_failures, pull_failures}
use Rattle.as_outside.specs.Makes.{Seen, Makes, Does}
use Rattle.as_outside.proofs.FailureLaws.{say_failures-append, note_failures-append, pull_failures-append, note_failures-quiet, pull_failures-quiet}
use Rattle.as_outside.proofs.MakesLaws.{makes_none, makes_after}
use Rattle.as_lineform.specs.Lines.{rest}
use Rattle.service.specs.declared.engine.QueryEngine as engine
use Rattle.service.specs.declared.processor.Processor.{Processor}
use Rattle.service.specs.declared.stop.Stop.{Stop}
use Rattle.service.specs.declared.stop.Stop.TheVariants as stop
use Rattle.service.specs.Due.{IsDue}
use Rattle.service.specs.Processor.{broken_in, IsLeft, HasProcessed}
use Rattle.service.specs.Stop.{Continues, IsStopped}
use Rattle.service.proofs.CueLaws.{due-cue, listed-cue}
use Rattle.taker.specs.declared.halt.Halt.{Halt}
use Rattle.taker.specs.declared.halt.Halt.TheVariants as halt
use Rattle.taker.specs.Journal.{note_of, noted, IsJournal}
use Rattle.taker.specs.Woven.{HasWoven, HaltsAt, IsHaltedWith, Weaves}
use Rattle.taker.proofs.JournalLaws.{noted-quiet, journal-quiet, journal-note_failed, whole-noted, journal-noted}

-- What is so after a note that went well, while its item is yet to be processed.
record IsNoted (c : Config) (h : List Item) (x : Item) (calls : List Entry) : Type 0 where
  journal : IsJournal c (h ++ x ∷ []) calls
  whole : rest (noted calls) ≡ []
  notes : note_failures calls ≡ 0
  pulls : pull_failures calls ≡ 0

module _ {E : Type 0} (e : engine.Ghosts E) (c : Config) where
  -- halted by want of memory before the note
  pub halted-full : (p : Processor E) (h : List Item) (calls : List Entry) → HasWoven e c p h calls
      → IsHaltedWith c (halt.Line stop.NoMemory) p.lines (broken_in p) h calls
  halted-full p h calls was =
      let left : IsLeft c p (length h) h calls = was.processed.left in
      let all : take p.lines h ≡ h = take_all p.lines h (omega (arith, left.counted)) in
      record {
        noted = was.journal;
        listed = left.listed;
        says = left.due.no_say_failed;
        notes = was.notes;
        pulls = was.pulls;
        stands = record { within = omega (arith, left.counted); due = subst (λ l. IsDue c l calls) (sym all) left.due };
      }

  -- halted by the note
  pub halted-note : (p : Processor E) (h : List Item) (calls : List Entry) (front : List ℕ) → HasWoven e c p h calls
      → IsHaltedWith c halt.Journal p.lines (broken_in p) h (calls ++ NoteFailed front ∷ [])
  halted-note p h calls front was =
      let left : IsLeft c p (length h) h calls = was.processed.left in
      let failed : Entry = NoteFailed front in
      record {
        noted = journal-note_failed c h calls front left.due was.journal;
        listed = listed-cue (broken_in p) calls failed refl left.listed;
        says = omega (arith, say_failures-append calls (failed ∷ []), left.due.no_say_failed);
        notes = omega (arith, note_failures-append calls (failed ∷ []), was.notes);
        pulls = omega (arith, pull_failures-append calls (failed ∷ []), was.pulls);
        stands = (left.counted, due-cue c h calls failed refl left.due);
      }

  -- no call was made, or the note that failed
  pub halts-full : (a : Seen) (p : Processor E) (h : List Item) (x : Item) (calls : List Entry) → HasWoven e c p h calls
      → Does a a (λ more. HaltsAt c (halt.Line stop.NoMemory) p h x (calls ++ more))
  halts-full a p h x calls was = record {
    calls = [];
    makes = makes_none a;
    holds = subst (λ l. HaltsAt c (halt.Line stop.NoMemory) p h x l) (sym (append-nil calls)) (inl (halted-full p h calls was));
  }

  pub halts-note : (a b : Seen) (p : Processor E) (h : List Item) (x : Item) (calls : List Entry) (front : List ℕ)
      → HasWoven e c p h calls → Makes a b (NoteFailed front ∷ []) → Does a b (λ more. HaltsAt c halt.Journal p h x (calls ++ more))
  halts-note a b p h x calls front was makes = record {
    calls = NoteFailed front ∷ [];
    makes = makes;
    holds = inl (halted-note p h calls front was);
  }

  -- the exit of a `?` by this halt
  pub weaves_out : (a b : Seen) (p : Processor E) (h : List Item) (x : Item) (calls : List Entry) (r : Result (Unit {0}) Halt) (s t : Halt)
      → IsErrAnd r (λ y. y ≡ s) → s ≡ t → Does a b (λ more. HaltsAt c t p h x (calls ++ more))
      → Does a b (λ more. Weaves e c r p h x (calls ++ more))
  weaves_out a b p h x calls r s t out same halts =
      let q = err_from_is_err_and r out in
      let is : r ≡ Err t = q.1 ∙ ap Err (q.2 ∙ same) in
      rw is halts

  -- the processor stands for the same after a note
  processed-noted : (p : Processor E) (h : List Item) (calls : List Entry) (bytes : List ℕ) → HasProcessed e c p h calls
      → HasProcessed e c p h (calls ++ Noted bytes ∷ [])
  processed-noted p h calls bytes was = record {
    config = was.config;
    stands = was.stands;
    left = record {
      counted = was.left.counted;
      due = due-cue c h calls (Noted bytes) refl was.left.due;
      listed = listed-cue (broken_in p) calls (Noted bytes) refl was.left.listed;
    };
  }

  is_noted : (p : Processor E) (h : List Item) (x : Item) (calls : List Entry) → IsSpelled x → HasWoven e c p h calls
      → IsNoted c h x (calls ++ Noted (note_of x) ∷ [])
  is_noted p h x calls spelled was = record {
    journal = journal-noted c h calls x spelled was.processed.left.due was.whole was.journal;
    whole = whole-noted calls x spelled was.whole;
    notes = omega (arith, note_failures-append calls (Noted (note_of x) ∷ []), was.notes);
    pulls = omega (arith, pull_failures-append calls (Noted (note_of x) ∷ []), was.pulls);
  }

  -- calls that are no cues leave that
  still_noted : (h : List Item) (x : Item) (calls more : List Entry) → IsNoted c h x calls → HasNo is_cue more
      → IsNoted c h x (calls ++ more)
  still_noted h x calls more was quiet = record {
    journal = journal-quiet c (h ++ x ∷ []) calls more was.journal quiet;
    whole = ap rest (noted-quiet calls more quiet) ∙ was.whole;
    notes = omega (arith, note_failures-append calls more, note_failures-quiet more quiet, was.notes);
    pulls = omega (arith, pull_failures-append calls more, pull_failures-quiet more quiet, was.pulls);
  }

  -- a note that went well, and then what processing its item comes to
  step : (a b d : Seen) (old : Processor E) (h : List Item) (x : Item) (calls : List Entry) (bytes : List ℕ) (P Q : List Entry → Type 0)
      → IsSpelled x → bytes ≡ note_of x → HasWoven e c old h calls → Makes a b (Noted bytes ∷ [])
      → (HasProcessed e c old h (calls ++ Noted bytes ∷ []) → Continues b d (calls ++ Noted bytes ∷ []) P)
      → ((all : List Entry) → IsNoted c h x all → P all → Q all) → Does a d (λ more. Q (calls ++ more))
  step a b d old h x calls bytes P Q spelled is was makes goes leads =
      let note : Entry = Noted bytes in
      let first : IsNoted c h x (calls ++ note ∷ []) =
      subst (λ l. IsNoted c h x (calls ++ Noted l ∷ [])) (sym is) (is_noted old h x calls spelled was) in
      let next = goes (processed-noted old h calls bytes was.processed) in
      let still = still_noted h x (calls ++ note ∷ []) next.calls first next.holds.0 in
      record {
        calls = note ∷ next.calls;
        makes = makes_after a b d (note ∷ []) next.calls makes next.makes;
        holds = subst Q (append_assoc calls (note ∷ []) next.calls) (leads ((calls ++ note ∷ []) ++ next.calls) still next.holds.1);
      }

  module _ (a b d : Seen) (old p : Processor E) (h : List Item) (x : Item) (calls : List Entry) (bytes : List ℕ) where
    abbrev noted_calls : List Entry
    noted_calls = calls ++ Noted bytes ∷ []

    -- the item was processed
    pub woven-step : IsSpelled x → bytes ≡ note_of x → HasWoven e c old h calls → Makes a b (Noted bytes ∷ [])
        → (HasProcessed e c old h noted_calls → Continues b d noted_calls (HasProcessed e c p (h ++ x ∷ [])))
        → Does a d (λ more. HasWoven e c p (h ++ x ∷ []) (calls ++ more))
    woven-step spelled is was makes goes =
        step a b d old h x calls bytes (HasProcessed e c p (h ++ x ∷ [])) (HasWoven e c p (h ++ x ∷ []))
        spelled is was makes goes
        (λ all had processed. record {
          processed = processed;
          journal = had.journal;
          whole = had.whole;
          notes = had.notes;
          pulls = had.pulls;
        })

    -- that was stopped
    pub halted-step : (s : Stop) → IsSpelled x → bytes ≡ note_of x → HasWoven e c old h calls → Makes a b (Noted bytes ∷ [])
        → (HasProcessed e c old h noted_calls → Continues b d noted_calls (IsStopped c s p.lines (broken_in p) (h ++ x ∷ [])))
        → Does a d (λ more. HaltsAt c (halt.Line s) p h x (calls ++ more))
    halted-step s spelled is was makes goes =
        step a b d old h x calls bytes (IsStopped c s p.lines (broken_in p) (h ++ x ∷ [])) (HaltsAt c (halt.Line s) p h x)
        spelled is was makes goes
        (λ all had stopped. inr (record {
          noted = had.journal;
          listed = stopped.listed;
          says = stopped.unsaid;
          notes = had.notes;
          pulls = had.pulls;
          stands = stopped.stands;
        }))
