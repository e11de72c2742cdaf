-- What one pull makes of a run and its calls, and what the end of the input makes of them.
use Rattle.std.proofs.Common.{◌≡◌, ℕ, ◌+◌, ◌≤◌, ◌==◌, cond, Result, Ok, Err, OnOk, Some, List, [], ◌∷◌, ◌++◌, length, take, take_all, drop, min, refl, sym, ap, ◌∙◌, append_assoc, append-nil, arith, length-append, subst, inl, inr, ⊎_elim}
use Rattle.std.specs.Option.{option_map}
use Rattle.std.proofs.Math.Seq.{take-append-add}
use Rattle.std.proofs.lemmas.List.{length-take, take-take, take-append-drop}
use Rattle.as_words.specs.Prefix.{IsPrefix}
use Rattle.as_base.specs.declared.config.Config.{Config}
use Rattle.as_base.specs.declared.item.Item.{Item}
use Rattle.as_outside.specs.declared.entry.Entry.{Entry}
use Rattle.as_outside.specs.declared.entry.Entry.TheVariants.{Pulled, PullFailed}
use Rattle.as_outside.specs.declared.report.Status.{Status}
use Rattle.as_outside.specs.declared.report.Status.TheVariants as status
use Rattle.as_outside.specs.Entries.{HasNo}
use Rattle.as_outside.specs.Log.{pulled, is_pull, is_cue}
use Rattle.as_outside.specs.Failures.{say_failures, pull_failures, note_failures}
use Rattle.as_outside.specs.Makes.{Seen, Makes}
use Rattle.as_outside.specs.Outputs.{AreOutputs, AreListed}
use Rattle.as_outside.proofs.EntryLaws.{HasNo-append, BeforeEach-quiet, BeforeEach-one}
use Rattle.as_outside.proofs.LogLaws.{pulled-append, pulled-append_quiet, no_pull}
use Rattle.as_outside.proofs.FailureLaws.{pull_failures-append, note_failures-append, pull_failures-quiet, note_failures-quiet}
use Rattle.as_lineform.specs.declared.lines.Lines.{Lines}
use Rattle.as_lineform.specs.Item.{item_of}
use Rattle.as_lineform.specs.Lines.{rest, lines, items}
use Rattle.as_lineform.proofs.LineLaws.{lines_push}
use Rattle.session.specs.Book.{numbers}
use Rattle.session.specs.View.{text_of}
use Rattle.session.proofs.TextLaws.{text_of-none}
use Rattle.service.specs.declared.stop.Stop.{Stop}
use Rattle.service.specs.declared.stop.Stop.TheVariants as stop
use Rattle.service.specs.declared.engine.QueryEngine as engine
use Rattle.service.specs.declared.processor.Processor.{Processor}
use Rattle.service.specs.Processor.{broken_in, IsFinished}
use Rattle.service.specs.Stop.{Goes, IsStopped, IsStoppedAtEnd}
use Rattle.service.proofs.BrokenLaws.{split}
use Rattle.service.proofs.CueLaws.{due-cue, listed-cue}
use Rattle.astream_top.specs.declared.run.Run.{Run}
use Rattle.astream_top.specs.Prompt.{IsDueSoFar, Prompt}
use Rattle.astream_top.specs.Ends.{ReachesEnd, pulls_failed, says_failed, IsWhole, StandsBy, IsEnded}
use Rattle.astream_top.specs.Run.{HasTaken, IsAt, StopsByEnd, ended_by, status_of, RunEnds, IsEmptied}

-- a run of another cutter and processor
abbrev pub with_both : {E : Type 0} → Run E → Lines → Processor E → Run E
with_both r cutter processor = record { cutter = cutter; processor = processor }

-- ---- lines

-- the lines of some bytes come first among those of more
pub lines-prefix : (a b : List ℕ) → IsPrefix (lines a) (lines (a ++ b))
lines-prefix a [] = ([], ap lines (append-nil a) ∙ sym (append-nil (lines a)))
lines-prefix a (x ∷ b) =
    let more : List Item = cond (x == 10) (item_of (rest a) ∷ []) [] in
    let next = lines-prefix (a ++ x ∷ []) b in (
      more ++ next.0,
      ap lines (sym (append_assoc a (x ∷ []) b)) ∙ next.1 ∙ ap (λ l. l ++ next.0) (lines_push a x) ∙ append_assoc (lines a) more next.0,
    )

-- those of a part of the bytes, among those of all
pub lines-so_far : (k : ℕ) (before bytes : List ℕ) → IsPrefix (lines (before ++ take k bytes)) (lines (before ++ bytes))
lines-so_far k before bytes =
    let more = lines-prefix (before ++ take k bytes) (drop k bytes) in
    (more.0, ap lines (ap (λ t. before ++ t) (sym (take-append-drop k bytes)) ∙ sym (append_assoc before (take k bytes) (drop k bytes))) ∙ more.1)

-- the bytes of a pull that are within the limit
pub part_within : (k most m : ℕ) (bytes : List ℕ) → m ≡ min k most → take m bytes ≡ take most (take k bytes)
part_within k most m bytes is = ⊎_elim
    (λ over. ap (λ n. take n bytes) (let e : m ≡ most = omega (arith, is, over) in e) ∙ sym (take-take most k bytes (omega (arith, over))))
    (λ under. ap (λ n. take n bytes) (let e : m ≡ k = omega (arith, is, under) in e) ∙ sym (take_all most (take k bytes) (omega (arith, length-take k bytes, under))))
    (split most k)

-- ---- calls

-- calls that are no cues keep a log prompt
prompt-quiet : (c : Config) (a b : List Entry) → Prompt c a → HasNo is_cue b → Prompt c (a ++ b)
prompt-quiet c a b prompt quiet = BeforeEach-quiet is_pull (IsDueSoFar c) a b prompt (no_pull b quiet)

-- the bytes pulled by all calls
pulled_all : (calls more : List Entry) (x : List ℕ) → HasNo is_cue more → pulled (calls ++ Pulled x ∷ more) ≡ pulled calls ++ x
pulled_all calls more x quiet =
    ap pulled (sym (append_assoc calls (Pulled x ∷ []) more)) ∙ pulled-append_quiet (calls ++ Pulled x ∷ []) more (no_pull more quiet)
    ∙ pulled-append calls (Pulled x ∷ []) ∙ ap (λ b. pulled calls ++ b) (append-nil x)

-- what is within the limit, once some bytes more were pulled
within_limit : (calls more : List Entry) (x y : List ℕ) (most : ℕ) → HasNo is_cue more → y ≡ take most x → take (length (pulled calls) + most) (pulled (calls ++ Pulled x ∷ more)) ≡ pulled calls ++ y
within_limit calls more x y most quiet part =
    ap (take (length (pulled calls) + most)) (pulled_all calls more x quiet) ∙ take-append-add (pulled calls) x most ∙ ap (λ b. pulled calls ++ b) (sym part)

-- no pull and no note failed among them
unfailed : (calls more : List Entry) (x : List ℕ) → pull_failures calls ≡ 0 → note_failures calls ≡ 0 → HasNo is_cue more
    → (pull_failures (calls ++ Pulled x ∷ more) ≡ 0) × (note_failures (calls ++ Pulled x ∷ more) ≡ 0)
unfailed calls more x pulls notes quiet = (
  omega (arith, pull_failures-append calls (Pulled x ∷ more), pull_failures-append (Pulled x ∷ []) more, pull_failures-quiet more quiet, pulls),
  omega (arith, note_failures-append calls (Pulled x ∷ more), note_failures-append (Pulled x ∷ []) more, note_failures-quiet more quiet, notes),
)

nothing : (x : List ℕ) → length x ≡ 0 → x ≡ []
nothing [] none = refl
nothing (b ∷ x) none = absurd (omega arith)

-- calls that are no cues leave what is left
pub still_emptied : (a b : Seen) (more : List Entry) → Makes a b more → HasNo is_cue more → IsEmptied a → IsEmptied b
still_emptied a b more makes quiet emptied rest is =
    emptied rest (makes.takes ∙ ap (option_map (λ r. pulled more ++ r)) is ∙ ap (λ bytes. Some (bytes ++ rest)) (pulled-append_quiet [] more (no_pull more quiet)))

-- what holds anyway
pub on_ok : {X Y : Type 0} (r : Result X Y) (P : Type 0) → P → OnOk r P
on_ok (Ok x) P holds = holds
on_ok (Err y) P holds = tt

-- there was no memory before any call
pub ended_early : (c : Config) (limit : ℕ) → IsEnded c limit status.NoMemory 0 [] []
ended_early c limit = record {
  prompt = tt;
  outputs_broken = record { rising = λ k within. absurd (omega (arith, within)); listed = λ n. refl };
  says = refl;
  pulls = refl;
  notes = refl;
  stands = inl (record { within = omega arith; due = record { answers = refl; no_say_failed = refl; outputs = nothing_put } });
}
  where
    nothing_put : AreOutputs (numbers c []) (text_of c []) []
    nothing_put = record {
      begun = λ n. refl;
      others = λ n none. refl;
      whole = λ n none. sym (text_of-none c [] n refl);
      broken = λ n some. absurd (omega (arith, some));
      ended = λ n. tt;
    }

module _ {E : Type 0} {c : Config} where
  -- the parts of each end
  ended_with : (p : Processor E) (limit : ℕ) (s : Status) (calls : List Entry) → Prompt c calls → AreListed (broken_in p) calls → say_failures calls ≡ says_failed s
      → pull_failures calls ≡ pulls_failed s → note_failures calls ≡ 0 → StandsBy c limit s p.lines (broken_in p) calls → RunEnds c limit p s calls
  ended_with p limit s calls prompt listed says pulls notes stands = record {
    prompt = prompt;
    outputs_broken = record { rising = p.broken.rising; listed = listed };
    says = says;
    pulls = pulls;
    notes = notes;
    stands = stands;
  }

  -- a stop among the lines within the limit
  stopped : (p : Processor E) (s : Stop) (limit : ℕ) (h : List Item) (calls : List Entry) → Prompt c calls → pull_failures calls ≡ 0 → note_failures calls ≡ 0
      → lines (take limit (pulled calls)) ≡ h → IsStopped c s p.lines (broken_in p) h calls → RunEnds c limit p (status_of s) calls
  stopped p stop.NoMemory limit h calls prompt pulls notes is t = ended_with p limit status.NoMemory calls prompt t.listed t.unsaid pulls notes (inl (rw is t.stands))
  stopped p stop.AnswerFault limit h calls prompt pulls notes is t = ended_with p limit status.AnswerFault calls prompt t.listed t.unsaid pulls notes (inl (rw is t.stands))
  stopped p stop.ReadFault limit h calls prompt pulls notes is t = absurd t.stands
  stopped p stop.TooLong limit h calls prompt pulls notes is t = absurd t.stands

  -- a stop among the last line's calls
  stopped_last : (p : Processor E) (s : Stop) (limit : ℕ) (calls : List Entry) → Prompt c calls → pull_failures calls ≡ 0 → note_failures calls ≡ 0 → ReachesEnd calls
      → IsStopped c s p.lines (broken_in p) (items (pulled calls)) calls → RunEnds c limit p (status_of s) calls
  stopped_last p stop.NoMemory limit calls prompt pulls notes reaches t = ended_with p limit status.NoMemory calls prompt t.listed t.unsaid pulls notes (inr (reaches, inl t.stands))
  stopped_last p stop.AnswerFault limit calls prompt pulls notes reaches t = ended_with p limit status.AnswerFault calls prompt t.listed t.unsaid pulls notes (inr (reaches, inl t.stands))
  stopped_last p stop.ReadFault limit calls prompt pulls notes reaches t = absurd t.stands
  stopped_last p stop.TooLong limit calls prompt pulls notes reaches t = absurd t.stands

  -- a stop among the calls of the ends, or of the last lines
  stopped_ends : (p : Processor E) (s : Stop) (limit : ℕ) (calls : List Entry) → Prompt c calls → pull_failures calls ≡ 0 → note_failures calls ≡ 0 → ReachesEnd calls
      → IsStoppedAtEnd c s p.lines (broken_in p) (items (pulled calls)) calls → RunEnds c limit p (status_of s) calls
  stopped_ends p stop.NoMemory limit calls prompt pulls notes reaches t = ended_with p limit status.NoMemory calls prompt t.listed t.unsaid pulls notes (inr (reaches, inr (t.counted, t.stands)))
  stopped_ends p stop.AnswerFault limit calls prompt pulls notes reaches t =
      ended_with p limit status.AnswerFault calls prompt t.listed t.unsaid pulls notes (inr (reaches, inr (record { all_lines = t.counted; unspoken = t.stands })))
  stopped_ends p stop.ReadFault limit calls prompt pulls notes reaches t = absurd t.stands
  stopped_ends p stop.TooLong limit calls prompt pulls notes reaches t = absurd t.stands

  -- the input was taken to its end
  whole : (p : Processor E) (limit : ℕ) (calls : List Entry) → Prompt c calls → pull_failures calls ≡ 0 → note_failures calls ≡ 0 → ReachesEnd calls → length (pulled calls) ≤ limit
      → IsFinished c p.lines (broken_in p) (items (pulled calls)) calls → RunEnds c limit p (ended_by (Ok tt) (broken_in p)) calls
  whole p limit calls prompt pulls notes reaches fits t = go (broken_in p) refl
    where
      all : IsWhole c limit p.lines (broken_in p) calls
      all = record { ended = reaches; fits = fits; all_lines = t.counted; said = t.answers; outputs = t.outputs }

      go : (b : List ℕ) → broken_in p ≡ b → RunEnds c limit p (ended_by (Ok tt) b) calls
      go [] is = ended_with p limit status.Done calls prompt t.listed t.no_say_failed pulls notes (is, all)
      go (n ∷ b) is = ended_with p limit status.OutputBroken calls prompt t.listed t.no_say_failed pulls notes (λ none. some n b (sym is ∙ none), all)
        where
          some : (n : ℕ) (b : List ℕ) → n ∷ b ≡ [] → ⊥
          some n b e = cc

module _ {E : Type 0} {e : engine.Ghosts E} {c : Config} where
  -- a pull failed
  pub cut_off : (r : Run E) (most : ℕ) (calls : List Entry) → IsAt e c r calls → RunEnds c (length (pulled calls) + most) r.processor status.ReadFault (calls ++ PullFailed ∷ [])
  cut_off r most calls at =
      let same : pulled (calls ++ PullFailed ∷ []) ≡ pulled calls = pulled-append calls (PullFailed ∷ []) ∙ append-nil (pulled calls) in
      let left = at.taken.processed.left in
      let due = due-cue c (lines (pulled calls)) calls PullFailed refl left.due in
      ended_with r.processor (length (pulled calls) + most) status.ReadFault (calls ++ PullFailed ∷ []) (BeforeEach-one is_pull (IsDueSoFar c) calls PullFailed at.prompt left.due)
      (listed-cue (broken_in r.processor) calls PullFailed refl left.listed) due.no_say_failed
      (omega (arith, pull_failures-append calls (PullFailed ∷ []), at.no_pull_failed)) (omega (arith, note_failures-append calls (PullFailed ∷ []), at.no_note_failed))
      (record {
        last = (calls, refl);
        fits = omega (arith, ap length same);
        all_lines = left.counted ∙ ap (λ b. length (lines b)) (sym same);
        due = rw same due;
      })

  -- a pull went well, and its bytes are yet to be taken
  pub taken_after : (r : Run E) (calls : List Entry) (x : List ℕ) → IsAt e c r calls → HasTaken e c r (pulled calls) (calls ++ Pulled x ∷ [])
  taken_after r calls x at = record {
    reads = at.taken.reads;
    processed = record {
      config = at.taken.processed.config;
      stands = at.taken.processed.stands;
      left = record {
        counted = at.taken.processed.left.counted;
        due = due-cue c (lines (pulled calls)) calls (Pulled x) refl at.taken.processed.left.due;
        listed = listed-cue (broken_in r.processor) calls (Pulled x) refl at.taken.processed.left.listed;
      };
    };
  }

  prompt_all : (r : Run E) (calls more : List Entry) (x : List ℕ) → IsAt e c r calls → HasNo is_cue more → Prompt c (calls ++ Pulled x ∷ more)
  prompt_all r calls more x at quiet =
      rw (← append_assoc calls (Pulled x ∷ []) more)
      (prompt-quiet c (calls ++ Pulled x ∷ []) more (BeforeEach-one is_pull (IsDueSoFar c) calls (Pulled x) at.prompt at.taken.processed.left.due) quiet)

  -- a call after the pull stopped the run
  pub stopped_after : (r r' : Run E) (s : Stop) (most : ℕ) (calls more : List Entry) (x y : List ℕ) → IsAt e c r calls → HasNo is_cue more → y ≡ take most x
      → IsStopped c s r'.processor.lines (broken_in r'.processor) (lines (pulled calls ++ y)) ((calls ++ Pulled x ∷ []) ++ more)
      → RunEnds c (length (pulled calls) + most) r'.processor (status_of s) (calls ++ Pulled x ∷ more)
  stopped_after r r' s most calls more x y at quiet part t =
      let none = unfailed calls more x at.no_pull_failed at.no_note_failed quiet in
      stopped r'.processor s (length (pulled calls) + most) (lines (pulled calls ++ y)) (calls ++ Pulled x ∷ more) (prompt_all r calls more x at quiet) none.0 none.1
      (ap lines (within_limit calls more x y most quiet part))
      (subst (IsStopped c s r'.processor.lines (broken_in r'.processor) (lines (pulled calls ++ y))) (append_assoc calls (Pulled x ∷ []) more) t)

  -- all bytes of the pull were taken
  pub took_all : (r r' : Run E) (k : ℕ) (calls more : List Entry) (x y : List ℕ) → IsAt e c r calls → HasNo is_cue more
      → HasTaken e c r' (pulled calls ++ y) ((calls ++ Pulled x ∷ []) ++ more) → y ≡ x → length x ≡ k
      → IsAt e c r' (calls ++ Pulled x ∷ more) × (length (pulled (calls ++ Pulled x ∷ more)) ≡ length (pulled calls) + k) × (k ≡ 0 → ReachesEnd (calls ++ Pulled x ∷ more))
  took_all r r' k calls more x y at quiet taken all size =
      let total = pulled_all calls more x quiet in
      let none = unfailed calls more x at.no_pull_failed at.no_note_failed quiet in
      let part : HasTaken e c r' (pulled calls ++ y) (calls ++ Pulled x ∷ more) = rw (← append_assoc calls (Pulled x ∷ []) more) taken in
      let now : HasTaken e c r' (pulled calls ++ x) (calls ++ Pulled x ∷ more) = subst (λ b. HasTaken e c r' (pulled calls ++ b) (calls ++ Pulled x ∷ more)) all part in (
        record { prompt = prompt_all r calls more x at quiet; no_pull_failed = none.0; no_note_failed = none.1; taken = rw total now },
        omega (arith, ap length total, length-append (pulled calls) x),
        λ empty. (calls, more, ap (λ b. calls ++ Pulled b ∷ more) (nothing x (size ∙ empty)), no_pull more quiet),
      )

  -- the byte after the limit was pulled, and those within it were taken
  pub took_part : (r r' : Run E) (most : ℕ) (calls more : List Entry) (x y : List ℕ) → IsAt e c r calls → HasNo is_cue more
      → HasTaken e c r' (pulled calls ++ y) ((calls ++ Pulled x ∷ []) ++ more) → y ≡ take most x → length x ≡ most + 1
      → RunEnds c (length (pulled calls) + most) r'.processor status.TooLong (calls ++ Pulled x ∷ more)
  took_part r r' most calls more x y at quiet taken part size =
      let none = unfailed calls more x at.no_pull_failed at.no_note_failed quiet in
      let within = within_limit calls more x y most quiet part in
      let now : HasTaken e c r' (pulled calls ++ y) (calls ++ Pulled x ∷ more) = rw (← append_assoc calls (Pulled x ∷ []) more) taken in
      let left = now.processed.left in
      ended_with r'.processor (length (pulled calls) + most) status.TooLong (calls ++ Pulled x ∷ more) (prompt_all r calls more x at quiet) left.listed left.due.no_say_failed none.0 none.1
      (record {
        over = omega (arith, ap length (pulled_all calls more x quiet), length-append (pulled calls) x);
        all_lines = left.counted ∙ ap (λ b. length (lines b)) (sym within);
        due = rw within left.due;
      })

  -- the input ended, and the last line and the ends were processed
  pub ended : (r r' : Run E) (limit : ℕ) (result : Result (Unit {0}) Stop) (calls more : List Entry) → IsAt e c r calls → length (pulled calls) ≤ limit → ReachesEnd calls → HasNo is_cue more
      → Goes result (IsFinished c r'.processor.lines (broken_in r'.processor) (items (pulled calls))) (StopsByEnd c r'.processor (items (pulled calls))) (calls ++ more)
      → RunEnds c limit r'.processor (ended_by result (broken_in r'.processor)) (calls ++ more)
  ended r r' limit result calls more at fits reaches quiet goes = go result goes
    where
      same : pulled (calls ++ more) ≡ pulled calls
      same = pulled-append_quiet calls more (no_pull more quiet)

      prompt : Prompt c (calls ++ more)
      prompt = prompt-quiet c calls more at.prompt quiet

      no_pulls : pull_failures (calls ++ more) ≡ 0
      no_pulls = omega (arith, pull_failures-append calls more, pull_failures-quiet more quiet, at.no_pull_failed)

      no_notes : note_failures (calls ++ more) ≡ 0
      no_notes = omega (arith, note_failures-append calls more, note_failures-quiet more quiet, at.no_note_failed)

      end : ReachesEnd (calls ++ more)
      end = (reaches.0, reaches.1 ++ more, ap (λ l. l ++ more) reaches.2 ∙ append_assoc reaches.0 (Pulled [] ∷ reaches.1) more, HasNo-append is_pull reaches.1 more reaches.3 (no_pull more quiet))

      go : (result : Result (Unit {0}) Stop) → Goes result (IsFinished c r'.processor.lines (broken_in r'.processor) (items (pulled calls))) (StopsByEnd c r'.processor (items (pulled calls))) (calls ++ more)
          → RunEnds c limit r'.processor (ended_by result (broken_in r'.processor)) (calls ++ more)
      go (Ok tt) t = whole r'.processor limit (calls ++ more) prompt no_pulls no_notes end (omega (arith, fits, ap length same)) (rw same t)
      go (Err s) t = ⊎_elim
          (λ last. stopped_last r'.processor s limit (calls ++ more) prompt no_pulls no_notes end (rw same last))
          (λ at_end. stopped_ends r'.processor s limit (calls ++ more) prompt no_pulls no_notes end (rw same at_end))
          t
