-- How a weave ends, from how its taker did and what went through the inbox.
use Rattle.std.proofs.Common.{◌≡◌, ◌≢◌, ⊎_elim, inl, inr, ℕ, ◌<◌, ◌≤◌, ◌+◌, ◌==◌, Bool, true, false, Option, Some, None, Result, Ok, Err, List, [], ◌∷◌, ◌++◌, length, take_all, refl, sym, ap, subst, ◌∙◌, arith, append-nil, cond}
use Rattle.std.specs.List.{AllByRecursion}
use Rattle.std.specs.List.Sorted.{IsStrictlyIncreasing}
use Rattle.std.proofs.lemmas.Bool.Decides.{eqb_tells}
use Rattle.std.proofs.lemmas.List.Concat.{flat_map-append}
use Rattle.as_words.specs.Prefix.{IsPrefix}
use Rattle.as_base.specs.declared.config.Config.{Config}
use Rattle.as_base.specs.declared.item.Item.{Item}
use Rattle.as_outside.specs.declared.entry.Entry.{Entry}
use Rattle.as_outside.specs.declared.report.Status.TheVariants as status
use Rattle.as_outside.specs.Makes.{Seen, Does}
use Rattle.as_outside.specs.Sources.{SourceSeen}
use Rattle.inbox.specs.declared.load.Load.{Load}
use Rattle.inbox.specs.declared.load.Load.TheVariants.{Line, Last}
use Rattle.inbox.specs.declared.load.Ending.{Ending}
use Rattle.inbox.specs.declared.load.Ending.TheVariants as ending
use Rattle.inbox.specs.declared.passes.Closed.{Closed}
use Rattle.inbox.specs.Roles.{from, AllFed}
use Rattle.inbox.specs.Passes.{closed_offered, closed_taken}
use Rattle.inbox.specs.Sound.{IsSound}
use Rattle.feeder.specs.Loads.{line_in, lines_in, lines_of, ending_in}
use Rattle.feeder.specs.Maker.{line_loads}
use Rattle.service.specs.Processor.{IsFinished}
use Rattle.service.specs.Due.{IsDue}
use Rattle.service.specs.Stop.{unsaid_at, IsDueTo, IsStoppedAtEnd}
use Rattle.service.specs.declared.stop.Stop.{Stop}
use Rattle.service.specs.declared.stop.Stop.TheVariants as stop
use Rattle.taker.specs.declared.halt.Halt.{Halt}
use Rattle.taker.specs.declared.halt.Halt.TheVariants as halt
use Rattle.taker.specs.Gather.{IsWhole, AllWhole, IsByFeed, IsCause, WasHalted, HasAll, IsHaltedAtEnd, Ends}
use Rattle.taker.specs.Woven.{says_at, notes_at, IsLeftDue, StandsHalted}
use Rattle.weave_top.specs.Interleave.{Interleaves, IsMixed}
use Rattle.weave_top.specs.Fed.{lines_by, ending_by, AreFed, WentThrough}
use Rattle.weave_top.specs.Ends.{says_failed, notes_failed, IsAll, IsLastUnsaid, IsLeftAtEnd, AllEndWhole, IsNamed, TellsOf, StandsBy, IsWoven}
use Rattle.weave_top.specs.Outcome.{ended_by, named_by, status_of, named_in}
use Rattle.weave_top.proofs.InterleaveLaws.{from-own, from-append, interleaves, taken_interleaves, fed-front, IsCut, cut_at, front_lines}

-- ---- the loads of a feeder

-- Lines, and then one last load, which says how the source ended.
pub record IsClosed (loads : List Load) : Type 0 where
  pub end : Ending
  pub all : loads ≡ line_loads (lines_in loads) ++ Last end ∷ []
  pub told : ending_in loads ≡ Some end

-- each feeder from k on offered such loads
closed_at : (limit k : ℕ) (before after : List SourceSeen) (closed : Closed) → AreFed limit k before after closed → (i : ℕ) → k ≤ i
    → i < k + length before
    → IsClosed (closed_offered closed i)
closed_at limit k [] [] closed fed i low high = absurd (omega (arith, low, high))
closed_at limit k [] (b ∷ after) closed fed i low high = absurd fed
closed_at limit k (a ∷ before) [] closed fed i low high = absurd fed
closed_at limit k (a ∷ before) (b ∷ after) closed fed i low high = ⊎_elim
    (λ (is : ((i == k) ≡ true) × (i ≡ k)).
    subst (λ n. IsClosed (closed_offered closed n)) (sym is.1) (record { end = fed.0.end; all = fed.0.all; told = fed.0.told }))
    (λ (is : ((i == k) ≡ false) × (i ≢ k)).
    closed_at limit (k + 1) before after closed fed.1 i (omega (arith, low, is.1)) (omega (arith, high)))
    (eqb_tells i k)

-- among such loads, a last load is the only one, and nothing is behind it
last_of_all : (its : List Item) (e d : Ending) (front back : List Load) → front ++ Last d ∷ back ≡ line_loads its ++ Last e ∷ []
    → (d ≡ e) × (back ≡ [])
last_of_all [] e d [] back is = (cc, cc)
last_of_all [] e d (x ∷ []) back is = absurd (cc)
last_of_all [] e d (x ∷ y ∷ front) back is = absurd (cc)
last_of_all (y ∷ its) e d [] back is = absurd (cc)
last_of_all (y ∷ its) e d (x ∷ front) back is = last_of_all its e d front back cc

-- ---- all five

-- All that went through: of each feeder, all that it offered, lines and then one last load.
pub record IsThrough (closed : Closed) (t : List (ℕ × Load)) : Type 0 where
  pub taken : (i : ℕ) → 0 < i → i < 6 → from i t ≡ closed_offered closed i
  pub shape : (i : ℕ) → 0 < i → i < 6 → IsClosed (closed_offered closed i)
  pub fed : AllFed IsSound t

pub through : (limit : ℕ) (before after : List SourceSeen) (closed : Closed) → length before ≡ 5 → WentThrough limit before after closed
    → AllFed IsSound (closed_taken closed)
    → IsThrough closed (closed_taken closed)
through limit before after closed five went fed = record {
  taken = went.taken;
  shape = λ i low high. closed_at limit 1 before after closed went.fed i low (omega (arith, five, high));
  fed = fed;
}

-- the lines of all interleave those of the five
mixed_all : (closed : Closed) (t : List (ℕ × Load)) → IsThrough closed t → Interleaves (lines_of t) (lines_by closed)
mixed_all closed t went = interleaves t (lines_by closed) went.fed (λ i low high. ap lines_in (sym (went.taken i low high)))

-- first lines do so with the first of each
mixed_front : (closed : Closed) (t : List (ℕ × Load)) (named : Option ℕ) (journal : List Item) (cut : IsCut journal t) → IsThrough closed t
    → ((n : ℕ) → named ≡ Some n → lines_in (from n cut.before) ≡ lines_by closed n) → IsMixed named journal (lines_by closed)
mixed_front closed t named journal cut went whole = record {
  fronts = λ i. lines_in (from i cut.before);
  prefixes = λ i low high.
      subst (λ l. IsPrefix (lines_in (from i cut.before)) (lines_in l)) (ap (from i) (sym cut.all) ∙ went.taken i low high)
      (front_lines cut.before cut.after i);
  whole = whole;
  mixed = subst (λ l. Interleaves l (λ i. lines_in (from i cut.before))) (sym cut.lines)
      (taken_interleaves cut.before (fed-front cut.before cut.after (subst (AllFed IsSound) cut.all went.fed)));
}

-- where no feeder is named
mixed_unnamed : (closed : Closed) (t : List (ℕ × Load)) (journal rest : List Item) → IsThrough closed t → lines_of t ≡ journal ++ rest
    → IsMixed None journal (lines_by closed)
mixed_unnamed closed t journal rest went all = mixed_front closed t None journal (cut_at t journal rest all) went (λ n no. absurd (cc))

-- where all was taken
mixed_whole : (closed : Closed) (t : List (ℕ × Load)) → IsThrough closed t → IsMixed None (lines_of t) (lines_by closed)
mixed_whole closed t went = record {
  fronts = lines_by closed;
  prefixes = λ i low high. ([], sym (append-nil (lines_by closed i)));
  whole = λ n no. absurd (cc);
  mixed = mixed_all closed t went;
}

-- ---- the ends of the sources

last_whole : (loads : List Load) → AllByRecursion IsWhole loads → (e : Ending) → ending_in loads ≡ Some e → e ≡ ending.Whole
last_whole [] all e is = absurd (cc)
last_whole (Line x ∷ loads) all e is = last_whole loads all.1 e is
last_whole (Last d ∷ loads) all e is = some is ∙ all.0
  where
    some : Some d ≡ Some e → e ≡ d
    some same = cc

whole_from : (i : ℕ) (t : List (ℕ × Load)) → AllWhole t → AllByRecursion IsWhole (from i t)
whole_from i [] all = tt
whole_from i (p ∷ t) all = by (p.0 == i) (whole_from i t all.1)
  where
    by : (own : Bool) → AllByRecursion IsWhole (from i t) → AllByRecursion IsWhole (cond own (p.1 ∷ from i t) (from i t))
    by true more = (all.0, more)
    by false more = more

-- where each last load taken is of a whole source, the five are whole
all_end_whole : (closed : Closed) (t : List (ℕ × Load)) → IsThrough closed t → AllWhole t → AllEndWhole closed
all_end_whole closed t went whole = λ i low high.
    let shape = went.shape i low high in
    let all = subst (AllByRecursion IsWhole) (went.taken i low high) (whole_from i t whole) in
    shape.told ∙ ap Some (last_whole (closed_offered closed i) all shape.end shape.told)

-- ---- the ends

is_all : (closed : Closed) → IsThrough closed (closed_taken closed) → IsAll (lines_of (closed_taken closed)) closed
is_all closed went = record { taken = refl; mixed = mixed_all closed (closed_taken closed) went }

-- the parcels were cut at the halt by a feeder's last load
fed_cut : (n : ℕ) (e : Ending) (journal : List Item) (t : List (ℕ × Load)) → IsByFeed n e journal t → IsCut journal t
fed_cut n e journal t by = record { before = by.before; after = (n, Last e) ∷ by.after; all = by.all; lines = by.lines }

fed_numbers : (n : ℕ) (x : Load) (a b : List (ℕ × Load)) → AllFed IsSound (a ++ (n, x) ∷ b) → (0 < n) × (n < 6)
fed_numbers n x [] b fed = (fed.0, fed.1)
fed_numbers n x (p ∷ a) b fed = fed_numbers n x a b fed.3

-- a last load behind loads adds no line
before_last : (e : Ending) (loads : List Load) → lines_in loads ≡ lines_in (loads ++ Last e ∷ [])
before_last e loads = sym (flat_map-append line_in loads (Last e ∷ []) ∙ append-nil (lines_in loads))

-- What a feeder offered whose last load halted the taker: what was taken of it before, and that load.
pub record IsHalter (n : ℕ) (e : Ending) (before : List (ℕ × Load)) (closed : Closed) : Type 0 where
  pub some : 0 < n
  pub small : n < 6
  pub named : ending_by closed n ≡ Some e
  pub lines : lines_in (from n before) ≡ lines_by closed n

halter : (n : ℕ) (e : Ending) (journal : List Item) (closed : Closed) (t : List (ℕ × Load)) → IsThrough closed t
    → (by : IsByFeed n e journal t) → IsHalter n e by.before closed
halter n e journal closed t went by =
    let number = fed_numbers n (Last e) by.before by.after (subst (AllFed IsSound) by.all went.fed) in
    let shape = went.shape n number.0 number.1 in
    let split : from n by.before ++ Last e ∷ from n by.after ≡ closed_offered closed n =
    ap (λ l. from n by.before ++ l) (sym (from-own n (Last e) by.after)) ∙ sym (from-append n by.before ((n, Last e) ∷ by.after))
    ∙ ap (from n) (sym by.all) ∙ went.taken n number.0 number.1 in
    let last = last_of_all (lines_in (closed_offered closed n)) shape.end e (from n by.before) (from n by.after) (split ∙ shape.all) in
    record {
      some = number.0;
      small = number.1;
      named = shape.told ∙ ap Some (sym last.0);
      lines = before_last e (from n by.before) ∙ ap (λ l. lines_in (from n by.before ++ Last e ∷ l)) (sym last.1) ∙ ap lines_in split;
    }

-- all is done
finished : (c : Config) (lines : ℕ) (broken : List ℕ) (closed : Closed) (calls : List Entry) → IsStrictlyIncreasing broken
    → IsThrough closed (closed_taken closed)
    → HasAll c (closed_taken closed) calls → IsFinished c lines broken (lines_of (closed_taken closed)) calls
    → IsWoven c (ended_by (Ok tt) broken) lines broken None closed calls
finished c lines [] closed calls rising went all done = record {
  journal = lines_of (closed_taken closed);
  noted = all.journal;
  outputs_broken = record { rising = rising; listed = done.listed };
  says = done.no_say_failed;
  notes = all.notes;
  pulls = all.pulls;
  taken = ([], sym (append-nil (lines_of (closed_taken closed))));
  mixed = mixed_whole closed (closed_taken closed) went;
  told = (refl, all_end_whole closed (closed_taken closed) went all.whole);
  stands = (refl, is_all closed went, done);
}
finished c lines (n ∷ broken) closed calls rising went all done = record {
  journal = lines_of (closed_taken closed);
  noted = all.journal;
  outputs_broken = record { rising = rising; listed = done.listed };
  says = done.no_say_failed;
  notes = all.notes;
  pulls = all.pulls;
  taken = ([], sym (append-nil (lines_of (closed_taken closed))));
  mixed = mixed_whole closed (closed_taken closed) went;
  told = (refl, all_end_whole closed (closed_taken closed) went all.whole);
  stands = ((λ none. absurd (cc)), is_all closed went, done);
}

-- all that is due for the items is out
due_to : (c : Config) (lines : ℕ) (journal : List Item) (calls : List Entry) → IsLeftDue c lines journal calls
    → IsDueTo c lines journal calls
due_to c lines journal calls left = record {
  within = omega (arith, left.0);
  due = subst (λ l. IsDue c l calls) (sym (take_all lines journal (omega (arith, left.0)))) left.1;
}

-- What a halt among the parcels comes to.
record TurnsOut (c : Config) (h : Halt) (count : ℕ) (broken : List ℕ) (closed : Closed) (journal : List Item) (log : List Entry) : Type 0 where
  pub says : says_at h ≡ says_failed (status_of h)
  pub notes : notes_at h ≡ notes_failed (status_of h)
  pub mixed : IsMixed (named_in h) journal (lines_by closed)
  pub told : TellsOf (status_of h) (named_in h) closed
  pub stands : StandsBy c (status_of h) count broken journal closed log

-- a source failed, or is too long
names : (n : ℕ) (e : Ending) (journal : List Item) (closed : Closed) (t : List (ℕ × Load)) → IsThrough closed t → IsByFeed n e journal t
    → IsMixed (Some n) journal (lines_by closed) × IsNamed e (Some n) closed
unfolding fed_cut
names n e journal closed t went by =
    let one = halter n e journal closed t went by in (
      mixed_front closed t (Some n) journal (fed_cut n e journal t by) went
          (λ k is. subst (λ m. lines_in (from m by.before) ≡ lines_by closed m) (same k is) one.lines),
      (one.some, one.small, one.named),
    )
  where
    same : (k : ℕ) → Some n ≡ Some k → n ≡ k
    same k is = cc

turns_out : (c : Config) (h : Halt) (lines : ℕ) (broken : List ℕ) (closed : Closed)
    (t : List (ℕ × Load)) (journal rest : List Item) (calls : List Entry) → IsThrough closed t
    → lines_of t ≡ journal ++ rest → IsCause h journal t → StandsHalted c h lines journal calls
    → TurnsOut c h lines broken closed journal calls
turns_out c halt.Journal lines broken closed t journal rest calls went all cause stands =
    record { says = refl; notes = refl; mixed = mixed_unnamed closed t journal rest went all; told = refl; stands = stands }
turns_out c (halt.Line stop.NoMemory) lines broken closed t journal rest calls went all cause stands =
    record { says = refl; notes = refl; mixed = mixed_unnamed closed t journal rest went all; told = refl; stands = inl stands }
turns_out c (halt.Line stop.AnswerFault) lines broken closed t journal rest calls went all cause stands =
    record { says = refl; notes = refl; mixed = mixed_unnamed closed t journal rest went all; told = refl; stands = inl stands }
turns_out c (halt.Line stop.ReadFault) lines broken closed t journal rest calls went all cause stands = absurd stands
turns_out c (halt.Line stop.TooLong) lines broken closed t journal rest calls went all cause stands = absurd stands
turns_out c (halt.Feed n ending.NoMemory) lines broken closed t journal rest calls went all cause stands =
    let due = due_to c lines journal calls stands in
    record { says = refl; notes = refl; mixed = mixed_unnamed closed t journal rest went all; told = refl; stands = inl due }
turns_out c (halt.Feed n ending.Whole) lines broken closed t journal rest calls went all cause stands = absurd cause.fault
turns_out c (halt.Feed n ending.ReadFault) lines broken closed t journal rest calls went all cause stands =
    let named = names n ending.ReadFault journal closed t went cause in
    record { says = refl; notes = refl; mixed = named.0; told = named.1; stands = stands }
turns_out c (halt.Feed n ending.TooLong) lines broken closed t journal rest calls went all cause stands =
    let named = names n ending.TooLong journal closed t went cause in
    record { says = refl; notes = refl; mixed = named.0; told = named.1; stands = stands }

-- it was halted among the parcels
was_halted : (c : Config) (h : Halt) (lines : ℕ) (broken : List ℕ) (closed : Closed) (calls : List Entry) → IsStrictlyIncreasing broken
    → IsThrough closed (closed_taken closed)
    → WasHalted c h lines broken (closed_taken closed) calls → IsWoven c (status_of h) lines broken (named_in h) closed calls
was_halted c h lines broken closed calls rising went was =
    let out = turns_out c h lines broken closed (closed_taken closed) was.journal was.rest calls went was.all was.cause was.halted.stands in
    record {
      journal = was.journal;
      noted = was.halted.noted;
      outputs_broken = record { rising = rising; listed = was.halted.listed };
      says = was.halted.says ∙ out.says;
      notes = was.halted.notes ∙ out.notes;
      pulls = was.halted.pulls;
      taken = (was.rest, was.all);
      mixed = out.mixed;
      told = out.told;
      stands = out.stands;
    }

-- What a halt at the end comes to.
record TurnsOutAtEnd (c : Config) (s : Stop) (lines : ℕ) (broken : List ℕ) (closed : Closed) (calls : List Entry) : Type 0 where
  pub says : unsaid_at s ≡ says_failed (status_of (halt.Line s))
  pub notes : 0 ≡ notes_failed (status_of (halt.Line s))
  pub told : TellsOf (status_of (halt.Line s)) None closed
  pub stands : StandsBy c (status_of (halt.Line s)) lines broken (lines_of (closed_taken closed)) closed calls

turns_out_at_end : (c : Config) (s : Stop) (lines : ℕ) (broken : List ℕ) (closed : Closed) (calls : List Entry)
    → IsThrough closed (closed_taken closed)
    → IsStoppedAtEnd c s lines broken (lines_of (closed_taken closed)) calls → TurnsOutAtEnd c s lines broken closed calls
turns_out_at_end c stop.NoMemory lines broken closed calls went was =
    let left : IsLeftAtEnd c lines (lines_of (closed_taken closed)) closed calls = record { all = is_all closed went; counted = was.counted; halted = was.stands } in
    record { says = refl; notes = refl; told = refl; stands = inr left }
turns_out_at_end c stop.AnswerFault lines broken closed calls went was =
    let unsaid : IsLastUnsaid c lines broken (lines_of (closed_taken closed)) closed calls =
    record { all = is_all closed went; counted = was.counted; unspoken = was.stands } in
    record { says = refl; notes = refl; told = refl; stands = inr unsaid }
turns_out_at_end c stop.ReadFault lines broken closed calls went was = absurd was.stands
turns_out_at_end c stop.TooLong lines broken closed calls went was = absurd was.stands

-- it was halted at the end
halted_at_end : (c : Config) (s : Stop) (lines : ℕ) (broken : List ℕ) (closed : Closed) (calls : List Entry) → IsStrictlyIncreasing broken
    → IsThrough closed (closed_taken closed)
    → HasAll c (closed_taken closed) calls → IsStoppedAtEnd c s lines broken (lines_of (closed_taken closed)) calls
    → IsWoven c (status_of (halt.Line s)) lines broken None closed calls
halted_at_end c s lines broken closed calls rising went all was =
    let out = turns_out_at_end c s lines broken closed calls went was in
    record {
      journal = lines_of (closed_taken closed);
      noted = all.journal;
      outputs_broken = record { rising = rising; listed = was.listed };
      says = was.unsaid ∙ out.says;
      notes = all.notes ∙ out.notes;
      pulls = all.pulls;
      taken = ([], sym (append-nil (lines_of (closed_taken closed))));
      mixed = mixed_whole closed (closed_taken closed) went;
      told = out.told;
      stands = out.stands;
    }

at_end : (c : Config) (h : Halt) (lines : ℕ) (broken : List ℕ) (closed : Closed) (calls : List Entry) → IsStrictlyIncreasing broken
    → IsThrough closed (closed_taken closed)
    → IsHaltedAtEnd c h lines broken (closed_taken closed) calls → IsWoven c (status_of h) lines broken (named_in h) closed calls
at_end c halt.Journal lines broken closed calls rising went was = absurd was
at_end c (halt.Feed n e) lines broken closed calls rising went was = absurd was
at_end c (halt.Line s) lines broken closed calls rising went was = halted_at_end c s lines broken closed calls rising went was.0 was.1

-- A weave ends as its taker does.
pub woven : (c : Config) (outcome : Result (Unit {0}) Halt) (lines : ℕ) (broken : List ℕ) (closed : Closed) (calls : List Entry)
    → IsStrictlyIncreasing broken
    → IsThrough closed (closed_taken closed) → Ends c outcome lines broken (closed_taken closed) calls
    → IsWoven c (ended_by outcome broken) lines broken (named_by outcome) closed calls
woven c (Ok tt) lines broken closed calls rising went ends = finished c lines broken closed calls rising went ends.0 ends.1
woven c (Err h) lines broken closed calls rising went ends = ⊎_elim
    (λ (was : WasHalted c h lines broken (closed_taken closed) calls). was_halted c h lines broken closed calls rising went was)
    (λ (was : IsHaltedAtEnd c h lines broken (closed_taken closed) calls). at_end c h lines broken closed calls rising went was)
    ends

-- no weave is told to be unused
halt_used : (h : Halt) → status_of h ≡ status.Usage → ⊥
halt_used halt.Journal is = cc
halt_used (halt.Line stop.NoMemory) is = cc
halt_used (halt.Line stop.ReadFault) is = cc
halt_used (halt.Line stop.AnswerFault) is = cc
halt_used (halt.Line stop.TooLong) is = cc
halt_used (halt.Feed n ending.Whole) is = cc
halt_used (halt.Feed n ending.ReadFault) is = cc
halt_used (halt.Feed n ending.TooLong) is = cc
halt_used (halt.Feed n ending.NoMemory) is = cc

pub used : (outcome : Result (Unit {0}) Halt) (broken : List ℕ) → ended_by outcome broken ≡ status.Usage → ⊥
used (Ok tt) [] is = cc
used (Ok tt) (n ∷ broken) is = cc
used (Err h) broken is = halt_used h is

-- The calls of a weave end so, by what the taker's do and by what went through the inbox.
pub ends_so : (c : Config) (limit : ℕ) (before after : List SourceSeen)
    (outcome : Result (Unit {0}) Halt) (lines : ℕ) (broken : List ℕ) (closed : Closed) (a b : Seen)
    → length before ≡ 5 → IsStrictlyIncreasing broken → WentThrough limit before after closed → AllFed IsSound (closed_taken closed)
    → Does a b (Ends c outcome lines broken (closed_taken closed))
    → Does a b (IsWoven c (ended_by outcome broken) lines broken (named_by outcome) closed)
ends_so c limit before after outcome lines broken closed a b five rising went fed ends =
    let all = through limit before after closed five went fed in
    record { calls = ends.calls; makes = ends.makes; holds = woven c outcome lines broken closed ends.calls rising all ends.holds }

-- what is so of one value is so of each that is equal under `Some`
pub at_some : {A : Type 0} (P : A → Type 0) (a : A) → P a → (b : A) → Some a ≡ Some b → P b
at_some P a so b is = subst P (same is) so
  where
    same : Some a ≡ Some b → a ≡ b
    same e = cc
