-- A taker's parcels one after another: where it stands after each, and how it ends.
use Rattle.std.proofs.Common.{◌≡◌, ℕ, ◌≢◌, ◌<◌, ◌-◌, Bool, true, false, ◌==◌, set, arith, None, Some, Ok, Err, List, [], ◌∷◌, ◌++◌, inl, inr, refl, sym, ap, ◌∙◌, append_assoc, append-nil, subst, ⊎_elim, ◌⊎◌}
use Rattle.std.proofs.lemmas.Bool.{eq-eqb}
use Rattle.std.proofs.lemmas.Bool.Decides.{eqb_tells}
use Rattle.std.proofs.lemmas.List.{length-set, get_or-set_other}
use Rattle.std.proofs.lemmas.List.Concat.{flat_map-append}
use Rattle.as_base.specs.declared.config.Config.{Config}
use Rattle.as_base.specs.declared.item.Item.{Item}
use Rattle.as_outside.specs.declared.entry.Entry.{Entry}
use Rattle.as_outside.specs.Entries.{HasNo}
use Rattle.as_outside.specs.Log.{is_cue}
use Rattle.as_outside.specs.Makes.{Seen, Does}
use Rattle.as_outside.proofs.FailureLaws.{note_failures-append, note_failures-quiet, pull_failures-append, pull_failures-quiet}
use Rattle.as_outside.proofs.MakesLaws.{makes_none}
use Rattle.inbox.specs.declared.load.Load.{Load}
use Rattle.inbox.specs.declared.load.Load.TheVariants.{Line, Last}
use Rattle.inbox.specs.declared.load.Ending.{Ending}
use Rattle.inbox.specs.declared.load.Ending.TheVariants as ending
use Rattle.feeder.specs.Loads.{line_in, lines_of, has_last}
use Rattle.service.specs.declared.engine.QueryEngine as engine
use Rattle.service.specs.declared.processor.Processor.{Processor}
use Rattle.service.specs.declared.stop.Stop.{Stop}
use Rattle.service.specs.declared.stop.Stop.TheVariants as stop
use Rattle.service.specs.Processor.{broken_in, IsFinished}
use Rattle.service.specs.Stop.{Continues, IsStoppedAtEnd}
use Rattle.taker.specs.declared.halt.Halt.{Halt}
use Rattle.taker.specs.declared.halt.Halt.TheVariants as halt
use Rattle.taker.specs.Woven.{HasWoven, IsLeftDue, IsHaltedWith, HaltsAt}
use Rattle.taker.specs.Gather.{IsWhole, AllWhole, AreMarked, IsFault, IsByFeed, IsCause, halt_by, WasHalted, IsAt, HasAll, Ends}
use Rattle.taker.proofs.JournalLaws.{journal-quiet}
use Rattle.taker.proofs.WovenLaws.{halted-full}

-- no call
pub does_none : (a : Seen) (calls : List Entry) (P : List Entry → Type 0) → P calls → Does a a (λ more. P (calls ++ more))
does_none a calls P holds = record { calls = []; makes = makes_none a; holds = subst P (sym (append-nil calls)) holds }

-- one more parcel

lines_of-push : (t : List (ℕ × Load)) (x : ℕ × Load) → lines_of (t ++ x ∷ []) ≡ lines_of t ++ line_in x.1
lines_of-push t x = flat_map-append (λ (p : ℕ × Load). line_in p.1) t (x ∷ []) ∙ ap (λ l. lines_of t ++ l) (append-nil (line_in x.1))

whole-push : (t : List (ℕ × Load)) (x : ℕ × Load) → AllWhole t → IsWhole x.1 → AllWhole (t ++ x ∷ [])
whole-push [] x all one = (one, tt)
whole-push (p ∷ t) x all one = (all.0, whole-push t x all.1 one)

by_feed-push : (n : ℕ) (e : Ending) (journal : List Item) (t : List (ℕ × Load)) (x : ℕ × Load) → IsByFeed n e journal t
    → IsByFeed n e journal (t ++ x ∷ [])
by_feed-push n e journal t x was = record {
  fault = was.fault;
  before = was.before;
  after = was.after ++ x ∷ [];
  all = ap (λ l. l ++ x ∷ []) was.all ∙ append_assoc was.before ((n, Last e) ∷ was.after) (x ∷ []);
  lines = was.lines;
}

cause-push : (h : Halt) (journal : List Item) (t : List (ℕ × Load)) (x : ℕ × Load) → IsCause h journal t → IsCause h journal (t ++ x ∷ [])
cause-push halt.Journal journal t x was = tt
cause-push (halt.Line s) journal t x was = tt
cause-push (halt.Feed n e) journal t x was = by_feed-push n e journal t x was

-- a parcel taken where it was halted
halted-push : (c : Config) (h : Halt) (lines : ℕ) (broken : List ℕ) (t : List (ℕ × Load)) (x : ℕ × Load) (calls : List Entry)
    → WasHalted c h lines broken t calls → WasHalted c h lines broken (t ++ x ∷ []) calls
halted-push c h lines broken t x calls was = record {
  journal = was.journal;
  rest = was.rest ++ line_in x.1;
  all = lines_of-push t x ∙ ap (λ l. l ++ line_in x.1) was.all ∙ append_assoc was.journal was.rest (line_in x.1);
  halted = was.halted;
  cause = cause-push h was.journal t x was.cause;
}

module _ {E : Type 0} (e : engine.Ghosts E) (c : Config) where
  -- a parcel taken where it was halted
  pub at-dropped : (h : Halt) (p : Processor E) (t : List (ℕ × Load)) (x : ℕ × Load) (calls : List Entry) → IsAt e c (Some h) p t calls
      → IsAt e c (Some h) p (t ++ x ∷ []) calls
  at-dropped h p t x calls was = halted-push c h p.lines (broken_in p) t x calls was

  -- a line was woven
  pub at-woven : (p p' : Processor E) (t : List (ℕ × Load)) (n : ℕ) (item : Item) (calls more : List Entry) → IsAt e c None p t calls
      → HasWoven e c p' (lines_of t ++ item ∷ []) more → IsAt e c None p' (t ++ (n, Line item) ∷ []) more
  at-woven p p' t n item calls more was now = record {
    woven = subst (λ l. HasWoven e c p' l more) (sym (lines_of-push t (n, Line item))) now;
    whole = whole-push t (n, Line item) was.whole tt;
  }

  halted_at : (h : Halt) (p : Processor E) (t : List (ℕ × Load)) (n : ℕ) (item : Item) (calls : List Entry)
      → ((journal : List Item) → IsCause h journal (t ++ (n, Line item) ∷ []))
      → IsHaltedWith c h p.lines (broken_in p) (lines_of t) calls ⊎ IsHaltedWith c h p.lines (broken_in p) (lines_of t ++ item ∷ []) calls
      → WasHalted c h p.lines (broken_in p) (t ++ (n, Line item) ∷ []) calls
  halted_at h p t n item calls causes either = ⊎_elim
      (λ (was : IsHaltedWith c h p.lines (broken_in p) (lines_of t) calls). record {
        journal = lines_of t;
        rest = item ∷ [];
        all = lines_of-push t (n, Line item);
        halted = was;
        cause = causes (lines_of t);
      })
      (λ (was : IsHaltedWith c h p.lines (broken_in p) (lines_of t ++ item ∷ []) calls). record {
        journal = lines_of t ++ item ∷ [];
        rest = [];
        all = lines_of-push t (n, Line item) ∙ sym (append-nil (lines_of t ++ item ∷ []));
        halted = was;
        cause = causes (lines_of t ++ item ∷ []);
      })
      either

  -- a line was halted
  pub at-halted : (h : Halt) (p : Processor E) (t : List (ℕ × Load)) (n : ℕ) (item : Item) (calls : List Entry)
      → HaltsAt c h p (lines_of t) item calls → IsAt e c (Some h) p (t ++ (n, Line item) ∷ []) calls
  at-halted halt.Journal p t n item calls halts = halted_at halt.Journal p t n item calls (λ journal. tt) halts
  at-halted (halt.Line s) p t n item calls halts = halted_at (halt.Line s) p t n item calls (λ journal. tt) halts
  at-halted (halt.Feed feeder ends) p t n item calls halts = absurd halts

  -- all that is due is out where nothing has halted it
  left_due : (p : Processor E) (journal : List Item) (calls : List Entry) → HasWoven e c p journal calls → IsLeftDue c p.lines journal calls
  left_due p journal calls was = (was.processed.left.counted, was.processed.left.due)

  -- there was no memory for a line
  pub at-full : (p : Processor E) (t : List (ℕ × Load)) (n : ℕ) (item : Item) (calls : List Entry) → IsAt e c None p t calls
      → IsAt e c (Some (halt.Line stop.NoMemory)) p (t ++ (n, Line item) ∷ []) calls
  at-full p t n item calls was = at-halted (halt.Line stop.NoMemory) p t n item calls (inl (halted-full e c p (lines_of t) calls was.woven))

  -- a last load of a source that was read to its end
  at-whole : (p : Processor E) (t : List (ℕ × Load)) (n : ℕ) (calls : List Entry) → IsAt e c None p t calls
      → IsAt e c None p (t ++ (n, Last ending.Whole) ∷ []) calls
  at-whole p t n calls was = record {
    woven = subst (λ l. HasWoven e c p l calls) (sym (lines_of-push t (n, Last ending.Whole) ∙ append-nil (lines_of t))) was.woven;
    whole = whole-push t (n, Last ending.Whole) was.whole refl;
  }

  -- one of any other
  at-fault : (p : Processor E) (t : List (ℕ × Load)) (n : ℕ) (ends : Ending) (calls : List Entry) → IsFault ends → IsAt e c None p t calls
      → IsAt e c (Some (halt.Feed n ends)) p (t ++ (n, Last ends) ∷ []) calls
  at-fault p t n ends calls fault was = record {
    journal = lines_of t;
    rest = [];
    all = lines_of-push t (n, Last ends);
    halted = record {
      noted = was.woven.journal;
      listed = was.woven.processed.left.listed;
      says = was.woven.processed.left.due.no_say_failed;
      notes = was.woven.notes;
      pulls = was.woven.pulls;
      stands = left_due p (lines_of t) calls was.woven;
    };
    cause = record { fault = fault; before = t; after = []; all = refl; lines = refl };
  }

  -- a last load taken where nothing had halted it
  pub at-last : (p : Processor E) (t : List (ℕ × Load)) (n : ℕ) (ends : Ending) (calls : List Entry) → IsAt e c None p t calls
      → IsAt e c (halt_by n ends) p (t ++ (n, Last ends) ∷ []) calls
  at-last p t n ending.Whole calls was = at-whole p t n calls was
  at-last p t n ending.ReadFault calls was = at-fault p t n ending.ReadFault calls tt was
  at-last p t n ending.TooLong calls was = at-fault p t n ending.TooLong calls tt was
  at-last p t n ending.NoMemory calls was = at-fault p t n ending.NoMemory calls tt was

  -- calls that are no cues follow the last parcel
  has_all : (p : Processor E) (t : List (ℕ × Load)) (calls more : List Entry) → IsAt e c None p t calls → HasNo is_cue more
      → HasAll c t (calls ++ more)
  has_all p t calls more was quiet = record {
    journal = journal-quiet c (lines_of t) calls more was.woven.journal quiet;
    whole = was.whole;
    notes = omega (arith, note_failures-append calls more, was.woven.notes, note_failures-quiet more quiet);
    pulls = omega (arith, pull_failures-append calls more, was.woven.pulls, pull_failures-quiet more quiet);
  }

  -- what the processor did at the end of the input
  pub ends_well : (p p' : Processor E) (t : List (ℕ × Load)) (old new : Seen) (calls : List Entry) → IsAt e c None p t calls
      → Continues old new calls (IsFinished c p'.lines (broken_in p') (lines_of t))
      → Does old new (λ more. Ends c (Ok tt) p'.lines (broken_in p') t (calls ++ more))
  ends_well p p' t old new calls was h = record {
    calls = h.calls;
    makes = h.makes;
    holds = (has_all p t calls h.calls was h.holds.0, h.holds.1);
  }

  pub ends_stopped : (p p' : Processor E) (s : Stop) (t : List (ℕ × Load)) (old new : Seen) (calls : List Entry) → IsAt e c None p t calls
      → Continues old new calls (IsStoppedAtEnd c s p'.lines (broken_in p') (lines_of t))
      → Does old new (λ more. Ends c (Err (halt.Line s)) p'.lines (broken_in p') t (calls ++ more))
  ends_stopped p p' s t old new calls was h = record {
    calls = h.calls;
    makes = h.makes;
    holds = inr (has_all p t calls h.calls was h.holds.0, h.holds.1);
  }

-- which feeders' last loads were taken

has_last-more : (i : ℕ) (t : List (ℕ × Load)) (x : ℕ × Load) → has_last i t ≡ true → has_last i (t ++ x ∷ []) ≡ true
has_last-more i [] x h = absurd (cc)
has_last-more i (p ∷ t) x h = grind (arith, has_last-more i t x)

has_last-new : (i n : ℕ) (t : List (ℕ × Load)) (ends : Ending) → i ≡ n → has_last i (t ++ (n, Last ends) ∷ []) ≡ true
has_last-new i n [] ends same = grind (arith, eq-eqb n i (sym same))
has_last-new i n (p ∷ t) ends same = grind (arith, has_last-new i n t ends same)

-- a line ends no feeder
pub marked-line : (ended : List Bool) (t : List (ℕ × Load)) (x : ℕ × Load) → AreMarked ended t → AreMarked ended (t ++ x ∷ [])
marked-line ended t x was = (was.0, λ i low high marked. has_last-more i t x (was.1 i low high marked))

-- a last load ends its own
pub marked-last : (ended : List Bool) (t : List (ℕ × Load)) (n : ℕ) (ends : Ending) → 0 < n → n < 6 → AreMarked ended t
    → AreMarked (set ended (n - 1) true) (t ++ (n, Last ends) ∷ [])
marked-last ended t n ends low high was = (
  length-set ended (n - 1) true ∙ was.0,
  λ i low' high' marked. ⊎_elim
      (λ (is : ((i == n) ≡ true) × (i ≡ n)). has_last-new i n t ends is.1)
      (λ (is : ((i == n) ≡ false) × (i ≢ n)). has_last-more i t (n, Last ends)
      (was.1 i low' high' (sym (get_or-set_other ended (n - 1) (i - 1) true false (λ same. is.1 (omega (arith, same)))) ∙ marked)))
      (eqb_tells i n),
)
