-- What a processor stands for once an item's calls, or those of the end, were made.
use Rattle.std.proofs.Common.{◌≡◌, ◌<◌, ◌+◌, ℕ, nat_lt, not, Bool, true, false, cond, length, length-append, take, Option, Some, None, Result, Ok, Err, List, [], ◌∷◌, ◌++◌, refl, sym, ap, subst, ◌∙◌, append_assoc, append-nil, arith}
use Rattle.std.specs.List.{flat_map, AllByRecursion}
use Rattle.std.specs.Option.{option_to_list}
use Rattle.std.proofs.lemmas.List.Concat.{flat_map-append}
use Rattle.std.proofs.Math.Seq.{take-append_seam}
use Rattle.std.proofs.lemmas.List.{take-append-le}
use Rattle.as_words.specs.Prefix.{IsPrefix}
use Rattle.as_base.specs.declared.config.Config.{Config}
use Rattle.as_base.specs.declared.item.Item.{Item}
use Rattle.as_base.specs.declared.item.Item.TheVariants.{Rec, End}
use Rattle.as_base.specs.declared.item.Given.{Given}
use Rattle.as_base.specs.declared.answer.Word.TheVariants as word
use Rattle.as_base.specs.Config.{is_configured}
use Rattle.as_base.specs.declared.stream.StreamId.{StreamId}
use Rattle.as_base.specs.declared.answer.Answer.{Answer}
use Rattle.as_base.specs.declared.answer.Fed.{Fed}
use Rattle.as_base.specs.declared.answer.Piece.{Piece}
use Rattle.as_base.specs.Times.{times}
use Rattle.as_outside.specs.declared.entry.Entry.{Entry}
use Rattle.as_lineform.specs.Answer.{answer_text}
use Rattle.session.specs.Answers.{answers, answer_to, answered, or_else}
use Rattle.session.specs.Acceptance.{is_open, has_ended, front}
use Rattle.session.specs.Book.{numbers}
use Rattle.session.specs.View.{text_of}
use Rattle.session.specs.Shut.{end_of, shut}
use Rattle.session.specs.Outcome.{created, Adds, IsFed, only_told}
use Rattle.session.proofs.WalkLaws.{answers-push}
use Rattle.session.proofs.ShutLaws.{answer_to-end, answers-shut}
use Rattle.service.specs.declared.engine.QueryEngine as engine
use Rattle.service.specs.declared.broken.Broken.{Broken}
use Rattle.service.specs.declared.processor.Processor.{Processor}
use Rattle.service.specs.declared.stop.Stop.{Stop}
use Rattle.service.specs.declared.stop.Stop.TheVariants as stop
use Rattle.service.specs.AnswerText.{answered_text, answers_text, last_text}
use Rattle.service.specs.Due.{IsDue}
use Rattle.service.specs.Processor.{broken_in, IsLeft, IsLeftBefore, IsLeftAmongEnds, HasTaken, HasProcessed, HasPrepared, IsFinished}
use Rattle.service.specs.Served.{HasServed, IsUnspoken, with_pieces}
use Rattle.service.specs.Stop.{Goes, IsCutShort, IsUnsaid, IsStopped, IsStoppedAtEnd}
use Rattle.service.proofs.ServedLaws.{served-same}

one_text : (answer : Option Answer) → flat_map answer_text (option_to_list answer) ≡ answered_text answer
one_text None = refl
one_text (Some a) = append-nil (answer_text a)

-- one more item adds the text of its answer
answers_text-push : (c : Config) (h : List Item) (x : Item)
    → answers_text c (h ++ x ∷ []) ≡ answers_text c h ++ answered_text (answer_to c h x)
answers_text-push c h x =
    ap (flat_map answer_text) (answers-push c h x) ∙ flat_map-append answer_text (answers c h) (option_to_list (answer_to c h x))
    ∙ ap (λ t. answers_text c h ++ t) (one_text (answer_to c h x))

-- what was served is what is due
due_from : (c : Config) (h : List Item) (spoken broken : List ℕ) (all : List Entry) → spoken ≡ answers_text c h → HasServed (numbers c h) (text_of c h) spoken broken all → IsDue c h all
due_from c h spoken broken all is t = record { answers = t.answers ∙ is; no_say_failed = t.no_say_failed; outputs = t.outputs }

-- a record creates no query
created-record : (c : Config) (h : List Item) (g : Given) → created (answer_to c h (Rec g)) ≡ []
created-record c h g = go (is_configured c g.stream) (has_ended c h g.stream) (nat_lt g.time (front c h g.stream))
  where
    go : (configured ended behind : Bool)
        → created (answered h (or_else (cond (not configured) (Some word.Stranger) (cond ended (Some word.Ended) (cond behind (Some word.Late) None))) None)) ≡ []
    go false ended behind = refl
    go true true behind = refl
    go true false true = refl
    go true false false = refl

-- and makes nothing due
pub record_served : (c : Config) (h : List Item) (g : Given) (answer : Option Answer) (broken : List ℕ) (all : List Entry) → IsFed c h (Rec g) (only_told answer)
    → HasServed (numbers c h) (text_of c h) (answers_text c h) broken all → HasServed (numbers c (h ++ Rec g ∷ [])) (text_of c (h ++ Rec g ∷ [])) (answers_text c h) broken all
record_served c h g answer broken all fed t =
    served-same (numbers c h) (numbers c (h ++ Rec g ∷ [])) (text_of c h) (text_of c (h ++ Rec g ∷ [])) (answers_text c h) broken all
    (sym (fed.adds.book ∙ ap (λ l. numbers c h ++ l) (ap created fed.answer ∙ created-record c h g) ∙ append-nil (numbers c h)))
    (λ n. sym (fed.adds.text n ∙ append-nil (text_of c h n))) t

-- a processor with another engine, or with other outputs broken
abbrev pub with_engine : {E : Type 0} → Processor E → E → Processor E
with_engine p engine = record { engine = engine; text = p.text; lines = p.lines; broken = p.broken }

abbrev pub with_broken : {E : Type 0} → Processor E → Broken → Processor E
with_broken p broken = record { engine = p.engine; text = p.text; lines = p.lines; broken = broken }

module _ {E : Type 0} {c : Config} where
  pub served : (p : Processor E) (lines : ℕ) (h : List Item) (calls : List Entry) → IsLeft c p lines h calls → HasServed (numbers c h) (text_of c h) (answers_text c h) (broken_in p) calls
  served p lines h calls t = record { outputs = t.due.outputs; listed = t.listed; answers = t.due.answers; no_say_failed = t.due.no_say_failed }

  -- it was one of the ends that follow the items
  pub left_among : (p : Processor E) (lines : ℕ) (h front : List Item) (s : Stop) (calls : List Entry) → IsPrefix h front → IsPrefix front (shut c h) → answers c front ≡ answers c h
      → IsLeftBefore c p lines front s calls → IsLeftAmongEnds c p lines h s calls
  left_among p lines h front s calls past part silent t = record { reason = t.0; front = front; past = past; part = part; silent = silent; left = t.1 }

  -- ---- the end of the run

  pub stopped_among : (p : Processor E) (h : List Item) (s : Stop) (calls : List Entry) → IsLeftAmongEnds c p (length h) h s calls → IsStoppedAtEnd c s p.lines (broken_in p) h calls
  stopped_among p h s calls t = subst (λ s. IsStoppedAtEnd c s p.lines (broken_in p) h calls) (sym t.reason) (record {
    listed = t.left.listed;
    unsaid = t.left.due.no_say_failed;
    counted = t.left.counted;
    stands = record {
      front = t.front;
      past = t.past;
      part = t.part;
      outputs = t.left.due.outputs;
      answers = t.left.due.answers ∙ ap (flat_map answer_text) t.silent;
    };
  })

module _ {E : Type 0} {e : engine.Ghosts E} {c : Config} where
  -- there was no memory for an item that follows: what stood before it stands
  pub stopped_before : (p p' : Processor E) (h h' : List Item) (calls : List Entry) → HasProcessed e c p h calls → IsPrefix h h' → p'.lines ≡ p.lines → broken_in p' ≡ broken_in p
      → IsStopped c stop.NoMemory p'.lines (broken_in p') h' calls
  stopped_before p p' h h' calls before part same_lines same =
      let lines : p'.lines ≡ length h = same_lines ∙ before.left.counted in
      let first : take p'.lines h' ≡ h = ap (take p'.lines) part.1 ∙ ap (λ n. take n (h ++ part.0)) lines ∙ take-append_seam h part.0 in
      record {
        listed = λ n. ap (times n) same ∙ before.left.listed n;
        unsaid = before.left.due.no_say_failed;
        stands = record {
          within = omega (arith, lines, ap length part.1, length-append h part.0);
          due = subst (λ l. IsDue c l calls) (sym first) before.left.due;
        };
      }

  -- an item's calls were made, or its answer was not said whole
  pub processed : (p p' : Processor E) (h : List Item) (x : Item) (fed : Fed) (text : List ℕ) (r : Result (Unit {0}) Stop) (all : List Entry)
      → HasPrepared e c p h x fed → e.config p'.engine ≡ c → e.stands p'.engine (h ++ x ∷ []) → p'.lines ≡ p.lines → text ≡ p.text.items
      → Goes r (HasServed (numbers c (h ++ x ∷ [])) (text_of c (h ++ x ∷ [])) (answers_text c h ++ text) (broken_in p')) (IsCutShort (numbers c (h ++ x ∷ [])) (text_of c (h ++ x ∷ [])) (answers_text c h) text (broken_in p')) all
      → Goes r (HasProcessed e c p' (h ++ x ∷ [])) (λ s. IsStopped c s p'.lines (broken_in p') (h ++ x ∷ [])) all
  processed p p' h x fed text (Ok tt) all ready config stands lines same t = record {
    config = config;
    stands = stands;
    left = record {
      counted = lines ∙ ready.counted;
      due = due_from c (h ++ x ∷ []) (answers_text c h ++ text) (broken_in p') all
          (ap (λ l. answers_text c h ++ l) (same ∙ ready.text ∙ ap answered_text ready.is_fed.answer) ∙ sym (answers_text-push c h x)) t;
      listed = t.listed;
    };
  }
  processed p p' h x fed text (Err s) all ready config stands lines same t =
      subst (λ s. IsStopped c s p'.lines (broken_in p') (h ++ x ∷ []) all) (sym t.reason) (record {
        listed = t.listed;
        unsaid = t.once;
        stands = go (answer_to c h x) refl (same ∙ ready.text ∙ ap answered_text ready.is_fed.answer);
      })
    where
      go : (answer : Option Answer) → answer_to c h x ≡ answer → text ≡ answered_text answer → IsUnsaid c p'.lines (h ++ x ∷ []) all
      go None is none = absurd (omega (arith, t.some, ap length none))
      go (Some a) is text-is = record {
        before = h;
        item = x;
        behind = [];
        all = refl;
        counted = lines ∙ ready.counted ∙ length-append h (x ∷ []);
        answer = a;
        answered = is;
        unspoken = subst (λ l. IsUnspoken (numbers c (h ++ x ∷ [])) (text_of c (h ++ x ∷ [])) (answers_text c h) l all) text-is t.unspoken;
      }

  -- ---- the ends

  -- a stream that is not open has no end
  pub no_end : (p : Processor E) (lines : ℕ) (h : List Item) (calls : List Entry) (s : StreamId) → HasTaken e c p lines h calls
      → is_open (e.config p.engine) h s ≡ false → HasTaken e c p lines (h ++ end_of c h s) calls
  no_end p lines h calls s before shuts =
      let closed : is_open c h s ≡ false = subst (λ d. is_open d h s ≡ false) before.config shuts in
      let all : h ++ end_of c h s ≡ h = ap (λ b. h ++ cond b (End s ∷ []) []) closed ∙ append-nil h in
      subst (λ l. HasTaken e c p lines l calls) (sym all) before

  -- the end of an open stream brings no query, and its pieces are of those that are there
  module _ (p : Processor E) (lines : ℕ) (h : List Item) (calls : List Entry) (s : StreamId) (fed : Fed) (before : HasTaken e c p lines h calls)
      (opens : is_open (e.config p.engine) h s ≡ true) (is_fed : IsFed (e.config p.engine) h (End s) fed) where
    opened : is_open c h s ≡ true
    opened = subst (λ d. is_open d h s ≡ true) before.config opens

    adds : Adds c h (h ++ End s ∷ []) [] fed.pieces
    adds =
        let ended : IsFed c h (End s) fed = subst (λ d. IsFed d h (End s) fed) before.config is_fed in
        subst (λ l. Adds c h (h ++ End s ∷ []) l fed.pieces) (ap created (ended.answer ∙ answer_to-end c h s opened)) ended.adds

    same_numbers : numbers c (h ++ End s ∷ []) ≡ numbers c h
    same_numbers = adds.book ∙ append-nil (numbers c h)

    pub pieces_known : AllByRecursion (λ (q : Piece). 0 < times q.n (numbers c h)) fed.pieces
    pieces_known = subst (λ l. AllByRecursion (λ (q : Piece). 0 < times q.n l) fed.pieces) same_numbers adds.known

    whole : h ++ end_of c h s ≡ h ++ End s ∷ []
    whole = ap (λ b. h ++ cond b (End s ∷ []) []) opened

    pub ended : (p' : Processor E) (all : List Entry) → e.stands p'.engine (h ++ End s ∷ []) → e.config p'.engine ≡ e.config p.engine → p'.lines ≡ p.lines
        → HasServed (numbers c h) (with_pieces (text_of c h) fed.pieces) (answers_text c h) (broken_in p') all → HasTaken e c p' lines (h ++ end_of c h s) all
    ended p' all stands config counted t = subst (λ l. HasTaken e c p' lines l all) (sym whole) (record {
      config = config ∙ before.config;
      stands = stands;
      left = record {
        counted = counted ∙ before.left.counted;
        due = due_from c (h ++ End s ∷ []) (answers_text c h) (broken_in p') all
            (sym (append-nil (answers_text c h)) ∙ ap (λ a. answers_text c h ++ answered_text a) (sym (answer_to-end c h s opened)) ∙ sym (answers_text-push c h (End s)))
            (served-same (numbers c h) (numbers c (h ++ End s ∷ [])) (with_pieces (text_of c h) fed.pieces) (text_of c (h ++ End s ∷ [])) (answers_text c h) (broken_in p') all (sym same_numbers) (λ n. sym (adds.text n)) t);
        listed = t.listed;
      };
    })

  -- there was no memory for an end: what stood before it stands
  pub left_before : (p p' : Processor E) (lines : ℕ) (h : List Item) (calls : List Entry) → HasTaken e c p lines h calls → p'.lines ≡ p.lines → broken_in p' ≡ broken_in p
      → IsLeftBefore c p' lines h stop.NoMemory calls
  left_before p p' lines h calls before counted same = (
    refl,
    record { counted = counted ∙ before.left.counted; due = before.left.due; listed = λ n. ap (times n) same ∙ before.left.listed n },
  )

  -- there was no memory for the last lines
  pub stopped_last : (p p' : Processor E) (h : List Item) (calls : List Entry) → HasTaken e c p (length h) (shut c h) calls → p'.lines ≡ p.lines → broken_in p' ≡ broken_in p
      → IsStoppedAtEnd c stop.NoMemory p'.lines (broken_in p') h calls
  stopped_last p p' h calls t counted same = stopped_among p' h stop.NoMemory calls (record {
    reason = refl;
    front = shut c h;
    past = (_, refl);
    part = ([], sym (append-nil (shut c h)));
    silent = answers-shut c h;
    left = record { counted = counted ∙ t.left.counted; due = t.left.due; listed = λ n. ap (times n) same ∙ t.left.listed n };
  })

-- the last lines were said, or not whole
pub finished : (c : Config) (h : List Item) (lines : ℕ) (broken text : List ℕ) (r : Result (Unit {0}) Stop) (all : List Entry)
    → lines ≡ length h → text ≡ last_text broken lines
    → Goes r (HasServed (numbers c (shut c h)) (text_of c (shut c h)) (answers_text c (shut c h) ++ text) broken) (IsCutShort (numbers c (shut c h)) (text_of c (shut c h)) (answers_text c (shut c h)) text broken) all
    → Goes r (IsFinished c lines broken h) (λ s. IsStoppedAtEnd c s lines broken h) all
finished c h lines broken text (Ok tt) all counted is t = record {
  counted = counted;
  answers = t.answers ∙ ap (λ l. flat_map answer_text l ++ text) (answers-shut c h) ∙ ap (λ l. answers_text c h ++ l) is;
  no_say_failed = t.no_say_failed;
  outputs = t.outputs;
  listed = t.listed;
}
finished c h lines broken text (Err s) all counted is t = subst (λ s. IsStoppedAtEnd c s lines broken h all) (sym t.reason) (record {
  listed = t.listed;
  unsaid = t.once;
  counted = counted;
  stands = record {
    outputs = t.unspoken.outputs;
    front = t.unspoken.front;
    part = subst (IsPrefix t.unspoken.front) is t.unspoken.part;
    last = t.unspoken.last;
    answers = t.unspoken.answers ∙ ap (λ l. flat_map answer_text l ++ t.unspoken.front) (answers-shut c h);
  };
})

-- what was stopped among some items was stopped among more
pub stopped_further : (c : Config) (s : Stop) (lines : ℕ) (broken : List ℕ) (h h' : List Item) (calls : List Entry) → IsPrefix h h' → IsStopped c s lines broken h calls → IsStopped c s lines broken h' calls
stopped_further c stop.NoMemory lines broken h h' calls part t = record {
  listed = t.listed;
  unsaid = t.unsaid;
  stands = record {
    within = omega (arith, t.stands.within, ap length part.1, length-append h part.0);
    due = subst (λ l. IsDue c l calls) (sym (ap (take lines) part.1 ∙ take-append-le lines h part.0 t.stands.within)) t.stands.due;
  };
}
stopped_further c stop.AnswerFault lines broken h h' calls part t = record {
  listed = t.listed;
  unsaid = t.unsaid;
  stands = record {
    before = t.stands.before;
    item = t.stands.item;
    behind = t.stands.behind ++ part.0;
    all = part.1 ∙ ap (λ l. l ++ part.0) t.stands.all ∙ append_assoc t.stands.before (t.stands.item ∷ t.stands.behind) part.0;
    counted = t.stands.counted;
    answer = t.stands.answer;
    answered = t.stands.answered;
    unspoken = t.stands.unspoken;
  };
}
stopped_further c stop.ReadFault lines broken h h' calls part t = absurd t.stands
stopped_further c stop.TooLong lines broken h h' calls part t = absurd t.stands
