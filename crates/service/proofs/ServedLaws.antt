-- What each call makes of what was served.
use Rattle.std.proofs.Common.{ℕ, ◌≡◌, ◌<◌, ◌+◌, ◌==◌, nat_lt, Bool, cond, true, false, true≢false, Result, Ok, Err, IfErr, OnOk, OnErr, zero, suc, List, [], ◌∷◌, ◌++◌, length, take, get_or, refl, sym, ap, subst, ◌∙◌, append_assoc, append-nil, arith}
use Rattle.std.specs.List.{AllByRecursion}
use Rattle.std.proofs.lemmas.Bool.{lt-ltb, ltb-true}
use Rattle.std.proofs.lemmas.List.{take_more, nil_from_length}
use Rattle.std.proofs.lemmas.List.Concat.{flat_map-append}
use Rattle.as_words.specs.Prefix.{IsPrefix}
use Rattle.as_base.specs.declared.answer.Piece.{Piece}
use Rattle.as_base.specs.Pieces.{bytes_for}
use Rattle.as_base.specs.Times.{times}
use Rattle.as_outside.specs.declared.entry.Entry.{Entry}
use Rattle.as_outside.specs.declared.entry.Entry.TheVariants.{Said, SayFailed, Begun, BeginFailed, Put, PutFailed}
use Rattle.as_outside.specs.Makes.{Seen, Makes}
use Rattle.as_outside.specs.Log.{said}
use Rattle.as_outside.specs.Outputs.{AreOutputs}
use Rattle.as_outside.specs.Failures.{failures, say_failures}
use Rattle.as_outside.proofs.LogLaws.{said-append}
use Rattle.as_outside.proofs.MakesLaws.{same_number}
use Rattle.as_outside.proofs.FailureLaws.{say_failures-append}
use Rattle.as_outside.proofs.OutputLaws.{AreOutputs-same, AreOutputs-off, AreOutputs-begun, AreOutputs-begin_failed, AreOutputs-put, AreOutputs-put_failed, AreOutputs-skipped, AreListed-off, AreListed-fine, AreListed-failed, unbroken_new, with_bytes}
use Rattle.service.specs.declared.stop.Stop.{Stop}
use Rattle.service.specs.declared.stop.Stop.TheVariants.{AnswerFault}
use Rattle.service.specs.Served.{HasServed, with_pieces}
use Rattle.service.specs.Stop.{Continues, Goes, IsCutShort}
use Rattle.service.proofs.GoesLaws.{no_call, one_call}

-- a call that says nothing
silent : (log : List Entry) (e : Entry) (spoken : List ℕ) → said (e ∷ []) ≡ [] → said log ≡ spoken → said (log ++ e ∷ []) ≡ spoken
silent log e spoken none is = said-append log (e ∷ []) ∙ ap (λ t. said log ++ t) none ∙ append-nil (said log) ∙ is

no_say : (log : List Entry) (e : Entry) → say_failures (e ∷ []) ≡ 0 → say_failures log ≡ 0 → say_failures (log ++ e ∷ []) ≡ 0
no_say log e none is = omega (arith, say_failures-append log (e ∷ []), none, is)

-- the texts with one piece more
one_piece : (numbers : List ℕ) (text : ℕ → List ℕ) (p : Piece) (n : ℕ) → text n ++ cond (p.n == n) p.bytes [] ≡ with_pieces text (p ∷ []) n
one_piece numbers text p n = ap (λ l. text n ++ l) (sym (append-nil (cond (p.n == n) p.bytes [])))

-- other words for the same numbers and texts
pub served-same : (numbers numbers' : List ℕ) (text text' : ℕ → List ℕ) (spoken broken : List ℕ) (log : List Entry) → numbers ≡ numbers' → ((n : ℕ) → text n ≡ text' n)
    → HasServed numbers text spoken broken log → HasServed numbers' text' spoken broken log
served-same numbers numbers' text text' spoken broken log same_numbers same h = record {
  outputs = subst (λ l. AreOutputs l text' log) same_numbers (AreOutputs-same numbers text text' log same h.outputs);
  listed = h.listed;
  answers = h.answers;
  no_say_failed = h.no_say_failed;
}

-- the texts with no piece more, and with one more after some
pub no_pieces : (text : ℕ → List ℕ) (n : ℕ) → text n ≡ with_pieces text [] n
no_pieces text n = sym (append-nil (text n))

pub one_more : (text : ℕ → List ℕ) (i : ℕ) (pieces : List Piece) (p : Piece) → i < length pieces → p ≡ get_or pieces i p
    → (n : ℕ) → with_pieces (with_pieces text (take i pieces)) (p ∷ []) n ≡ with_pieces text (take (i + 1) pieces) n
one_more text i pieces p within is n =
    append_assoc (text n) (bytes_for n (take i pieces)) (bytes_for n (p ∷ []))
    ∙ ap (λ l. text n ++ l) (sym (flat_map-append (λ (q : Piece). cond (q.n == n) q.bytes []) (take i pieces) (p ∷ [])))
    ∙ ap (λ q. text n ++ bytes_for n (take i pieces ++ q ∷ [])) is
    ∙ ap (λ l. text n ++ bytes_for n l) (sym (take_more pieces i p within))

-- a number stands once in the list of it alone
pub stands_once : (n : ℕ) → 0 < times n (n ∷ [])
stands_once n =
    let one = ap {B = ℕ} (λ b. cond b 1 0) (same_number n) in
    omega (arith, one)

-- what holds of all elements holds of each
pub All-at : {X : Type 0} (P : X → Type 0) (xs : List X) (i : ℕ) (d : X) → AllByRecursion P xs → i < length xs → P (get_or xs i d)
All-at P [] i d h within = absurd (omega (arith, within))
All-at P (x ∷ xs) zero d h within = h.0
All-at P (x ∷ xs) (suc i) d h within = All-at P xs i d h.1 (omega (arith, within))

module _ (numbers : List ℕ) (text : ℕ → List ℕ) (spoken broken : List ℕ) (log : List Entry) (h : HasServed numbers text spoken broken log) where
  -- what is listed as broken has failed, and nothing else
  pub unlisted : (k : ℕ) → times k broken ≡ 0 → failures k log ≡ 0
  unlisted k none = sym (h.listed k) ∙ none

  module _ (k : ℕ) (new : times k numbers ≡ 0) (empty : text k ≡ []) where
    pub served-begun : HasServed (numbers ++ k ∷ []) text spoken broken (log ++ Begun k ∷ [])
    served-begun = record {
      outputs = AreOutputs-begun numbers text log k h.outputs new empty;
      listed = AreListed-fine broken log (Begun k) (λ n. refl) h.listed;
      answers = silent log (Begun k) spoken refl h.answers;
      no_say_failed = no_say log (Begun k) refl h.no_say_failed;
    }

    -- it is not listed yet
    pub new_unlisted : times k broken ≡ 0
    new_unlisted = h.listed k ∙ unbroken_new numbers text log k h.outputs new empty

    pub served-begin_failed : (broken' : List ℕ) → ((n : ℕ) → times n broken' ≡ cond (k == n) 1 (times n broken)) → HasServed (numbers ++ k ∷ []) text spoken broken' (log ++ BeginFailed k ∷ [])
    served-begin_failed broken' added = record {
      outputs = AreOutputs-begin_failed numbers text log k h.outputs new empty;
      listed = AreListed-failed broken broken' log (BeginFailed k) k (unbroken_new numbers text log k h.outputs new empty) (λ n. refl) added h.listed;
      answers = silent log (BeginFailed k) spoken refl h.answers;
      no_say_failed = no_say log (BeginFailed k) refl h.no_say_failed;
    }

  module _ (p : Piece) (known : 0 < times p.n numbers) where
    pub served-put : times p.n broken ≡ 0 → HasServed numbers (with_pieces text (p ∷ [])) spoken broken (log ++ Put p.n p.bytes ∷ [])
    served-put none = record {
      outputs = AreOutputs-same numbers (with_bytes numbers text log p.n p.bytes h.outputs) (with_pieces text (p ∷ [])) _ (one_piece numbers text p)
          (AreOutputs-put numbers text log p.n p.bytes h.outputs known (unlisted p.n none));
      listed = AreListed-fine broken log (Put p.n p.bytes) (λ n. refl) h.listed;
      answers = silent log (Put p.n p.bytes) spoken refl h.answers;
      no_say_failed = no_say log (Put p.n p.bytes) refl h.no_say_failed;
    }

    pub served-put_failed : times p.n broken ≡ 0 → (front broken' : List ℕ) → IsPrefix front p.bytes → ((n : ℕ) → times n broken' ≡ cond (p.n == n) 1 (times n broken))
        → HasServed numbers (with_pieces text (p ∷ [])) spoken broken' (log ++ PutFailed p.n front ∷ [])
    served-put_failed none front broken' part added = record {
      outputs = AreOutputs-same numbers (with_bytes numbers text log p.n p.bytes h.outputs) (with_pieces text (p ∷ [])) _ (one_piece numbers text p)
          (AreOutputs-put_failed numbers text log p.n p.bytes h.outputs known (unlisted p.n none) front part);
      listed = AreListed-failed broken broken' log (PutFailed p.n front) p.n (unlisted p.n none) (λ n. refl) added h.listed;
      answers = silent log (PutFailed p.n front) spoken refl h.answers;
      no_say_failed = no_say log (PutFailed p.n front) refl h.no_say_failed;
    }

    pub served-skipped : 0 < times p.n broken → HasServed numbers (with_pieces text (p ∷ [])) spoken broken log
    served-skipped some = record {
      outputs = AreOutputs-same numbers (with_bytes numbers text log p.n p.bytes h.outputs) (with_pieces text (p ∷ [])) log (one_piece numbers text p)
          (AreOutputs-skipped numbers text log p.n p.bytes h.outputs (omega (arith, some, h.listed p.n)));
      listed = h.listed;
      answers = h.answers;
      no_say_failed = h.no_say_failed;
    }

  pub served-said : (bytes : List ℕ) → HasServed numbers text (spoken ++ bytes) broken (log ++ Said bytes ∷ [])
  served-said bytes = record {
    outputs = AreOutputs-off numbers text log (Said bytes ∷ []) (refl, tt) h.outputs;
    listed = AreListed-off broken log (Said bytes ∷ []) (refl, tt) h.listed;
    answers = said-append log (Said bytes ∷ []) ∙ ap (λ t. t ++ said (Said bytes ∷ [])) h.answers ∙ ap (λ t. spoken ++ t) (append-nil bytes);
    no_say_failed = no_say log (Said bytes) refl h.no_say_failed;
  }

  pub served-unsaid : (bytes front : List ℕ) → 0 < length bytes → IsPrefix front bytes → IsCutShort numbers text spoken bytes broken AnswerFault (log ++ SayFailed front ∷ [])
  served-unsaid bytes front some part = record {
    reason = refl;
    some = some;
    unspoken = record {
      outputs = AreOutputs-off numbers text log (SayFailed front ∷ []) (refl, tt) h.outputs;
      front = front;
      part = part;
      last = (log, refl);
      answers = said-append log (SayFailed front ∷ []) ∙ ap (λ t. t ++ said (SayFailed front ∷ [])) h.answers ∙ ap (λ t. spoken ++ t) (append-nil front);
    };
    listed = AreListed-off broken log (SayFailed front ∷ []) (refl, tt) h.listed;
    once = omega (arith, say_failures-append log (SayFailed front ∷ []), h.no_say_failed);
  }

-- ---- one call, and what comes of it

-- a begin went well, or failed
pub begin_went : (a b : Seen) (k : ℕ) (broken : List ℕ) → Makes a b (Begun k ∷ []) → (numbers : List ℕ) (text : ℕ → List ℕ) (spoken : List ℕ) (calls : List Entry)
    → HasServed numbers text spoken broken calls → times k numbers ≡ 0 → text k ≡ [] → Continues a b calls (HasServed (numbers ++ k ∷ []) text spoken broken)
begin_went a b k broken makes numbers text spoken calls h new empty =
    one_call a b calls (Begun k) (HasServed (numbers ++ k ∷ []) text spoken broken) makes refl (served-begun numbers text spoken broken calls h k new empty)

pub begin_broke : (a b : Seen) (k : ℕ) (broken broken' : List ℕ) → Makes a b (BeginFailed k ∷ []) → (times k broken ≡ 0 → (n : ℕ) → times n broken' ≡ cond (k == n) 1 (times n broken))
    → (numbers : List ℕ) (text : ℕ → List ℕ) (spoken : List ℕ) (calls : List Entry)
    → HasServed numbers text spoken broken calls → times k numbers ≡ 0 → text k ≡ [] → Continues a b calls (HasServed (numbers ++ k ∷ []) text spoken broken')
begin_broke a b k broken broken' makes added numbers text spoken calls h new empty =
    one_call a b calls (BeginFailed k) (HasServed (numbers ++ k ∷ []) text spoken broken') makes refl
    (served-begin_failed numbers text spoken broken calls h k new empty broken' (added (new_unlisted numbers text spoken broken calls h k new empty)))

not_more : (t : ℕ) → nat_lt 0 t ≡ false → t ≡ 0
not_more zero h = refl
not_more (suc t) h = absurd (true≢false (sym (lt-ltb 0 (suc t) (omega arith)) ∙ h))

-- a put was passed over, went well, or failed
pub put_skipped : (a : Seen) (p : Piece) (broken : List ℕ) (found : Bool) → found ≡ nat_lt 0 (times p.n broken) → found ≡ true → (numbers : List ℕ) (text : ℕ → List ℕ) (spoken : List ℕ) (calls : List Entry)
    → HasServed numbers text spoken broken calls → 0 < times p.n numbers → Continues a a calls (HasServed numbers (with_pieces text (p ∷ [])) spoken broken)
put_skipped a p broken found is listed numbers text spoken calls h known =
    no_call a calls (HasServed numbers (with_pieces text (p ∷ [])) spoken broken) (served-skipped numbers text spoken broken calls h p known (ltb-true 0 _ (sym is ∙ listed)))

pub put_went : (a b : Seen) (p : Piece) (bytes broken : List ℕ) (found : Bool) → found ≡ nat_lt 0 (times p.n broken) → found ≡ false → bytes ≡ p.bytes → Makes a b (Put p.n bytes ∷ [])
    → (numbers : List ℕ) (text : ℕ → List ℕ) (spoken : List ℕ) (calls : List Entry)
    → HasServed numbers text spoken broken calls → 0 < times p.n numbers → Continues a b calls (HasServed numbers (with_pieces text (p ∷ [])) spoken broken)
put_went a b p bytes broken found is unlisted' same makes numbers text spoken calls h known =
    one_call a b calls (Put p.n p.bytes) (HasServed numbers (with_pieces text (p ∷ [])) spoken broken) (subst (λ l. Makes a b (Put p.n l ∷ [])) same makes) refl
    (served-put numbers text spoken broken calls h p known (not_more _ (sym is ∙ unlisted')))

pub put_broke : (a b : Seen) (p : Piece) (bytes front broken broken' : List ℕ) (found : Bool) → found ≡ nat_lt 0 (times p.n broken) → found ≡ false → bytes ≡ p.bytes → IsPrefix front bytes → Makes a b (PutFailed p.n front ∷ [])
    → (times p.n broken ≡ 0 → (n : ℕ) → times n broken' ≡ cond (p.n == n) 1 (times n broken)) → (numbers : List ℕ) (text : ℕ → List ℕ) (spoken : List ℕ) (calls : List Entry)
    → HasServed numbers text spoken broken calls → 0 < times p.n numbers → Continues a b calls (HasServed numbers (with_pieces text (p ∷ [])) spoken broken')
put_broke a b p bytes front broken broken' found is unlisted' same part makes added numbers text spoken calls h known =
    let none = not_more _ (sym is ∙ unlisted') in
    one_call a b calls (PutFailed p.n front) (HasServed numbers (with_pieces text (p ∷ [])) spoken broken') makes refl
    (served-put_failed numbers text spoken broken calls h p known none front broken' (subst (IsPrefix front) same part) (added none))

-- there was nothing to say, or a say went well or failed
pub say_nothing : (a : Seen) (bytes : List ℕ) → length bytes ≡ 0 → (numbers : List ℕ) (text : ℕ → List ℕ) (spoken broken : List ℕ) (calls : List Entry)
    → HasServed numbers text spoken broken calls → Continues a a calls (HasServed numbers text (spoken ++ bytes) broken)
say_nothing a bytes none numbers text spoken broken calls h =
    no_call a calls (HasServed numbers text (spoken ++ bytes) broken)
    (subst (λ t. HasServed numbers text t broken calls) (sym (ap (λ l. spoken ++ l) (nil_from_length bytes none) ∙ append-nil spoken)) h)

pub say_came : (a b : Seen) (bytes : List ℕ) (r : Result (Unit {0}) Stop) → 0 < length bytes → IfErr r (λ s. s ≡ AnswerFault) → OnOk r (Makes a b (Said bytes ∷ []))
    → OnErr r ((front : List ℕ) × IsPrefix front bytes × Makes a b (SayFailed front ∷ [])) → (numbers : List ℕ) (text : ℕ → List ℕ) (spoken broken : List ℕ) (calls : List Entry)
    → HasServed numbers text spoken broken calls → Continues a b calls (Goes r (HasServed numbers text (spoken ++ bytes) broken) (IsCutShort numbers text spoken bytes broken))
say_came a b bytes (Ok tt) some reason went failed numbers text spoken broken calls h =
    one_call a b calls (Said bytes) (HasServed numbers text (spoken ++ bytes) broken) went refl (served-said numbers text spoken broken calls h bytes)
say_came a b bytes (Err s) some reason went failed numbers text spoken broken calls h =
    subst (λ s. Continues a b calls (IsCutShort numbers text spoken bytes broken s)) (sym reason)
    (one_call a b calls (SayFailed failed.0) (IsCutShort numbers text spoken bytes broken AnswerFault) failed.2 refl (served-unsaid numbers text spoken broken calls h bytes failed.0 some failed.1))
