-- What calls make of the outputs: a call that is none of them, and each call on one.
use Rattle.std.proofs.Common.{ℕ, ◌≡◌, ◌≤◌, ◌<◌, ◌+◌, ◌==◌, Bool, true, false, true≢false, cond, List, [], ◌∷◌, ◌++◌, refl, sym, ap, subst, ◌∙◌, append_assoc, append-nil, arith}
use Rattle.std.proofs.lemmas.Bool.Decides.{Decides-eqb}
use Rattle.as_words.specs.Prefix.{IsPrefix}
use Rattle.as_base.specs.Times.{times}
use Rattle.as_base.proofs.TimesLaws.{times-append}
use Rattle.as_outside.specs.declared.entry.Entry.{Entry}
use Rattle.as_outside.specs.declared.entry.Entry.TheVariants.{Begun, BeginFailed, Put, PutFailed}
use Rattle.as_outside.specs.Entries.{HasNo}
use Rattle.as_outside.specs.Log.{is_on_output, begun_by, begins, put_by, puts, held_after, held_from, held}
use Rattle.as_outside.specs.Failures.{failed_on, failures}
use Rattle.as_outside.specs.Outputs.{EndsAtFailure, AreOutputs, AreListed}
use Rattle.as_outside.proofs.LogLaws.{begins-append, puts-append, held-append, begins-cons, puts-cons}
use Rattle.as_outside.proofs.FailureLaws.{failures-append, failures-cons}

-- where no call failed, none follows one that failed
EndsAtFailure-from_none : (n : ℕ) (log : List Entry) → failures n log ≡ 0 → EndsAtFailure n log
EndsAtFailure-from_none n [] none = tt
EndsAtFailure-from_none n (e ∷ log) none =
    let split = failures-cons n e log in
    (λ failed. absurd (omega arith), EndsAtFailure-from_none n log (omega arith))

-- where no call failed in the first log, the second decides
EndsAtFailure-append : (n : ℕ) (a b : List Entry) → failures n a ≡ 0 → EndsAtFailure n b → EndsAtFailure n (a ++ b)
EndsAtFailure-append n [] b none ends = ends
EndsAtFailure-append n (e ∷ a) b none ends =
    let split = failures-cons n e a in
    (λ failed. absurd (omega arith), EndsAtFailure-append n a b (omega arith) ends)

-- calls that are none of output n change nothing about its end
EndsAtFailure-others : (n : ℕ) (a b : List Entry) → EndsAtFailure n a → begins n b ≡ 0 → puts n b ≡ 0 → EndsAtFailure n b
    → EndsAtFailure n (a ++ b)
EndsAtFailure-others n [] b ends begun put rest = rest
EndsAtFailure-others n (e ∷ a) b ends begun put rest =
    let begins-split = begins-append n a b in
    let puts-split = puts-append n a b in
    (λ failed. let stops = ends.0 failed in (omega (arith, stops.0), omega (arith, stops.1)), EndsAtFailure-others n a b ends.1 begun put rest)

-- ---- one output

-- a failed call on an output is a begin or a put
failed-le : (n : ℕ) (e : Entry) → failed_on n e ≤ begun_by n e + put_by n e
failed-le n (BeginFailed m) = omega arith
failed-le n (PutFailed m bytes) = omega arith
failed-le n _ = omega arith

pub failures-le : (n : ℕ) (log : List Entry) → failures n log ≤ begins n log + puts n log
failures-le n [] = omega arith
failures-le n (e ∷ log) = omega (arith, failures-cons n e log, begins-cons n e log, puts-cons n e log, failed-le n e, failures-le n log)

-- Output n was begun so often, and it is that of the text.
record IsOutput (n count : ℕ) (text : List ℕ) (log : List Entry) : Type 0 where
  begun : begins n log ≡ count
  others : count ≡ 0 → puts n log ≡ 0
  whole : failures n log ≡ 0 → held n log ≡ text
  broken : 0 < failures n log → IsPrefix (held n log) text
  ended : EndsAtFailure n log

each_output : (numbers : List ℕ) (text : ℕ → List ℕ) (log : List Entry) → AreOutputs numbers text log → (n : ℕ) → IsOutput n (times n numbers) (text n) log
each_output numbers text log h n = record { begun = h.begun n; others = h.others n; whole = h.whole n; broken = h.broken n; ended = h.ended n }

all_outputs : (numbers : List ℕ) (text : ℕ → List ℕ) (log : List Entry) → ((n : ℕ) → IsOutput n (times n numbers) (text n) log) → AreOutputs numbers text log
all_outputs numbers text log h = record {
  begun = λ n. (h n).begun;
  others = λ n. (h n).others;
  whole = λ n. (h n).whole;
  broken = λ n. (h n).broken;
  ended = λ n. (h n).ended;
}

-- calls that are none of output n
record AreOff (n : ℕ) (calls : List Entry) : Type 0 where
  begun : begins n calls ≡ 0
  put : puts n calls ≡ 0
  unbroken : failures n calls ≡ 0
  holds : (bytes : List ℕ) → held_from n bytes calls ≡ bytes

IsOutput-off : (n count : ℕ) (text : List ℕ) (log more : List Entry) → IsOutput n count text log → AreOff n more → IsOutput n count text (log ++ more)
IsOutput-off n count text log more h off =
    let same : held n (log ++ more) ≡ held n log = held-append n log more ∙ off.holds (held n log) in
    record {
      begun = omega (arith, begins-append n log more, off.begun, h.begun);
      others = λ none. omega (arith, puts-append n log more, off.put, h.others none);
      whole = λ none. same ∙ h.whole (omega (arith, failures-append n log more, none));
      broken = λ some. subst (λ l. IsPrefix l text) (sym same) (h.broken (omega (arith, failures-append n log more, off.unbroken, some)));
      ended = EndsAtFailure-others n log more h.ended off.begun off.put (EndsAtFailure-from_none n more off.unbroken);
    }

-- a call on output n, on which none has failed
IsOutput-on : (n count count' : ℕ) (text text' : List ℕ) (log : List Entry) (e : Entry) → IsOutput n count text log → failures n log ≡ 0 → count + begun_by n e ≡ count' → 0 < count'
    → (failed_on n e ≡ 0 → held_after n text e ≡ text') → (0 < failed_on n e → IsPrefix (held_after n text e) text') → IsOutput n count' text' (log ++ e ∷ [])
IsOutput-on n count count' text text' log e h none counted some whole part =
    let holds : held n (log ++ e ∷ []) ≡ held_after n text e = held-append n log (e ∷ []) ∙ ap (λ b. held_after n b e) (h.whole none) in
    let fails = failures-append n log (e ∷ []) in
    let one = failures-cons n e [] in
    record {
      begun = omega (arith, begins-append n log (e ∷ []), begins-cons n e [], h.begun, counted);
      others = λ no. absurd (omega (arith, no, some));
      whole = λ fine. holds ∙ whole (omega (arith, fails, one, fine));
      broken = λ failed. subst (λ l. IsPrefix l text') (sym holds) (part (omega (arith, fails, one, none, failed)));
      ended = EndsAtFailure-append n log (e ∷ []) none (λ _. (refl, refl), tt);
    }

-- ---- all outputs

-- other words for the same texts
pub AreOutputs-same : (numbers : List ℕ) (text text' : ℕ → List ℕ) (log : List Entry) → ((n : ℕ) → text n ≡ text' n) → AreOutputs numbers text log → AreOutputs numbers text' log
AreOutputs-same numbers text text' log same h = all_outputs numbers text' log (λ n. subst (λ t. IsOutput n (times n numbers) t log) (same n) (each_output numbers text log h n))

off_output : (n : ℕ) (e : Entry) → is_on_output e ≡ false → (begun_by n e ≡ 0) × (put_by n e ≡ 0) × (failed_on n e ≡ 0) × ((bytes : List ℕ) → held_after n bytes e ≡ bytes)
off_output n (Begun m) off = absurd (true≢false off)
off_output n (BeginFailed m) off = absurd (true≢false off)
off_output n (Put m bytes) off = absurd (true≢false off)
off_output n (PutFailed m bytes) off = absurd (true≢false off)
off_output n _ off = (refl, refl, refl, λ bytes. refl)

off_outputs : (n : ℕ) (calls : List Entry) → HasNo is_on_output calls → AreOff n calls
off_outputs n [] none = record { begun = refl; put = refl; unbroken = refl; holds = λ bytes. refl }
off_outputs n (e ∷ calls) none =
    let one = off_output n e none.0 in
    let rest = off_outputs n calls none.1 in
    record {
      begun = omega (arith, begins-cons n e calls, one.0, rest.begun);
      put = omega (arith, puts-cons n e calls, one.1, rest.put);
      unbroken = omega (arith, failures-cons n e calls, one.2, rest.unbroken);
      holds = λ bytes. ap (λ b. held_from n b calls) (one.3 bytes) ∙ rest.holds bytes;
    }

-- calls that are none of an output's
pub AreOutputs-off : (numbers : List ℕ) (text : ℕ → List ℕ) (log more : List Entry) → HasNo is_on_output more → AreOutputs numbers text log → AreOutputs numbers text (log ++ more)
AreOutputs-off numbers text log more none h = all_outputs numbers text (log ++ more) (λ n. IsOutput-off n (times n numbers) (text n) log more (each_output numbers text log h n) (off_outputs n more none))

pub AreListed-off : (broken : List ℕ) (log more : List Entry) → HasNo is_on_output more → AreListed broken log → AreListed broken (log ++ more)
AreListed-off broken log more none h n = let off = off_outputs n more none in omega (arith, h n, failures-append n log more, off.unbroken)

-- a call on output k alone
module _ (k : ℕ) (e : Entry) (other : (n : ℕ) → (k == n) ≡ false → AreOff n (e ∷ [])) where
  AreOutputs-on : (numbers numbers' : List ℕ) (text text' : ℕ → List ℕ) (log : List Entry) → AreOutputs numbers text log
      → ((n : ℕ) → (k == n) ≡ false → (times n numbers ≡ times n numbers') × (text n ≡ text' n))
      → IsOutput k (times k numbers') (text' k) (log ++ e ∷ []) → AreOutputs numbers' text' (log ++ e ∷ [])
  AreOutputs-on numbers numbers' text text' log h same here = all_outputs numbers' text' (log ++ e ∷ []) (λ n. go n (k == n) refl)
    where
      go : (n : ℕ) (b : Bool) → (k == n) ≡ b → IsOutput n (times n numbers') (text' n) (log ++ e ∷ [])
      go n true is = subst (λ m. IsOutput m (times m numbers') (text' m) (log ++ e ∷ [])) ((Decides-eqb k n).0 is) here
      go n false is =
          let s = same n is in
          subst (λ t. IsOutput n (times n numbers') t (log ++ e ∷ [])) s.1
          (subst (λ count. IsOutput n count (text n) (log ++ e ∷ [])) s.0 (IsOutput-off n (times n numbers) (text n) log (e ∷ []) (each_output numbers text log h n) (other n is)))

-- what a number's own test gives
itself : (k : ℕ) → (k == k) ≡ true
itself k = grind arith

one_time : (k : ℕ) → times k (k ∷ []) ≡ 1
one_time k = let same = ap {B = ℕ} (λ b. cond b 1 0) (itself k) in omega (arith, same)

no_time : (n k : ℕ) → (k == n) ≡ false → times n (k ∷ []) ≡ 0
no_time n k other = let none = ap {B = ℕ} (λ b. cond b 1 0) other in omega (arith, none)

module _ (n k : ℕ) (other : (k == n) ≡ false) where
  none : ◌≡◌ {A = ℕ} (cond (k == n) 1 0) 0
  none = ap (λ b. cond b 1 0) other

  begun_off : AreOff n (Begun k ∷ [])
  begun_off = record { begun = omega (arith, none); put = refl; unbroken = refl; holds = λ bytes. ap (λ b. cond b [] bytes) other }

  begin_failed_off : AreOff n (BeginFailed k ∷ [])
  begin_failed_off = record { begun = omega (arith, none); put = refl; unbroken = omega (arith, none); holds = λ bytes. refl }

  put_off : (added : List ℕ) → AreOff n (Put k added ∷ [])
  put_off added = record { begun = refl; put = omega (arith, none); unbroken = refl; holds = λ bytes. ap (λ b. cond b (bytes ++ added) bytes) other }

  put_failed_off : (front : List ℕ) → AreOff n (PutFailed k front ∷ [])
  put_failed_off front = record { begun = refl; put = omega (arith, none); unbroken = omega (arith, none); holds = λ bytes. ap (λ b. cond b (bytes ++ front) bytes) other }

-- a new output is begun, or its begin fails
module _ (numbers : List ℕ) (text : ℕ → List ℕ) (log : List Entry) (k : ℕ) (h : AreOutputs numbers text log) (new : times k numbers ≡ 0) (empty : text k ≡ []) where
  same_else : (n : ℕ) → (k == n) ≡ false → (times n numbers ≡ times n (numbers ++ k ∷ [])) × (text n ≡ text n)
  same_else n other = (omega (arith, times-append n numbers (k ∷ []), no_time n k other), refl)

  pub unbroken_new : failures k log ≡ 0
  unbroken_new = omega (arith, failures-le k log, h.begun k, h.others k new, new)

  more_often : (e : Entry) → begun_by k e ≡ 1 → times k numbers + begun_by k e ≡ times k (numbers ++ k ∷ [])
  more_often e one = omega (arith, one, times-append k numbers (k ∷ []), one_time k)

  at_all : 0 < times k (numbers ++ k ∷ [])
  at_all = omega (arith, times-append k numbers (k ∷ []), one_time k)

  once : ◌≡◌ {A = ℕ} (cond (k == k) 1 0) 1
  once = ap (λ b. cond b 1 0) (itself k)

  pub AreOutputs-begun : AreOutputs (numbers ++ k ∷ []) text (log ++ Begun k ∷ [])
  AreOutputs-begun = AreOutputs-on k (Begun k) (λ n other. begun_off n k other) numbers (numbers ++ k ∷ []) text text log h same_else
      (IsOutput-on k (times k numbers) (times k (numbers ++ k ∷ [])) (text k) (text k) log (Begun k) (each_output numbers text log h k) unbroken_new
      (more_often (Begun k) once) at_all
      (λ fine. ap (λ b. cond b [] (text k)) (itself k) ∙ sym empty)
      (λ failed. absurd (omega (arith, failed))))

  pub AreOutputs-begin_failed : AreOutputs (numbers ++ k ∷ []) text (log ++ BeginFailed k ∷ [])
  AreOutputs-begin_failed = AreOutputs-on k (BeginFailed k) (λ n other. begin_failed_off n k other) numbers (numbers ++ k ∷ []) text text log h same_else
      (IsOutput-on k (times k numbers) (times k (numbers ++ k ∷ [])) (text k) (text k) log (BeginFailed k) (each_output numbers text log h k) unbroken_new
      (more_often (BeginFailed k) once) at_all
      (λ fine. refl)
      (λ failed. ([], sym (append-nil (text k)))))

-- Some bytes more are due on output k: they are put, the put fails after a prefix of them, or the output is broken.
module _ (numbers : List ℕ) (text : ℕ → List ℕ) (log : List Entry) (k : ℕ) (bytes : List ℕ) (h : AreOutputs numbers text log) where
  -- the texts with these bytes more
  abbrev pub with_bytes : ℕ → List ℕ
  with_bytes n = text n ++ cond (k == n) bytes []

  here : with_bytes k ≡ text k ++ bytes
  here = ap (λ b. text k ++ cond b bytes []) (itself k)

  else : (n : ℕ) → (k == n) ≡ false → text n ≡ with_bytes n
  else n other = sym (ap (λ b. text n ++ cond b bytes []) other ∙ append-nil (text n))

  module _ (known : 0 < times k numbers) (unbroken : failures k log ≡ 0) where
    pub AreOutputs-put : AreOutputs numbers with_bytes (log ++ Put k bytes ∷ [])
    AreOutputs-put = AreOutputs-on k (Put k bytes) (λ n other. put_off n k other bytes) numbers numbers text with_bytes log h (λ n other. (refl, else n other))
        (IsOutput-on k (times k numbers) (times k numbers) (text k) (with_bytes k) log (Put k bytes) (each_output numbers text log h k) unbroken (omega arith) known
        (λ fine. ap (λ b. cond b (text k ++ bytes) (text k)) (itself k) ∙ sym here)
        (λ failed. absurd (omega (arith, failed))))

    pub AreOutputs-put_failed : (front : List ℕ) → IsPrefix front bytes → AreOutputs numbers with_bytes (log ++ PutFailed k front ∷ [])
    AreOutputs-put_failed front part = AreOutputs-on k (PutFailed k front) (λ n other. put_failed_off n k other front) numbers numbers text with_bytes log h (λ n other. (refl, else n other))
        (IsOutput-on k (times k numbers) (times k numbers) (text k) (with_bytes k) log (PutFailed k front) (each_output numbers text log h k) unbroken (omega arith) known
        (λ fine. let one = ap {B = ℕ} (λ b. cond b 1 0) (itself k) in absurd (omega (arith, fine, one)))
        (λ failed. (part.0, here ∙ ap (λ l. text k ++ l) part.1 ∙ sym (append_assoc (text k) front part.0) ∙ ap (λ l. l ++ part.0) (sym (ap (λ b. cond b (text k ++ front) (text k)) (itself k))))))

  pub AreOutputs-skipped : 0 < failures k log → AreOutputs numbers with_bytes log
  AreOutputs-skipped failed = record {
    begun = h.begun;
    others = h.others;
    whole = λ n fine. h.whole n fine ∙ go n fine (k == n) refl;
    broken = λ n some. let part = h.broken n some in (part.0 ++ cond (k == n) bytes [], ap (λ l. l ++ cond (k == n) bytes []) part.1 ∙ append_assoc (held n log) part.0 (cond (k == n) bytes []));
    ended = h.ended;
  }
    where
      go : (n : ℕ) → failures n log ≡ 0 → (b : Bool) → (k == n) ≡ b → text n ≡ with_bytes n
      go n fine true is = let at = ap (λ m. failures m log) ((Decides-eqb k n).0 is) in absurd (omega (arith, at, fine, failed))
      go n fine false is = else n is

-- the list of broken outputs after a call that went well, and after one that failed
pub AreListed-fine : (broken : List ℕ) (log : List Entry) (e : Entry) → ((n : ℕ) → failed_on n e ≡ 0) → AreListed broken log → AreListed broken (log ++ e ∷ [])
AreListed-fine broken log e fine h n = omega (arith, h n, fine n, failures-append n log (e ∷ []), failures-cons n e [])

pub AreListed-failed : (broken broken' : List ℕ) (log : List Entry) (e : Entry) (k : ℕ) → failures k log ≡ 0 → ((n : ℕ) → failed_on n e ≡ cond (k == n) 1 0)
    → ((n : ℕ) → times n broken' ≡ cond (k == n) 1 (times n broken)) → AreListed broken log → AreListed broken' (log ++ e ∷ [])
AreListed-failed broken broken' log e k unbroken failed added h n = go (k == n) refl
  where
    go : (b : Bool) → (k == n) ≡ b → times n broken' ≡ failures n (log ++ e ∷ [])
    go true is =
        let at = ap (λ m. failures m log) ((Decides-eqb k n).0 is) in
        let one = failed n ∙ ap (λ b. cond b 1 0) is in
        let two = added n ∙ ap (λ b. cond b 1 (times n broken)) is in
        omega (arith, at, one, two, unbroken, failures-append n log (e ∷ []), failures-cons n e [])
    go false is =
        let one = failed n ∙ ap (λ b. cond b 1 0) is in
        let two = added n ∙ ap (λ b. cond b 1 (times n broken)) is in
        omega (arith, h n, one, two, failures-append n log (e ∷ []), failures-cons n e [])
