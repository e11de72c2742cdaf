-- Calls one after another, in all that is seen of a shelf or a desk.
use Rattle.std.proofs.Common.{ℕ, zero, suc, ◌≡◌, ◌≤◌, ◌<◌, ◌+◌, ◌==◌, true, inl, inr, ⊎_elim, Option, None, Some, List, [], ◌∷◌, ◌++◌, refl, sym, ap, ◌∙◌, subst, arith, append_assoc, append-nil}
use Rattle.std.specs.Option.{option_map}
use Rattle.as_outside.specs.declared.entry.Entry.{Entry}
use Rattle.as_outside.specs.declared.entry.Entry.TheVariants.{Pulled, SayFailed, NoteFailed, BeginFailed, PutFailed}
use Rattle.as_outside.specs.Log.{pulled}
use Rattle.as_outside.specs.Failures.{say_failures, note_failures, pull_failures, failures}
use Rattle.as_outside.specs.Makes.{Seen, Tells, Takes, Rose, Counts, CountsOutputs, Makes}
use Rattle.as_outside.proofs.LogLaws.{pulled-append}
use Rattle.as_outside.proofs.FailureLaws.{failures-append, say_failures-append, note_failures-append, pull_failures-append}

-- without a call the log stays
tells_none : (x : Option (List Entry)) → Tells x x []
tells_none x now is = (now, is, sym (append-nil now))

tells_after : (a b c : Option (List Entry)) (xs ys : List Entry) → Tells a b xs → Tells b c ys → Tells a c (xs ++ ys)
tells_after a b c xs ys first second now is =
    let later = second now is in
    let earlier = first later.0 later.1 in
    (earlier.0, earlier.1, later.2 ∙ ap (λ s. s ++ ys) earlier.2 ∙ append_assoc earlier.0 xs ys)

-- nothing is taken where what is left stays
pub takes_none : (x : Option (List ℕ)) → Takes x x []
takes_none None = refl
takes_none (Some rest) = refl

pub takes_after : (a b c : Option (List ℕ)) (xs ys : List ℕ) → Takes a b xs → Takes b c ys → Takes a c (xs ++ ys)
takes_after a b None xs ys first second = first ∙ ap (option_map (λ rest. xs ++ rest)) second
takes_after a b (Some rest) xs ys first second = first ∙ ap (option_map (λ more. xs ++ more)) second ∙ ap Some (sym (append_assoc xs ys rest))

-- a count that was not higher before rose too
Rose-after : (a b c : ℕ) → a ≤ b → Rose b c → Rose a c
Rose-after a b c below rose = (omega (arith, rose.0), ⊎_elim (λ h. inl (omega arith)) (λ h. inr h) rose.1)

Rose-before : (a b c : ℕ) → Rose a b → b ≤ c → Rose a c
Rose-before a b c rose above = (omega (arith, rose.0), ⊎_elim (λ h. inl (omega arith)) (λ h. inr (omega arith)) rose.1)

-- no call that it counts failed
pub kept : (a b : ℕ) → b ≡ a → Counts 0 a b
kept a b same = record { stays = λ _. same; rose = λ some. absurd (omega (arith, some)) }

-- one did
raised : (a b : ℕ) → Rose a b → Counts 1 a b
raised a b rose = record { stays = λ none. absurd (omega (arith, none)); rose = λ _. rose }

pub Counts-append : (f g a b c : ℕ) → Counts f a b → Counts g b c → Counts (f + g) a c
Counts-append zero g a b c first second =
    let same = first.stays refl in
    record {
      stays = λ none. second.stays (omega (arith, none)) ∙ same;
      rose = λ some. Rose-after a b c (omega (arith, same)) (second.rose (omega (arith, some)));
    }
Counts-append (suc f) zero a b c first second =
    let same = second.stays refl in
    record {
      stays = λ none. absurd (omega (arith, none));
      rose = λ some. Rose-before a b c (first.rose (omega arith)) (omega (arith, same));
    }
Counts-append (suc f) (suc g) a b c first second = record {
  stays = λ none. absurd (omega (arith, none));
  rose = λ some. Rose-before a b c (first.rose (omega arith)) (second.rose (omega arith)).0;
}

-- no count of an output falls
grows : (failed old new : ℕ → ℕ) → CountsOutputs failed old new → (n : ℕ) → old n ≤ new n
grows failed old new h n = ⊎_elim (λ apart. go (failed n) refl apart) (λ all. (all.2 n).0) h.apart
  where
    go : (k : ℕ) → failed n ≡ k → ((m : ℕ) → failed m ≡ 0 → new m ≡ old m) → old n ≤ new n
    go zero is apart = omega (arith, apart n is)
    go (suc k) is apart = (h.rose n (omega (arith, is))).0

CountsOutputs-append : (f g all a b c : ℕ → ℕ) → ((n : ℕ) → all n ≡ f n + g n) → CountsOutputs f a b → CountsOutputs g b c → CountsOutputs all a c
CountsOutputs-append f g all a b c sum first second = record {
  rose = λ n some. go n (f n) refl some;
  apart = ⊎_elim
      (λ one. ⊎_elim
      (λ two. inl (λ n none. two n (omega (arith, none, sum n)) ∙ one n (omega (arith, none, sum n))))
      (λ rest. inr (rest.0, omega (arith, sum rest.0, rest.1), λ n. Rose-after (a n) (b n) (c n) (grows f a b first n) (rest.2 n)))
      second.apart)
      (λ rest. inr (rest.0, omega (arith, sum rest.0, rest.1), λ n. Rose-before (a n) (b n) (c n) (rest.2 n) (grows g b c second n)))
      first.apart;
}
  where
    go : (n : ℕ) (k : ℕ) → f n ≡ k → 0 < all n → Rose (a n) (c n)
    go n zero is some = Rose-after (a n) (b n) (c n) (grows f a b first n) (second.rose n (omega (arith, is, some, sum n)))
    go n (suc k) is some = Rose-before (a n) (b n) (c n) (first.rose n (omega (arith, is))) (grows g b c second n)

-- the same counts, told otherwise
pub CountsOutputs-same : (f g old new : ℕ → ℕ) → ((n : ℕ) → g n ≡ f n) → CountsOutputs f old new → CountsOutputs g old new
CountsOutputs-same f g old new same h = record {
  rose = λ n some. h.rose n (omega (arith, same n, some));
  apart = ⊎_elim (λ one. inl (λ n none. one n (omega (arith, same n, none)))) (λ rest. inr (rest.0, omega (arith, same rest.0, rest.1), rest.2)) h.apart;
}

-- no call on an output failed, and their counts stay
untouched : (old new : ℕ → ℕ) → ((m : ℕ) → new m ≡ old m) → CountsOutputs (λ _. 0) old new
untouched old new same = record { rose = λ m some. absurd (omega (arith, some)); apart = inl (λ m _. same m) }

-- no call changes nothing
pub makes_none : (a : Seen) → Makes a a []
makes_none a = record {
  tells = tells_none a.log;
  takes = takes_none a.left;
  says = kept _ _ refl;
  notes = kept _ _ refl;
  pulls = kept _ _ refl;
  outputs = untouched _ _ (λ n. refl);
}

-- The one law: calls and then calls.
pub makes_after : (a b c : Seen) (xs ys : List Entry) → Makes a b xs → Makes b c ys → Makes a c (xs ++ ys)
makes_after a b c xs ys first second = record {
  tells = tells_after a.log b.log c.log xs ys first.tells second.tells;
  takes = subst (Takes a.left c.left) (sym (pulled-append xs ys)) (takes_after a.left b.left c.left (pulled xs) (pulled ys) first.takes second.takes);
  says = subst (λ f. Counts f a.faults.say c.faults.say) (sym (say_failures-append xs ys)) (Counts-append (say_failures xs) (say_failures ys) _ _ _ first.says second.says);
  notes = subst (λ f. Counts f a.faults.note c.faults.note) (sym (note_failures-append xs ys)) (Counts-append (note_failures xs) (note_failures ys) _ _ _ first.notes second.notes);
  pulls = subst (λ f. Counts f a.faults.pull c.faults.pull) (sym (pull_failures-append xs ys)) (Counts-append (pull_failures xs) (pull_failures ys) _ _ _ first.pulls second.pulls);
  outputs = CountsOutputs-append (λ n. failures n xs) (λ n. failures n ys) _ _ _ _ (λ n. failures-append n xs ys) first.outputs second.outputs;
}

-- a number is itself
pub same_number : (n : ℕ) → (n == n) ≡ true
same_number n = grind arith

module _ (old new : Seen) (says : new.faults.say ≡ old.faults.say) (notes : new.faults.note ≡ old.faults.note) (pulls : new.faults.pull ≡ old.faults.pull) where
  -- a begin failed, and for want of memory to tell outputs apart all counts of outputs rose
  pub begin_blurred : (n : ℕ) → Tells old.log new.log (BeginFailed n ∷ []) → new.left ≡ old.left
      → ((m : ℕ) → Rose (old.faults.output m) (new.faults.output m)) → Makes old new (BeginFailed n ∷ [])
  begin_blurred n tells left all = record {
    tells = tells;
    takes = rw left (takes_none old.left);
    says = kept _ _ says;
    notes = kept _ _ notes;
    pulls = kept _ _ pulls;
    outputs = record { rose = λ m _. all m; apart = inr (n, rw same_number (omega arith), all) };
  }

  -- the same of a put
  pub put_blurred : (n : ℕ) (front : List ℕ) → Tells old.log new.log (PutFailed n front ∷ []) → new.left ≡ old.left
      → ((m : ℕ) → Rose (old.faults.output m) (new.faults.output m)) → Makes old new (PutFailed n front ∷ [])
  put_blurred n front tells left all = record {
    tells = tells;
    takes = rw left (takes_none old.left);
    says = kept _ _ says;
    notes = kept _ _ notes;
    pulls = kept _ _ pulls;
    outputs = record { rose = λ m _. all m; apart = inr (n, rw same_number (omega arith), all) };
  }

  -- a pull went well
  pub pulled_makes : (bytes : List ℕ) → Tells old.log new.log (Pulled bytes ∷ []) → Takes old.left new.left bytes
      → ((m : ℕ) → new.faults.output m ≡ old.faults.output m) → Makes old new (Pulled bytes ∷ [])
  pulled_makes bytes tells takes outputs = record {
    tells = tells;
    takes = rw append-nil takes;
    says = kept _ _ says;
    notes = kept _ _ notes;
    pulls = kept _ _ pulls;
    outputs = untouched _ _ outputs;
  }

module _ (front : List ℕ) (old new : Seen) (left : new.left ≡ old.left) (pulls : new.faults.pull ≡ old.faults.pull) (outputs : (m : ℕ) → new.faults.output m ≡ old.faults.output m) where
  -- a say failed, and its count rose
  pub say_broke : new.faults.note ≡ old.faults.note → Rose old.faults.say new.faults.say → Tells old.log new.log (SayFailed front ∷ [])
      → Makes old new (SayFailed front ∷ [])
  say_broke notes rose tells = record {
    tells = tells;
    takes = rw left (takes_none old.left);
    says = raised _ _ rose;
    notes = kept _ _ notes;
    pulls = kept _ _ pulls;
    outputs = untouched _ _ outputs;
  }

  -- the same of a note
  pub note_broke : new.faults.say ≡ old.faults.say → Rose old.faults.note new.faults.note → Tells old.log new.log (NoteFailed front ∷ [])
      → Makes old new (NoteFailed front ∷ [])
  note_broke says rose tells = record {
    tells = tells;
    takes = rw left (takes_none old.left);
    says = kept _ _ says;
    notes = raised _ _ rose;
    pulls = kept _ _ pulls;
    outputs = untouched _ _ outputs;
  }
