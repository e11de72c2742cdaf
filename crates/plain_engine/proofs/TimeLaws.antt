-- Records that stand by time: how they are cut at a time, and where one more goes.
use Rattle.std.proofs.Common.{◌≡◌, ℕ, ◌+◌, ◌≤◌, ◌<◌, nat_lt, nat_le, Bool, true, false, not, cond, zero, suc, List, [], ◌∷◌, ◌++◌, length, get_or, drop, Result, Ok, Err, OnOk, OnErr, refl, sym, ap, subst, ◌∙◌, drop-drop, arith, rules}
use Rattle.std.specs.List.{filter, insert, AllByRecursion}
use Rattle.std.proofs.lemmas.Bool.{le-leb, leb-true, leb-false}
use Rattle.std.proofs.lemmas.Bool.Decides.{nat_tests}
use Rattle.std.proofs.lemmas.List.Sorted.{IsNonDecreasingBy-drop}
use Rattle.as_base.specs.declared.item.Given.{Given}
use Rattle.as_base.specs.declared.memory.NoMemory.{NoMemory}
use Rattle.as_base.specs.Range.{IsTime}
use Rattle.std.proofs.lemmas.List.Elements.{filter_agree}
use Rattle.views.proofs.ListLaws.{All-by, All-filter}
use Rattle.plain_engine.specs.Walk.{AreByTime, AreWaiting, IsPlaceAt, put_by_time}
use Rattle.plain_engine.proofs.CutLaws.{IsCutAt, cut-rest}

-- ---- cut at a time

-- the records from the point on, where those before the time end, are not before it
pub cut-from_time : (time i : ℕ) (gs : List Given) → IsCutAt (λ (g : Given). nat_lt g.time time) gs i → drop i gs ≡ filter (λ (g : Given). nat_le time g.time) gs
cut-from_time time i gs h =
    cut-rest (λ (g : Given). nat_lt g.time time) i gs h
    ∙ filter_agree (λ (g : Given). not (nat_lt g.time time)) (λ (g : Given). nat_le time g.time) (λ g. not_before g.time time) gs
  where
    not_before : (x z : ℕ) → not (nat_lt x z) ≡ nat_le z x
    not_before x z = grind (arith, nat_tests)

-- ---- one more record

-- the place is after all that are not later
pub put-insert : (g : Given) (gs : List Given) (i : ℕ) → IsPlaceAt g.time gs i → i ≤ length gs → insert gs i g ≡ put_by_time g gs
put-insert g [] zero h le = refl
put-insert g [] (suc i) h le = absurd (omega (arith, le))
put-insert g (x ∷ xs) zero h le = ap (λ b. cond b (x ∷ put_by_time g xs) (g ∷ x ∷ xs)) (sym (h.1 0 x (omega arith) (omega arith)))
put-insert g (x ∷ xs) (suc i) h le =
    ap (λ l. x ∷ l) (put-insert g xs i (λ k d low high. h.0 (suc k) d (omega arith) (omega (arith, high)), λ k d low high. h.1 (suc k) d (omega (arith, low)) (omega (arith, high))) (omega (arith, le)))
    ∙ ap (λ b. cond b (x ∷ put_by_time g xs) (g ∷ x ∷ xs)) (sym (h.0 0 x (omega arith) (omega arith)))

-- a fact of each record holds after one more of which it holds
pub put-all : (P : Given → Type 0) (g : Given) (gs : List Given) → P g → AllByRecursion P gs → AllByRecursion P (put_by_time g gs)
put-all P g [] p h = (p, tt)
put-all P g (x ∷ xs) p h = by_cases (put-all P g xs p h.1) (nat_le x.time g.time)
  where
    by_cases : AllByRecursion P (put_by_time g xs) → (b : Bool) → AllByRecursion P (cond b (x ∷ put_by_time g xs) (g ∷ x ∷ xs))
    by_cases put true = (h.0, put)
    by_cases put false = (p, h)

-- a record that is not before the others goes to the end
pub put-last : (g : Given) (gs : List Given) → AllByRecursion (λ (x : Given). x.time ≤ g.time) gs → put_by_time g gs ≡ gs ++ g ∷ []
put-last g [] h = refl
put-last g (x ∷ xs) h = ap (λ b. cond b (x ∷ put_by_time g xs) (g ∷ x ∷ xs)) (le-leb x.time g.time h.0) ∙ ap (λ l. x ∷ l) (put-last g xs h.1)

All-at : (P : Given → Type 0) (gs : List Given) → AllByRecursion P gs → (k : ℕ) (d : Given) → k < length gs → P (get_or gs k d)
All-at P [] h k d lt = absurd (omega (arith, lt))
All-at P (x ∷ xs) h zero d lt = h.0
All-at P (x ∷ xs) h (suc k) d lt = All-at P xs h.1 k d (omega (arith, lt))

by_time-cons : (x : Given) (xs : List Given) → AllByRecursion (λ (y : Given). x.time ≤ y.time) xs → AreByTime xs → AreByTime (x ∷ xs)
by_time-cons x xs low h zero zero d le lt = omega arith
by_time-cons x xs low h zero (suc j) d le lt = All-at (λ (y : Given). x.time ≤ y.time) xs low j d (omega (arith, lt))
by_time-cons x xs low h (suc i) zero d le lt = absurd (omega (arith, le))
by_time-cons x xs low h (suc i) (suc j) d le lt = h i j d (omega (arith, le)) (omega (arith, lt))

pub by_time-rest : (x : Given) (xs : List Given) → AreByTime (x ∷ xs) → AreByTime xs
by_time-rest x xs h i j d le lt = h (suc i) (suc j) d (omega (arith, le)) (omega (arith, lt))

pub by_time-first : (x : Given) (xs : List Given) → AreByTime (x ∷ xs) → AllByRecursion (λ (y : Given). x.time ≤ y.time) xs
by_time-first x xs h = each xs (λ j d lt. h 0 (suc j) d (omega arith) (omega (arith, lt)))
  where
    each : (ys : List Given) → ((j : ℕ) (d : Given) → j < length ys → x.time ≤ (get_or ys j d).time) → AllByRecursion (λ (y : Given). x.time ≤ y.time) ys
    each [] k = tt
    each (y ∷ ys) k = (k 0 y (omega arith), each ys (λ j d lt. k (suc j) d (omega (arith, lt))))

-- the records stand by time after one more
pub put-by_time : (g : Given) (gs : List Given) → AreByTime gs → AreByTime (put_by_time g gs)
put-by_time g [] h = by_time-cons g [] tt h
put-by_time g (x ∷ xs) h = by_cases (put-by_time g xs (by_time-rest x xs h)) (nat_le x.time g.time) refl
  where
    by_cases : AreByTime (put_by_time g xs) → (b : Bool) → nat_le x.time g.time ≡ b → AreByTime (cond b (x ∷ put_by_time g xs) (g ∷ x ∷ xs))
    by_cases put true e =
        by_time-cons x (put_by_time g xs) (put-all (λ (y : Given). x.time ≤ y.time) g xs (leb-true x.time g.time e) (by_time-first x xs h)) put
    by_cases put false e =
        let low = leb-false x.time g.time e in
        by_time-cons g (x ∷ xs) (omega (arith, low), All-by (λ (y : Given). x.time ≤ y.time) (λ (y : Given). g.time ≤ y.time) (λ y k. omega (arith, low, k)) xs (by_time-first x xs h)) h

-- a filter keeps the order
pub by_time-filter : (p : Given → Bool) (gs : List Given) → AreByTime gs → AreByTime (filter p gs)
by_time-filter p [] h = h
by_time-filter p (x ∷ xs) h = by_cases (by_time-filter p xs (by_time-rest x xs h)) (p x)
  where
    by_cases : AreByTime (filter p xs) → (b : Bool) → AreByTime (cond b (x ∷ filter p xs) (filter p xs))
    by_cases rest true = by_time-cons x (filter p xs) (All-filter (λ (y : Given). x.time ≤ y.time) p xs (by_time-first x xs h)) rest
    by_cases rest false = rest

-- ---- records that wait

pub waiting-put : (r : Result (Unit {0}) NoMemory) (g : Given) (from : ℕ) (old new : List Given) → OnOk r (drop from new ≡ put_by_time g (drop from old)) → OnErr r (new ≡ old) → IsTime g.time → AreWaiting (drop from old) → AreWaiting (drop from new)
waiting-put (Ok u) g from old new ok err time h =
    subst AreWaiting (sym ok) (record { order = put-by_time g (drop from old) h.order; times = put-all (λ (g : Given). IsTime g.time) g (drop from old) time h.times })
waiting-put (Err e) g from old new ok err time h = subst (λ l. AreWaiting (drop from l)) (sym err) h

drop-all : (P : Given → Type 0) (k : ℕ) (gs : List Given) → AllByRecursion P gs → AllByRecursion P (drop k gs)
drop-all P zero gs h = h
drop-all P (suc k) [] h = tt
drop-all P (suc k) (g ∷ gs) h = drop-all P k gs h.1

pub waiting-drop : (k : ℕ) (gs : List Given) → AreWaiting gs → AreWaiting (drop k gs)
waiting-drop k gs h = record { order = IsNonDecreasingBy-drop (λ (g : Given). g.time) k gs h.order; times = drop-all (λ (g : Given). IsTime g.time) k gs h.times }

pub drop_more : (a b : ℕ) (gs : List Given) → drop (a + b) gs ≡ drop b (drop a gs)
drop_more a b gs = search (rules, drop-drop)

-- an insert behind a place
pub drop-insert : (from i k : ℕ) (g : Given) (gs : List Given) → k ≡ from + i → from ≤ length gs → drop from (insert gs k g) ≡ insert (drop from gs) i g
drop-insert zero i k g gs e le = ap (λ j. insert gs j g) (omega (arith, e))
drop-insert (suc from) i zero g gs e le = absurd (omega (arith, e))
drop-insert (suc from) i (suc k) g [] e le = absurd (omega (arith, le))
drop-insert (suc from) i (suc k) g (x ∷ gs) e le = drop-insert from i k g gs (omega (arith, e)) (omega (arith, le))
