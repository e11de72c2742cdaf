-- One more fault of an output, in the counts of all outputs.
use Rattle.std.proofs.Common.{ℕ, ◌≡◌, ◌<◌, ◌+◌, ◌==◌, if◌then◌else◌, inl, inr, ⊎_elim, unwrap_or, List, [], ◌∷◌, ap, sym, subst, arith, nat_eq}
use Rattle.std.proofs.lemmas.Bool.{cases_eq}
use Rattle.std.specs.HashMap.{get}
use Rattle.std.specs.Map.{lookup}
use Rattle.as_outside.specs.declared.entry.Entry.{Entry}
use Rattle.as_outside.specs.declared.entry.Entry.TheVariants.{BeginFailed, PutFailed}
use Rattle.as_outside.specs.Failures.{failures}
use Rattle.as_outside.specs.Makes.{Rose, KeepsApart}
use Rattle.as_outside.proofs.MakesLaws.{same_number}
use Rattle.as_real.specs.declared.output_faults.OutputFaults.{OutputFaults}
use Rattle.as_real.specs.OutputFaults.{own_of, faults_of, RaisesCommon, Raises}

-- one part of a sum rose, and the other stays
rose_first : (a b c d : ℕ) → Rose a b → d ≡ c → Rose (a + c) (b + d)
rose_first a b c d rose same = (omega (arith, rose.0, same), ⊎_elim (λ h. inl (omega (arith, h, same))) (λ h. inr (omega (arith, h, same))) rose.1)

rose_second : (a b c d : ℕ) → b ≡ a → Rose c d → Rose (a + c) (b + d)
rose_second a b c d same rose = (omega (arith, rose.0, same), ⊎_elim (λ h. inl (omega (arith, h, same))) (λ h. inr (omega (arith, h, same))) rose.1)

own_same : (old new : OutputFaults) (m : ℕ) → get nat_eq new.own m ≡ get nat_eq old.own m → own_of new m ≡ own_of old m
own_same old new m same = ap (λ o. unwrap_or o 0) same

-- a common fault counts for every output
all_rose : (n : ℕ) (old new : OutputFaults) → RaisesCommon n old new → (m : ℕ) → Rose (faults_of old m) (faults_of new m)
unfolding faults_of
all_rose n old new common m = rose_second _ _ _ _ (own_same old new m (ap (lookup (nat_eq m)) common.own)) common.rose

this_rose : (n : ℕ) (old new : OutputFaults) → Raises n old new → Rose (faults_of old n) (faults_of new n)
unfolding faults_of
this_rose n old new raises = ⊎_elim (λ own. rose_first _ _ _ _ own.rose own.common) (λ common. all_rose n old new common n) raises.counted

-- what holds of an output on which a call failed holds of output n, if all failed calls were on that
rose : (calls : List Entry) (n : ℕ) → ((m : ℕ) → (m ≡ n → ⊥) → failures m calls ≡ 0) → (old new : OutputFaults) → Raises n old new
    → (m : ℕ) → 0 < failures m calls → Rose (faults_of old m) (faults_of new m)
rose calls n only old new raises m some = ⊎_elim
    (λ same. subst (λ k. Rose (faults_of old k) (faults_of new k)) (sym same) (this_rose n old new raises))
    (λ other. absurd (omega (arith, some, only m other)))
    (cases_eq m n)

apart : (calls : List Entry) (n : ℕ) → 0 < failures n calls → (old new : OutputFaults) → Raises n old new → KeepsApart (λ k. failures k calls) (faults_of old) (faults_of new)
unfolding faults_of
apart calls n fails old new raises = ⊎_elim
    (λ own. inl (λ m none.
    let other : m ≡ n → ⊥ = λ same. omega (arith, fails, subst (λ k. failures k calls ≡ 0) same none) in
    omega (arith, own_same old new m (raises.others m other), own.common)))
    (λ common. inr (n, fails, all_rose n old new common))
    raises.counted

-- a failed call on output n is none on another output
only_this : (n m : ℕ) → (m ≡ n → ⊥) → 0 + (if n == m then 1 else 0) ≡ 0
only_this n m other = grind (arith, other)

-- a begin failed, and a fault of its output was counted
module _ (n : ℕ) (old new : OutputFaults) (raises : Raises n old new) where
  pub begin_rose : (m : ℕ) → 0 < failures m (BeginFailed n ∷ []) → Rose (faults_of old m) (faults_of new m)
  begin_rose = rose (BeginFailed n ∷ []) n (only_this n) old new raises

  pub begin_apart : KeepsApart (λ k. failures k (BeginFailed n ∷ [])) (faults_of old) (faults_of new)
  begin_apart = apart (BeginFailed n ∷ []) n (rw same_number (omega arith)) old new raises

-- the same of a put
module _ (n : ℕ) (front : List ℕ) (old new : OutputFaults) (raises : Raises n old new) where
  pub put_rose : (m : ℕ) → 0 < failures m (PutFailed n front ∷ []) → Rose (faults_of old m) (faults_of new m)
  put_rose = rose (PutFailed n front ∷ []) n (only_this n) old new raises

  pub put_apart : KeepsApart (λ k. failures k (PutFailed n front ∷ [])) (faults_of old) (faults_of new)
  put_apart = apart (PutFailed n front ∷ []) n (rw same_number (omega arith)) old new raises
