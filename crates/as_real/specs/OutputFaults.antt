-- How often calls on each output failed, and what one more fault makes of that.
use Rattle.std.specs.Prelude.{ℕ, ◌≡◌, ◌+◌, ◌-◌, ◌^◌, ◌⊎◌, min, nat_eq, None, Some}
use Rattle.std.specs.HashMap.{get, spare}
use Rattle.std.specs.Map.{count_at}
use Rattle.as_outside.specs.Makes.{Rose}
use Rattle.as_real.specs.declared.output_faults.OutputFaults.{OutputFaults}

-- the faults of output n that were kept apart
abbrev pub own_of : OutputFaults → ℕ → ℕ
own_of f n = count_at (get nat_eq f.own) n

-- all that count for output n; not an `abbrev`, so that goals name it and lemmas on it are found
unfoldable pub faults_of : OutputFaults → ℕ → ℕ
faults_of f n = own_of f n + f.common

-- One more fault of output n was counted as its own.
pub record RaisesOwn (n : ℕ) (old new : OutputFaults) : Type 0 where
  pub entry : get nat_eq new.own n ≡ Some (min (own_of old n + 1) (2 ^ 64 - 1))
  pub rose : Rose (own_of old n) (own_of new n)
  pub common : new.common ≡ old.common

-- It was counted as a common one: the map had no entry of the output, and no room for it.
pub record RaisesCommon (n : ℕ) (old new : OutputFaults) : Type 0 where
  pub absent : get nat_eq old.own n ≡ None
  pub full : spare old.own ≡ 0
  pub own : new.own.entries ≡ old.own.entries
  pub rose : Rose old.common new.common

-- One more fault of output n was counted, and the map has the same at every other number.
pub record Raises (n : ℕ) (old new : OutputFaults) : Type 0 where
  pub counted : RaisesOwn n old new ⊎ RaisesCommon n old new
  pub others : (m : ℕ) → (m ≡ n → ⊥) → get nat_eq new.own m ≡ get nat_eq old.own m
