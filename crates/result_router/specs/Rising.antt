-- Fragments taken by a number of theirs, such as that of their query.
use Rattle.std.specs.Prelude.{ℕ, ◌==◌, List, map}
use Rattle.std.specs.List.{filter, flat_map}
use Rattle.as_base.specs.declared.fragment.Fragment.{Fragment}
use Rattle.views.specs.Passed.{rising_once}

-- those of the fragments that have the number
abbrev pub with_key : (Fragment → ℕ) → ℕ → List Fragment → List Fragment
with_key key k fs = filter (λ f. key f == k) fs

-- What is made of the fragments with each number, by rising number.
abbrev pub by_rising : {Y : Type 0} → (Fragment → ℕ) → (List Fragment → List Y) → List Fragment → List Y
by_rising key make fs = flat_map (λ k. make (with_key key k fs)) (rising_once (map key fs))

-- the number of the query, and where the window begins
abbrev pub number_of : Fragment → ℕ
number_of f = f.n

abbrev pub start_of : Fragment → ℕ
start_of f = f.start
