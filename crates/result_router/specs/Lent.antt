-- Fragments that are lent, in the order of a number of theirs.
use Rattle.std.specs.Prelude.{ℕ, List, map}
use Rattle.std.specs.Borrow.{Bor}
use Rattle.std.specs.List.Sorted.{IsSortedByKey}
use Rattle.std.specs.Ordering.{nat_cmp}
use Rattle.as_base.specs.declared.fragment.Fragment.{Fragment}

-- the fragments that are lent
abbrev pub lent : List (Bor Fragment) → List Fragment
lent fs = map (λ (f : Bor Fragment). f.now) fs

-- they stand by the number
abbrev pub AreBy : (Fragment → ℕ) → List (Bor Fragment) → Type 0
AreBy key fs = IsSortedByKey (λ (f : Bor Fragment). key f.now) nat_cmp fs
