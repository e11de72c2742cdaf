-- What holds of a log, where some of its entries are picked out by a test.
use Rattle.std.specs.Prelude.{◌≡◌, Bool, true, false, List, [], ◌∷◌}
use Rattle.std.specs.List.{AllByRecursion}
use Rattle.as_outside.specs.declared.entry.Entry.{Entry}

-- none of the entries is one that the test picks
abbrev pub HasNo : (Entry → Bool) → List Entry → Type 0
HasNo is_picked log = AllByRecursion (λ e. is_picked e ≡ false) log

-- Before each entry that the test picks, P holds of the entries before it.
abbrev pub BeforeEach : (Entry → Bool) → (List Entry → Type 0) → List Entry → Type 0
BeforeEach is_picked P [] = Unit {0}
BeforeEach is_picked P (e ∷ log) = (is_picked e ≡ true → P []) × BeforeEach is_picked (λ before. P (e ∷ before)) log
