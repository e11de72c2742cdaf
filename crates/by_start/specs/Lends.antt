-- What a list ends as, where a `&mut` to one of its things is returned.
use Rattle.std.specs.Prelude.{ℕ, List}
use Rattle.std.specs.Borrow.{Fml, RattleType, MutBor, Lends}
use Rattle.by_start.specs.declared.Begun.{Begun}
use Rattle.by_start.specs.Order.{with_thing}
use Rattle.by_start.specs.contracts.ByStart.{the_row}

-- once the borrow r ends, the thing at the place is the last one written through r
abbrev pub lends_thing : (T : RattleType) → MutBor (List (Begun T.Denot)) → ℕ → MutBor T.Denot → Fml
lends_thing T list place r = Lends (the_row T) T list r (with_thing place list.now)
