-- The order of records: by time, then by line.
use Rattle.std.specs.Prelude.{◌==◌, ◌&&◌, ◌||◌, nat_lt, Bool, List, [], ◌∷◌, IsTrue}
use Rattle.std.specs.List.{AllByRecursion}
use Rattle.as_base.specs.declared.item.Record.{Record}

-- the first record has the lower time, or the same time and the lower line
abbrev pub comes_before : Record → Record → Bool
comes_before r s = nat_lt r.given.time s.given.time || (r.given.time == s.given.time && nat_lt r.seq s.seq)

-- each record comes before all later ones
abbrev pub InOrder : List Record → Type 0
InOrder [] = Unit {0}
InOrder (r ∷ rs) = AllByRecursion (λ s. IsTrue (comes_before r s)) rs × InOrder rs
