-- Plans in their one form.
use Rattle.std.specs.Prelude.{◌≡◌, ℤ, true, List, length}
use Rattle.std.specs.List.{AllByRecursion}
use Rattle.as_words.specs.Number.{IsSigned}
use Rattle.as_base.specs.Query.{unlimited}
use Rattle.as_base.specs.Windows.{fits, one_tick}
use Rattle.as_base.specs.declared.query.Bounds.{Bounds}
use Rattle.as_base.specs.declared.query.Group.{Group}
use Rattle.as_base.specs.declared.query.Kind.{Kind}
use Rattle.as_base.specs.declared.query.Plan.{Plan}

-- the second side says nothing: it has the first's stream, and no limits
abbrev pub HasOneSide : Plan → Type 0
HasOneSide p = (p.right ≡ p.left) × (p.right_bounds ≡ unlimited)

-- what a plan of this kind has no use for is at its one value
abbrev pub IsCanonicalAs : Kind → Plan → Type 0
IsCanonicalAs Kind.Select p = HasOneSide p × (p.group ≡ Group.All) × (p.win ≡ one_tick)
IsCanonicalAs (Kind.Sum c) p = HasOneSide p
IsCanonicalAs Kind.Count p = HasOneSide p
IsCanonicalAs Kind.Join p = p.group ≡ Group.All

-- the same for its own kind
abbrev pub IsCanonical : Plan → Type 0
IsCanonical p = IsCanonicalAs p.kind p

-- five numbers from -2^63 to 2^63 - 1
abbrev pub FitsFields : List ℤ → Type 0
FitsFields zs = (length zs ≡ 5) × AllByRecursion IsSigned zs

-- the ends of the five intervals are in their ranges
abbrev pub FitsBounds : Bounds → Type 0
FitsBounds b = FitsFields b.lo × FitsFields b.hi

-- the streams of a join are two
abbrev pub FitsStreams : Kind → Plan → Type 0
FitsStreams Kind.Join p = ¬ (p.left ≡ p.right)
FitsStreams _ p = Unit {0}

-- the numbers of the plan are in their ranges, and its streams are as its kind asks
abbrev pub FitsPlan : Plan → Type 0
FitsPlan p = (fits p.win ≡ true) × FitsStreams p.kind p × FitsBounds p.left_bounds × FitsBounds p.right_bounds
