-- Pulls one after another, in what is seen of a source.
use Rattle.std.proofs.Common.{ℕ, ◌+◌, List, [], ◌++◌, refl}
use Rattle.as_outside.specs.Sources.{SourceSeen, Pulls}
use Rattle.as_outside.proofs.MakesLaws.{takes_none, takes_after, kept, Counts-append}

-- without a pull all stays
pub pulls_none : (a : SourceSeen) → Pulls a a [] 0
pulls_none a = record { takes = takes_none a.left; faults = kept _ _ refl }

pub pulls_after : (a b c : SourceSeen) (xs ys : List ℕ) (m n : ℕ) → Pulls a b xs m → Pulls b c ys n → Pulls a c (xs ++ ys) (m + n)
pulls_after a b c xs ys m n first second = record {
  takes = takes_after a.left b.left c.left xs ys first.takes second.takes;
  faults = Counts-append m n _ _ _ first.faults second.faults;
}
