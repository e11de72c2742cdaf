-- What is seen of a source of bytes, and what pulls do to it.
use Rattle.std.specs.Prelude.{ℕ, Option, List}
use Rattle.as_outside.specs.Makes.{Takes, Counts}

-- What is seen of a source: the bytes that are left, where they are told, and how often a pull failed.
pub record SourceSeen : Type 0 where
  pub left : Option (List ℕ)
  pub faults : ℕ

-- These bytes were pulled, and so many pulls failed.
pub record Pulls (old new : SourceSeen) (bytes : List ℕ) (failed : ℕ) : Type 0 where
  pub takes : Takes old.left new.left bytes
  pub faults : Counts failed old.faults new.faults
