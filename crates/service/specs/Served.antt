-- What the calls so far come to, while an item's calls are made.
use Rattle.std.specs.Prelude.{ℕ, ◌≡◌, List, ◌++◌}
use Rattle.as_words.specs.Prefix.{IsPrefix}
use Rattle.as_base.specs.declared.answer.Piece.{Piece}
use Rattle.as_base.specs.Pieces.{bytes_for}
use Rattle.as_outside.specs.declared.entry.Entry.{Entry}
use Rattle.as_outside.specs.declared.entry.Entry.TheVariants.{SayFailed}
use Rattle.as_outside.specs.Log.{said}
use Rattle.as_outside.specs.Failures.{say_failures, EndsWith}
use Rattle.as_outside.specs.Outputs.{AreOutputs, AreListed}

-- The outputs are those of the numbered texts, the broken ones are listed, these bytes were said, and no say failed.
pub record HasServed (numbers : List ℕ) (text : ℕ → List ℕ) (spoken broken : List ℕ) (log : List Entry) : Type 0 where
  pub outputs : AreOutputs numbers text log
  pub listed : AreListed broken log
  pub answers : said log ≡ spoken
  pub no_say_failed : say_failures log ≡ 0

-- the texts with those of the pieces
abbrev pub with_pieces : (ℕ → List ℕ) → List Piece → ℕ → List ℕ
with_pieces text pieces n = text n ++ bytes_for n pieces

-- Some bytes more were to be said, and the say failed: it is the last call, and a prefix of them was said.
pub record IsUnspoken (numbers : List ℕ) (text : ℕ → List ℕ) (spoken wanted : List ℕ) (log : List Entry) : Type 0 where
  pub outputs : AreOutputs numbers text log
  pub front : List ℕ
  pub part : IsPrefix front wanted
  pub last : EndsWith log (SayFailed front)
  pub answers : said log ≡ spoken ++ front
