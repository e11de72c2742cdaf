-- What taking an item adds to the answers and the outputs.
pub use Rattle.as_base.specs.Pieces.{bytes_for, ArePieces}
use Rattle.std.specs.Prelude.{ℕ, ◌≡◌, ◌<◌, Option, Some, None, List, [], ◌∷◌, ◌++◌}
use Rattle.std.specs.List.{AllByRecursion}
use Rattle.as_base.specs.declared.config.Config.{Config}
use Rattle.as_base.specs.declared.item.Item.{Item}
use Rattle.as_base.specs.declared.answer.Word.{Word}
use Rattle.as_base.specs.declared.answer.Word.TheVariants.{Created}
use Rattle.as_base.specs.declared.answer.Answer.{Answer}
use Rattle.as_base.specs.declared.answer.Piece.{Piece}
use Rattle.as_base.specs.declared.answer.Fed.{Fed}
use Rattle.as_base.specs.Times.{times}
use Rattle.session.specs.Book.{numbers}
use Rattle.session.specs.Answers.{answer_to}
use Rattle.session.specs.View.{text_of}

-- the query that a word tells the creation of
abbrev pub created_by : Word → List ℕ
created_by (Created n at) = n ∷ []
created_by _ = []

-- the query that an answer, if there is one, tells the creation of
abbrev pub created : Option Answer → List ℕ
created None = []
created (Some a) = created_by a.word

-- The items h' have these queries more than the items h, and these pieces of text more.
pub record Adds (c : Config) (h h' : List Item) (queries : List ℕ) (pieces : List Piece) : Type 0 where
  pub book : numbers c h' ≡ numbers c h ++ queries
  pub fresh : (n : ℕ) → 0 < times n queries → times n (numbers c h) ≡ 0
  pub text : (n : ℕ) → text_of c h' n ≡ text_of c h n ++ bytes_for n pieces
  pub known : AllByRecursion (λ (p : Piece). 0 < times p.n (numbers c h')) pieces

-- What an item brings about after the items h: its answer, and the text that it makes due.
pub record IsFed (c : Config) (h : List Item) (x : Item) (fed : Fed) : Type 0 where
  pub answer : fed.answer ≡ answer_to c h x
  pub adds : Adds c h (h ++ x ∷ []) (created fed.answer) fed.pieces

-- an answer, if there is one, and no piece
abbrev pub only_told : Option Answer → Fed
only_told answer = record { answer = answer; pieces = [] }
