-- What a text is read as: its tree, or the place of its fault.
use Rattle.std.specs.Prelude.{ℕ, ◌≡◌, ◌+◌, ◌-◌, List, [], ◌∷◌, length, Result, Ok, Err}
use Rattle.as_words.specs.Parts.{parts_of}
use Rattle.query_text.specs.declared.ast.Ast.{Ast}
use Rattle.query_text.specs.declared.ast.TextFault.{TextFault}
use Rattle.query_text.specs.Names.{Word}
use Rattle.query_text.specs.Spelling.{WrittenQuery, tree_of}
use Rattle.query_text.specs.Places.{read_from}
use Rattle.query_text.specs.Places.Place.{AtVerb}

-- the words of a text
abbrev pub text_words : List ℕ → List Word
text_words [] = []
text_words (b ∷ bytes) = parts_of 32 (b ∷ bytes)

-- the tree of the query that was read, or the place of the fault, from the number of all words and the words that are left
abbrev pub tree_or_place : ℕ → Result WrittenQuery (List Word) → Result Ast ℕ
tree_or_place total (Ok q) = Ok (tree_of q)
tree_or_place total (Err left) = Err (total + 1 - length left)

-- the tree that the text spells, or the place of its fault
abbrev pub read_text : List ℕ → Result Ast ℕ
read_text text = tree_or_place (length (text_words text)) (read_from AtVerb (text_words text))

-- the fault tells the place that was read; want of memory tells nothing
abbrev pub IsPlace : Result Ast ℕ → TextFault → Type 0
IsPlace reading (TextFault.Syntax k) = reading ≡ Err k
IsPlace reading TextFault.NoMemory = Unit {0}
