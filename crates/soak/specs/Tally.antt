-- What a soak counts: queries, refusals, rows and bytes, by the items.
use Rattle.std.specs.Prelude.{ℕ, ◌≡◌, ◌==◌, ◌+◌, not, Bool, true, false, Option, Some, None, List, length, count_by}
use Rattle.std.specs.List.{sum_by}
use Rattle.as_base.specs.declared.config.Config.{Config}
use Rattle.as_base.specs.declared.item.Item.{Item}
use Rattle.as_base.specs.declared.answer.Answer.{Answer}
use Rattle.as_base.specs.declared.answer.Fed.{Fed}
use Rattle.as_base.specs.declared.answer.Piece.{Piece}
use Rattle.as_base.specs.declared.answer.Word.{Word}
use Rattle.as_base.specs.declared.answer.Word.TheVariants.{Created, Deleted}
use Rattle.views.specs.Query.{Query}
use Rattle.views.specs.Rows.{due_to}
use Rattle.session.specs.Answers.{answers}
use Rattle.session.specs.Book.{book, numbers}
use Rattle.session.specs.View.{view, text_of}
use Rattle.soak.specs.declared.tally.Tally.{Tally}

-- the word refuses an item
abbrev pub is_refusal : Word → Bool
is_refusal (Created n at) = false
is_refusal (Deleted n at) = false
is_refusal _ = true

-- how many of the items are refused
abbrev pub refusals : Config → List Item → ℕ
refusals c h = count_by (λ (a : Answer). is_refusal a.word) (answers c h)

-- how many of the queries that the items made they have deleted
abbrev pub deletions : Config → List Item → ℕ
deletions c h = count_by (λ (q : Query). not q.live) (book c h)

-- how many rows the outputs have after the items, all together
abbrev pub rows_due : Config → List Item → ℕ
rows_due c h = sum_by (λ n. length (due_to (view c h) n)) (numbers c h)

-- how many bytes the outputs have after the items, all together
abbrev pub bytes_due : Config → List Item → ℕ
bytes_due c h = sum_by (λ n. length (text_of c h n)) (numbers c h)

-- The tally is that of the items.
pub record IsTallyOf (c : Config) (h : List Item) (t : Tally) : Type 0 where
  pub created : t.created ≡ length (book c h)
  pub deleted : t.deleted ≡ deletions c h
  pub refused : t.refused ≡ refusals c h
  pub rows : t.rows ≡ rows_due c h
  pub bytes : t.bytes ≡ bytes_due c h

-- ---- a step of counting

-- the tally with an answer's word more
abbrev pub with_word : Word → Tally → Tally
with_word (Created n at) t = record { created = t.created + 1; deleted = t.deleted; refused = t.refused; rows = t.rows; bytes = t.bytes }
with_word (Deleted n at) t = record { created = t.created; deleted = t.deleted + 1; refused = t.refused; rows = t.rows; bytes = t.bytes }
with_word _ t = record { created = t.created; deleted = t.deleted; refused = t.refused + 1; rows = t.rows; bytes = t.bytes }

-- the tally with an answer more, if there is one
abbrev pub with_answer : Option Answer → Tally → Tally
with_answer None t = t
with_answer (Some a) t = with_word a.word t

-- how many line feeds the bytes have
abbrev pub feeds_in : List ℕ → ℕ
feeds_in bytes = count_by (λ b. b == 10) bytes

-- the tally with pieces more: each row ends with a line feed, and has no other
abbrev pub with_pieces : List Piece → Tally → Tally
with_pieces pieces t = record {
  created = t.created;
  deleted = t.deleted;
  refused = t.refused;
  rows = t.rows + sum_by (λ (p : Piece). feeds_in p.bytes) pieces;
  bytes = t.bytes + sum_by (λ (p : Piece). length p.bytes) pieces;
}

-- the tally with what an item brought about
abbrev pub with_fed : Fed → Tally → Tally
with_fed fed t = with_pieces fed.pieces (with_answer fed.answer t)
