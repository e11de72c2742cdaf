-- What a store stands for, and what a message brings about.
use Rattle.std.specs.Prelude.{ℕ, ◌≡◌, ◌<◌, List, ◌++◌, map}
use Rattle.std.specs.List.{filter, AllByRecursion}
use Rattle.as_base.specs.declared.answer.Piece.{Piece}
use Rattle.as_base.specs.Times.{times}
use Rattle.as_base.specs.Pieces.{bytes_for}
use Rattle.views.specs.Query.{Query}
use Rattle.views.specs.View.{View}
use Rattle.row_text.specs.RowText.{text_of}
use Rattle.plain_engine.specs.Held.{awaits, held_of}
use Rattle.plain_engine.specs.declared.store.Store.{Store}

-- The store has the view's watermarks, and holds just those of its queries that may still get rows.
pub record StandsFor (store : Store) (v : View) : Type 0 where
  pub marks : store.marks ≡ v.marks
  pub held : store.held.items ≡ map (held_of v) (filter (awaits v) v.queries)

-- Each text of the second view is that of the first, and then the bytes of its pieces; each piece is of a query.
pub record GrowsBy (v v' : View) (pieces : List Piece) : Type 0 where
  pub text : (n : ℕ) → text_of v' n ≡ text_of v n ++ bytes_for n pieces
  pub known : AllByRecursion (λ (p : Piece). 0 < times p.n (map (λ (q : Query). q.n) v'.queries)) pieces
