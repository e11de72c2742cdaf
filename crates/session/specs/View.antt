-- The view that a list of items gives, and the text that each output then has.
use Rattle.std.specs.Prelude.{ℕ, ◌+◌, if◌then◌else◌, List, [], ◌∷◌, length, map}
use Rattle.as_base.specs.declared.config.Config.{Config}
use Rattle.as_base.specs.declared.item.Record.{Record}
use Rattle.as_base.specs.declared.item.Item.{Item}
use Rattle.as_base.specs.declared.item.Item.TheVariants.{Rec, Mark, End, Create, Delete, Bad}
use Rattle.as_base.specs.Stream.{streams}
use Rattle.views.specs.View.{View}
use Rattle.row_text.specs.RowText.{text_of as text_by}
use Rattle.session.specs.Acceptance.{watermark}
use Rattle.session.specs.Book.{book, accepts}
use Rattle.session.specs.Answers.{walk}

-- the record that an item is, if it is accepted; its number is that of its line
abbrev pub record_of : Config → List Item → Item → List Record
record_of c h (Rec g) = if accepts c h (Rec g) then (record { seq = length h + 1; given = g }) ∷ [] else []
record_of c h (Mark s t) = []
record_of c h (End s) = []
record_of c h (Create text) = []
record_of c h (Delete n) = []
record_of c h (Bad cause) = []

-- the accepted records, by line
abbrev pub records : Config → List Item → List Record
records c h = walk (record_of c) [] h

-- The view that the items give: their book, their accepted records and the watermarks of the streams after them.
abbrev pub view : Config → List Item → View
view c h = record { queries = book c h; records = records c h; marks = map (watermark c h) streams }

-- The text that the output of query n has after the items `h`; nothing where the book has no such query.
abbrev pub text_of : Config → List Item → ℕ → List ℕ
text_of c h n = text_by (view c h) n
