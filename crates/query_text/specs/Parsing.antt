-- What the parser takes of the words that are left: a part of a query with the words after it, or the words from the fault on.
use Rattle.std.specs.Prelude.{◌≡◌, Bool, Option, Some, None, List, [], ◌∷◌, ◌++◌, codes, Result, Ok, Err}
use Rattle.std.specs.Option.{option_map_or}
use Rattle.as_words.specs.Number.{integer}
use Rattle.as_base.specs.Stream.{stream_named}
use Rattle.query_text.specs.declared.ast.Ast.{Ast}
use Rattle.query_text.specs.declared.ast.Cond.{Cond}
use Rattle.query_text.specs.declared.tree.Measure.{Measure}
use Rattle.query_text.specs.declared.tree.Window.{Window}
use Rattle.query_text.specs.declared.tree.Stem.{Stem}
use Rattle.query_text.specs.declared.tree.Head.{Head}
use Rattle.query_text.specs.declared.tree.Verb.{Verb}
use Rattle.query_text.specs.declared.tree.Shape.{Shape}
use Rattle.query_text.specs.declared.tree.Side.{Side}
use Rattle.query_text.specs.declared.parse.Stop.{Stop}
use Rattle.query_text.specs.Names.{Word, verb_named, shape_named, column_named, group_named, op_named, field_named, ticks_of, only}
use Rattle.query_text.specs.Spelling.{WrittenQuery, tree_of}
use Rattle.query_text.specs.Places.{side_named, read_from}
use Rattle.query_text.specs.Places.Place.{AtLead}

-- what was read, and then more of the words left after it; or the fault
infixl 10 ◌>>=◌
abbrev pub ◌>>=◌ : {X Y E : Type 0} → Result X E → (X → Result Y E) → Result Y E
Ok x >>= f = f x
Err e >>= f = Err e

-- the next word, as f reads it
abbrev pub take_by : {X : Type 0} → (Word → Option X) → List Word → Result (X × List Word) (List Word)
take_by f [] = Err []
take_by f (w ∷ ws) = option_map_or (λ x. Ok (x, ws)) (f w) (Err (w ∷ ws))

-- `by GROUP from S`, after the measure
abbrev pub take_grouped : Measure → List Word → Result (Stem × List Word) (List Word)
take_grouped m ws = do
  by ← take_by (only (codes "by")) ws
  group ← take_by group_named by.1
  from ← take_by (only (codes "from")) group.1
  stream ← take_by stream_named from.1
  Ok (Stem.Grouped m group.0 stream.0, stream.1)

-- the numbers of windows of this shape
abbrev pub take_windows : Stem → Shape → List Word → Result (Head × List Word) (List Word)
take_windows stem Shape.Tumble ws = do
  size ← take_by ticks_of ws
  Ok (Head.Windowed stem (Window.Tumble size.0), size.1)
take_windows stem Shape.Slide ws = do
  size ← take_by ticks_of ws
  slide ← take_by ticks_of size.1
  Ok (Head.Windowed stem (Window.Slide size.0 slide.0), slide.1)

-- windows
abbrev pub take_windowed : Stem → List Word → Result (Head × List Word) (List Word)
take_windowed stem ws = do
  shape ← take_by shape_named ws
  take_windows stem shape.0 shape.1

-- `from S`, after `select`
abbrev pub take_selected : List Word → Result (Head × List Word) (List Word)
take_selected ws = do
  from ← take_by (only (codes "from")) ws
  stream ← take_by stream_named from.1
  Ok (Head.Select stream.0, stream.1)

-- `COL by GROUP from S` and windows, after `sum`
abbrev pub take_summed : List Word → Result (Head × List Word) (List Word)
take_summed ws = do
  column ← take_by column_named ws
  stem ← take_grouped (Measure.Sum column.0) column.1
  take_windowed stem.0 stem.1

-- `by GROUP from S` and windows, after `count`
abbrev pub take_counted : List Word → Result (Head × List Word) (List Word)
take_counted ws = do
  stem ← take_grouped Measure.Count ws
  take_windowed stem.0 stem.1

-- `S S` and windows, after `join`
abbrev pub take_joined : List Word → Result (Head × List Word) (List Word)
take_joined ws = do
  left ← take_by stream_named ws
  right ← take_by stream_named left.1
  take_windowed (Stem.Joined left.0 right.0) right.1

-- what comes after the verb, up to the conditions
abbrev pub take_head_after : Verb → List Word → Result (Head × List Word) (List Word)
take_head_after Verb.Select = take_selected
take_head_after Verb.Sum = take_summed
take_head_after Verb.Count = take_counted
take_head_after Verb.Join = take_joined

-- a query up to its conditions
abbrev pub take_head : List Word → Result (Head × List Word) (List Word)
take_head ws = do
  verb ← take_by verb_named ws
  take_head_after verb.0 verb.1

-- `FIELD OP INT`
abbrev pub take_condition : List Word → Result (Cond × List Word) (List Word)
take_condition ws = do
  field ← take_by field_named ws
  op ← take_by op_named field.1
  value ← take_by integer op.1
  Ok (record { field = field.0; op = op.0; value = value.0 }, value.1)

-- the result is what was read, and these words are left
abbrev pub Parses : {X : Type 0} → Option X → List Word → Result (X × List Word) (List Word) → Type 0
Parses None ws reading = reading ≡ Err ws
Parses (Some x) ws reading = reading ≡ Ok (x, ws)

-- the next condition and its side, where there are left conditions, and right ones, or not
abbrev pub take_sided : Head → Bool → Bool → List Word → Result ((Side × Cond) × List Word) (List Word)
take_sided head left right ws = do
  side ← take_by (side_named head left right) ws
  cond ← take_condition side.1
  Ok ((side.0, cond.0), cond.1)

-- the query of these parts
abbrev pub query_with : Head → List Cond → List Cond → WrittenQuery
query_with head left right = record { head = head; left = left; right = right }

-- the conditions of the left side with one more that is on this side
abbrev pub left_with : List Cond → Side → Cond → List Cond
left_with cs Side.Left c = cs ++ c ∷ []
left_with cs Side.Right c = cs

-- the conditions of the right side with one more that is on this side
abbrev pub right_with : List Cond → Side → Cond → List Cond
right_with cs Side.Left c = cs
right_with cs Side.Right c = cs ++ c ∷ []

-- What the reading of the query from a place came to: the query of the new parts, whole, or the fault with the words
-- from there on. After want of memory nothing is known.
abbrev pub ParsesRest : Result (Unit {0}) Stop → WrittenQuery → List Word → Result WrittenQuery (List Word) → Type 0
ParsesRest (Ok u) q ws reading = reading ≡ Ok q
ParsesRest (Err Stop.Syntax) q ws reading = reading ≡ Err ws
ParsesRest (Err Stop.NoMemory) q ws reading = Unit {0}

-- one condition on: the same reading goes on from the new place, or stops here
abbrev pub ParsesNext : Result (Unit {0}) Stop → WrittenQuery → List Word → Result WrittenQuery (List Word) → Type 0
ParsesNext (Ok u) q ws reading = reading ≡ read_from (AtLead q) ws
ParsesNext (Err Stop.Syntax) q ws reading = reading ≡ Err ws
ParsesNext (Err Stop.NoMemory) q ws reading = Unit {0}

-- what the reading of a whole text came to
abbrev pub ParsesText : Result Ast Stop → List Word → Result WrittenQuery (List Word) → Type 0
ParsesText (Ok ast) ws reading = (q : WrittenQuery) × (reading ≡ Ok q) × (ast ≡ tree_of q)
ParsesText (Err Stop.Syntax) ws reading = reading ≡ Err ws
ParsesText (Err Stop.NoMemory) ws reading = Unit {0}
