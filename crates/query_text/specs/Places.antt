-- The places in a query text: what has been written up to there, and where each word leads.
use Rattle.std.specs.Prelude.{ℕ, ℤ, Bool, true, false, ◌&&◌, ◌||◌, if◌then◌else◌, Option, Some, None, List, [], ◌∷◌, ◌++◌, codes, Result, Err}
use Rattle.std.specs.Option.{option_map, option_map_or, ok_or}
use Rattle.std.specs.Str.{bytes_eq}
use Rattle.as_base.specs.declared.stream.StreamId.{StreamId}
use Rattle.as_base.specs.declared.query.Group.{Group}
use Rattle.query_text.specs.declared.ast.Op.{Op}
use Rattle.query_text.specs.declared.ast.Cond.{Cond}
use Rattle.query_text.specs.declared.tree.Measure.{Measure}
use Rattle.query_text.specs.declared.tree.Window.{Window}
use Rattle.query_text.specs.declared.tree.Stem.{Stem}
use Rattle.query_text.specs.declared.tree.Head.{Head}
use Rattle.query_text.specs.declared.tree.Verb.{Verb}
use Rattle.query_text.specs.declared.tree.Shape.{Shape}
use Rattle.query_text.specs.declared.tree.Side.{Side}
use Rattle.as_words.specs.Number.{integer}
use Rattle.as_base.specs.Stream.{stream_named}
use Rattle.query_text.specs.Names.{Word, verb_named, shape_named, column_named, group_named, op_named, field_named, ticks_of, only}
use Rattle.query_text.specs.Spelling.{WrittenQuery, is_join, opening}

-- there is one
abbrev pub has_any : {X : Type 0} → List X → Bool
has_any [] = false
has_any (x ∷ xs) = true

-- the side of the condition that the word leads to, where there are left conditions, and right ones, or not
abbrev pub side_named : Head → Bool → Bool → Word → Option Side
side_named head left right w =
    if bytes_eq w (codes "and") then (if right then Some Side.Right else (if left then Some Side.Left else None))
    else (if is_join head && bytes_eq w (codes "right") then (if right then None else Some Side.Right)
    else (if bytes_eq w (opening head) then (if left || right then None else Some Side.Left) else None))

-- the query with one more condition on this side
abbrev pub with_cond : WrittenQuery → Side → Cond → WrittenQuery
with_cond q Side.Left c = record { head = q.head; left = q.left ++ c ∷ []; right = q.right }
with_cond q Side.Right c = record { head = q.head; left = q.left; right = q.right ++ c ∷ [] }

-- the query with no conditions
abbrev pub bare : Head → WrittenQuery
bare head = record { head = head; left = []; right = [] }

-- the places, each with what was read before it
pub data Place : Type 0 where
  AtVerb : Place
  AtSelected : Place
  AtSelectStream : Place
  AtSumColumn : Place
  AtBy : Measure → Place
  AtGroup : Measure → Place
  AtFrom : Measure → Group → Place
  AtStream : Measure → Group → Place
  AtJoinLeft : Place
  AtJoinRight : StreamId → Place
  AtShape : Stem → Place
  AtTumble : Stem → Place
  AtSize : Stem → Place
  AtSlide : Stem → ℕ → Place
  AtLead : WrittenQuery → Place
  AtField : WrittenQuery → Side → Place
  AtOp : WrittenQuery → Side → ℕ → Place
  AtValue : WrittenQuery → Side → ℕ → Op → Place

-- the place after the first word of a query
abbrev pub after_verb : Verb → Place
after_verb Verb.Select = AtSelected
after_verb Verb.Sum = AtSumColumn
after_verb Verb.Count = AtBy Measure.Count
after_verb Verb.Join = AtJoinLeft

-- the place after the first word of windows
abbrev pub after_shape : Stem → Shape → Place
after_shape stem Shape.Tumble = AtTumble stem
after_shape stem Shape.Slide = AtSize stem

-- the place after a whole condition
abbrev pub after_value : WrittenQuery → Side → ℕ → Op → ℤ → Place
after_value q side f op z = AtLead (with_cond q side (record { field = f; op = op; value = z }))

-- where a word leads
abbrev pub step : Place → Word → Option Place
step AtVerb w = option_map after_verb (verb_named w)
step AtSelected w = option_map (λ _. AtSelectStream) (only (codes "from") w)
step AtSelectStream w = option_map (λ s. AtLead (bare (Head.Select s))) (stream_named w)
step AtSumColumn w = option_map (λ c. AtBy (Measure.Sum c)) (column_named w)
step (AtBy m) w = option_map (λ _. AtGroup m) (only (codes "by") w)
step (AtGroup m) w = option_map (λ g. AtFrom m g) (group_named w)
step (AtFrom m g) w = option_map (λ _. AtStream m g) (only (codes "from") w)
step (AtStream m g) w = option_map (λ s. AtShape (Stem.Grouped m g s)) (stream_named w)
step AtJoinLeft w = option_map (λ s. AtJoinRight s) (stream_named w)
step (AtJoinRight s) w = option_map (λ t. AtShape (Stem.Joined s t)) (stream_named w)
step (AtShape stem) w = option_map (after_shape stem) (shape_named w)
step (AtTumble stem) w = option_map (λ n. AtLead (bare (Head.Windowed stem (Window.Tumble n)))) (ticks_of w)
step (AtSize stem) w = option_map (λ n. AtSlide stem n) (ticks_of w)
step (AtSlide stem n) w = option_map (λ m. AtLead (bare (Head.Windowed stem (Window.Slide n m)))) (ticks_of w)
step (AtLead q) w = option_map (λ side. AtField q side) (side_named q.head (has_any q.left) (has_any q.right) w)
step (AtField q side) w = option_map (λ f. AtOp q side f) (field_named w)
step (AtOp q side f) w = option_map (λ op. AtValue q side f op) (op_named w)
step (AtValue q side f op) w = option_map (after_value q side f op) (integer w)

-- the query that is whole here
abbrev pub whole_at : Place → Option WrittenQuery
whole_at (AtLead q) = Some q
whole_at _ = None

-- what the words tell from a place on: the query, or the words that are left where none leads on
abbrev pub read_from : Place → List Word → Result WrittenQuery (List Word)
read_from p [] = ok_or (whole_at p) []
read_from p (w ∷ ws) = option_map_or (λ next. read_from next ws) (step p w) (Err (w ∷ ws))
