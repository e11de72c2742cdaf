-- The words that name things in a query text, written and read.
use Rattle.std.specs.Prelude.{ℕ, ◌^◌, Option, Some, None, List, [], ◌∷◌, get_or, codes, if◌then◌else◌}
use Rattle.std.specs.Str.{bytes_eq}
use Rattle.as_words.specs.Number.{natural}
use Rattle.as_words.specs.Words.{pick}
use Rattle.as_base.specs.declared.query.Col.{Col}
use Rattle.as_base.specs.declared.query.Col.TheVariants.{V1, V2, V3, V4}
use Rattle.as_base.specs.declared.query.Group.{Group}
use Rattle.query_text.specs.declared.ast.Op.{Op}
use Rattle.query_text.specs.declared.ast.Op.TheVariants.{Lt, Le, Eq, Ge, Gt}
use Rattle.query_text.specs.declared.tree.Verb.{Verb}
use Rattle.query_text.specs.declared.tree.Shape.{Shape}

-- the bytes of a word
abbrev pub Word : Type 0
Word = List ℕ

-- the first word of a query
abbrev pub verb_name : Verb → Word
verb_name Verb.Select = codes "select"
verb_name Verb.Sum = codes "sum"
verb_name Verb.Count = codes "count"
verb_name Verb.Join = codes "join"

-- all first words of queries
abbrev pub verbs : List Verb
verbs = Verb.Select ∷ Verb.Sum ∷ Verb.Count ∷ Verb.Join ∷ []

-- the verb of this name
abbrev pub verb_named : Word → Option Verb
verb_named word = pick verb_name verbs word

-- the first word of windows
abbrev pub shape_name : Shape → Word
shape_name Shape.Tumble = codes "tumble"
shape_name Shape.Slide = codes "slide"

-- all first words of windows
abbrev pub shapes : List Shape
shapes = Shape.Tumble ∷ Shape.Slide ∷ []

-- the shape of this name
abbrev pub shape_named : Word → Option Shape
shape_named word = pick shape_name shapes word

-- the name of a column
abbrev pub column_name : Col → Word
column_name V1 = codes "v1"
column_name V2 = codes "v2"
column_name V3 = codes "v3"
column_name V4 = codes "v4"

-- all columns, in order
abbrev pub columns : List Col
columns = V1 ∷ V2 ∷ V3 ∷ V4 ∷ []

-- the column of this name
abbrev pub column_named : Word → Option Col
column_named word = pick column_name columns word

-- the name of what records are grouped by
abbrev pub group_name : Group → Word
group_name Group.Key = codes "key"
group_name (Group.Col c) = column_name c
group_name Group.All = codes "all"

-- all that records may be grouped by
abbrev pub groups : List Group
groups = Group.Key ∷ Group.All ∷ Group.Col V1 ∷ Group.Col V2 ∷ Group.Col V3 ∷ Group.Col V4 ∷ []

-- the group of this name
abbrev pub group_named : Word → Option Group
group_named word = pick group_name groups word

-- the sign of a comparison
abbrev pub op_name : Op → Word
op_name Lt = codes "<"
op_name Le = codes "<="
op_name Eq = codes "="
op_name Ge = codes ">="
op_name Gt = codes ">"

-- all comparisons
abbrev pub ops : List Op
ops = Lt ∷ Le ∷ Eq ∷ Ge ∷ Gt ∷ []

-- the comparison of this sign
abbrev pub op_named : Word → Option Op
op_named word = pick op_name ops word

-- the name of a field: field 0 is the key, 1 to 4 are the values
abbrev pub field_name : ℕ → Word
field_name field = get_or (codes "key" ∷ codes "v1" ∷ codes "v2" ∷ codes "v3" ∷ codes "v4" ∷ []) field []

-- all fields, in order
abbrev pub fields : List ℕ
fields = 0 ∷ 1 ∷ 2 ∷ 3 ∷ 4 ∷ []

-- the field of this name
abbrev pub field_named : Word → Option ℕ
field_named word = pick field_name fields word

-- the number of ticks, below 2^63, that the word spells
abbrev pub ticks_of : Word → Option ℕ
ticks_of word = natural (2 ^ 63) word

-- the word is this one
abbrev pub only : Word → Word → Option (Unit {0})
only keyword word = if bytes_eq word keyword then Some tt else None
