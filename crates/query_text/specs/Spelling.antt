-- The texts of queries: a tree for each, and the words that spell it.
use Rattle.std.specs.Prelude.{ℕ, ◌≡◌, ◌<◌, ◌≤◌, ◌+◌, ◌^◌, Bool, true, false, Some, None, List, [], ◌∷◌, ◌++◌, length, take, codes, decimal, flat_map}
use Rattle.std.specs.Fmt.{signed_decimal}
use Rattle.std.specs.List.{AllByRecursion}
use Rattle.as_words.specs.Number.{IsSigned}
use Rattle.as_base.specs.Stream.{stream_name}
use Rattle.as_base.specs.declared.query.Group.{Group}
use Rattle.as_base.specs.declared.query.Kind.{Kind}
use Rattle.query_text.specs.declared.ast.Cond.{Cond}
use Rattle.query_text.specs.declared.ast.Ast.{Ast}
use Rattle.query_text.specs.declared.ast.TextFault.{TextFault}
use Rattle.query_text.specs.declared.tree.Measure.{Measure}
use Rattle.query_text.specs.declared.tree.Window.{Window}
use Rattle.query_text.specs.declared.tree.Stem.{Stem}
use Rattle.query_text.specs.declared.tree.Head.{Head}
use Rattle.query_text.specs.Names.{Word, column_name, group_name, op_name, field_name}

-- a query as it is written: up to its conditions, and the conditions of each side
pub record WrittenQuery : Type 0 where
  pub head : Head
  pub left : List Cond
  pub right : List Cond

-- the words of what is told of each group
abbrev pub measure_words : Measure → List Word
measure_words (Measure.Sum c) = codes "sum" ∷ column_name c ∷ []
measure_words Measure.Count = codes "count" ∷ []

-- the words up to the windows
abbrev pub stem_words : Stem → List Word
stem_words (Stem.Grouped m g s) = measure_words m ++ codes "by" ∷ group_name g ∷ codes "from" ∷ stream_name s ∷ []
stem_words (Stem.Joined s t) = codes "join" ∷ stream_name s ∷ stream_name t ∷ []

-- the words of windows
abbrev pub window_words : Window → List Word
window_words (Window.Tumble n) = codes "tumble" ∷ decimal n ∷ []
window_words (Window.Slide n m) = codes "slide" ∷ decimal n ∷ decimal m ∷ []

-- the words up to the conditions
abbrev pub head_words : Head → List Word
head_words (Head.Select s) = codes "select" ∷ codes "from" ∷ stream_name s ∷ []
head_words (Head.Windowed stem w) = stem_words stem ++ window_words w

-- the query joins two streams
abbrev pub is_join : Head → Bool
is_join (Head.Windowed (Stem.Joined s t) w) = true
is_join _ = false

-- the word before the first left condition
abbrev pub opening : Head → Word
opening (Head.Windowed (Stem.Joined s t) w) = codes "left"
opening _ = codes "where"

-- the words of a condition
abbrev pub cond_words : Cond → List Word
cond_words c = field_name c.field ∷ op_name c.op ∷ signed_decimal c.value ∷ []

-- the conditions, with this word before the first
abbrev pub conds_words : Word → List Cond → List Word
conds_words first [] = []
conds_words first (c ∷ cs) = first ∷ cond_words c ++ flat_map (λ d. codes "and" ∷ cond_words d) cs

-- the words of a query
abbrev pub query_words : WrittenQuery → List Word
query_words q = head_words q.head ++ conds_words (opening q.head) q.left ++ conds_words (codes "right") q.right

-- the numbers of windows are below 2^63
abbrev pub FitsWindow : Window → Type 0
FitsWindow (Window.Tumble n) = n < 2 ^ 63
FitsWindow (Window.Slide n m) = (n < 2 ^ 63) × (m < 2 ^ 63)

-- the numbers up to the conditions are in the ranges that a text may write
abbrev pub FitsHead : Head → Type 0
FitsHead (Head.Select s) = Unit {0}
FitsHead (Head.Windowed stem w) = FitsWindow w

-- the field is one of the five, and its number is from -2^63 to 2^63 - 1
abbrev pub FitsCond : Cond → Type 0
FitsCond c = (c.field ≤ 4) × IsSigned c.value

-- each condition is one that a text may write
abbrev pub FitsConds : List Cond → Type 0
FitsConds cs = AllByRecursion FitsCond cs

-- only a join has a right side
abbrev pub FitsRight : Head → List Cond → Type 0
FitsRight (Head.Windowed (Stem.Joined s t) w) cs = FitsConds cs
FitsRight _ cs = cs ≡ []

-- the numbers are in the ranges that a text may write, and only a join has a right side
abbrev pub FitsText : WrittenQuery → Type 0
FitsText q = FitsHead q.head × FitsConds q.left × FitsRight q.head q.right

-- the words spell the query
abbrev pub Spells : WrittenQuery → List Word → Type 0
Spells q ws = FitsText q × (ws ≡ query_words q)

-- some query text begins with the words
abbrev pub Begins : List Word → Type 0
Begins ws = (q : WrittenQuery) × (more : List Word) × Spells q (ws ++ more)

-- k is the place of the first word such that no query text begins with the words up to and including it; one more than
-- the number of words where all of them begin some text, but are none
pub record IsSyntax (k : ℕ) (ws : List Word) : Type 0 where
  pub place : (1 ≤ k) × (k ≤ length ws + 1)
  pub before : (n : ℕ) → n < k → Begins (take n ws)
  pub none : (q : WrittenQuery) → Spells q ws → ⊥
  pub bad : k ≤ length ws → Begins (take k ws) → ⊥

-- the size and the slide of windows
abbrev pub size_and_slide : Window → ℕ × ℕ
size_and_slide (Window.Tumble n) = (n, n)
size_and_slide (Window.Slide n m) = (n, m)

-- the kind of a query with this measure
abbrev pub kind_of : Measure → Kind
kind_of (Measure.Sum c) = Kind.Sum c
kind_of Measure.Count = Kind.Count

-- the tree of these parts, which does not say how the windows were written
abbrev pub tree : Head → List Cond → List Cond → Ast
tree (Head.Select s) left right = record {
  kind = Kind.Select;
  group = Group.All;
  left = s;
  right = None;
  win = None;
  left_conds = left;
  right_conds = right;
}
tree (Head.Windowed (Stem.Grouped m g s) w) left right = record {
  kind = kind_of m;
  group = g;
  left = s;
  right = None;
  win = Some (size_and_slide w);
  left_conds = left;
  right_conds = right;
}
tree (Head.Windowed (Stem.Joined s t) w) left right = record {
  kind = Kind.Join;
  group = Group.All;
  left = s;
  right = Some t;
  win = Some (size_and_slide w);
  left_conds = left;
  right_conds = right;
}

-- the tree of a query
abbrev pub tree_of : WrittenQuery → Ast
tree_of q = tree q.head q.left q.right

-- the tree is the one that the words spell
abbrev pub IsTreeOf : Ast → List Word → Type 0
IsTreeOf ast ws = (q : WrittenQuery) × Spells q ws × (ast ≡ tree_of q)

-- the fault tells the place; want of memory tells nothing
abbrev pub IsFault : List Word → TextFault → Type 0
IsFault ws (TextFault.Syntax k) = IsSyntax k ws
IsFault ws TextFault.NoMemory = Unit {0}
