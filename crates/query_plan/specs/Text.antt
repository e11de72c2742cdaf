-- The canonical text of a plan.
use Rattle.std.specs.Prelude.{ℕ, ◌==◌, Bool, not, ◌&&◌, ℤ, if◌then◌else◌, List, [], ◌∷◌, ◌++◌, flat_map, map, codes}
use Rattle.std.specs.Ordering.{int_eq}
use Rattle.as_base.specs.Query.{at}
use Rattle.as_base.specs.declared.query.Bounds.{Bounds}
use Rattle.as_base.specs.declared.query.Kind.{Kind}
use Rattle.as_base.specs.declared.query.Plan.{Plan}
use Rattle.as_base.specs.declared.windows.WinSpec.{WinSpec}
use Rattle.query_text.specs.declared.ast.Op.{Op}
use Rattle.query_text.specs.declared.ast.Op.TheVariants.{Eq, Ge, Le}
use Rattle.query_text.specs.declared.ast.Cond.{Cond}
use Rattle.query_text.specs.declared.tree.Measure.{Measure}
use Rattle.query_text.specs.declared.tree.Window.{Window}
use Rattle.query_text.specs.declared.tree.Stem.{Stem}
use Rattle.query_text.specs.declared.tree.Head.{Head}
use Rattle.query_text.specs.Names.{Word, column_name, group_name, fields}
use Rattle.query_text.specs.Spelling.{WrittenQuery, window_words, conds_words, query_words}
use Rattle.as_words.specs.Words.{joined}
use Rattle.as_base.specs.Stream.{stream_name}
use denote.Ref.{Bor}
use Rattle.as_base.specs.Query.{lowest, highest}

-- the condition `field op z`
abbrev pub comparison : ℕ → Op → ℤ → Cond
comparison field op z = record { field = field; op = op; value = z }

-- the high end as a condition, where it leaves a number out
abbrev pub conds_of_high : ℕ → ℤ → List Cond
conds_of_high field hi = if int_eq hi highest then [] else comparison field Le hi ∷ []

-- the low end as a condition, where it leaves a number out, then the high end
abbrev pub conds_of_ends : ℕ → ℤ → ℤ → List Cond
conds_of_ends field lo hi = (if int_eq lo lowest then [] else comparison field Ge lo ∷ []) ++ conds_of_high field hi

-- the conditions that leave the interval of the field
abbrev pub conds_of_interval : ℕ → ℤ → ℤ → List Cond
conds_of_interval field lo hi = if int_eq lo hi then comparison field Eq lo ∷ [] else conds_of_ends field lo hi

-- the interval leaves a number out, so that a condition is written
abbrev pub is_limited : ℤ → ℤ → Bool
is_limited lo hi = not (int_eq lo lowest && int_eq hi highest)

-- the conditions that leave the intervals, by field
abbrev pub conds_of : Bounds → List Cond
conds_of b = flat_map (λ f. conds_of_interval f (at b.lo f) (at b.hi f)) fields

-- windows that do not overlap are written with their size alone
abbrev pub written_window : WinSpec → Window
written_window w = if w.size == w.slide then Window.Tumble w.size else Window.Slide w.size w.slide

-- the query up to its conditions
abbrev pub head_as : Kind → Plan → Head
head_as Kind.Select p = Head.Select p.left
head_as (Kind.Sum c) p = Head.Windowed (Stem.Grouped (Measure.Sum c) p.group p.left) (written_window p.win)
head_as Kind.Count p = Head.Windowed (Stem.Grouped Measure.Count p.group p.left) (written_window p.win)
head_as Kind.Join p = Head.Windowed (Stem.Joined p.left p.right) (written_window p.win)

-- the first word of a query of this kind
abbrev pub verb_word : Kind → Word
verb_word Kind.Select = codes "select"
verb_word (Kind.Sum c) = codes "sum"
verb_word Kind.Count = codes "count"
verb_word Kind.Join = codes "join"

-- the words after it that name columns, groups and streams
abbrev pub names_as : Kind → Plan → List Word
names_as Kind.Select p = codes "from" ∷ stream_name p.left ∷ []
names_as (Kind.Sum c) p = column_name c ∷ codes "by" ∷ group_name p.group ∷ codes "from" ∷ stream_name p.left ∷ []
names_as Kind.Count p = codes "by" ∷ group_name p.group ∷ codes "from" ∷ stream_name p.left ∷ []
names_as Kind.Join p = stream_name p.left ∷ stream_name p.right ∷ []

-- the words of its windows, of which a selection has none
abbrev pub windows_as : Kind → Plan → List Word
windows_as Kind.Select p = []
windows_as _ p = window_words (written_window p.win)

-- the word before the first condition of the left side
abbrev pub opening_word : Kind → Word
opening_word Kind.Join = codes "left"
opening_word _ = codes "where"

-- only a join has conditions on its right side
abbrev pub right_conds_as : Kind → Plan → List Cond
right_conds_as Kind.Join p = conds_of p.right_bounds
right_conds_as _ p = []

-- the words of its conditions on the right side
abbrev pub right_words : Plan → List Word
right_words p = conds_words (codes "right") (right_conds_as p.kind p)

-- the query that says the plan
abbrev pub written_query : Plan → WrittenQuery
written_query p = record { head = head_as p.kind p; left = conds_of p.left_bounds; right = right_conds_as p.kind p }

-- the canonical text of a plan
abbrev pub canonical_text : Plan → List ℕ
canonical_text p = joined (query_words (written_query p))

-- the words that these references point to
abbrev pub words_at : List (Bor (List ℕ)) → List Word
words_at words = map (λ w. w.now) words
