-- The windows of a query by a view: which hold records of its own, and which its watermark has passed.
use Rattle.std.specs.Prelude.{ℕ, ◌==◌, nat_lt, nat_le, min, if◌then◌else◌, Bool, List, [], ◌∷◌, map}
use Rattle.std.specs.List.{filter, flat_map}
use Rattle.as_base.specs.declared.item.Given.{Given}
use Rattle.as_base.specs.declared.item.Record.{Record}
use Rattle.as_base.specs.declared.stream.StreamId.{StreamId}
use Rattle.as_base.specs.declared.windows.WinSpec.{WinSpec}
use Rattle.as_base.specs.Windows.{end_of, in_window, windows_at}
use Rattle.views.specs.Query.{Query}
use Rattle.views.specs.View.{View, mine, query_watermark}

-- the number, put once into its place among rising ones
abbrev pub put_once : ℕ → List ℕ → List ℕ
put_once k [] = k ∷ []
put_once k (j ∷ js) = if nat_lt k j then k ∷ j ∷ js else (if k == j then j ∷ js else j ∷ put_once k js)

-- the numbers, each once, by rising number
abbrev pub rising_once : List ℕ → List ℕ
rising_once [] = []
rising_once (k ∷ ks) = put_once k (rising_once ks)

-- the windows that hold some of the records, by rising number
abbrev pub windows_with : WinSpec → List Given → List ℕ
windows_with w gs = rising_once (flat_map (λ (g : Given). windows_at w g.time) gs)

-- the records of the stream that belong to the query, as they were given
abbrev pub given_to : View → Query → StreamId → List Given
given_to v q s = map (λ (r : Record). r.given) (mine v q s)

-- Those of the records that window k holds.
abbrev pub within : WinSpec → ℕ → List Given → List Given
within w k gs = filter (λ (g : Given). in_window w k g.time) gs

-- The windows that hold a record of the query, by rising number; of a join, one of its left stream.
abbrev pub windows_of : View → Query → List ℕ
windows_of v q = windows_with q.plan.win (given_to v q q.plan.left)

-- The query's watermark has passed window k: it has reached the window's end, or the end of the query's life.
abbrev pub is_passed : View → Query → ℕ → Bool
is_passed v q k = nat_le (min (end_of q.plan.win k) q.to) (query_watermark v q)

-- The windows that hold a record of the query and that its watermark has passed, by rising number.
abbrev pub passed_windows : View → Query → List ℕ
passed_windows v q = filter (is_passed v q) (windows_of v q)
