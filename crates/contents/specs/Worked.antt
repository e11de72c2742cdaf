-- Worked rows, evaluated on the definitions alone.
use Rattle.std.specs.Prelude.{◌≡◌, ℕ, ℤ, pos, true, false, List, [], ◌∷◌, ◌++◌, replicate, map, length, refl}
use Rattle.as_base.specs.declared.fragment.Body.TheVariants as body
use Rattle.as_base.specs.declared.fragment.Cell.{Cell}
use Rattle.as_base.specs.declared.fragment.Fragment.{Fragment}
use Rattle.as_base.specs.declared.item.Record.{Record}
use Rattle.as_base.specs.declared.message.Change.TheVariants.{Opened, Closed}
use Rattle.as_base.specs.declared.message.Msg.{Msg}
use Rattle.as_base.specs.declared.message.Msg.TheVariants as msg
use Rattle.as_base.specs.declared.query.Group.TheVariants as group
use Rattle.as_base.specs.declared.query.Kind.{Kind}
use Rattle.as_base.specs.declared.query.Kind.TheVariants.{Select, Count, Join}
use Rattle.as_base.specs.declared.query.Plan.{Plan}
use Rattle.as_base.specs.declared.stream.StreamId.{StreamId}
use Rattle.as_base.specs.declared.stream.StreamId.TheVariants.{A, B}
use Rattle.as_base.specs.Query.{unlimited}
use Rattle.contents.specs.Cells.{cells_at}
use Rattle.contents.specs.Held.{pairs, held_after}
use Rattle.contents.specs.Kept.{kept}
use Rattle.contents.specs.Pairs.{is_paired}
use Rattle.contents.specs.Past.{past_of}
use Rattle.contents.specs.Reply.{reply_to}

-- a plan without bounds, of windows of this size that begin every so many ticks
abbrev plan : Kind → StreamId → ℕ → ℕ → Plan
plan kind right size slide = record {
  kind = kind;
  group = group.All;
  left = A;
  right = right;
  left_bounds = unlimited;
  right_bounds = unlimited;
  win = record { size = size; slide = slide };
}

abbrev opens : ℕ → ℕ → Plan → Msg
opens n at p = msg.Change (Opened n 0 at p)

abbrev closes : ℕ → ℕ → Msg
closes n at = msg.Change (Closed n 0 at)

abbrev at : StreamId → ℕ → ℕ → Record
at s seq t = record { seq = seq; given = record { stream = s; time = t; key = pos 7; v = replicate 4 (pos 0) } }

abbrev comes : StreamId → ℕ → ℕ → Msg
comes s seq t = msg.Rec (at s seq t)

abbrev marks : ℕ → ℕ → Msg
marks a b = msg.Advance (a ∷ b ∷ 0 ∷ 0 ∷ [])

abbrev lines : List Record → List ℕ
lines rs = map (λ (r : Record). r.seq) rs

abbrev selection : Msg
selection = opens 1 0 (plan Select A 1 1)

-- a record that is passed goes before the next comes to the same slice
pub passed_before : lines (kept (selection ∷ comes A 2 5 ∷ marks 6 0 ∷ comes A 4 8 ∷ [])) ≡ 4 ∷ []
passed_before = refl

-- two of one slice stay while one of them is needed
pub passed_behind : lines (kept (selection ∷ comes A 2 5 ∷ comes A 3 8 ∷ marks 6 0 ∷ [])) ≡ 2 ∷ 3 ∷ []
passed_behind = refl

abbrev join : ℕ → ℕ → Msg
join n at = opens n at (plan Join B 100 100)

-- one slot and one window with two holders: the records stand until the watermarks of both streams have passed them
abbrev reused : List Msg
reused = join 1 0 ∷ comes A 2 10 ∷ closes 1 11 ∷ join 2 11 ∷ comes A 5 20 ∷ comes B 6 5 ∷ comes B 7 30 ∷ marks 100 0 ∷ []

pub all_stay : lines (kept reused) ≡ 2 ∷ 5 ∷ 6 ∷ 7 ∷ []
all_stay = refl

pub all_go : kept (reused ++ marks 100 100 ∷ []) ≡ []
all_go = refl

-- what only a count has is not kept
pub counted : kept (opens 1 0 (plan Count A 100 100) ∷ comes A 2 10 ∷ []) ≡ []
counted = refl

-- ---- cells

abbrev cell : ℤ → ℤ → ℕ → Cell
cell group sum count = record { group = group; sum = sum; count = count }

-- two records in one slice of a count, and one in the next
abbrev counts : List Msg
counts = opens 1 0 (plan Count A 100 100) ∷ comes A 2 10 ∷ comes A 3 20 ∷ comes A 4 120 ∷ []

pub first_cells : cells_at (past_of counts) A 0 0 ≡ cell (pos 0) (pos 0) 2 ∷ []
first_cells = refl

pub second_cells : cells_at (past_of counts) A 0 100 ≡ cell (pos 0) (pos 0) 1 ∷ []
second_cells = refl

-- the first window is passed, and its cells go
pub passed_cells : cells_at (past_of (counts ++ marks 100 0 ∷ [])) A 0 0 ≡ []
passed_cells = refl

pub waiting_cells : cells_at (past_of (counts ++ marks 100 0 ∷ [])) A 0 100 ≡ cell (pos 0) (pos 0) 1 ∷ []
waiting_cells = refl

-- ---- pairs

-- a pair that one passed window met, and another window waits for
abbrev joined : List Msg
joined = opens 1 0 (plan Join B 10 5) ∷ comes A 2 6 ∷ comes B 3 7 ∷ marks 10 10 ∷ []

pub one_pair : length (pairs (past_of joined) (kept joined)) ≡ 1
one_pair = refl

-- before the window is passed, nothing has met
pub none_met : length (pairs (past_of (opens 1 0 (plan Join B 10 5) ∷ comes A 2 6 ∷ comes B 3 7 ∷ [])) (kept joined)) ≡ 0
none_met = refl

-- a slot with two holders, one after the other: nobody has a record of the first and one of the second
pub unpaired : is_paired (past_of reused).holders 0 (at A 2 10) (at B 7 30) ≡ false
unpaired = refl

pub paired : is_paired (past_of reused).holders 0 (at A 5 20) (at B 7 30) ≡ true
paired = refl

-- ---- what is held

pub held_passed_before : held_after (selection ∷ comes A 2 5 ∷ marks 6 0 ∷ comes A 4 8 ∷ []) ≡ record { records = 1; cells = 0; pairs = 0 }
held_passed_before = refl

pub held_passed_behind : held_after (selection ∷ comes A 2 5 ∷ comes A 3 8 ∷ marks 6 0 ∷ []) ≡ record { records = 2; cells = 0; pairs = 0 }
held_passed_behind = refl

-- ---- replies

-- what is replied, after the messages, to the watermarks
abbrev replied : List Msg → ℕ → ℕ → List Fragment
replied ms a b = (reply_to (past_of ms) (a ∷ b ∷ 0 ∷ 0 ∷ [])).fragments

-- the record that is passed, and not the one that waits
pub one_picked : replied (selection ∷ comes A 2 5 ∷ comes A 3 8 ∷ []) 6 0
    ≡ (record { n = 1; plan = plan Select A 1 1; start = 0; body = body.Recs (at A 2 5 ∷ []) }) ∷ []
one_picked = refl

-- one that was passed before is not replied again
pub none_again : replied (selection ∷ comes A 2 5 ∷ marks 6 0 ∷ []) 7 0 ≡ []
none_again = refl

-- the cells of the window that is passed
pub first_window : replied counts 100 0
    ≡ (record { n = 1; plan = plan Count A 100 100; start = 0; body = body.Cells (cell (pos 0) (pos 0) 2 ∷ []) }) ∷ []
first_window = refl

-- a join waits for both watermarks
pub waits_for_both : replied (opens 1 0 (plan Join B 10 5) ∷ comes A 2 6 ∷ comes B 3 7 ∷ []) 10 5 ≡ []
waits_for_both = refl

pub both_passed : map (λ (f : Fragment). f.start) (replied (opens 1 0 (plan Join B 10 5) ∷ comes A 2 6 ∷ comes B 3 7 ∷ []) 10 10) ≡ 0 ∷ []
both_passed = refl
