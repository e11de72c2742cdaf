-- Worked rows, evaluated on the definitions alone.
use Rattle.std.specs.Prelude.{ℕ, pos, ◌≡◌, refl, Some, None, List, [], ◌∷◌, codes}
use Rattle.std.specs.Fmt.{digits}
use Rattle.as_base.specs.declared.answer.Piece.{Piece}
use Rattle.as_base.specs.declared.fragment.Body.TheVariants.{Recs, Cells}
use Rattle.as_base.specs.declared.fragment.Cell.{Cell}
use Rattle.as_base.specs.declared.fragment.Fragment.{Fragment}
use Rattle.as_base.specs.declared.fragment.Reply.{Reply}
use Rattle.as_base.specs.declared.item.Record.{Record}
use Rattle.as_base.specs.declared.query.Col.TheVariants.{V1}
use Rattle.as_base.specs.declared.query.Group.TheVariants as group
use Rattle.as_base.specs.declared.query.Kind.{Kind}
use Rattle.as_base.specs.declared.query.Kind.TheVariants.{Select, Sum}
use Rattle.as_base.specs.declared.query.Plan.{Plan}
use Rattle.as_base.specs.declared.stream.StreamId.TheVariants.{A}
use Rattle.as_base.specs.Query.{unlimited}
use Rattle.result_router.specs.Held.{first_missing}
use Rattle.result_router.specs.Merge.{pieces_of}

-- a plan over stream a with windows of 100 ticks, by key
abbrev plan : Kind → Plan
plan kind = record {
  kind = kind;
  group = group.Key;
  left = A;
  right = A;
  left_bounds = unlimited;
  right_bounds = unlimited;
  win = record { size = 100; slide = 100 };
}

-- what a part has of the window from start on of query 3: one record of group 5, of this value
abbrev cell_of : ℕ → ℕ → Fragment
cell_of start value = record {
  n = 3;
  plan = plan (Sum V1);
  start = start;
  body = Cells ((record { group = pos 5; sum = pos value; count = 1 }) ∷ []);
}

-- two parts with a record each are added up, and a later window of the first part comes behind
pub added : pieces_of (cell_of 0 3 ∷ cell_of 100 1 ∷ cell_of 0 4 ∷ []) ≡ (record { n = 3; bytes = codes "0 100 5 7\n100 200 5 1\n" }) ∷ []
unfolding digits
added = refl

-- what a part has of query 2, a selection: a record of this line and time
abbrev record_of : ℕ → ℕ → Fragment
record_of seq time = record {
  n = 2;
  plan = plan Select;
  start = 0;
  body = Recs ((record { seq = seq; given = record { stream = A; time = time; key = pos 1; v = pos 0 ∷ pos 0 ∷ pos 0 ∷ pos 0 ∷ [] } }) ∷ []);
}

-- records by time and then by line, and the piece of query 2 before that of query 3
pub in_time : pieces_of (cell_of 0 3 ∷ record_of 9 8 ∷ record_of 7 8 ∷ record_of 8 6 ∷ [])
    ≡ (record { n = 2; bytes = codes "6 1 0 0 0 0\n8 1 0 0 0 0\n8 1 0 0 0 0\n" }) ∷ (record { n = 3; bytes = codes "0 100 5 3\n" }) ∷ []
unfolding digits
in_time = refl

-- fragments without rows make no piece
abbrev nothing : Fragment
nothing = record { n = 2; plan = plan Select; start = 0; body = Recs [] }

pub none_empty : pieces_of (nothing ∷ []) ≡ []
none_empty = refl

-- a reply of the first part is held, and none of the others
abbrev reply : Reply
reply = record { fragments = nothing ∷ [] }

pub waits_for_second : first_missing (Some reply ∷ None ∷ None ∷ []) ≡ Some 1
waits_for_second = refl
