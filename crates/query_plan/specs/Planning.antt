-- The plan of a query's tree or text, or why there is none.
use Rattle.std.specs.Prelude.{ℕ, ◌≡◌, ◌==◌, Bool, false, ◌||◌, nat_le, if◌then◌else◌, unwrap_or, Result, Ok, Err, List}
use Rattle.std.specs.Option.{option_map_or}
use Rattle.as_base.specs.Stream.{place_of}
use Rattle.as_base.specs.Windows.{fits}
use Rattle.as_base.specs.declared.stream.StreamId.{StreamId}
use Rattle.as_base.specs.declared.windows.WinSpec.{WinSpec}
use Rattle.as_base.specs.declared.query.Plan.{Plan}
use Rattle.query_text.specs.declared.ast.Ast.{Ast}
use Rattle.query_text.specs.Spelling.{WrittenQuery, FitsText, tree_of}
use Rattle.query_text.specs.Reading.{read_text}
use Rattle.as_base.specs.declared.answer.Word.{Word}
use Rattle.as_base.specs.declared.answer.Word.TheVariants as word
use Rattle.query_plan.specs.declared.planning.Misfit.{Misfit}
use Rattle.query_plan.specs.Limits.{bounds_of}

-- some text has the tree
abbrev pub IsTree : Ast → Type 0
IsTree ast = (q : WrittenQuery) × FitsText q × (ast ≡ tree_of q)

-- the second stream of a join; the only stream of another query
abbrev pub right_of : Ast → StreamId
right_of ast = unwrap_or ast.right ast.left

-- the stream is not among so many first ones
abbrev pub is_stranger : ℕ → StreamId → Bool
is_stranger streams s = nat_le streams (place_of s)

-- a stream is named that is not among so many first ones
abbrev pub names_stranger : ℕ → Ast → Bool
names_stranger streams ast = is_stranger streams ast.left || is_stranger streams (right_of ast)

-- a second stream is named, and it is the first
abbrev pub names_twin : Ast → Bool
names_twin ast = option_map_or (λ s. place_of s == place_of ast.left) ast.right false

-- windows of this size and slide
abbrev pub windows_of : ℕ × ℕ → WinSpec
windows_of sizes = record { size = sizes.0; slide = sizes.1 }

-- the windows of a query; one tick each where it names none
abbrev pub window_of : Ast → WinSpec
window_of ast = windows_of (unwrap_or ast.win (1, 1))

-- the plan of a tree, whether it fits or not
abbrev pub plan_unchecked : Ast → Plan
plan_unchecked ast = record {
  kind = ast.kind;
  group = ast.group;
  left = ast.left;
  right = right_of ast;
  left_bounds = bounds_of ast.left_conds;
  right_bounds = bounds_of ast.right_conds;
  win = window_of ast;
}

-- the plan of a tree, of which so many first streams may be named, or the first misfit
abbrev pub plan : ℕ → Ast → Result Plan Misfit
plan streams ast =
    if names_stranger streams ast then Err Misfit.Stranger
    else (if names_twin ast then Err Misfit.Twin
    else (if fits (window_of ast) then Ok (plan_unchecked ast)
    else Err Misfit.Window))

-- the word that refuses a query which does not fit
abbrev pub word_of_misfit : Misfit → Word
word_of_misfit Misfit.Stranger = word.Stranger
word_of_misfit Misfit.Twin = word.Twin
word_of_misfit Misfit.Window = word.Window

-- the plan, or the word of the misfit
abbrev pub or_word : Result Plan Misfit → Result Plan Word
or_word (Ok p) = Ok p
or_word (Err misfit) = Err (word_of_misfit misfit)

-- the plan of what was read of a text: its tree, or the place of its fault
abbrev pub plan_of_reading : ℕ → Result Ast ℕ → Result Plan Word
plan_of_reading streams (Ok ast) = or_word (plan streams ast)
plan_of_reading streams (Err place) = Err (word.Syntax place)

-- the plan of a query text, of which so many first streams may be named, or the word that refuses it
abbrev pub plan_of : ℕ → List ℕ → Result Plan Word
plan_of streams text = plan_of_reading streams (read_text text)
