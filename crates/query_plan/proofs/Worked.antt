-- Plans and texts that were worked out by hand.
use Rattle.std.proofs.Common.{◌≡◌, ℕ, pos, List, [], ◌∷◌, codes, refl, Result, Ok, Err}
use Rattle.std.specs.Fmt.{digits}
use Rattle.as_base.specs.declared.stream.StreamId.TheVariants.{A, B, D}
use Rattle.as_base.specs.declared.query.Group.{Group}
use Rattle.as_base.specs.declared.query.Plan.{Plan}
use Rattle.query_text.specs.declared.ast.Op.TheVariants.{Lt, Eq, Gt}
use Rattle.query_text.specs.declared.ast.Cond.{Cond}
use Rattle.query_text.specs.declared.tree.Measure.{Measure}
use Rattle.query_text.specs.declared.tree.Window.{Window}
use Rattle.query_text.specs.declared.tree.Stem.{Stem}
use Rattle.query_text.specs.declared.tree.Head.{Head}
use Rattle.query_text.specs.Spelling.{tree_of}
use Rattle.query_plan.specs.declared.planning.Misfit.{Misfit}
use Rattle.query_plan.specs.Planning.{plan}
use Rattle.query_plan.specs.Text.{comparison, canonical_text}

-- the canonical text of a query, of which so many first streams may be named
abbrev text_by : Result Plan Misfit → Result (List ℕ) Misfit
text_by (Ok p) = Ok (canonical_text p)
text_by (Err m) = Err m

abbrev text_for : ℕ → Head → List Cond → List Cond → Result (List ℕ) Misfit
text_for n head left right = text_by (plan n (tree_of (record { head = head; left = left; right = right })))

abbrev fault : Misfit → Result (List ℕ) Misfit
fault m = Err m

a_selection : text_for 4 (Head.Select A) (comparison 1 Lt (pos 30000) ∷ comparison 0 Eq (pos 4) ∷ []) [] ≡ Ok (codes "select from a where key = 4 and v1 <= 29999")
unfolding digits
a_selection = refl

a_join : text_for 4 (Head.Windowed (Stem.Joined A B) (Window.Slide 10 5)) [] (comparison 2 Gt (pos 9223372036854775807) ∷ [])
    ≡ Ok (codes "join a b slide 10 5 right v2 >= 9223372036854775807 and v2 <= -9223372036854775808")
unfolding digits
a_join = refl

a_great_window : text_for 4 (Head.Windowed (Stem.Grouped Measure.Count Group.All A) (Window.Tumble 5000000000)) [] [] ≡ fault Misfit.Window
a_great_window = refl

a_twin : text_for 4 (Head.Windowed (Stem.Joined A A) (Window.Tumble 0)) [] [] ≡ fault Misfit.Twin
a_twin = refl

a_stranger : text_for 2 (Head.Windowed (Stem.Joined D D) (Window.Tumble 0)) [] [] ≡ fault Misfit.Stranger
a_stranger = refl
