-- The text of an output is that of the rows that are due to its query.
use Rattle.std.proofs.Common.{◌≡◌, ℕ, eqb, Bool, true, false, cond, List, [], ◌∷◌, ◌++◌, refl, sym, ap, ap₂, ◌∙◌}
use Rattle.std.specs.List.{flat_map}
use Rattle.std.proofs.lemmas.Grind.{flat_map-append}
use Rattle.as_base.specs.declared.message.Msg.{Msg}
use Rattle.as_base.specs.declared.row.Row.{Row}
use Rattle.views.specs.Query.{Query}
use Rattle.views.specs.Alike.{AreAlike}
use Rattle.views.specs.View.{View}
use Rattle.views.specs.Rows.{due_rows, due_to}
use Rattle.views.specs.Message.{after, Follows}
use Rattle.views.specs.IsView.{IsView}
use Rattle.views.proofs.AlikeLaws.{due_to-alike}
use Rattle.views.proofs.DueLaws.{due_by, due_to-after}
use Rattle.row_text.specs.RowText.{row_text, text_of}

-- the text of some rows
abbrev pub text_of_rows : List Row → List ℕ
text_of_rows rows = flat_map row_text rows

-- what is told of query n, as text
pub text_of-number : (n : ℕ) (f : Query → List Row) (qs : List Query)
    → flat_map (λ (q : Query). cond (eqb q.n n) (text_of_rows (f q)) []) qs ≡ text_of_rows (flat_map (λ (q : Query). cond (eqb q.n n) (f q) []) qs)
text_of-number n f [] = refl
text_of-number n f (q ∷ qs) =
    ap₂ (λ a b. a ++ b) (go (eqb q.n n)) (text_of-number n f qs)
    ∙ sym (flat_map-append row_text (cond (eqb q.n n) (f q) []) (flat_map (λ (q : Query). cond (eqb q.n n) (f q) []) qs))
  where
    go : (b : Bool) → cond b (text_of_rows (f q)) [] ≡ text_of_rows (cond b (f q) [])
    go true = refl
    go false = refl

pub text_of-due : (v : View) (n : ℕ) → text_of v n ≡ text_of_rows (due_to v n)
text_of-due v n = text_of-number n (due_rows v) v.queries

-- what a message adds to the text of an output
pub text_of-after : (v : View) (m : Msg) (n : ℕ) → IsView v → Follows v m → text_of (after v m) n ≡ text_of v n ++ text_of_rows (due_by v m n)
text_of-after v m n is f =
    text_of-due (after v m) n
    ∙ ap text_of_rows (due_to-after v m n is f)
    ∙ flat_map-append row_text (due_to v n) (due_by v m n)
    ∙ ap (λ l. l ++ text_of_rows (due_by v m n)) (sym (text_of-due v n))

-- alike queries have the same text, whatever else their views have
pub text_of-alike : (v w : View) (n m : ℕ) → AreAlike v n w m → text_of v n ≡ text_of w m
text_of-alike v w n m alike = text_of-due v n ∙ ap text_of_rows (due_to-alike v w n m alike) ∙ sym (text_of-due w m)
