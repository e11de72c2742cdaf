-- The text of an output that was never created: none.
use Rattle.std.proofs.Common.{◌≡◌, ℕ, ◌+◌, eqb, Bool, true, false, cond, List, [], ◌∷◌, ◌++◌, map, refl, sym, ◌∙◌, arith}
use Rattle.std.specs.List.{flat_map}
use Rattle.std.proofs.lemmas.List.Sums.{sum_by-cons}
use Rattle.as_base.specs.Times.{times}
use Rattle.as_base.specs.declared.config.Config.{Config}
use Rattle.as_base.specs.declared.item.Item.{Item}
use Rattle.views.specs.Query.{Query}
use Rattle.row_text.specs.RowText.{text}
use Rattle.session.specs.Book.{book, numbers}
use Rattle.session.specs.View.{view, text_of}

text-none : (n : ℕ) (f : Query → List ℕ) (qs : List Query) → times n (map (λ (q : Query). q.n) qs) ≡ 0 → flat_map (λ (q : Query). cond (eqb q.n n) (f q) []) qs ≡ []
text-none n f [] e = refl
text-none n f (q ∷ qs) e = go (eqb q.n n) (sym (sum_by-cons (λ m. cond (eqb m n) 1 0) q.n (map (λ (q : Query). q.n) qs)) ∙ e) (text-none n f qs)
  where
    go : (b : Bool) → cond b 1 0 + times n (map (λ (q : Query). q.n) qs) ≡ 0 → (times n (map (λ (q : Query). q.n) qs) ≡ 0 → flat_map (λ (q : Query). cond (eqb q.n n) (f q) []) qs ≡ [])
        → cond b (f q) [] ++ flat_map (λ (q : Query). cond (eqb q.n n) (f q) []) qs ≡ []
    go true z rest = absurd (omega (arith, z))
    go false z rest = rest (omega (arith, z))

pub text_of-none : (c : Config) (h : List Item) (n : ℕ) → times n (numbers c h) ≡ 0 → text_of c h n ≡ []
text_of-none c h n e = text-none n (text (view c h)) (book c h) e
