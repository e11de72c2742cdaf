-- What a whole text tells: its one tree, or the one place of its fault.
use Rattle.std.proofs.Common.{◌≡◌, ◌↔◌, ℕ, ◌<◌, ◌≤◌, ◌+◌, ◌-◌, nat_le, Result, Ok, Err, List, [], ◌∷◌, length, refl, sym, ap, ◌∙◌, arith}
use Rattle.std.proofs.lemmas.Bool.{and_parts, leb-true}
use Rattle.std.specs.Bool.{IsTrue}
use Rattle.as_words.specs.Words.{is_words}
use Rattle.as_base.specs.Text.{is_text}
use Rattle.as_words.proofs.WordLaws.{parts_short}
use Rattle.query_text.specs.declared.ast.Ast.{Ast}
use Rattle.query_text.specs.Names.{Word}
use Rattle.query_text.specs.Spelling.{WrittenQuery, IsSyntax, IsTreeOf, tree_of}
use Rattle.query_text.specs.Places.{read_from}
use Rattle.query_text.specs.Places.Place.{AtVerb}
use Rattle.query_text.specs.Reading.{text_words, tree_or_place}
use Rattle.query_text.proofs.GrammarLaws.{spelled-read, read-spelled}
use Rattle.query_text.proofs.FaultLaws.{fault_place, left_short}

-- a text has few words
pub words_bound : (bytes : List ℕ) → IsTrue (is_text bytes) → length (text_words bytes) ≤ 4090
words_bound [] h = omega arith
words_bound (b ∷ bytes) h =
    let low : length (b ∷ bytes) ≤ 4089 = leb-true (length (b ∷ bytes)) 4089 (and_parts (nat_le (length (b ∷ bytes)) 4089) (is_words (b ∷ bytes)) h).0 in
    omega (arith, low, parts_short 32 (b ∷ bytes))

told_tree : (n : ℕ) (r : Result WrittenQuery (List Word)) (ast : Ast) → tree_or_place n r ≡ Ok ast → (q : WrittenQuery) × (r ≡ Ok q) × (ast ≡ tree_of q)
told_tree n (Ok q) ast e = let same : tree_of q ≡ ast = cc e in (q, refl, sym same)
told_tree n (Err left) ast e = cc e

told_place : (n : ℕ) (r : Result WrittenQuery (List Word)) (k : ℕ) → tree_or_place n r ≡ Err k → (left : List Word) × (r ≡ Err left) × (n + 1 - length left ≡ k)
told_place n (Ok q) k e = cc e
told_place n (Err left) k e = (left, refl, cc e)

-- the tree of the words is the one that is told
pub one_tree_told : (ws : List Word) (ast : Ast) → IsTreeOf ast ws ↔ (tree_or_place (length ws) (read_from AtVerb ws) ≡ Ok ast)
one_tree_told ws ast = (
  (λ h. ap (tree_or_place (length ws)) (spelled-read h.0 ws h.1) ∙ ap (λ (a : Ast). Ok a) (sym h.2)),
  (λ e. let t = told_tree (length ws) (read_from AtVerb ws) ast e in (t.0, read-spelled t.0 ws t.1, t.2)),
)

-- a fault is not at two places
not_before : (ws : List Word) (j k : ℕ) → IsSyntax j ws → IsSyntax k ws → j < k → ⊥
not_before ws j k a b low =
    let top : k ≤ length ws + 1 = b.place.1 in
    a.bad (omega (arith, low, top)) (b.before j low)

pub one_place : (ws : List Word) (j k : ℕ) → IsSyntax j ws → IsSyntax k ws → j ≡ k
one_place ws j k a b =
    let low : j < k → ⊥ = not_before ws j k a b in
    let high : k < j → ⊥ = not_before ws k j b a in
    omega (arith, low, high)

fault_told : (ws : List Word) (r : Result WrittenQuery (List Word)) (k : ℕ) → read_from AtVerb ws ≡ r → IsSyntax k ws → tree_or_place (length ws) r ≡ Err k
fault_told ws (Ok q) k e h = absurd (h.none q (read-spelled q ws e))
fault_told ws (Err left) k e h =
    let short : length left ≤ length ws = left_short ws left e in
    let here : IsSyntax (length ws + 1 - length left) ws = fault_place ws left (length ws + 1 - length left) e (omega (arith, short)) in
    ap (λ (n : ℕ). Err n) (one_place ws (length ws + 1 - length left) k here h)

-- the place of the fault in the words is the one that is told
pub one_place_told : (ws : List Word) (k : ℕ) → IsSyntax k ws ↔ (tree_or_place (length ws) (read_from AtVerb ws) ≡ Err k)
one_place_told ws k = (
  (λ h. fault_told ws (read_from AtVerb ws) k refl h),
  (λ e. let t = told_place (length ws) (read_from AtVerb ws) k e in
      let short : length t.0 ≤ length ws = left_short ws t.0 t.1 in
      fault_place ws t.0 k t.1 (omega (arith, short, t.2))),
)

-- what was read of the words is what is told
pub value_by : (ws seen : List Word) (ast : Ast) → seen ≡ ws → (q : WrittenQuery) × (read_from AtVerb seen ≡ Ok q) × (ast ≡ tree_of q) → tree_or_place (length ws) (read_from AtVerb ws) ≡ Ok ast
value_by ws seen ast same h = ap (tree_or_place (length ws)) (ap (read_from AtVerb) (sym same) ∙ h.1) ∙ ap (λ (a : Ast). Ok a) (sym h.2)

pub place_by : (ws seen left : List Word) (k total rest : ℕ) → seen ≡ ws → read_from AtVerb seen ≡ Err left → total ≡ length seen → rest ≡ length left → k + rest ≡ total + 1
    → tree_or_place (length ws) (read_from AtVerb ws) ≡ Err k
place_by ws seen left k total rest same e et er sum =
    let all : length seen ≡ length ws = ap length same in
    let place : length ws + 1 - length left ≡ k = omega (arith, et, er, sum, all) in
    ap (tree_or_place (length ws)) (ap (read_from AtVerb) (sym same) ∙ e) ∙ ap (λ (n : ℕ). Err n) place
