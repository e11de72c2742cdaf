-- The texts of creations.
use Rattle.std.proofs.Common.{◌≡◌, ℕ, ◌≤◌, ◌+◌, ◌&&◌, if◌then◌else◌, Bool, true, false, Option, Some, None, List, [], ◌∷◌, length, take, drop, codes, refl, sym, ap, ◌∙◌, arith, bytes_eq, length-append, take-append-drop}
use Rattle.std.proofs.lemmas.Bool.{le-leb, cond_both, and_parts, and_from}
use Rattle.std.proofs.lemmas.Slice.Eq.{bytes_eq-Decides}
use Rattle.std.specs.Prelude.{IfSome, IsTrue}
use Rattle.as_base.specs.Text.{is_text}
use Rattle.as_words.specs.Words.{is_words}
use Rattle.as_lineform.specs.Item.{creation_of}

if_has : {X : Type 0} (P : X → Type 0) (b : Bool) (x y : X) → P x → P y → P (if b then x else y)
if_has P true x y h k = h
if_has P false x y h k = k

-- a text of a line that is not too long
text_fits : (text : List ℕ) → is_words text ≡ true → length text ≤ 4089 → is_text text ≡ true
text_fits [] h l = refl
text_fits (b ∷ text) h l = and_from _ _ (le-leb (length (b ∷ text)) 4089 l) h

pub is_text-creation_of : (line : List ℕ) → length line ≤ 4096 → IfSome (creation_of line) (λ text. IsTrue (is_text text))
is_text-creation_of line l =
    let Good : Option (List ℕ) → Type 0 = λ o. IfSome o (λ text. IsTrue (is_text text)) in
    if_has Good (bytes_eq line (codes "create")) (Some []) _ refl
    (cond_both (bytes_eq (take 7 line) (codes "create ") && is_words (drop 7 line)) (Some (drop 7 line)) None Good
    (λ h. let parts = and_parts (bytes_eq (take 7 line) (codes "create ")) (is_words (drop 7 line)) h in
    let front : take 7 line ≡ codes "create " = (bytes_eq-Decides (take 7 line) (codes "create ")).0 parts.0 in
    let whole : length (codes "create ") + length (drop 7 line) ≡ length line = ap (λ xs. length xs + length (drop 7 line)) (sym front) ∙ sym (length-append (take 7 line) (drop 7 line)) ∙ ap length (take-append-drop 7 line) in
    text_fits (drop 7 line) parts.1 (omega (arith, whole, l)))
    (λ h. tt))
