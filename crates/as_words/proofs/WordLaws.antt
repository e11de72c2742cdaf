-- The words that are left of a line, and the words that name things.
use Rattle.std.proofs.Common.{◌≡◌, ◌↔◌, ℕ, Bool, true, false, Option, Some, None, List, [], ◌∷◌, sym, ap, ◌∙◌, refl, is_some, not, drop, position, length, arith, if◌then◌else◌, cond, ◌==◌, ◌+◌, ◌≤◌, bytes_eq}
use Rattle.std.proofs.lemmas.Bool.{cond_both}
use Rattle.std.proofs.lemmas.Slice.Eq.{bytes_eq-Decides}
use Rattle.as_words.specs.Words.{pick}
use Rattle.std.proofs.lemmas.List.Sums.{sum_by-cons}
use Rattle.std.specs.Bool.{IsTrue}
use Rattle.std.specs.Prelude.{count_by}
use denote.Ref.{Bor}
use Rattle.as_words.specs.Parts.{onto_first, parts_of, words_of}
use Rattle.as_words.proofs.PartLaws.{HasPart-parts_of, HasPart, parts_of-Some, parts_of-None}

some_part : (parts : List (List ℕ)) → HasPart parts → parts ≡ [] → ⊥
some_part [] h e = absurd h
some_part (part ∷ parts) h e = cc e

-- no word is left just where nothing of the text is
pub words_of-none : (rest : Option (Bor (List ℕ))) (none : Bool) → is_some rest ≡ not none → IsTrue none ↔ (words_of rest ≡ [])
words_of-none None true e = (λ h. refl, λ h. refl)
words_of-none None false e = cc e
words_of-none (Some line) true e = cc e
words_of-none (Some line) false e = (λ h. cc h, λ h. absurd (some_part (parts_of 32 line.now) (HasPart-parts_of 32 line.now) h))

pub first_of : (ws : List (List ℕ)) (w : List ℕ) (more : List (List ℕ)) → ws ≡ w ∷ more → ws ≡ w ∷ drop 1 ws
first_of ws w more e = e ∙ ap (λ xs. w ∷ drop 1 xs) (sym e)

-- the words after the first, around a space or at the end
pub drop_word : (bytes : List ℕ) (at : ℕ) → position (λ b. b == 32) bytes ≡ Some at → drop 1 (parts_of 32 bytes) ≡ parts_of 32 (drop (at + 1) bytes)
drop_word bytes at e = ap (drop 1) (parts_of-Some 32 bytes at e).1

pub drop_last : (bytes : List ℕ) → position (λ b. b == 32) bytes ≡ None → drop 1 (parts_of 32 bytes) ≡ []
drop_last bytes e = ap (drop 1) (parts_of-None 32 bytes e)

onto_count : (b : ℕ) (parts : List (List ℕ)) → HasPart parts → length (onto_first b parts) ≡ length parts
onto_count b [] h = absurd h
onto_count b (part ∷ parts) h = refl

part_more : (t : Bool) (b n : ℕ) (parts : List (List ℕ)) → HasPart parts → length parts ≡ n + 1
    → length (if t then [] ∷ parts else onto_first b parts) ≡ cond t 1 0 + n + 1
part_more true b n parts h e = omega (arith, e)
part_more false b n parts h e = omega (arith, e, onto_count b parts h)

-- one part more than there are separators
pub parts_count : (s : ℕ) (bytes : List ℕ) → length (parts_of s bytes) ≡ count_by (λ b. b == s) bytes + 1
parts_count s [] = refl
parts_count s (b ∷ bytes) =
    let more = part_more (b == s) b (count_by (λ c. c == s) bytes) (parts_of s bytes) (HasPart-parts_of s bytes) (parts_count s bytes) in
    more ∙ ap (λ n. n + 1) (sym (sum_by-cons (λ c. cond (c == s) 1 0) b bytes))

-- there are few parts
pub parts_short : (s : ℕ) (bytes : List ℕ) → length (parts_of s bytes) ≤ length bytes + 1
parts_short s [] = omega arith
parts_short s (b ∷ bytes) =
    let before : length (parts_of s bytes) ≤ length bytes + 1 = parts_short s bytes in
    let on : length (onto_first b (parts_of s bytes)) ≡ length (parts_of s bytes) = onto_count b (parts_of s bytes) (HasPart-parts_of s bytes) in
    elim (b == s) as (λ t. length (if t then [] ∷ parts_of s bytes else onto_first b (parts_of s bytes)) ≤ length (b ∷ bytes) + 1) [
      | true ↦ omega (arith, before)
      | false ↦ omega (arith, before, on)
    ]

some_same : {X : Type 0} (x y : X) → Some x ≡ Some y → x ≡ y
some_same x y e = cc e

-- what was picked is spelled so
pub pick-Some : {X : Type 0} (spell : X → List ℕ) (xs : List X) (word : List ℕ) (x : X) → pick spell xs word ≡ Some x → word ≡ spell x
pick-Some spell [] word x = λ e. cc e
pick-Some spell (y ∷ ys) word x =
    cond_both (bytes_eq word (spell y)) (Some y) (pick spell ys word) (λ o. o ≡ Some x → word ≡ spell x)
    (λ h e. (bytes_eq-Decides word (spell y)).0 h ∙ ap spell (some_same y x e))
    (λ h e. pick-Some spell ys word x e)
