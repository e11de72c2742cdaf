-- Parts between separators: one more byte, the first part, and how many there are.
use Rattle.std.proofs.Common.{◌≡◌, ℕ, zero, suc, ◌<◌, Some, None, position, get_or, take, drop, add-one, ◌+◌, ◌==◌, if◌then◌else◌, true, false, List, [], ◌∷◌, ◌++◌, length, refl, ap, ◌∙◌, arith}
use Rattle.std.specs.List.{position_or_len}
use Rattle.std.specs.Prelude.{nat_lt}
use Rattle.std.proofs.lemmas.Bool.{cond-true, cond-false, eq-eqb, eqb-true, cond_both, ltb-false}
use Rattle.std.proofs.lemmas.List.Quantifiers.{position-Some}
use Rattle.std.proofs.lemmas.List.Sums.{fails_before_first}
use Rattle.as_words.specs.Parts.{onto_first, parts_of, but_last, last_of}

-- at least one part
abbrev pub HasPart : List (List ℕ) → Type 0
HasPart [] = ⊥
HasPart (part ∷ parts) = Unit {0}

-- what the last part becomes by one more byte: it is ended by a separator, or grows
abbrev pub ended_by : ℕ → ℕ → List ℕ → List (List ℕ)
ended_by separator b part = if b == separator then part ∷ [] ∷ [] else (part ++ b ∷ []) ∷ []

HasPart-onto_first : (b : ℕ) (parts : List (List ℕ)) → HasPart (onto_first b parts)
HasPart-onto_first b [] = tt
HasPart-onto_first b (part ∷ parts) = tt

pub HasPart-parts_of : (separator : ℕ) (bytes : List ℕ) → HasPart (parts_of separator bytes)
HasPart-parts_of separator [] = tt
HasPart-parts_of separator (b ∷ bytes) =
    elim (b == separator) as (λ t. HasPart (if t then [] ∷ parts_of separator bytes else onto_first b (parts_of separator bytes))) [
      | true ↦ tt
      | false ↦ HasPart-onto_first b (parts_of separator bytes)
    ]

pub but_last-cons : (part : List ℕ) (parts : List (List ℕ)) → HasPart parts → but_last (part ∷ parts) ≡ part ∷ but_last parts
but_last-cons part [] h = absurd h
but_last-cons part (next ∷ parts) h = refl

pub last_of-cons : (part : List ℕ) (parts : List (List ℕ)) → HasPart parts → last_of (part ∷ parts) ≡ last_of parts
last_of-cons part [] h = absurd h
last_of-cons part (next ∷ parts) h = refl

onto_ended : (c separator b : ℕ) (part : List ℕ) → onto_first c (ended_by separator b part) ≡ ended_by separator b (c ∷ part)
onto_ended c separator b part =
    elim (b == separator) as (λ t. onto_first c (if t then part ∷ [] ∷ [] else (part ++ b ∷ []) ∷ []) ≡ (if t then (c ∷ part) ∷ [] ∷ [] else (c ∷ part ++ b ∷ []) ∷ [])) [
      | true ↦ refl
      | false ↦ refl
    ]

onto_split : (c separator b : ℕ) (parts : List (List ℕ)) → HasPart parts
    → onto_first c (but_last parts ++ ended_by separator b (last_of parts)) ≡ but_last (onto_first c parts) ++ ended_by separator b (last_of (onto_first c parts))
onto_split c separator b [] h = absurd h
onto_split c separator b (part ∷ []) h = onto_ended c separator b part
onto_split c separator b (part ∷ next ∷ parts) h = refl

-- one more byte ends the last part or grows it
pub parts_of_push : (separator : ℕ) (bytes : List ℕ) (b : ℕ)
    → parts_of separator (bytes ++ b ∷ []) ≡ but_last (parts_of separator bytes) ++ ended_by separator b (last_of (parts_of separator bytes))
parts_of_push separator [] b = refl
parts_of_push separator (c ∷ bytes) b =
    let some = HasPart-parts_of separator bytes in
    let before : parts_of separator (bytes ++ b ∷ []) ≡ but_last (parts_of separator bytes) ++ ended_by separator b (last_of (parts_of separator bytes)) = parts_of_push separator bytes b in
    elim (c == separator) as (λ t. (if t then [] ∷ parts_of separator (bytes ++ b ∷ []) else onto_first c (parts_of separator (bytes ++ b ∷ [])))
    ≡ but_last (if t then [] ∷ parts_of separator bytes else onto_first c (parts_of separator bytes)) ++ ended_by separator b (last_of (if t then [] ∷ parts_of separator bytes else onto_first c (parts_of separator bytes)))) [
      | true ↦ rw (but_last-cons [] (parts_of separator bytes) some, last_of-cons [] (parts_of separator bytes) some) (ap (λ ps. [] ∷ ps) before)
      | false ↦ ap (onto_first c) before ∙ onto_split c separator b (parts_of separator bytes) some
    ]

but_last_two : (parts : List (List ℕ)) (p q : List ℕ) → but_last (parts ++ p ∷ q ∷ []) ≡ parts ++ p ∷ []
but_last_two [] p q = refl
but_last_two (part ∷ []) p q = refl
but_last_two (part ∷ next ∷ parts) p q = ap (λ ps. part ∷ ps) (but_last_two (next ∷ parts) p q)

but_last_push : (parts : List (List ℕ)) (q : List ℕ) → but_last (parts ++ q ∷ []) ≡ parts
but_last_push [] q = refl
but_last_push (part ∷ []) q = refl
but_last_push (part ∷ next ∷ parts) q = ap (λ ps. part ∷ ps) (but_last_push (next ∷ parts) q)

last_of_push : (parts : List (List ℕ)) (q : List ℕ) → last_of (parts ++ q ∷ []) ≡ q
last_of_push [] q = refl
last_of_push (part ∷ []) q = refl
last_of_push (part ∷ next ∷ parts) q = last_of_push (next ∷ parts) q

last_of_two : (parts : List (List ℕ)) (p q : List ℕ) → last_of (parts ++ p ∷ q ∷ []) ≡ q
last_of_two [] p q = refl
last_of_two (part ∷ []) p q = refl
last_of_two (part ∷ next ∷ parts) p q = last_of_two (next ∷ parts) p q

-- all parts but the last, and the last, by one more byte
pub but_last_by_byte : (separator : ℕ) (bytes : List ℕ) (b : ℕ)
    → but_last (parts_of separator (bytes ++ b ∷ [])) ≡ (if b == separator then but_last (parts_of separator bytes) ++ last_of (parts_of separator bytes) ∷ [] else but_last (parts_of separator bytes))
but_last_by_byte separator bytes b =
    rw (parts_of_push separator bytes b)
    (elim (b == separator) as (λ t. but_last (but_last (parts_of separator bytes) ++ (if t then last_of (parts_of separator bytes) ∷ [] ∷ [] else (last_of (parts_of separator bytes) ++ b ∷ []) ∷ []))
    ≡ (if t then but_last (parts_of separator bytes) ++ last_of (parts_of separator bytes) ∷ [] else but_last (parts_of separator bytes))) [
      | true ↦ but_last_two (but_last (parts_of separator bytes)) (last_of (parts_of separator bytes)) []
      | false ↦ but_last_push (but_last (parts_of separator bytes)) (last_of (parts_of separator bytes) ++ b ∷ [])
    ])

pub last_of_by_byte : (separator : ℕ) (bytes : List ℕ) (b : ℕ)
    → last_of (parts_of separator (bytes ++ b ∷ [])) ≡ (if b == separator then [] else last_of (parts_of separator bytes) ++ b ∷ [])
last_of_by_byte separator bytes b =
    rw (parts_of_push separator bytes b)
    (elim (b == separator) as (λ t. last_of (but_last (parts_of separator bytes) ++ (if t then last_of (parts_of separator bytes) ∷ [] ∷ [] else (last_of (parts_of separator bytes) ++ b ∷ []) ∷ []))
    ≡ (if t then [] else last_of (parts_of separator bytes) ++ b ∷ [])) [
      | true ↦ last_of_two (but_last (parts_of separator bytes)) (last_of (parts_of separator bytes)) []
      | false ↦ last_of_push (but_last (parts_of separator bytes)) (last_of (parts_of separator bytes) ++ b ∷ [])
    ])

parts_at : (separator : ℕ) (bytes : List ℕ) (i : ℕ) → i < length bytes → get_or bytes i 0 ≡ separator → ((k : ℕ) → k < i → (get_or bytes k 0 == separator) ≡ false)
    → parts_of separator bytes ≡ take i bytes ∷ parts_of separator (drop (suc i) bytes)
parts_at separator [] i l e before = absurd (omega arith)
parts_at separator (b ∷ bytes) zero l e before = cond-true (b == separator) ([] ∷ parts_of separator bytes) (onto_first b (parts_of separator bytes)) (eq-eqb b separator e)
parts_at separator (b ∷ bytes) (suc i) l e before =
    cond-false (b == separator) ([] ∷ parts_of separator bytes) (onto_first b (parts_of separator bytes)) (before 0 (omega arith))
    ∙ ap (onto_first b) (parts_at separator bytes i (omega arith) e (λ k h. before (suc k) (omega arith)))

-- the parts around the first separator
pub parts_of-Some : (separator : ℕ) (bytes : List ℕ) (i : ℕ) → position (λ b. b == separator) bytes ≡ Some i
    → (i < length bytes) × (parts_of separator bytes ≡ take i bytes ∷ parts_of separator (drop (i + 1) bytes))
parts_of-Some separator bytes i e =
    let first = position-Some (λ b. b == separator) bytes i 0 e in
    (first.0, rw add-one (parts_at separator bytes i first.0 (eqb-true (get_or bytes i 0) separator first.1) first.2))

parts_alone : (separator : ℕ) (bytes : List ℕ) → ((k : ℕ) → k < length bytes → (get_or bytes k 0 == separator) ≡ false) → parts_of separator bytes ≡ bytes ∷ []
parts_alone separator [] none = refl
parts_alone separator (b ∷ bytes) none =
    cond-false (b == separator) ([] ∷ parts_of separator bytes) (onto_first b (parts_of separator bytes)) (none 0 (omega arith))
    ∙ ap (onto_first b) (parts_alone separator bytes (λ k h. none (suc k) (omega arith)))

-- the one part where there is no separator
pub parts_of-None : (separator : ℕ) (bytes : List ℕ) → position (λ b. b == separator) bytes ≡ None → parts_of separator bytes ≡ bytes ∷ []
parts_of-None separator bytes =
    let first : ℕ = position_or_len (λ b. b == separator) bytes in
    cond_both (nat_lt first (length bytes)) (Some first) None (λ o. o ≡ None → parts_of separator bytes ≡ bytes ∷ [])
    (λ h e. cc e)
    (λ h e. parts_alone separator bytes (λ k l. fails_before_first (λ b. b == separator) bytes k 0 (omega (arith, l, ltb-false first (length bytes) h))))
