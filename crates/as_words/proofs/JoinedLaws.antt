-- Joined words: that they are cut back into these words, that they are words, and how long they are.
use Rattle.std.proofs.Common.{◌≡◌, ℕ, zero, suc, ◌+◌, ◌<◌, ◌≤◌, ◌*◌, ◌^◌, ◌==◌, true, false, not, ℤ, pos, negsuc, List, [], ◌∷◌, ◌++◌, length, decimal, refl, sym, ap, ◌∙◌, arith, nat_le, append_assoc, append-nil, length-append, map, take, drop, get_or, to_z, of_z, w64}
use Rattle.std.proofs.lemmas.List.{take_more, map-append}
use Rattle.std.specs.Prelude.{IsTrue}
use Rattle.std.specs.Fmt.{signed_decimal}
use Rattle.std.specs.List.{list_all, AllByRecursion}
use Rattle.std.specs.Str.Parse.{AllDigits}
use Rattle.std.proofs.lemmas.Bool.{cond_both, cond-false, and_parts, and_from, leb-true, le-leb, ne_eqb, eqb-true}
use Rattle.std.proofs.lemmas.Fmt.{digits_decimal, decimal_nonempty, length-decimal-le, length_signed_le}
use Rattle.std.proofs.lemmas.Str.Parse.{digit_at}
use Rattle.as_words.specs.Number.{IsSigned}
use Rattle.as_words.specs.Parts.{onto_first, parts_of}
use Rattle.as_words.specs.Words.{is_word_byte, is_word, is_words, spaced, joined}
use Rattle.as_words.proofs.NumberLaws.{own, mag-signed}
use Rattle.as_words.proofs.PartLaws.{HasPart, HasPart-parts_of}

-- the bytes are one word, as a fact
abbrev pub IsWord : List ℕ → Type 0
IsWord word = IsTrue (is_word word)

-- a word of at most 40 bytes, as all names, forms and numbers are
abbrev pub IsShort : List ℕ → Type 0
IsShort word = IsWord word × (length word ≤ 40)

pub short_words : (words : List (List ℕ)) → AllByRecursion IsShort words → AllByRecursion IsWord words
short_words [] h = tt
short_words (word ∷ words) h = (h.0.0, short_words words h.1)

pub word_bytes : (word : List ℕ) → IsWord word → list_all is_word_byte word ≡ true
word_bytes word h = (and_parts (not (length word == 0)) (list_all is_word_byte word) h).1

no_space : (b : ℕ) → is_word_byte b ≡ true → (b == 32) ≡ false
no_space b h = ne_eqb b 32 (λ e. omega (arith, e, leb-true 33 b (and_parts (nat_le 33 b) (nat_le b 126) h).0))

-- a word, cut off
cut : (word : List ℕ) (words : List (List ℕ)) → list_all is_word_byte word ≡ true → (parts : List (List ℕ)) → parts_of 32 (spaced words) ≡ [] ∷ parts → parts_of 32 (word ++ spaced words) ≡ word ∷ parts
cut [] words h parts e = e
cut (b ∷ word) words h parts e =
    let both = and_parts (is_word_byte b) (list_all is_word_byte word) h in
    cond-false (b == 32) ([] ∷ parts_of 32 (word ++ spaced words)) (onto_first b (parts_of 32 (word ++ spaced words))) (no_space b both.0)
    ∙ ap (onto_first b) (cut word words both.1 parts e)

cut_all : (words : List (List ℕ)) → AllByRecursion IsWord words → parts_of 32 (spaced words) ≡ [] ∷ words
cut_all [] h = refl
cut_all (word ∷ words) h = ap (λ parts. [] ∷ parts) (cut word words (word_bytes word h.0) words (cut_all words h.1))

-- joined words are cut into these words
pub parts_of-joined : (word : List ℕ) (words : List (List ℕ)) → IsWord word → AllByRecursion IsWord words → parts_of 32 (joined (word ∷ words)) ≡ word ∷ words
parts_of-joined word words h k = cut word words (word_bytes word h) words (cut_all words k)

all_words : (words : List (List ℕ)) → AllByRecursion IsWord words → list_all is_word words ≡ true
all_words [] h = refl
all_words (word ∷ words) h = and_from _ _ h.0 (all_words words h.1)

-- joined words are words
pub is_words-joined : (word : List ℕ) (words : List (List ℕ)) → IsWord word → AllByRecursion IsWord words → is_words (joined (word ∷ words)) ≡ true
is_words-joined word words h k = ap (list_all is_word) (parts_of-joined word words h k) ∙ all_words (word ∷ words) (h, k)

joined-onto : (b : ℕ) (parts : List (List ℕ)) → joined (onto_first b parts) ≡ b ∷ joined parts
joined-onto b [] = refl
joined-onto b (part ∷ parts) = refl

spaced-joined : (parts : List (List ℕ)) → HasPart parts → spaced parts ≡ 32 ∷ joined parts
spaced-joined [] h = absurd h
spaced-joined (part ∷ parts) h = refl

-- bytes are their parts between spaces, joined
pub joined-parts_of : (bytes : List ℕ) → joined (parts_of 32 bytes) ≡ bytes
joined-parts_of [] = refl
joined-parts_of (b ∷ bytes) =
    let before : joined (parts_of 32 bytes) ≡ bytes = joined-parts_of bytes in
    cond_both (b == 32) ([] ∷ parts_of 32 bytes) (onto_first b (parts_of 32 bytes)) (λ parts. joined parts ≡ b ∷ bytes)
    (λ h. spaced-joined (parts_of 32 bytes) (HasPart-parts_of 32 bytes) ∙ ap (λ xs. 32 ∷ xs) before ∙ ap (λ x. x ∷ bytes) (sym (eqb-true b 32 h)))
    (λ h. joined-onto b (parts_of 32 bytes) ∙ ap (λ xs. b ∷ xs) before)

pub length-spaced-le : (words : List (List ℕ)) → AllByRecursion IsShort words → length (spaced words) ≤ 41 * length words
length-spaced-le [] h = omega arith
length-spaced-le (word ∷ words) h = omega (arith, h.0.1, length-spaced-le words h.1, length-append word (spaced words))

-- what follows some words
pub spaced-append : (words more : List (List ℕ)) → spaced (words ++ more) ≡ spaced words ++ spaced more
spaced-append [] more = refl
spaced-append (word ∷ words) more = ap (λ xs. 32 ∷ word ++ xs) (spaced-append words more) ∙ ap (λ xs. 32 ∷ xs) (sym (append_assoc word (spaced words) (spaced more)))

pub joined-append : (word : List ℕ) (words more : List (List ℕ)) → joined ((word ∷ words) ++ more) ≡ joined (word ∷ words) ++ spaced more
joined-append word words more = ap (λ xs. word ++ xs) (spaced-append words more) ∙ sym (append_assoc word (spaced words) (spaced more))

pub digit_bytes : (ds : List ℕ) → AllDigits 10 ds → list_all is_word_byte ds ≡ true
digit_bytes [] h = refl
digit_bytes (d ∷ ds) h =
    let first = digit_at (d ∷ ds) 0 h (omega arith) in
    and_from _ _ (and_from _ _ (le-leb 33 d (omega (arith, first.0))) (le-leb d 126 (omega (arith, first.1)))) (digit_bytes ds h.1)

pub short_word : (word : List ℕ) → 0 < length word → length word ≤ 40 → list_all is_word_byte word ≡ true → IsShort word
short_word [] some few h = absurd (omega (arith, some))
short_word (b ∷ word) some few h = (and_from _ _ (ap not (ne_eqb (length (b ∷ word)) 0 (λ e. omega (arith, e)))) h, few)

-- numbers are short words
pub IsShort-decimal : (n : ℕ) → n < 2 ^ 64 → IsShort (decimal n)
IsShort-decimal n l =
    short_word (decimal n) (decimal_nonempty n l) (omega (arith, length-decimal-le 20 n (omega arith) (omega (arith, l)) l)) (digit_bytes (decimal n) (digits_decimal own n l))

pub IsShort-signed : (z : ℤ) → IsSigned z → IsShort (signed_decimal z)
IsShort-signed (pos n) h = IsShort-decimal n (omega (arith, mag-signed (pos n) h))
IsShort-signed (negsuc n) h =
    let small = mag-signed (negsuc n) h in
    short_word (signed_decimal (negsuc n)) (omega arith) (omega (arith, length_signed_le 20 (negsuc n) (omega (arith, small)) small))
    (digit_bytes (decimal (suc n)) (digits_decimal own (suc n) (omega (arith, small))))

-- one more signed number
pub spaced_more : (old now new : List ℕ) (numbers : List ℤ) (i : ℕ) → i < length numbers → now ≡ old ++ spaced (map signed_decimal (take i numbers))
    → to_z w64 (of_z w64 (get_or numbers i (pos 0))) ≡ get_or numbers i (pos 0) → new ≡ now ++ 32 ∷ signed_decimal (to_z w64 (of_z w64 (get_or numbers i (pos 0)))) → new ≡ old ++ spaced (map signed_decimal (take (i + 1) numbers))
spaced_more old now new numbers i l before same e =
    let z : ℤ = get_or numbers i (pos 0) in
    let front : List ℕ = spaced (map signed_decimal (take i numbers)) in
    e ∙ ap (λ y. now ++ 32 ∷ signed_decimal y) same ∙ ap (λ xs. xs ++ 32 ∷ signed_decimal z) before ∙ append_assoc old front (32 ∷ signed_decimal z)
    ∙ ap (λ xs. old ++ (front ++ 32 ∷ xs)) (sym (append-nil (signed_decimal z)))
    ∙ ap (λ xs. old ++ xs) (sym (ap (λ ns. spaced (map signed_decimal ns)) (take_more numbers i (pos 0) l)
    ∙ ap spaced (map-append signed_decimal (take i numbers) (z ∷ [])) ∙ spaced-append (map signed_decimal (take i numbers)) (signed_decimal z ∷ [])))

-- the signed numbers before one of them, that one, and those behind it
pub spaced_around : (numbers : List ℤ) (i : ℕ) → i < length numbers
    → spaced (map signed_decimal numbers) ≡ spaced (map signed_decimal (take i numbers)) ++ 32 ∷ signed_decimal (get_or numbers i (pos 0)) ++ spaced (map signed_decimal (drop (suc i) numbers))
spaced_around [] i l = absurd (omega (arith, l))
spaced_around (z ∷ numbers) zero l = refl
spaced_around (z ∷ numbers) (suc i) l =
    let word : List ℕ = signed_decimal z in
    let front : List ℕ = spaced (map signed_decimal (take i numbers)) in
    let here : List ℕ = 32 ∷ signed_decimal (get_or numbers i (pos 0)) in
    let behind : List ℕ = spaced (map signed_decimal (drop (suc i) numbers)) in
    ap (λ xs. 32 ∷ word ++ xs) (spaced_around numbers i (omega (arith, l)))
    ∙ ap (λ xs. 32 ∷ xs) (sym (append_assoc word (front ++ here) behind) ∙ ap (λ xs. xs ++ behind) (sym (append_assoc word front here)))
