-- The words of a call, joined: that they are a text, and how long they are.
use Rattle.std.proofs.Common.{◌≡◌, ℕ, ◌+◌, ◌≤◌, ◌<◌, nat_le, true, false, List, [], ◌∷◌, ◌++◌, map, length, length-append, get_or, take, drop, codes, refl, ap, ◌∙◌, append-nil, arith}
use Rattle.std.specs.List.{list_all, AllByRecursion, join_by, flat_map}
use Rattle.std.proofs.lemmas.Bool.{and_parts, and_from, le-leb, lt-leb}
use Rattle.std.proofs.lemmas.List.{map-append, take_more, take-append-drop}
use Rattle.as_words.specs.Words.{is_word, is_words, spaced, joined}
use Rattle.as_words.proofs.JoinedLaws.{IsWord, is_words-joined, spaced-append}
use Rattle.as_base.specs.Text.{is_text}
use Rattle.astream_top.specs.Command.{are_text}

each_word : (words : List (List ℕ)) → list_all is_word words ≡ true → AllByRecursion IsWord words
each_word [] h = tt
each_word (word ∷ words) h =
    let parts = and_parts (is_word word) (list_all is_word words) h in
    (parts.0, each_word words parts.1)

some_text : (bytes : List ℕ) → nat_le (length bytes) 4089 ≡ true → is_words bytes ≡ true → is_text bytes ≡ true
some_text [] short words = refl
some_text (b ∷ bytes) short words = and_from _ _ short words

-- the words of a text, joined, are a text
pub text-joined : (words : List (List ℕ)) → are_text words ≡ true → is_text (joined words) ≡ true
text-joined [] h = refl
text-joined (word ∷ words) h =
    let fits = and_parts (list_all is_word (word ∷ words)) (nat_le (length (joined (word ∷ words))) 4089) h in
    let each = each_word (word ∷ words) fits.0 in
    some_text (joined (word ∷ words)) fits.1 (is_words-joined word words each.0 each.1)

spaced-by : {X : Type 0} (f : X → List ℕ) (xs : List X) → flat_map (λ x. codes " " ++ f x) xs ≡ spaced (map f xs)
spaced-by f [] = refl
spaced-by f (x ∷ xs) = ap (λ l. 32 ∷ f x ++ l) (spaced-by f xs)

-- what std joins by a space is joined
pub joined-by : {X : Type 0} (f : X → List ℕ) (xs : List X) → join_by f (codes " ") xs ≡ joined (map f xs)
joined-by f [] = refl
joined-by f (x ∷ xs) = ap (λ l. f x ++ l) (spaced-by f xs)

-- each word takes its bytes and a space
pub spaced-more : {X : Type 0} (f : X → List ℕ) (xs : List X) (i : ℕ) (d : X) → i < length xs
    → length (spaced (map f (take (i + 1) xs))) ≡ length (spaced (map f (take i xs))) + (length (f (get_or xs i d)) + 1)
spaced-more f xs i d within =
    let x = get_or xs i d in
    ap (λ l. length (spaced (map f l))) (take_more xs i d within)
    ∙ ap (λ l. length (spaced l)) (map-append f (take i xs) (x ∷ []))
    ∙ ap length (spaced-append (map f (take i xs)) (f x ∷ []))
    ∙ length-append (spaced (map f (take i xs))) (spaced (f x ∷ []))
    ∙ ap (λ l. length (spaced (map f (take i xs))) + length (32 ∷ l)) (append-nil (f x))
    ∙ ap (λ n. length (spaced (map f (take i xs))) + n) (let e : length (32 ∷ f x) ≡ length (f x) + 1 = omega arith in e)

pub spaced-grows : {X : Type 0} (f : X → List ℕ) (xs : List X) (n : ℕ) → length (spaced (map f (take n xs))) ≤ length (spaced (map f xs))
spaced-grows f xs n =
    let whole = ap (λ l. length (spaced (map f l))) (take-append-drop n xs) in
    let parts = ap (λ l. length (spaced l)) (map-append f (take n xs) (drop n xs)) ∙ ap length (spaced-append (map f (take n xs)) (map f (drop n xs)))
    ∙ length-append (spaced (map f (take n xs))) (spaced (map f (drop n xs))) in
    omega (arith, whole, parts)

-- joined words have a space less
pub short_words : (ws : List (List ℕ)) → length (spaced ws) ≤ 4090 → nat_le (length (joined ws)) 4089 ≡ true
short_words [] h = refl
short_words (w ∷ ws) h = le-leb (length (w ++ spaced ws)) 4089 (omega (arith, h))

pub long_words : (ws : List (List ℕ)) → 4090 < length (spaced ws) → nat_le (length (joined ws)) 4089 ≡ false
long_words [] h = absurd (omega (arith, h))
long_words (w ∷ ws) h = lt-leb (length (w ++ spaced ws)) 4089 (omega (arith, h))
