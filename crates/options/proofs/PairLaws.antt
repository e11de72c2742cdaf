-- Words of at least two are a pair and the words after it.
use Rattle.std.proofs.Common.{◌≡◌, ℕ, ◌≤◌, ◌<◌, ◌-◌, ◌==◌, true, ◌∙◌, ◌++◌, if◌then◌else◌, List, [], ◌∷◌, map, length, take, drop, String, Global, string_bytes, refl, ap, sym, arith}
use Rattle.std.specs.Prelude.{slice_index_or}
use Rattle.std.proofs.Math.Seq.{take-length}
use Rattle.std.specs.Str.{bytes_eq}
use Rattle.options.specs.Options.{are_pairs, values_of}
use Rattle.options.specs.declared.option.NumberOption.{NumberOption}

abbrev Words : Type 0
Words = List (String Global)

rest_of : (name value : String Global) (words : Words) → words ≡ take (length (name ∷ value ∷ words) - 2) words
rest_of name value words =
    let e : length (name ∷ value ∷ words) - 2 ≡ length words = omega arith in
    sym (ap (λ n. take n words) e ∙ take-length words)

pub values_first : (option : List ℕ) (words : Words) (d e : String Global) → 2 ≤ length words
    → values_of option (map string_bytes words)
    ≡ (if bytes_eq (string_bytes (slice_index_or words 0 d)) option then string_bytes (slice_index_or words 1 e) ∷ [] else [])
    ++ values_of option (map string_bytes (take (length words - 2) (drop 2 words)))
values_first option [] d e two = absurd (omega (arith, two))
values_first option (name ∷ []) d e two = absurd (omega (arith, two))
values_first option (name ∷ value ∷ words) d e two =
    ap (λ ws. (if bytes_eq (string_bytes name) option then string_bytes value ∷ [] else []) ++ values_of option (map string_bytes ws)) (rest_of name value words)

-- fewer words than two are no pairs, and the good ones are none
pub pairs_few : (known : List NumberOption) (words : Words) → length words < 2 → are_pairs known (map string_bytes words) ≡ (length words == 0)
pairs_few known [] few = refl
pairs_few known (name ∷ []) few = refl
pairs_few known (name ∷ value ∷ words) few = absurd (omega (arith, few))

pub values_few : (option : List ℕ) (words : Words) → length words < 2 → values_of option (map string_bytes words) ≡ []
values_few option [] few = refl
values_few option (name ∷ []) few = refl
values_few option (name ∷ value ∷ words) few = absurd (omega (arith, few))

-- the first pair gives the option its value
pub values_taken : (option : List ℕ) (words : Words) (d e : String Global) → 2 ≤ length words
    → bytes_eq (string_bytes (slice_index_or words 0 d)) option ≡ true
    → values_of option (map string_bytes words)
    ≡ string_bytes (slice_index_or words 1 e) ∷ values_of option (map string_bytes (take (length words - 2) (drop 2 words)))
values_taken option words d e two named =
    values_first option words d e two
    ∙ ap (λ b. (if b then string_bytes (slice_index_or words 1 e) ∷ [] else []) ++ values_of option (map string_bytes (take (length words - 2) (drop 2 words)))) named
