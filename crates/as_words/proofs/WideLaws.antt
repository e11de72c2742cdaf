-- Numbers from -2^127 to 2^127 - 1 and the words that spell them.
use Rattle.std.proofs.Common.{◌≡◌, ℕ, suc, ◌^◌, ◌<◌, true, false, Some, None, Result, Ok, Err, List, get_or, refl, sym, ap, subst, ◌∙◌, arith, nat_lt, decimal, ℤ, pos, negsuc, neg_ℤ, slice_index, ◌==◌, FitsSigned}
use Rattle.std.specs.Int.{w128}
use Rattle.std.specs.Fmt.{signed_decimal}
use Rattle.std.specs.Result.{result_ok, MatchResult}
use Rattle.std.specs.Str.{IsUtf8}
use Rattle.std.specs.Str.Parse.{IsNumeral, ParsesSigned, signed_digits_value, without_leading_sign}
use Rattle.std.proofs.lemmas.Bool.{and_parts, ltb-true, ne_eqb}
use Rattle.std.proofs.lemmas.Fmt.{decimal_is_IsNumeral_wide}
use Rattle.std.proofs.lemmas.Str.{IsUtf8-from_ascii}
use Rattle.std.proofs.lemmas.Str.Parse.{digit_at}
use Rattle.itoa.proofs.Decimal.{signed_wide}
use denote.Ref.{Bor}
use lib.Signed.{mag}
use Rattle.as_words.specs.Number.{is_wide, IsWide, wide_integer}
use Rattle.as_words.proofs.NumberLaws.{spells, spelled-None, spelled-Some}
use Rattle.as_words.proofs.JoinedLaws.{IsShort, digit_bytes, short_word}

mag-wide : (z : ℤ) → IsWide z → mag z < 2 ^ 127
mag-wide (pos n) h = ltb-true n (2 ^ 127) (and_parts true (nat_lt n (2 ^ 127)) h).1
mag-wide (negsuc n) h = ltb-true n (2 ^ 127) (and_parts (nat_lt n (2 ^ 127)) true h).0

fits : (z : ℤ) → IsWide z → FitsSigned w128 z
fits z h = record { sfits = mag-wide z h }

-- the digits of a number, after its sign, and the number that they write
numeral : (z : ℤ) → mag z < 2 ^ 127 → IsNumeral 10 (without_leading_sign (signed_decimal z)) × (signed_digits_value 10 (signed_decimal z) ≡ z)
numeral (pos n) h =
    let own = decimal_is_IsNumeral_wide n (omega (arith, h)) in
    let first = digit_at (decimal n) 0 own.0.1 own.0.0 in
    let minus : (slice_index (decimal n) 0 == 45) ≡ false = ne_eqb (get_or (decimal n) 0 0) 45 (λ e. omega (arith, e, first.0)) in
    let plus : (slice_index (decimal n) 0 == 43) ≡ false = ne_eqb (get_or (decimal n) 0 0) 43 (λ e. omega (arith, e, first.0)) in
    rw (minus, plus) (own.0, ap (λ m. pos m) own.1)
numeral (negsuc n) h =
    let own = decimal_is_IsNumeral_wide (suc n) (omega (arith, h)) in
    (own.0, ap (λ m. neg_ℤ (pos m)) own.1)

-- bytes that are no text spell none
pub wide-no_text : {E : Type 0} (word : List ℕ) (r : Result (Bor (List ℕ)) E) (P : Bor (List ℕ) → Type 0) (Q : E → Type 0) → MatchResult r P (λ e. ¬ (IsUtf8 word) × Q e) → None ≡ result_ok r
    → wide_integer word ≡ None
wide-no_text word (Ok t) P Q m e = cc e
wide-no_text word (Err x) P Q m e = spelled-None is_wide word (λ z h w. m.0 (subst IsUtf8 (sym w) (IsUtf8-from_ascii (signed_decimal z) (signed_wide z (fits z h)).0)))

-- the text that bytes are
pub text_is : {E : Type 0} (word : List ℕ) (r : Result (Bor (List ℕ)) E) (t : Bor (List ℕ)) (Q : E → Type 0) → MatchResult r (λ s. (s.now ≡ word) × IsUtf8 word) Q → Some t ≡ result_ok r → t.now ≡ word
text_is word (Ok s) t Q m e =
    let same : t ≡ s = cc e in
    ap (λ (u : Bor (List ℕ)). u.now) same ∙ m.0
text_is word (Err x) t Q m e = cc e

-- a text in which no number is read spells none
pub wide-no_number : {E : Type 0} (word text : List ℕ) (r : Result ℤ E) → text ≡ word → ParsesSigned w128 10 text r → None ≡ result_ok r → wide_integer word ≡ None
wide-no_number word text (Ok z) same p e = cc e
wide-no_number word text (Err x) same p e = spelled-None is_wide word (λ z h w.
    let own = numeral z (mag-wide z h) in
    p (subst (λ bs. IsNumeral 10 (without_leading_sign bs) × FitsSigned w128 (signed_digits_value 10 bs)) (sym (same ∙ w))
    (own.0, subst (FitsSigned w128) (sym own.1) (fits z h))))

-- what a number that was read tells; and a number in the range is read from its spelling
pub spells-wide : (word : List ℕ) (z : ℤ) → wide_integer word ≡ Some z → IsWide z × (word ≡ signed_decimal z)
spells-wide = spells is_wide

pub wide-spelled : (z : ℤ) → IsWide z → wide_integer (signed_decimal z) ≡ Some z
wide-spelled z h = spelled-Some is_wide z (signed_decimal z) h (numeral z (mag-wide z h)).1 refl

-- and that spelling is a short word
pub IsShort-wide : (z : ℤ) → IsWide z → IsShort (signed_decimal z)
IsShort-wide (pos n) h =
    let own = (decimal_is_IsNumeral_wide n (omega (arith, mag-wide (pos n) h))).0 in
    short_word (decimal n) own.0 (signed_wide (pos n) (fits (pos n) h)).1 (digit_bytes (decimal n) own.1)
IsShort-wide (negsuc n) h =
    let own = (decimal_is_IsNumeral_wide (suc n) (omega (arith, mag-wide (negsuc n) h))).0 in
    short_word (signed_decimal (negsuc n)) (omega arith) (signed_wide (negsuc n) (fits (negsuc n) h)).1 (digit_bytes (decimal (suc n)) own.1)
