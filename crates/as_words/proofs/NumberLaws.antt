-- Numbers and the words that spell them.
use Rattle.std.proofs.Common.{◌≡◌, ℕ, zero, suc, ◌+◌, ◌*◌, ◌^◌, ◌<◌, ◌≤◌, ◌&&◌, if◌then◌else◌, Bool, true, false, Option, Some, None, List, [], ◌∷◌, length, take, get_or, refl, sym, ap, ap₂, true≢false, ◌∙◌, subst, arith, bytes_eq, nat_lt, decimal, ℤ, pos, negsuc, neg_ℤ, SomeIff, eq-zero-or-pos, slice_get, inl, inr, ◌≢◌, slice_index, ◌==◌, drop, eqb}
use Rattle.std.specs.Char.{digit_value}
use Rattle.std.specs.Int.{IsInRange}
use Rattle.std.specs.Cmp.Lexicographic.{pointwise}
use Rattle.std.specs.Fmt.{signed_decimal, digits}
use Rattle.std.specs.Str.Parse.{AllDigits, digits_value, signed_digits_value}
use Rattle.std.proofs.lemmas.Bool.{cond_both, cond-true, and_parts, and_from, ltb-true, lt-ltb, eqb-true, ne_eqb}
use Rattle.std.proofs.lemmas.Fmt.{decimal_digit, decimal_nonempty, first_decimal, digits_decimal, digits_value-decimal, decimal-digits_value, decimal_injective}
use Rattle.std.proofs.lemmas.Int.Digits.{digits_value_more}
use Rattle.std.proofs.lemmas.Slice.Eq.{bytes_eq-Decides}
use Rattle.std.proofs.lemmas.Str.Parse.{IsNumeralModel, numerals_by_value, tells_digits, digit_at, digits_value-take-le}
use Rattle.std.specs.Result.{result_ok, OkIff}
use Rattle.std.proofs.Common.{Result, Ok, Err, SFits, w64}
use lib.Signed.{mag}
use Rattle.as_words.specs.Number.{is_signed, IsSigned, natural, integer}

pub own : IsNumeralModel (AllDigits 10) (digits_value 10)
own = numerals_by_value (AllDigits 10) tells_digits

digit_below : (bytes : List ℕ) (i : ℕ) → AllDigits 10 bytes → i < length bytes → digit_value (get_or bytes i 0) < 10
digit_below [] i h l = absurd (omega arith)
digit_below (b ∷ bytes) zero h l = h.0
digit_below (b ∷ bytes) (suc i) h l = digit_below bytes i h.1 (omega arith)

-- where one more digit is none, or makes the number too great, the bytes are no digits of a number that fits
pub no_number : (bytes : List ℕ) (i n : ℕ) → i < length bytes → n ≡ digits_value 10 (take i bytes)
    → ((digit_value (get_or bytes i 0) < 10) × (n * 10 + digit_value (get_or bytes i 0) < 2 ^ 64) → ⊥)
    → AllDigits 10 bytes × (digits_value 10 bytes < 2 ^ 64) → ⊥
no_number bytes i n l e bad h =
    let more = digits_value_more 10 bytes i l in
    let front : digits_value 10 (take (i + 1) bytes) ≤ digits_value 10 bytes = digits_value-take-le 10 bytes (i + 1) (omega arith) in
    bad (digit_below bytes i h.0 l, omega (arith, more, front, e, h.1))

-- a word that spells no number below the limit
pub natural-None : (limit : ℕ) (word : List ℕ) → ((n : ℕ) → n < limit → word ≡ decimal n → ⊥) → natural limit word ≡ None
natural-None limit word none =
    cond_both (bytes_eq (decimal (digits_value 10 word)) word && nat_lt (digits_value 10 word) limit) (Some (digits_value 10 word)) None (λ o. o ≡ None)
    (λ h. let parts = and_parts (bytes_eq (decimal (digits_value 10 word)) word) (nat_lt (digits_value 10 word) limit) h in
    absurd (none (digits_value 10 word) (ltb-true (digits_value 10 word) limit parts.1) (sym ((bytes_eq-Decides (decimal (digits_value 10 word)) word).0 parts.0))))
    (λ h. refl)

-- a word that spells this number
pub natural-Some : (limit n : ℕ) (word : List ℕ) → n < limit → n < 2 ^ 64 → word ≡ decimal n → natural limit word ≡ Some n
natural-Some limit n word l fits e =
    let v : digits_value 10 word ≡ n = ap (digits_value 10) e ∙ digits_value-decimal own n fits in
    let spelled : bytes_eq (decimal (digits_value 10 word)) word ≡ true = (bytes_eq-Decides (decimal (digits_value 10 word)) word).1 (ap (λ m. decimal m) v ∙ sym e) in
    let below : nat_lt (digits_value 10 word) limit ≡ true = lt-ltb (digits_value 10 word) limit (omega (arith, v, l)) in
    cond-true (bytes_eq (decimal (digits_value 10 word)) word && nat_lt (digits_value 10 word) limit) (Some (digits_value 10 word)) None (and_from _ _ spelled below) ∙ ap (λ m. Some m) v

-- what a number that was read tells, and what no number tells
pub spells-natural : (limit n : ℕ) (word : List ℕ) → natural limit word ≡ Some n → (n < limit) × (word ≡ decimal n)
spells-natural limit n word =
    cond_both (bytes_eq (decimal (digits_value 10 word)) word && nat_lt (digits_value 10 word) limit) (Some (digits_value 10 word)) None (λ o. o ≡ Some n → (n < limit) × (word ≡ decimal n))
    (λ h e. let parts = and_parts (bytes_eq (decimal (digits_value 10 word)) word) (nat_lt (digits_value 10 word) limit) h in
    let v : digits_value 10 word ≡ n = cc e in
    let below : digits_value 10 word < limit = ltb-true (digits_value 10 word) limit parts.1 in
    (omega (arith, v, below), sym ((bytes_eq-Decides (decimal (digits_value 10 word)) word).0 parts.0) ∙ ap (λ m. decimal m) v))
    (λ h e. cc e)

pub misses-natural : (limit n : ℕ) (word : List ℕ) → natural limit word ≡ None → n < limit → n < 2 ^ 64 → word ≡ decimal n → ⊥
misses-natural limit n word none l fits e = cc (none, natural-Some limit n word l fits e)

-- the empty word, and a zero before further digits
pub natural-nil : natural (2 ^ 64) [] ≡ None
natural-nil = natural-None (2 ^ 64) [] (λ n l w. absurd (omega (arith, decimal_nonempty n l, ap length w)))

pub natural-zero : (word : List ℕ) → get_or word 0 0 ≡ 48 → 1 < length word → natural (2 ^ 64) word ≡ None
natural-zero word z long = natural-None (2 ^ 64) word (λ n l w.
    elim (eq-zero-or-pos n) [
      | inl none ↦ absurd (omega (arith, long, ap length (w ∙ ap (λ m. decimal m) none ∙ decimal_digit 0 (omega arith))))
      | inr some ↦ absurd (omega (arith, z, ap (λ xs. get_or xs 0 0) w, first_decimal n some l))
    ])

-- a word of digits, without a zero before further ones, spells the digits' number
pub natural-digits : (word : List ℕ) (r : Option ℕ) → 0 < length word → (get_or word 0 0 ≡ 48 → length word ≡ 1)
    → SomeIff r (AllDigits 10 word × (digits_value 10 word < 2 ^ 64)) (digits_value 10 word) → r ≡ natural (2 ^ 64) word
natural-digits word (Some n) some lead h =
    let spelled : decimal (digits_value 10 word) ≡ word = decimal-digits_value own word h.0.0 some lead h.0.1 in
    sym (natural-Some (2 ^ 64) n word (omega (arith, h.1, h.0.1)) (omega (arith, h.1, h.0.1)) (sym spelled ∙ ap (λ m. decimal m) (sym h.1)))
natural-digits word None some lead h =
    sym (natural-None (2 ^ 64) word (λ n l w.
    h (subst (AllDigits 10) (sym w) (digits_decimal own n l), omega (arith, ap (digits_value 10) w ∙ digits_value-decimal own n l, l))))

digit_first : (n : ℕ) → n < 2 ^ 64 → IsInRange 48 57 (get_or (decimal n) 0 0)
digit_first n l = digit_at (decimal n) 0 (digits_decimal own n l) (decimal_nonempty n l)

plain_value : (bs : List ℕ) → (get_or bs 0 0 ≡ 45 → ⊥) → (get_or bs 0 0 ≡ 43 → ⊥) → signed_digits_value 10 bs ≡ pos (digits_value 10 bs)
plain_value bs m p =
    let minus : (slice_index bs 0 == 45) ≡ false = ne_eqb (get_or bs 0 0) 45 m in
    let plus : (slice_index bs 0 == 43) ≡ false = ne_eqb (get_or bs 0 0) 43 p in
    rw (minus, plus) refl

value-signed_decimal : (z : ℤ) → mag z < 2 ^ 63 → signed_digits_value 10 (signed_decimal z) ≡ z
value-signed_decimal (pos n) h =
    let d = digit_first n (omega (arith, h)) in
    plain_value (decimal n) (λ e. omega (arith, e, d.0)) (λ e. omega (arith, e, d.0)) ∙ ap (λ m. pos m) (digits_value-decimal own n (omega (arith, h)))
value-signed_decimal (negsuc n) h = ap (λ m. neg_ℤ (pos m)) (digits_value-decimal own (suc n) (omega (arith, h)))

-- a number is in range just where its magnitude is below 2^63
pub mag-signed : (z : ℤ) → IsSigned z → mag z < 2 ^ 63
mag-signed (pos n) h = ltb-true n (2 ^ 63) (and_parts true (nat_lt n (2 ^ 63)) h).1
mag-signed (negsuc n) h = ltb-true n (2 ^ 63) (and_parts (nat_lt n (2 ^ 63)) true h).0

pub IsSigned-mag : (z : ℤ) → mag z < 2 ^ 63 → IsSigned z
IsSigned-mag (pos n) h = and_from true (nat_lt n (2 ^ 63)) refl (lt-ltb n (2 ^ 63) h)
IsSigned-mag (negsuc n) h = and_from (nat_lt n (2 ^ 63)) true (lt-ltb n (2 ^ 63) h) refl

-- The number that the word spells, if it passes the test: `integer` and `wide_integer` are this with their ranges.
abbrev pub spelled : (ℤ → Bool) → List ℕ → Option ℤ
spelled in_range word = let z = signed_digits_value 10 word in if bytes_eq (signed_decimal z) word && in_range z then Some z else None

pub spelled-None : (in_range : ℤ → Bool) (word : List ℕ) → ((z : ℤ) → in_range z ≡ true → word ≡ signed_decimal z → ⊥) → spelled in_range word ≡ None
spelled-None in_range word none =
    let z : ℤ = signed_digits_value 10 word in
    cond_both (bytes_eq (signed_decimal z) word && in_range z) (Some z) None (λ o. o ≡ None)
    (λ h. let parts = and_parts (bytes_eq (signed_decimal z) word) (in_range z) h in
    absurd (none z parts.1 (sym ((bytes_eq-Decides (signed_decimal z) word).0 parts.0))))
    (λ h. refl)

-- a number that was read is in range, and is what its word spells
pub spells : (in_range : ℤ → Bool) (word : List ℕ) (z : ℤ) → spelled in_range word ≡ Some z → (in_range z ≡ true) × (word ≡ signed_decimal z)
spells in_range word z =
    let y : ℤ = signed_digits_value 10 word in
    let Told : ℤ → Type 0 = λ x. (in_range x ≡ true) × (word ≡ signed_decimal x) in
    cond_both (bytes_eq (signed_decimal y) word && in_range y) (Some y) None (λ o. o ≡ Some z → Told z)
    (λ h e. let parts = and_parts (bytes_eq (signed_decimal y) word) (in_range y) h in
    let same : y ≡ z = cc e in
    subst Told same (parts.1, sym ((bytes_eq-Decides (signed_decimal y) word).0 parts.0)))
    (λ h e. cc e)

pub spelled-Some : (in_range : ℤ → Bool) (z : ℤ) (word : List ℕ) → in_range z ≡ true → signed_digits_value 10 (signed_decimal z) ≡ z → word ≡ signed_decimal z → spelled in_range word ≡ Some z
spelled-Some in_range z word h value e =
    let y : ℤ = signed_digits_value 10 word in
    let v : y ≡ z = ap (signed_digits_value 10) e ∙ value in
    let test : (bytes_eq (signed_decimal z) word && in_range z) ≡ true = and_from _ _ ((bytes_eq-Decides (signed_decimal z) word).1 (sym e)) h in
    cond-true (bytes_eq (signed_decimal y) word && in_range y) (Some y) None (ap (λ x. bytes_eq (signed_decimal x) word && in_range x) v ∙ test) ∙ ap (λ x. Some x) v

pub integer-None : (word : List ℕ) → ((z : ℤ) → mag z < 2 ^ 63 → word ≡ signed_decimal z → ⊥) → integer word ≡ None
integer-None word none = spelled-None is_signed word (λ z h. none z (mag-signed z h))

pub spells-integer : (word : List ℕ) (z : ℤ) → integer word ≡ Some z → IsSigned z × (word ≡ signed_decimal z)
spells-integer = spells is_signed

integer-Some : (z : ℤ) (word : List ℕ) → mag z < 2 ^ 63 → word ≡ signed_decimal z → integer word ≡ Some z
integer-Some z word h = spelled-Some is_signed z word (IsSigned-mag z h) (value-signed_decimal z h)

-- a word without a minus in front
no_plain : (word : List ℕ) → ((rest : List ℕ) → word ≢ 45 ∷ rest) → natural (2 ^ 64) word ≡ None → (z : ℤ) → mag z < 2 ^ 63 → word ≡ signed_decimal z → ⊥
no_plain word m none (pos n) h w = misses-natural (2 ^ 64) n word none (omega (arith, h)) (omega (arith, h)) w
no_plain word m none (negsuc n) h w = m (decimal (suc n)) w

pub integer-plain_none : (word : List ℕ) → ((rest : List ℕ) → word ≢ 45 ∷ rest) → natural (2 ^ 64) word ≡ None → integer word ≡ None
integer-plain_none word m none = integer-None word (no_plain word m none)

too_great : (n : ℕ) → n < 2 ^ 64 → 2 ^ 63 ≤ n → (z : ℤ) → mag z < 2 ^ 63 → decimal n ≡ signed_decimal z → ⊥
too_great n l g (pos m) h w = omega (arith, h, g, decimal_injective n m l (omega (arith, h)) w)
too_great n l g (negsuc m) h w = omega (arith, ap (λ xs. get_or xs 0 0) w, (digit_first n l).0)

-- the number of a word without a minus in front
pub integer-plain : (word : List ℕ) (n : ℕ) (r : Option ℤ) → natural (2 ^ 64) word ≡ Some n → SomeIff r (n < 2 ^ 63) (pos n) → r ≡ integer word
integer-plain word n (Some z) e h = sym (ap integer (spells-natural (2 ^ 64) n word e).1 ∙ integer-Some (pos n) (decimal n) h.0 refl ∙ ap (λ y. Some y) (sym h.1))
integer-plain word n None e h =
    let s = spells-natural (2 ^ 64) n word e in
    sym (integer-None word (λ z k w. too_great n s.0 (omega (arith, h)) z k (sym s.1 ∙ w)))

no_minus : (word : List ℕ) → ((n : ℕ) → 0 < n → n ≤ 2 ^ 63 → word ≡ decimal n → ⊥) → (z : ℤ) → mag z < 2 ^ 63 → 45 ∷ word ≡ signed_decimal z → ⊥
no_minus word none (pos n) h w = omega (arith, ap (λ xs. get_or xs 0 0) w, (digit_first n (omega (arith, h))).0)
no_minus word none (negsuc n) h w = none (suc n) (omega arith) (omega (arith, h)) (ap (drop 1) w)

-- a word after a minus that is no number
pub integer-minus_none : (word : List ℕ) → natural (2 ^ 64) word ≡ None → integer (45 ∷ word) ≡ None
integer-minus_none word none = integer-None (45 ∷ word) (no_minus word (λ n some h w. misses-natural (2 ^ 64) n word none (omega (arith, h)) (omega (arith, h)) w))

-- what the first byte tells, and that there is none
pub first_is : (bytes : List ℕ) (b : ℕ) → Some b ≡ slice_get bytes 0 → (0 < length bytes) × (get_or bytes 0 0 ≡ b)
first_is [] b e = cc e
first_is (c ∷ bytes) b e = (omega arith, cc e)

pub none_first : (bytes : List ℕ) → None ≡ slice_get bytes 0 → natural (2 ^ 64) bytes ≡ None
none_first [] e = natural-nil
none_first (c ∷ bytes) e = cc e

-- what a minus in front tells, and that there is none
pub after_minus : (word digits : List ℕ) → pointwise eqb (take 1 word) (45 ∷ []) ≡ true → digits ≡ drop 1 word → word ≡ 45 ∷ digits
after_minus [] digits h e = cc h
after_minus (b ∷ word) digits h e =
    let minus : b ≡ 45 = eqb-true b 45 (and_parts (eqb b 45) true h).0 in
    ap₂ (λ x xs. x ∷ xs) minus (sym e)

pub before_none : (word : List ℕ) → pointwise eqb (take 1 word) (45 ∷ []) ≡ false → (rest : List ℕ) → word ≢ 45 ∷ rest
before_none word h rest e = true≢false (ap (λ w. pointwise eqb (take 1 w) (45 ∷ [])) (sym e) ∙ h)

-- a number that a conversion to `i64` lets through
fitted : {E : Type 0} (n : ℕ) (t : Result ℤ E) → OkIff t (SFits w64 (pos n)) (pos n) → SomeIff (result_ok t) (n < 2 ^ 63) (pos n)
fitted n (Ok z) h = (h.0.sfits, h.1)
fitted n (Err e) h = λ l. h (record { sfits = l })

pub integer-converted : {E : Type 0} (word : List ℕ) (n : ℕ) (t : Result ℤ E) → natural (2 ^ 64) word ≡ Some n → OkIff t (SFits w64 (pos n)) (pos n) → result_ok t ≡ integer word
integer-converted word n t e h = integer-plain word n (result_ok t) e (fitted n t h)

-- a number in the range is read from its spelling
pub integer-spelled : (z : ℤ) → IsSigned z → integer (signed_decimal z) ≡ Some z
integer-spelled z h = integer-Some z (signed_decimal z) (mag-signed z h) refl
