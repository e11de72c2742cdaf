-- Eight digits of a word at once: which words have them, and the number that they write.
use Rattle.std.proofs.Common.{◌≡◌, ◌<◌, ◌≤◌, ◌+◌, ◌-◌, ◌*◌, ◌/◌, ◌%◌, ◌^◌, ℕ, suc, zero, List, [], ◌∷◌, map, length, take, get_or, replicate, nat_lt, sym, ap, ap₂, ◌∙◌, arith, refl, subst, w64}
use Rattle.std.specs.Char.{digit_value}
use Rattle.std.specs.Int.{from_le_bytes}
use Rattle.std.specs.Int.Bits.{bit_and}
use Rattle.std.specs.Int.Digits.{AllBelowBase, number_from_digits}
use Rattle.std.specs.List.{AllByRecursion}
use Rattle.std.specs.Str.Parse.{AllDigits, digits_value}
use Rattle.std.proofs.lemmas.Bool.{cond-true, cond-false, le-ltb, lt-ltb}
use Rattle.std.proofs.lemmas.Int.Digits.{digits_value-lt}
use Rattle.std.proofs.lemmas.List.{length-take-le, length-map}
use Rattle.std.proofs.lemmas.Nat.{and_block, and_mask, and_le_l, and_le_r}
use Rattle.as_lineform.specs.Digits.{word_of, IsDigit, IsWordOf}

-- the low half of a block is kept
low_byte : (s t : ℕ) → s < 256 → bit_and (s + 256 * t) 255 ≡ s
low_byte s t l = and_mask (s + 256 * t) 8 ∙ omega arith

low_word : (s t : ℕ) → s < 65536 → bit_and (s + 65536 * t) 65535 ≡ s
low_word s t l = and_mask (s + 65536 * t) 16 ∙ omega arith

-- two blocks of 16 bits, masked by bytes
two_blocks : (hi s t : ℕ) (m : ℕ) → s < 256 → t < 256 → bit_and (hi * 65536 + (s + 256 * t)) (m * 65536 + 255) ≡ bit_and hi m * 65536 + s
two_blocks hi s t m ls lt =
    and_block 16 hi m (s + 256 * t) 255 (omega arith) (omega arith) ∙ ap (λ x. bit_and hi m * 65536 + x) (low_byte s t ls)

-- four blocks of two bytes: the low bytes stay
low_bytes : (s0 t0 s1 t1 s2 t2 s3 t3 : ℕ) → s0 < 256 → t0 < 256 → s1 < 256 → t1 < 256 → s2 < 256 → t2 < 256 → s3 < 256 → (x : ℕ)
    → x ≡ (((s3 + 256 * t3) * 65536 + (s2 + 256 * t2)) * 65536 + (s1 + 256 * t1)) * 65536 + (s0 + 256 * t0)
    → bit_and x 71777214294589695 ≡ ((s3 * 65536 + s2) * 65536 + s1) * 65536 + s0
low_bytes s0 t0 s1 t1 s2 t2 s3 t3 a0 b0 a1 b1 a2 b2 a3 x e =
    ap (λ y. bit_and y 71777214294589695) e
    ∙ two_blocks (((s3 + 256 * t3) * 65536 + (s2 + 256 * t2)) * 65536 + (s1 + 256 * t1)) s0 t0 1095233372415 a0 b0
    ∙ ap (λ y. y * 65536 + s0) (two_blocks ((s3 + 256 * t3) * 65536 + (s2 + 256 * t2)) s1 t1 16711935 a1 b1)
    ∙ ap (λ y. (y * 65536 + s1) * 65536 + s0) (two_blocks (s3 + 256 * t3) s2 t2 255 a2 b2)
    ∙ ap (λ y. ((y * 65536 + s2) * 65536 + s1) * 65536 + s0) (low_byte s3 t3 a3)

-- pairs of digits
pairs : (d0 d1 d2 d3 d4 d5 d6 d7 w : ℕ) → d0 < 10 → d1 < 10 → d2 < 10 → d3 < 10 → d4 < 10 → d5 < 10 → d6 < 10 → d7 < 10
    → w ≡ d0 + 256 * (d1 + 256 * (d2 + 256 * (d3 + 256 * (d4 + 256 * (d5 + 256 * (d6 + 256 * d7))))))
    → bit_and (w * 10 + w / 256) 71777214294589695
    ≡ (((10 * d6 + d7) * 65536 + (10 * d4 + d5)) * 65536 + (10 * d2 + d3)) * 65536 + (10 * d0 + d1)
pairs d0 d1 d2 d3 d4 d5 d6 d7 w l0 l1 l2 l3 l4 l5 l6 l7 e =
    let rest : ℕ = d1 + 256 * (d2 + 256 * (d3 + 256 * (d4 + 256 * (d5 + 256 * (d6 + 256 * d7))))) in
    let shifted : w / 256 ≡ d1 + 256 * (d2 + 256 * (d3 + 256 * (d4 + 256 * (d5 + 256 * (d6 + 256 * d7))))) = omega arith in
    low_bytes (10 * d0 + d1) (10 * d1 + d2) (10 * d2 + d3) (10 * d3 + d4) (10 * d4 + d5) (10 * d5 + d6) (10 * d6 + d7) (10 * d7)
    (omega arith) (omega arith) (omega arith) (omega arith) (omega arith) (omega arith) (omega arith)
    (w * 10 + w / 256) (omega arith)

-- fours of digits
fours : (a0 a1 a2 a3 p : ℕ) → a0 < 100 → a1 < 100 → a2 < 100 → a3 < 100 → p ≡ ((a3 * 65536 + a2) * 65536 + a1) * 65536 + a0
    → bit_and (p * 100 + p / 65536) 281470681808895 ≡ (100 * a2 + a3) * 4294967296 + (100 * a0 + a1)
fours a0 a1 a2 a3 p l0 l1 l2 l3 e =
    let shifted : p / 65536 ≡ (a3 * 65536 + a2) * 65536 + a1 = omega arith in
    let hi : ℕ = 100 * a2 + a3 + 65536 * (100 * a3) in
    let lo : ℕ = 100 * a0 + a1 + 65536 * (100 * a1 + a2) in
    let x : p * 100 + p / 65536 ≡ (100 * a2 + a3 + 65536 * (100 * a3)) * 4294967296 + (100 * a0 + a1 + 65536 * (100 * a1 + a2)) = omega arith in
    ap (λ y. bit_and y 281470681808895) x
    ∙ and_block 32 (100 * a2 + a3 + 65536 * (100 * a3)) 65535 (100 * a0 + a1 + 65536 * (100 * a1 + a2)) 65535 (omega arith) (omega arith)
    ∙ ap₂ (λ u v. u * 4294967296 + v) (low_word (100 * a2 + a3) (100 * a3) (omega arith)) (low_word (100 * a0 + a1) (100 * a1 + a2) (omega arith))

-- all eight digits
eight : (b0 b1 f : ℕ) → b0 < 10000 → b1 < 10000 → f ≡ b1 * 4294967296 + b0 → bit_and (f * 10000 + f / 4294967296) 4294967295 ≡ 10000 * b0 + b1
eight b0 b1 f l0 l1 e =
    let shifted : f / 4294967296 ≡ b1 = omega arith in
    and_mask (f * 10000 + f / 4294967296) 32 ∙ omega arith

-- what holds of any eight numbers holds of a list of eight
pub by_eight : (P : List ℕ → Type 0) → ((a b c d e f g h : ℕ) → P (a ∷ b ∷ c ∷ d ∷ e ∷ f ∷ g ∷ h ∷ [])) → (xs : List ℕ) → length xs ≡ 8 → P xs
by_eight P all [] l = absurd (omega (arith, l))
by_eight P all (a ∷ []) l = absurd (omega (arith, l))
by_eight P all (a ∷ b ∷ []) l = absurd (omega (arith, l))
by_eight P all (a ∷ b ∷ c ∷ []) l = absurd (omega (arith, l))
by_eight P all (a ∷ b ∷ c ∷ d ∷ []) l = absurd (omega (arith, l))
by_eight P all (a ∷ b ∷ c ∷ d ∷ e ∷ []) l = absurd (omega (arith, l))
by_eight P all (a ∷ b ∷ c ∷ d ∷ e ∷ f ∷ []) l = absurd (omega (arith, l))
by_eight P all (a ∷ b ∷ c ∷ d ∷ e ∷ f ∷ g ∷ []) l = absurd (omega (arith, l))
by_eight P all (a ∷ b ∷ c ∷ d ∷ e ∷ f ∷ g ∷ h ∷ []) l = all a b c d e f g h
by_eight P all (a ∷ b ∷ c ∷ d ∷ e ∷ f ∷ g ∷ h ∷ i ∷ xs) l = absurd (omega (arith, l))

-- what the three steps make of eight digits
pub number_of-digits : (digits : List ℕ) (w p f : ℕ) → IsWordOf digits w → AllBelowBase 10 digits
    → p ≡ bit_and (w * 10 + w / 256) 71777214294589695 → f ≡ bit_and (p * 100 + p / 65536) 281470681808895
    → bit_and (f * 10000 + f / 4294967296) 4294967295 ≡ number_from_digits 10 digits
number_of-digits digits w p f word below ep ef =
    by_eight (λ ds. w ≡ word_of ds → AllBelowBase 10 ds → bit_and (f * 10000 + f / 4294967296) 4294967295 ≡ number_from_digits 10 ds)
    (λ d0 d1 d2 d3 d4 d5 d6 d7 is h.
    let two : p ≡ (((10 * d6 + d7) * 65536 + (10 * d4 + d5)) * 65536 + (10 * d2 + d3)) * 65536 + (10 * d0 + d1) =
    ep ∙ pairs d0 d1 d2 d3 d4 d5 d6 d7 w h.0 h.1.0 h.1.1.0 h.1.1.1.0 h.1.1.1.1.0 h.1.1.1.1.1.0 h.1.1.1.1.1.1.0 h.1.1.1.1.1.1.1.0 (is ∙ omega arith) in
    let four : f ≡ (100 * (10 * d4 + d5) + (10 * d6 + d7)) * 4294967296 + (100 * (10 * d0 + d1) + (10 * d2 + d3)) =
    ef ∙ fours (10 * d0 + d1) (10 * d2 + d3) (10 * d4 + d5) (10 * d6 + d7) p (omega (arith, h.0, h.1.0)) (omega (arith, h.1.1.0, h.1.1.1.0)) (omega (arith, h.1.1.1.1.0, h.1.1.1.1.1.0)) (omega (arith, h.1.1.1.1.1.1.0, h.1.1.1.1.1.1.1.0)) two in
    eight (100 * (10 * d0 + d1) + (10 * d2 + d3)) (100 * (10 * d4 + d5) + (10 * d6 + d7)) f (omega (arith, h.0, h.1.0, h.1.1.0, h.1.1.1.0)) (omega (arith, h.1.1.1.1.0, h.1.1.1.1.1.0, h.1.1.1.1.1.1.0, h.1.1.1.1.1.1.1.0)) four ∙ omega arith)
    digits word.eight word.is below

-- the word of digits is at most that of nines
word_of-nines : (digits : List ℕ) → AllBelowBase 10 digits → word_of digits ≤ word_of (replicate (length digits) 9)
word_of-nines [] h = omega arith
word_of-nines (d ∷ digits) h = let more = word_of-nines digits h.1 in omega (arith, more, h.0)

-- so it leaves room for the three steps
pub digits_fit : (digits : List ℕ) (w : ℕ) → IsWordOf digits w → AllBelowBase 10 digits → w ≤ 651061555542690057
digits_fit digits w word h =
    let most : word_of digits ≤ 651061555542690057 = subst (λ n. word_of digits ≤ word_of (replicate n 9)) word.eight (word_of-nines digits h) in
    omega (arith, most, word.is)

-- a byte below the bytes after it, as shifts have it
pub shape : (x y : ℕ) → x + 256 * y ≡ y * 2 ^ 8 + x
shape x y = omega arith

-- a mask of a word is one of each of its bytes
and_bytes : (bytes : List ℕ) (m : ℕ) → m < 256 → AllByRecursion (λ b. b < 256) bytes
    → bit_and (word_of bytes) (word_of (replicate (length bytes) m)) ≡ word_of (map (λ b. bit_and b m) bytes)
and_bytes [] m l h = refl
and_bytes (b ∷ bytes) m l h =
    ap₂ (λ x y. bit_and x y) (shape b (word_of bytes)) (shape m (word_of (replicate (length bytes) m)))
    ∙ and_block 8 (word_of bytes) (word_of (replicate (length bytes) m)) b m h.0 l
    ∙ ap (λ x. x * 2 ^ 8 + bit_and b m) (and_bytes bytes m l h.1)
    ∙ sym (shape (bit_and b m) (word_of (map (λ x. bit_and x m) bytes)))

-- the upper half of a byte
upper_half : (b : ℕ) → b < 256 → bit_and b 240 ≡ b / 16 * 16
upper_half b l =
    let parts : bit_and (b / 16 * 2 ^ 4 + b % 16) (15 * 2 ^ 4 + 0) ≡ bit_and (b / 16) 15 * 2 ^ 4 + bit_and (b % 16) 0 = and_block 4 (b / 16) 15 (b % 16) 0 (omega arith) (omega arith) in
    let whole : b ≡ b / 16 * 2 ^ 4 + b % 16 = omega arith in
    let high : bit_and (b / 16) 15 ≡ b / 16 % 16 = and_mask (b / 16) 4 in
    let low : bit_and (b % 16) 0 ≤ 0 = and_le_r (b % 16) 0 in
    ap (λ x. bit_and x 240) whole ∙ parts ∙ omega (arith, high, low)

-- where the upper halves are those of the word of one byte, they are that byte
uppers : (bytes : List ℕ) (m : ℕ) → m < 256 → AllByRecursion (λ b. b < 256) bytes
    → word_of (map (λ b. bit_and b 240) bytes) ≡ word_of (replicate (length bytes) m) → AllByRecursion (λ b. b / 16 * 16 ≡ m) bytes
uppers [] m l h e = tt
uppers (b ∷ bytes) m l h e =
    let most : bit_and b 240 ≤ 240 = and_le_r b 240 in
    let is : bit_and b 240 ≡ b / 16 * 16 = upper_half b h.0 in (
      omega (arith, most, is, e, l),
      uppers bytes m l h.1 (omega (arith, most, e, l)),
    )

-- a 6 added to such a byte's value leaves it a byte
sixes_below : (bytes : List ℕ) → AllByRecursion (λ b. b / 16 * 16 ≡ 48) bytes → AllByRecursion (λ b. b < 256) (map (λ b. b - 48 + 6) bytes)
sixes_below [] h = tt
sixes_below (b ∷ bytes) h = (omega (arith, h.0), sixes_below bytes h.1)

-- the word of the bytes, with a 6 added to the value of each
word_of-sixes : (bytes : List ℕ) → AllByRecursion (λ b. b / 16 * 16 ≡ 48) bytes
    → word_of (map (λ b. b - 48 + 6) bytes) + word_of (replicate (length bytes) 48) ≡ word_of bytes + word_of (replicate (length bytes) 6)
word_of-sixes [] h = refl
word_of-sixes (b ∷ bytes) h = let more = word_of-sixes bytes h.1 in omega (arith, more, h.0)

-- the upper half of a digit, which a 6 does not leave
both_halves : (bytes : List ℕ) → AllByRecursion (λ b. b / 16 * 16 ≡ 48) bytes → AllByRecursion (λ b. b / 16 * 16 ≡ 0) (map (λ b. b - 48 + 6) bytes) → AllByRecursion IsDigit bytes
both_halves [] h k = tt
both_halves (b ∷ bytes) h k = ((omega (arith, h.0), omega (arith, h.0, k.0)), both_halves bytes h.1 k.1)

pub digit_is : (b : ℕ) → 48 ≤ b → b ≤ 57 → digit_value b ≡ b - 48
digit_is b low high = cond-false (nat_lt b 48) 36 _ (le-ltb b 48 low) ∙ cond-true (nat_lt b 58) (b - 48) _ (lt-ltb b 58 (omega arith))

-- the words of the numerals' laws say the same
pub digits_told : (bytes : List ℕ) → AllByRecursion IsDigit bytes → AllDigits 10 bytes
digits_told [] h = tt
digits_told (b ∷ bytes) h = (omega (arith, digit_is b h.0.0 h.0.1, h.0.1), digits_told bytes h.1)

pub AllBelowBase-values : (bytes : List ℕ) → AllDigits 10 bytes → AllBelowBase 10 (map digit_value bytes)
AllBelowBase-values [] h = tt
AllBelowBase-values (b ∷ bytes) h = (h.0, AllBelowBase-values bytes h.1)

values_below : (digits : List ℕ) → AllBelowBase 10 digits → AllByRecursion (λ b. b < 256) digits
values_below [] h = tt
values_below (d ∷ digits) h = (omega (arith, h.0), values_below digits h.1)

-- the word of the digits' values
word_of-values : (bytes : List ℕ) → AllByRecursion IsDigit bytes → word_of (map digit_value bytes) + word_of (replicate (length bytes) 48) ≡ word_of bytes
word_of-values [] h = refl
word_of-values (b ∷ bytes) h = let more = word_of-values bytes h.1 in omega (arith, more, digit_is b h.0.0 h.0.1, h.0.0)

-- both tests hold of words of digits alone
pub values_are_digits : (bytes : List ℕ) (word : ℕ) → IsWordOf bytes word → bit_and word 17361641481138401520 ≡ 3472328296227680304
    → bit_and (word - 3472328296227680304 + 434041037028460038) 17361641481138401520 ≡ 0
    → AllDigits 10 bytes × IsWordOf (map digit_value bytes) (word - 3472328296227680304)
values_are_digits bytes word w first second =
    let Masked : ℕ → Type 0 = λ n. bit_and (word_of bytes) (word_of (replicate n 240)) ≡ word_of (replicate n 48) in
    let masked : bit_and (word_of bytes) (word_of (replicate (length bytes) 240)) ≡ word_of (replicate (length bytes) 48) =
    subst Masked (sym w.eight) (ap (λ x. bit_and x 17361641481138401520) (sym w.is) ∙ first) in
    let high : AllByRecursion (λ b. b / 16 * 16 ≡ 48) bytes = uppers bytes 48 (omega arith) w.each (sym (and_bytes bytes 240 (omega arith) w.each) ∙ masked) in
    let sixes : List ℕ = map (λ b. b - 48 + 6) bytes in
    let size : length sixes ≡ 8 = length-map bytes (λ b. b - 48 + 6) ∙ w.eight in
    let Sum : ℕ → Type 0 = λ n. word_of (map (λ b. b - 48 + 6) bytes) + word_of (replicate n 48) ≡ word_of bytes + word_of (replicate n 6) in
    let sum : word_of (map (λ b. b - 48 + 6) bytes) + 3472328296227680304 ≡ word_of bytes + 434041037028460038 = subst Sum w.eight (word_of-sixes bytes high) in
    let under : 3472328296227680304 ≤ word = omega (arith, and_le_l word 17361641481138401520, first) in
    let moved : word - 3472328296227680304 + 434041037028460038 ≡ word_of sixes = omega (arith, sum, under, w.is) in
    let Zero : ℕ → Type 0 = λ n. bit_and (word_of sixes) (word_of (replicate n 240)) ≡ word_of (replicate n 0) in
    let zero_upper : bit_and (word_of sixes) (word_of (replicate (length sixes) 240)) ≡ word_of (replicate (length sixes) 0) =
    subst Zero (sym size) (ap (λ x. bit_and x 17361641481138401520) (sym moved) ∙ second) in
    let low : AllByRecursion (λ b. b / 16 * 16 ≡ 0) sixes =
    uppers sixes 0 (omega arith) (sixes_below bytes high) (sym (and_bytes sixes 240 (omega arith) (sixes_below bytes high)) ∙ zero_upper) in
    let digits : AllByRecursion IsDigit bytes = both_halves bytes high low in
    let all : AllDigits 10 bytes = digits_told bytes digits in
    let Values : ℕ → Type 0 = λ n. word_of (map digit_value bytes) + word_of (replicate n 48) ≡ word_of bytes in
    let values : word_of (map digit_value bytes) + 3472328296227680304 ≡ word_of bytes = subst Values w.eight (word_of-values bytes digits) in (
      all,
      record {
        eight = length-map bytes digit_value ∙ w.eight;
        each = values_below (map digit_value bytes) (AllBelowBase-values bytes all);
        is = omega (arith, values, w.is);
      },
    )

all_bytes : (k : ℕ) (bytes : List ℕ) → ((i : ℕ) → get_or bytes i 0 < 256) → AllByRecursion (λ b. b < 256) (take k bytes)
all_bytes zero bytes h = tt
all_bytes (suc k) [] h = tt
all_bytes (suc k) (b ∷ bytes) h = (h 0, all_bytes k bytes (λ i. h (suc i)))

-- the word of the first eight bytes
IsWordOf-front : (bytes : List ℕ) → 8 ≤ length bytes → ((i : ℕ) → get_or bytes i 0 < 256) → IsWordOf (take 8 bytes) (from_le_bytes w64 (take 8 bytes))
IsWordOf-front bytes some h = record {
  eight = length-take-le 8 bytes some;
  each = all_bytes 8 bytes h;
  is = by_eight (λ xs. from_le_bytes w64 xs ≡ word_of xs) (λ a b c d e f g h. omega arith) (take 8 bytes) (length-take-le 8 bytes some);
}

-- the word that was read of them
pub word_read : (bytes eight : List ℕ) (word : ℕ) → 8 ≤ length bytes → eight ≡ take 8 bytes → ((i : ℕ) → get_or bytes i 0 < 256) → word ≡ from_le_bytes w64 eight → IsWordOf (take 8 bytes) word
word_read bytes eight word some front small is = subst (IsWordOf (take 8 bytes)) (sym (is ∙ ap (from_le_bytes w64) front)) (IsWordOf-front bytes some small)

-- what was read of the first eight bytes
pub read_front : (bytes eight : List ℕ) (word values : ℕ) → 8 ≤ length bytes → eight ≡ take 8 bytes → ((i : ℕ) → get_or bytes i 0 < 256) → word ≡ from_le_bytes w64 eight
    → ((xs : List ℕ) → IsWordOf xs word → AllDigits 10 xs × IsWordOf (map digit_value xs) values)
    → AllDigits 10 (take 8 bytes) × IsWordOf (map digit_value (take 8 bytes)) values
read_front bytes eight word values some front small is read =
    read (take 8 bytes) (word_read bytes eight word some front small is)

-- the number of eight digits
pub eight_value : (bytes : List ℕ) → 8 ≤ length bytes → AllDigits 10 (take 8 bytes) → digits_value 10 (take 8 bytes) < 100000000
eight_value bytes some h =
    subst (λ n. digits_value 10 (take 8 bytes) < 10 ^ n) (length-take-le 8 bytes some) (digits_value-lt 10 (take 8 bytes) h)
