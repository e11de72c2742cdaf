-- Fewer than eight digits at the front of a word: how many they are, and the number that they write.
use Rattle.std.proofs.Common.{◌≡◌, ◌<◌, ◌≤◌, ◌+◌, ◌-◌, ◌*◌, ◌/◌, ◌%◌, ◌^◌, ◌⊎◌, inl, inr, ⊎_elim, ℕ, suc, zero, List, [], ◌∷◌, ◌++◌, map, length, length-append, take, get_or, replicate, decimal, sym, ap, ap₂, ◌∙◌, arith, refl, subst}
use Rattle.std.specs.Char.{digit_value}
use Rattle.std.specs.Int.Bits.{bit_and, bit_or, bit_xor, xor_assoc, xor_self, xor_zero_r, xor_zero_l}
use Rattle.std.specs.Int.Count.{count_trailing_zeros, under}
use Rattle.std.specs.Int.Digits.{AllBelowBase, number_from_digits}
use Rattle.std.specs.List.{AllByRecursion}
use Rattle.std.specs.Str.Parse.{AllDigits, digits_value}
use Rattle.std.proofs.lemmas.Fmt.{decimal-digits_value}
use Rattle.std.proofs.lemmas.Int.Digits.{digits_value_is}
use Rattle.std.proofs.lemmas.List.{length-take-le, length-map, length-replicate, take-take}
use Rattle.std.proofs.lemmas.Nat.{and_block, or_block, xor_block, and_mask, and_le_r, or_lt, xor_lt, le_or_l, le_or_r}
use Rattle.as_words.proofs.NumberLaws.{own}
use Rattle.as_lineform.specs.Digits.{word_of, IsDigit, IsWordOf, last_digits}
use Rattle.as_lineform.proofs.DigitLaws.{shape, by_eight, digit_is, digits_told}

-- ---- a word of bytes that are made one by one

abbrev lanes : (ℕ → ℕ) → List ℕ → ℕ
lanes f bytes = word_of (map f bytes)

-- it makes bytes of bytes
abbrev Keeps : (ℕ → ℕ) → Type 0
Keeps f = (b : ℕ) → b < 256 → f b < 256

abbrev AreBytes : List ℕ → Type 0
AreBytes bytes = AllByRecursion (λ b. b < 256) bytes

xor_lanes : (m : ℕ) → m < 256 → (bytes : List ℕ) → AreBytes bytes → bit_xor (word_of bytes) (word_of (replicate (length bytes) m)) ≡ lanes (λ b. bit_xor b m) bytes
xor_lanes m l [] h = refl
xor_lanes m l (b ∷ bytes) h =
    ap₂ (λ x y. bit_xor x y) (shape b (word_of bytes)) (shape m (word_of (replicate (length bytes) m)))
    ∙ xor_block 8 (word_of bytes) (word_of (replicate (length bytes) m)) b m h.0 l
    ∙ ap (λ x. x * 2 ^ 8 + bit_xor b m) (xor_lanes m l bytes h.1)
    ∙ sym (shape (bit_xor b m) (lanes (λ x. bit_xor x m) bytes))

and_lanes : (f : ℕ → ℕ) (m : ℕ) → Keeps f → m < 256 → (bytes : List ℕ) → AreBytes bytes
    → bit_and (lanes f bytes) (word_of (replicate (length bytes) m)) ≡ lanes (λ b. bit_and (f b) m) bytes
and_lanes f m k l [] h = refl
and_lanes f m k l (b ∷ bytes) h =
    ap₂ (λ x y. bit_and x y) (shape (f b) (lanes f bytes)) (shape m (word_of (replicate (length bytes) m)))
    ∙ and_block 8 (lanes f bytes) (word_of (replicate (length bytes) m)) (f b) m (k b h.0) l
    ∙ ap (λ x. x * 2 ^ 8 + bit_and (f b) m) (and_lanes f m k l bytes h.1)
    ∙ sym (shape (bit_and (f b) m) (lanes (λ x. bit_and (f x) m) bytes))

or_lanes : (f g : ℕ → ℕ) → Keeps f → Keeps g → (bytes : List ℕ) → AreBytes bytes → bit_or (lanes f bytes) (lanes g bytes) ≡ lanes (λ b. bit_or (f b) (g b)) bytes
or_lanes f g k l [] h = refl
or_lanes f g k l (b ∷ bytes) h =
    ap₂ (λ x y. bit_or x y) (shape (f b) (lanes f bytes)) (shape (g b) (lanes g bytes))
    ∙ or_block 8 (lanes f bytes) (lanes g bytes) (f b) (g b) (k b h.0) (l b h.0)
    ∙ ap (λ x. x * 2 ^ 8 + bit_or (f b) (g b)) (or_lanes f g k l bytes h.1)
    ∙ sym (shape (bit_or (f b) (g b)) (lanes (λ x. bit_or (f x) (g x)) bytes))

add_lanes : (f : ℕ → ℕ) (m : ℕ) (bytes : List ℕ) → lanes f bytes + word_of (replicate (length bytes) m) ≡ lanes (λ b. f b + m) bytes
add_lanes f m [] = refl
add_lanes f m (b ∷ bytes) = let more = add_lanes f m bytes in omega (arith, more)

-- ---- the mark of a byte that is no digit

abbrev value : ℕ → ℕ
value b = bit_xor b 48

abbrev reach : ℕ → ℕ
reach b = bit_and (value b) 127 + 118

abbrev mark : ℕ → ℕ
mark b = bit_and (bit_or (reach b) (value b)) 128

value-keeps : Keeps value
value-keeps b l = xor_lt 8 b 48 l (omega arith)

reach-keeps : Keeps reach
reach-keeps b l = let most = and_le_r (value b) 127 in omega (arith, most)

both-keep : Keeps (λ b. bit_or (reach b) (value b))
both-keep b l = or_lt 8 (reach b) (value b) (reach-keeps b l) (value-keeps b l)

-- the highest bit of a byte
highest : (o : ℕ) → o < 256 → bit_and o 128 ≡ o / 128 * 128
highest o l =
    let whole : o ≡ o / 128 * 2 ^ 7 + o % 128 = omega arith in
    let parts : bit_and (o / 128 * 2 ^ 7 + o % 128) (1 * 2 ^ 7 + 0) ≡ bit_and (o / 128) 1 * 2 ^ 7 + bit_and (o % 128) 0 = and_block 7 (o / 128) 1 (o % 128) 0 (omega arith) (omega arith) in
    let high : bit_and (o / 128) 1 ≡ o / 128 % 2 = and_mask (o / 128) 1 in
    let low : bit_and (o % 128) 0 ≤ 0 = and_le_r (o % 128) 0 in
    ap (λ x. bit_and x 128) whole ∙ parts ∙ omega (arith, high, low, l)

-- a mark is all of the highest bit or nothing
marked : (b : ℕ) → b < 256 → (mark b ≡ 0) ⊎ (mark b ≡ 128)
marked b l = go (bit_or (reach b) (value b)) (both-keep b l)
  where
    go : (o : ℕ) → o < 256 → (bit_and o 128 ≡ 0) ⊎ (bit_and o 128 ≡ 128)
    go o small = let is = highest o small in by_half (o / 128) (omega (arith, small)) (bit_and o 128) is
      where
        by_half : (h : ℕ) → h < 2 → (m : ℕ) → m ≡ h * 128 → (m ≡ 0) ⊎ (m ≡ 128)
        by_half zero low m is = inl is
        by_half (suc zero) low m is = inr is
        by_half (suc (suc h)) low m is = absurd (omega (arith, low))

-- a small value is a digit's
digit_of : (b : ℕ) → value b < 10 → IsDigit b
digit_of b low =
    let back : bit_xor (value b) 48 ≡ b = xor_assoc b 48 48 ∙ ap (bit_xor b) (xor_self 48) ∙ xor_zero_r b in
    let parts : bit_xor (0 * 2 ^ 4 + value b) (3 * 2 ^ 4 + 0) ≡ bit_xor 0 3 * 2 ^ 4 + bit_xor (value b) 0 = xor_block 4 0 3 (value b) 0 (omega (arith, low)) (omega arith) in
    let three : bit_xor 0 3 ≡ 3 = xor_zero_l 3 in
    let same : bit_xor (value b) 0 ≡ value b = xor_zero_r (value b) in
    let is : b ≡ 48 + value b = sym back ∙ ap (λ x. bit_xor x 48) (omega arith) ∙ parts ∙ omega (arith, three, same) in
    (omega (arith, is), omega (arith, is, low))

-- a byte that is not marked is a digit
unmarked : (b : ℕ) → b < 256 → mark b ≡ 0 → IsDigit b
unmarked b l none =
    let is = highest (bit_or (reach b) (value b)) (both-keep b l) in
    let first = le_or_l (reach b) (value b) in
    let second = le_or_r (reach b) (value b) in
    let all : bit_and (value b) 127 ≡ value b % 128 = and_mask (value b) 7 in
    digit_of b (omega (arith, is, none, first, second, all))

-- ---- how many bytes are not marked

even : (k n m : ℕ) → n ≡ 2 * m → count_trailing_zeros (suc k) n ≡ suc (count_trailing_zeros k m)
unfolding count_trailing_zeros
even k n m is =
    let low : n % 2 ≡ 0 = omega (arith, is) in
    let half : n / 2 ≡ m = omega (arith, is) in
    ap₂ (λ d h. under d (count_trailing_zeros k h)) low half

odd : (k n : ℕ) → n % 2 ≡ 1 → count_trailing_zeros (suc k) n ≡ 0
unfolding count_trailing_zeros
odd k n is = ap (λ d. under d (count_trailing_zeros k (n / 2))) is

abbrev eight_more : ℕ → ℕ
eight_more k = suc (suc (suc (suc (suc (suc (suc (suc k)))))))

-- eight zeros, or seven and a bit that is set
byte_zero : (k w : ℕ) → count_trailing_zeros (eight_more k) (0 + 256 * w) ≡ eight_more (count_trailing_zeros k w)
byte_zero k w =
    even _ (0 + 256 * w) (128 * w) (omega arith) ∙ ap suc (even _ (128 * w) (64 * w) (omega arith) ∙ ap suc (even _ (64 * w) (32 * w) (omega arith)
    ∙ ap suc (even _ (32 * w) (16 * w) (omega arith) ∙ ap suc (even _ (16 * w) (8 * w) (omega arith) ∙ ap suc (even _ (8 * w) (4 * w) (omega arith)
    ∙ ap suc (even _ (4 * w) (2 * w) (omega arith) ∙ ap suc (even k (2 * w) w (omega arith))))))))

byte_set : (k w : ℕ) → count_trailing_zeros (eight_more k) (128 + 256 * w) ≡ 7
byte_set k w =
    even _ (128 + 256 * w) (64 + 128 * w) (omega arith) ∙ ap suc (even _ (64 + 128 * w) (32 + 64 * w) (omega arith) ∙ ap suc (even _ (32 + 64 * w) (16 + 32 * w) (omega arith)
    ∙ ap suc (even _ (16 + 32 * w) (8 + 16 * w) (omega arith) ∙ ap suc (even _ (8 + 16 * w) (4 + 8 * w) (omega arith) ∙ ap suc (even _ (4 + 8 * w) (2 + 4 * w) (omega arith)
    ∙ ap suc (even _ (2 + 4 * w) (1 + 2 * w) (omega arith) ∙ ap suc (odd k (1 + 2 * w) (omega arith))))))))

-- as many bytes as have eight zeros each are digits
leading : (bytes : List ℕ) → AreBytes bytes → (n : ℕ) → 8 * n ≤ count_trailing_zeros (8 * length bytes) (lanes mark bytes) → AllByRecursion IsDigit (take n bytes)
leading bytes h zero some = tt
leading [] h (suc n) some = tt
leading (b ∷ bytes) h (suc n) some =
    let w = lanes mark bytes in
    let wide : 8 * length (b ∷ bytes) ≡ eight_more (8 * length bytes) = omega arith in
    let long : 8 * suc n ≤ count_trailing_zeros (eight_more (8 * length bytes)) (mark b + 256 * lanes mark bytes) =
    subst (λ k. 8 * suc n ≤ count_trailing_zeros k (mark b + 256 * lanes mark bytes)) wide some in
    ⊎_elim
    (λ (none : mark b ≡ 0).
    let is : count_trailing_zeros (eight_more (8 * length bytes)) (mark b + 256 * w) ≡ eight_more (count_trailing_zeros (8 * length bytes) w) =
    ap (λ m. count_trailing_zeros (eight_more (8 * length bytes)) (m + 256 * w)) none ∙ byte_zero (8 * length bytes) w in
    (unmarked b h.0 none, leading bytes h.1 n (omega (arith, long, is))))
    (λ (set : mark b ≡ 128).
    let is : count_trailing_zeros (eight_more (8 * length bytes)) (mark b + 256 * w) ≡ 7 =
    ap (λ m. count_trailing_zeros (eight_more (8 * length bytes)) (m + 256 * w)) set ∙ byte_set (8 * length bytes) w in
    absurd (omega (arith, long, is)))
    (marked b h.0)

-- the digits at the front of a word
pub digits_counted : (bytes : List ℕ) (word : ℕ) → IsWordOf bytes word
    → AllByRecursion IsDigit (take (count_trailing_zeros 64 (bit_and (bit_or (bit_and (bit_xor word 3472328296227680304) 9187201950435737471 + 8536140394893047414) (bit_xor word 3472328296227680304)) 9259542123273814144) / 8) bytes)
digits_counted bytes word w =
    let Word : ℕ → Type 0 = λ n. bit_xor word (word_of (replicate n 48)) ≡ lanes value bytes in
    let values : bit_xor word 3472328296227680304 ≡ lanes value bytes =
    subst Word w.eight (ap (λ x. bit_xor x (word_of (replicate (length bytes) 48))) w.is ∙ xor_lanes 48 (omega arith) bytes w.each) in
    let Low : ℕ → Type 0 = λ n. bit_and (lanes value bytes) (word_of (replicate n 127)) ≡ lanes (λ b. bit_and (value b) 127) bytes in
    let low : bit_and (lanes value bytes) 9187201950435737471 ≡ lanes (λ b. bit_and (value b) 127) bytes =
    subst Low w.eight (and_lanes value 127 value-keeps (omega arith) bytes w.each) in
    let Sum : ℕ → Type 0 = λ n. lanes (λ b. bit_and (value b) 127) bytes + word_of (replicate n 118) ≡ lanes reach bytes in
    let sum : lanes (λ b. bit_and (value b) 127) bytes + 8536140394893047414 ≡ lanes reach bytes =
    subst Sum w.eight (add_lanes (λ b. bit_and (value b) 127) 118 bytes) in
    let High : ℕ → Type 0 = λ n. bit_and (lanes (λ b. bit_or (reach b) (value b)) bytes) (word_of (replicate n 128)) ≡ lanes mark bytes in
    let high : bit_and (lanes (λ b. bit_or (reach b) (value b)) bytes) 9259542123273814144 ≡ lanes mark bytes =
    subst High w.eight (and_lanes (λ b. bit_or (reach b) (value b)) 128 both-keep (omega arith) bytes w.each) in
    let others : bit_and (bit_or (bit_and (bit_xor word 3472328296227680304) 9187201950435737471 + 8536140394893047414) (bit_xor word 3472328296227680304)) 9259542123273814144 ≡ lanes mark bytes =
    ap (λ v. bit_and (bit_or (bit_and v 9187201950435737471 + 8536140394893047414) v) 9259542123273814144) values
    ∙ ap (λ l. bit_and (bit_or (l + 8536140394893047414) (lanes value bytes)) 9259542123273814144) low
    ∙ ap (λ l. bit_and (bit_or l (lanes value bytes)) 9259542123273814144) sum
    ∙ ap (λ l. bit_and l 9259542123273814144) (or_lanes reach value reach-keeps value-keeps bytes w.each)
    ∙ high in
    let Lead : ℕ → Type 0 = λ m. AllByRecursion IsDigit (take (count_trailing_zeros 64 m / 8) bytes) in
    subst Lead (sym others) (leading bytes w.each (count_trailing_zeros 64 (lanes mark bytes) / 8)
    (subst (λ k. 8 * (count_trailing_zeros 64 (lanes mark bytes) / 8) ≤ count_trailing_zeros (8 * k) (lanes mark bytes)) (sym w.eight) (omega arith)))

-- ---- the number that they write

module _ (a b c d e f g h w : ℕ) (each : AreBytes (a ∷ b ∷ c ∷ d ∷ e ∷ f ∷ g ∷ h ∷ [])) (is : w ≡ word_of (a ∷ b ∷ c ∷ d ∷ e ∷ f ∷ g ∷ h ∷ [])) where
  -- so many of the bytes, moved to the end
  abbrev IsMoved : ℕ → Type 0
  IsMoved n = (w * 2 ^ (64 - 8 * n)) % 2 ^ 64 ≡ word_of (replicate (8 - n) 0 ++ take n (a ∷ b ∷ c ∷ d ∷ e ∷ f ∷ g ∷ h ∷ []))

  moved : (n : ℕ) → 1 ≤ n → n < 8 → IsMoved n
  moved zero some few = absurd (omega (arith, some))
  moved (suc zero) some few = omega (arith, is, each.0)
  moved (suc (suc zero)) some few = omega (arith, is, each.0, each.1.0)
  moved (suc (suc (suc zero))) some few = omega (arith, is, each.0, each.1.0, each.1.1.0)
  moved (suc (suc (suc (suc zero)))) some few = omega (arith, is, each.0, each.1.0, each.1.1.0, each.1.1.1.0)
  moved (suc (suc (suc (suc (suc zero))))) some few = omega (arith, is, each.0, each.1.0, each.1.1.0, each.1.1.1.0, each.1.1.1.1.0)
  moved (suc (suc (suc (suc (suc (suc zero)))))) some few = omega (arith, is, each.0, each.1.0, each.1.1.0, each.1.1.1.0, each.1.1.1.1.0, each.1.1.1.1.1.0)
  moved (suc (suc (suc (suc (suc (suc (suc zero))))))) some few = omega (arith, is, each.0, each.1.0, each.1.1.0, each.1.1.1.0, each.1.1.1.1.0, each.1.1.1.1.1.0, each.1.1.1.1.1.1.0)
  moved (suc (suc (suc (suc (suc (suc (suc (suc n)))))))) some few = absurd (omega (arith, few))

-- a digit's value
digit_xor : (b : ℕ) → IsDigit b → bit_xor b 48 ≡ digit_value b
digit_xor b d =
    let low : ℕ = b - 48 in
    let whole : b ≡ 3 * 2 ^ 4 + (b - 48) = omega (arith, d.0) in
    let parts : bit_xor (3 * 2 ^ 4 + (b - 48)) (3 * 2 ^ 4 + 0) ≡ bit_xor 3 3 * 2 ^ 4 + bit_xor (b - 48) 0 = xor_block 4 3 3 (b - 48) 0 (omega (arith, d.1)) (omega arith) in
    let none : bit_xor 3 3 ≡ 0 = xor_self 3 in
    let same : bit_xor (b - 48) 0 ≡ b - 48 = xor_zero_r (b - 48) in
    ap (λ x. bit_xor x 48) whole ∙ parts ∙ omega (arith, none, same) ∙ sym (digit_is b d.0 d.1)

digit_values : (n : ℕ) (bytes : List ℕ) → AllByRecursion IsDigit (take n bytes) → take n (map value bytes) ≡ map digit_value (take n bytes)
digit_values zero bytes h = refl
digit_values (suc n) [] h = refl
digit_values (suc n) (b ∷ bytes) h = ap₂ (λ x xs. x ∷ xs) (digit_xor b h.0) (digit_values n bytes h.1)

All-value : (bytes : List ℕ) → AreBytes bytes → AreBytes (map value bytes)
All-value [] h = tt
All-value (b ∷ bytes) h = (value-keeps b h.0, All-value bytes h.1)

last_each : (k n : ℕ) (bytes : List ℕ) → AreBytes bytes → AreBytes (replicate k 0 ++ take n bytes)
last_each (suc k) n bytes h = (omega arith, last_each k n bytes h)
last_each zero zero bytes h = tt
last_each zero (suc n) [] h = tt
last_each zero (suc n) (b ∷ bytes) h = (h.0, last_each zero n bytes h.1)

-- the word of the last digits
pub digits_moved : (n : ℕ) (bytes : List ℕ) (word : ℕ) → 1 ≤ n → n < 8 → IsWordOf bytes word → AllByRecursion IsDigit (take n bytes)
    → IsWordOf (last_digits n bytes) ((bit_xor word 3472328296227680304 * 2 ^ (64 - 8 * n)) % 2 ^ 64)
digits_moved n bytes word some few w digits =
    let vs : List ℕ = map value bytes in
    let size : length vs ≡ 8 = length-map bytes value ∙ w.eight in
    let Word : ℕ → Type 0 = λ n. bit_xor word (word_of (replicate n 48)) ≡ lanes value bytes in
    let values : bit_xor word 3472328296227680304 ≡ lanes value bytes =
    subst Word w.eight (ap (λ x. bit_xor x (word_of (replicate (length bytes) 48))) w.is ∙ xor_lanes 48 (omega arith) bytes w.each) in
    let zeros : length (replicate {A = ℕ} (8 - n) 0) ≡ 8 - n = length-replicate (8 - n) 0 in
    let kept : length (take n vs) ≡ n = length-take-le n vs (omega (arith, size, few)) in
    let v : ℕ = bit_xor word 3472328296227680304 in
    let Moved : List ℕ → Type 0 = λ xs. AreBytes xs → v ≡ word_of xs → (v * 2 ^ (64 - 8 * n)) % 2 ^ 64 ≡ word_of (replicate (8 - n) 0 ++ take n xs) in
    let is : (v * 2 ^ (64 - 8 * n)) % 2 ^ 64 ≡ word_of (replicate (8 - n) 0 ++ take n vs) =
    by_eight Moved (λ a b c d e f g h each is. moved a b c d e f g h v each is n some few) vs size (All-value bytes w.each) values in
    subst (λ xs. IsWordOf (replicate (8 - n) 0 ++ xs) ((v * 2 ^ (64 - 8 * n)) % 2 ^ 64)) (digit_values n bytes digits) (record {
      eight = omega (arith, length-append (replicate (8 - n) 0) (take n vs), zeros, kept, few);
      each = last_each (8 - n) n vs (All-value bytes w.each);
      is = is;
    })

-- zeros before digits say nothing
zeros_lead : (k : ℕ) (ds : List ℕ) → number_from_digits 10 (replicate k 0 ++ ds) ≡ number_from_digits 10 ds
zeros_lead zero ds = refl
zeros_lead (suc k) ds = zeros_lead k ds

-- the number of the last digits
pub last_value : (n : ℕ) (bytes : List ℕ) → n < 8 → number_from_digits 10 (last_digits n (take 8 bytes)) ≡ digits_value 10 (take n bytes)
last_value n bytes few =
    zeros_lead (8 - n) (map digit_value (take n (take 8 bytes)))
    ∙ ap (λ ds. number_from_digits 10 (map digit_value ds)) (take-take n 8 bytes (omega (arith, few)))
    ∙ sym (digits_value_is 10 (take n bytes))

below : (k : ℕ) (ds : List ℕ) → AllBelowBase 10 ds → AllBelowBase 10 (replicate k 0 ++ ds)
below zero ds h = h
below (suc k) ds h = (omega arith, below k ds h)

values_below : (bytes : List ℕ) → AllByRecursion IsDigit bytes → AllBelowBase 10 (map digit_value bytes)
values_below [] h = tt
values_below (b ∷ bytes) h = (omega (arith, digit_is b h.0.0 h.0.1, h.0.1), values_below bytes h.1)

-- they are digits
pub last_below : (n : ℕ) (bytes : List ℕ) → AllByRecursion IsDigit (take n bytes) → AllBelowBase 10 (last_digits n bytes)
last_below n bytes digits = below (8 - n) (map digit_value (take n bytes)) (values_below (take n bytes) digits)

-- the first bytes of a word are the first of all
pub front_digits : (n : ℕ) (bytes : List ℕ) → n ≤ 8 → AllByRecursion IsDigit (take n (take 8 bytes)) → AllDigits 10 (take n bytes)
front_digits n bytes few digits = subst (AllDigits 10) (take-take n 8 bytes few) (digits_told (take n (take 8 bytes)) digits)

-- digits are what `decimal` writes of their number, where no 0 stands before others
pub spelled : (ds : List ℕ) (n : ℕ) → AllDigits 10 ds → n ≡ digits_value 10 ds → 0 < length ds → (get_or ds 0 0 ≡ 48 → length ds ≤ 1) → n < 2 ^ 64 → ds ≡ decimal n
spelled ds n digits is some alone fits =
    sym (ap (λ m. decimal m) is ∙ decimal-digits_value own ds digits some (λ e. let few = alone e in omega (arith, few, some)) (omega (arith, is, fits)))
