-- What stands in a record's line, none of it a line feed, and what stands before the bytes that are left.
use Rattle.std.proofs.Common.{◌≡◌, ◌<◌, ◌≤◌, ◌^◌, ◌+◌, ◌-◌, ◌==◌, ℕ, suc, ℤ, pos, negsuc, false, List, [], ◌∷◌, ◌++◌, map, take, length, to_z, of_z, w64, decimal, refl, sym, ap, ◌∙◌, arith, append_assoc, length-append}
use Rattle.std.proofs.Math.Seq.{take-append_seam}
use Rattle.std.proofs.lemmas.Bool.{ne_eqb}
use Rattle.std.proofs.lemmas.Fmt.{digits_decimal}
use Rattle.std.proofs.lemmas.Int.{to_z-of_z}
use Rattle.std.proofs.lemmas.Str.Parse.{digit_at}
use Rattle.std.specs.Fmt.{signed_decimal}
use Rattle.std.specs.List.{AllByRecursion}
use Rattle.std.specs.Str.Parse.{AllDigits}
use Rattle.as_base.specs.Range.{IsSpelled}
use Rattle.as_base.specs.Stream.{stream_name}
use Rattle.as_base.specs.declared.item.Given.{Given}
use Rattle.as_base.specs.declared.item.Item.TheVariants.{Rec}
use Rattle.as_base.specs.declared.stream.StreamId.{StreamId}
use Rattle.as_base.specs.declared.stream.StreamId.TheVariants.{A, B, C, D}
use Rattle.as_words.proofs.NumberLaws.{own, mag-signed}
use Rattle.as_words.specs.Number.{IsSigned}
use Rattle.as_words.specs.Words.{spaced}
use Rattle.as_lineform.specs.Spelling.{item_text}

-- a number in range, out of an array
pub same_integer : (z : ℤ) → IsSigned z → to_z w64 (of_z w64 z) ≡ z
same_integer z h = to_z-of_z w64 z (record { sfits = mag-signed z h })

-- a word after a space, and words after it
one_read : (word : List ℕ) (words : List (List ℕ)) (s t tail : List ℕ) → s ≡ 32 ∷ (word ++ t) → t ≡ spaced words ++ tail → s ≡ spaced (word ∷ words) ++ tail
one_read word words s t tail e more =
    e ∙ ap (λ xs. 32 ∷ (word ++ xs)) more ∙ ap (λ xs. 32 ∷ xs) (sym (append_assoc word (spaced words) tail))

-- four numbers, each after a space
pub four_read : (a b c d : ℤ) (a' b' c' d' : ℤ) → a' ≡ a → b' ≡ b → c' ≡ c → d' ≡ d → (s0 s1 s2 s3 s4 : List ℕ)
    → s0 ≡ 32 ∷ (signed_decimal a ++ s1) → s1 ≡ 32 ∷ (signed_decimal b ++ s2) → s2 ≡ 32 ∷ (signed_decimal c ++ s3) → s3 ≡ 32 ∷ (signed_decimal d ++ s4)
    → s0 ≡ spaced (map signed_decimal (a' ∷ b' ∷ c' ∷ d' ∷ [])) ++ s4
four_read a b c d a' b' c' d' ea eb ec ed s0 s1 s2 s3 s4 e0 e1 e2 e3 =
    rw (ea, eb, ec, ed)
    (one_read (signed_decimal a) (map signed_decimal (b ∷ c ∷ d ∷ [])) s0 s1 s4 e0
    (one_read (signed_decimal b) (map signed_decimal (c ∷ d ∷ [])) s1 s2 s4 e1
    (one_read (signed_decimal c) (map signed_decimal (d ∷ [])) s2 s3 s4 e2
    (one_read (signed_decimal d) [] s3 s4 s4 e3 refl))))

-- no byte is a line feed
abbrev pub NoFeed : List ℕ → Type 0
NoFeed [] = Unit {0}
NoFeed (b ∷ bytes) = ((b == 10) ≡ false) × NoFeed bytes

no_feed-append : (xs ys : List ℕ) → NoFeed xs → NoFeed ys → NoFeed (xs ++ ys)
no_feed-append [] ys h k = k
no_feed-append (x ∷ xs) ys h k = (h.0, no_feed-append xs ys h.1 k)

no_feed-digits : (ds : List ℕ) → AllDigits 10 ds → NoFeed ds
no_feed-digits [] h = tt
no_feed-digits (d ∷ ds) h =
    let first = digit_at (d ∷ ds) 0 h (omega arith) in
    (ne_eqb d 10 (λ e. omega (arith, e, first.0)), no_feed-digits ds h.1)

no_feed-decimal : (n : ℕ) → n < 2 ^ 64 → NoFeed (decimal n)
no_feed-decimal n l = no_feed-digits (decimal n) (digits_decimal own n l)

no_feed-signed : (z : ℤ) → IsSigned z → NoFeed (signed_decimal z)
no_feed-signed (pos n) h = no_feed-decimal n (omega (arith, mag-signed (pos n) h))
no_feed-signed (negsuc n) h = (refl, no_feed-decimal (suc n) (omega (arith, mag-signed (negsuc n) h)))

no_feed-name : (stream : StreamId) → NoFeed (stream_name stream)
no_feed-name A = (refl, tt)
no_feed-name B = (refl, tt)
no_feed-name C = (refl, tt)
no_feed-name D = (refl, tt)

no_feed-spaced : (words : List (List ℕ)) → AllByRecursion NoFeed words → NoFeed (spaced words)
no_feed-spaced [] h = tt
no_feed-spaced (word ∷ words) h = (refl, no_feed-append word (spaced words) h.0 (no_feed-spaced words h.1))

all_signed : (zs : List ℤ) → AllByRecursion IsSigned zs → AllByRecursion NoFeed (map signed_decimal zs)
all_signed [] h = tt
all_signed (z ∷ zs) h = (no_feed-signed z h.0, all_signed zs h.1)

-- a record's line has no line feed
pub no_feed-record : (g : Given) → IsSpelled (Rec g) → NoFeed (item_text (Rec g))
no_feed-record g h = (
  refl,
  (
    refl,
    (
      refl,
      no_feed-spaced (stream_name g.stream ∷ decimal g.time ∷ signed_decimal g.key ∷ map signed_decimal g.v)
          (no_feed-name g.stream, (no_feed-decimal g.time (omega (arith, h.0)), (no_feed-signed g.key h.1, all_signed g.v h.3))),
    ),
  ),
)

-- what stands before what is left
pub front_of : (bytes line rest : List ℕ) (used : ℕ) → bytes ≡ line ++ 10 ∷ rest → used ≡ length bytes - length rest
    → (0 < used) × (used ≤ length bytes) × (take used bytes ≡ line ++ 10 ∷ [])
front_of bytes line rest used e u =
    let whole : bytes ≡ (line ++ 10 ∷ []) ++ rest = e ∙ sym (append_assoc line (10 ∷ []) rest) in
    let lens : length bytes ≡ length (line ++ 10 ∷ []) + length rest = ap length whole ∙ length-append (line ++ 10 ∷ []) rest in
    let one : length (line ++ 10 ∷ []) ≡ length line + 1 = length-append line (10 ∷ []) in
    let same : used ≡ length (line ++ 10 ∷ []) = omega arith in (
      omega arith,
      omega arith,
      ap (λ xs. take used xs) whole ∙ ap (λ n. take n ((line ++ 10 ∷ []) ++ rest)) same ∙ take-append_seam (line ++ 10 ∷ []) rest,
    )
