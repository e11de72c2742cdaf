-- An item's line has no line feed, so that its note is read as that item.
use Rattle.std.proofs.Common.{◌≡◌, ℕ, zero, suc, ◌+◌, ◌/◌, ◌%◌, ◌==◌, ℤ, pos, negsuc, eqb, ltb, nat_le, Bool, true, false, cond, List, [], ◌∷◌, ◌++◌, map, length, replicate, codes, decimal, refl, sym, ap, ◌∙◌, subst, arith, append_assoc, append-nil}
use Rattle.std.specs.Fmt.{signed_decimal, digits, digits_onto, digit_glyph}
use Rattle.std.specs.List.{AllByRecursion, list_all}
use Rattle.std.proofs.lemmas.Bool.{ne_eqb, cond_both, cond-false, and_parts, leb-true}
use Rattle.as_base.specs.Range.{IsSpelled}
use Rattle.as_base.specs.Stream.{stream_name}
use Rattle.as_base.specs.Text.{is_text}
use Rattle.as_base.specs.declared.item.Item.{Item}
use Rattle.as_base.specs.declared.item.Item.TheVariants.{Rec, Mark, End, Create, Delete, Bad}
use Rattle.as_base.specs.declared.item.Cause.TheVariants.{Long, Form}
use Rattle.as_base.specs.declared.stream.StreamId.{StreamId}
use Rattle.as_base.specs.declared.stream.StreamId.TheVariants.{A, B, C, D}
use Rattle.as_words.specs.Parts.{parts_of}
use Rattle.as_words.specs.Words.{is_word_byte, is_word, is_words, spaced, joined}
use Rattle.as_words.proofs.JoinedLaws.{word_bytes, joined-parts_of}
use Rattle.as_lineform.specs.Item.{item_of}
use Rattle.as_lineform.specs.Lines.{lines, rest}
use Rattle.as_lineform.specs.Spelling.{item_text}
use Rattle.as_lineform.proofs.LineLaws.{rest_push, lines_push}
use Rattle.as_lineform.proofs.SpellingLaws.{item_of-item_text}
use Rattle.taker.specs.Journal.{note_of}

-- no byte is a line feed
abbrev NoFeed : List ℕ → Type 0
NoFeed bytes = AllByRecursion (λ b. (b == 10) ≡ false) bytes

no_feed-append : (a b : List ℕ) → NoFeed a → NoFeed b → NoFeed (a ++ b)
no_feed-append [] b h k = k
no_feed-append (x ∷ a) b h k = (h.0, no_feed-append a b h.1 k)

no_feed-replicate : (n : ℕ) → NoFeed (replicate n 45)
no_feed-replicate zero = tt
no_feed-replicate (suc n) = (refl, no_feed-replicate n)

-- ---- numbers

no_feed-glyph : (d : ℕ) → (digit_glyph false d == 10) ≡ false
no_feed-glyph d = go (ltb d 10)
  where
    go : (b : Bool) → (cond b (48 + d) (87 + d) == 10) ≡ false
    go true = ne_eqb (48 + d) 10 (λ e. omega (arith, e))
    go false = ne_eqb (87 + d) 10 (λ e. omega (arith, e))

no_feed-onto : (k n : ℕ) (after : List ℕ) → NoFeed after → NoFeed (digits_onto k 10 false n after)
no_feed-onto zero n after h = h
no_feed-onto (suc k) n after h =
    let more : List ℕ = digit_glyph false (n % 10) ∷ after in
    let none : NoFeed more = (no_feed-glyph (n % 10), h) in
    cond_both (eqb (n / 10) 0) more (digits_onto k 10 false (n / 10) more) NoFeed
    (λ last. none)
    (λ not_last. no_feed-onto k (n / 10) more none)

no_feed-decimal : (n : ℕ) → NoFeed (decimal n)
unfolding digits
no_feed-decimal n = no_feed-onto 64 n [] tt

no_feed-signed : (z : ℤ) → NoFeed (signed_decimal z)
no_feed-signed (pos n) = no_feed-decimal n
no_feed-signed (negsuc n) = (refl, no_feed-decimal (suc n))

-- ---- words

abbrev HaveNoFeed : List (List ℕ) → Type 0
HaveNoFeed words = AllByRecursion NoFeed words

all_signed : (zs : List ℤ) → HaveNoFeed (map signed_decimal zs)
all_signed [] = tt
all_signed (z ∷ zs) = (no_feed-signed z, all_signed zs)

no_feed-name : (stream : StreamId) → NoFeed (stream_name stream)
no_feed-name A = (refl, tt)
no_feed-name B = (refl, tt)
no_feed-name C = (refl, tt)
no_feed-name D = (refl, tt)

no_feed-spaced : (words : List (List ℕ)) → HaveNoFeed words → NoFeed (spaced words)
no_feed-spaced [] h = tt
no_feed-spaced (word ∷ words) h = (refl, no_feed-append word (spaced words) h.0 (no_feed-spaced words h.1))

no_feed-joined : (words : List (List ℕ)) → HaveNoFeed words → NoFeed (joined words)
no_feed-joined [] h = tt
no_feed-joined (word ∷ words) h = no_feed-append word (spaced words) h.0 (no_feed-spaced words h.1)

-- ---- query texts

no_feed-word_byte : (b : ℕ) → is_word_byte b ≡ true → (b == 10) ≡ false
no_feed-word_byte b h =
    let low = leb-true 33 b (and_parts (nat_le 33 b) (nat_le b 126) h).0 in
    ne_eqb b 10 (λ e. omega (arith, e, low))

no_feed-word : (word : List ℕ) → list_all is_word_byte word ≡ true → NoFeed word
no_feed-word [] h = tt
no_feed-word (b ∷ word) h =
    let both = and_parts (is_word_byte b) (list_all is_word_byte word) h in
    (no_feed-word_byte b both.0, no_feed-word word both.1)

no_feed-words : (words : List (List ℕ)) → list_all is_word words ≡ true → HaveNoFeed words
no_feed-words [] h = tt
no_feed-words (word ∷ words) h =
    let both = and_parts (is_word word) (list_all is_word words) h in
    (no_feed-word word (word_bytes word both.0), no_feed-words words both.1)

no_feed-text : (b : ℕ) (text : List ℕ) → is_text (b ∷ text) ≡ true → NoFeed (b ∷ text)
no_feed-text b text h =
    let both = and_parts (nat_le (length (b ∷ text)) 4089) (is_words (b ∷ text)) h in
    let words : List (List ℕ) = parts_of 32 (b ∷ text) in
    subst NoFeed (joined-parts_of (b ∷ text)) (no_feed-joined words (no_feed-words words both.1))

-- ---- lines and notes

-- a form and words behind it
form_words : (form : List ℕ) (words : List (List ℕ)) → NoFeed form → HaveNoFeed words → NoFeed (form ++ spaced words)
form_words form words h k = no_feed-append form (spaced words) h (no_feed-spaced words k)

-- the line of an item has no line feed
no_feed-item : (x : Item) → IsSpelled x → NoFeed (item_text x)
no_feed-item (Rec g) h =
    form_words (codes "rec") (stream_name g.stream ∷ decimal g.time ∷ signed_decimal g.key ∷ map signed_decimal g.v)
    (refl, (refl, (refl, tt)))
    (no_feed-name g.stream, (no_feed-decimal g.time, (no_feed-signed g.key, all_signed g.v)))
no_feed-item (Mark stream time) h =
    form_words (codes "mark") (stream_name stream ∷ decimal time ∷ []) (refl, (refl, (refl, (refl, tt))))
    (no_feed-name stream, (no_feed-decimal time, tt))
no_feed-item (End stream) h =
    form_words (codes "end") (stream_name stream ∷ []) (refl, (refl, (refl, tt))) (no_feed-name stream, tt)
no_feed-item (Create []) h = (refl, (refl, (refl, (refl, (refl, (refl, tt))))))
no_feed-item (Create (b ∷ text)) h =
    form_words (codes "create") ((b ∷ text) ∷ []) (refl, (refl, (refl, (refl, (refl, (refl, tt))))))
    (no_feed-text b text h, tt)
no_feed-item (Delete n) h =
    form_words (codes "delete") (decimal n ∷ []) (refl, (refl, (refl, (refl, (refl, (refl, tt)))))) (no_feed-decimal n, tt)
no_feed-item (Bad Form) h = (refl, tt)
no_feed-item (Bad Long) h = no_feed-replicate 4097

-- bytes without a line feed stand in the rest, and make no line
rest_line : (bytes line : List ℕ) → NoFeed line → rest (bytes ++ line) ≡ rest bytes ++ line
rest_line bytes [] h = ap rest (append-nil bytes) ∙ sym (append-nil (rest bytes))
rest_line bytes (b ∷ line) h =
    ap rest (sym (append_assoc bytes (b ∷ []) line)) ∙ rest_line (bytes ++ b ∷ []) line h.1
    ∙ ap (λ r. r ++ line) (rest_push bytes b ∙ cond-false (b == 10) [] (rest bytes ++ b ∷ []) h.0)
    ∙ append_assoc (rest bytes) (b ∷ []) line

lines_line : (bytes line : List ℕ) → NoFeed line → lines (bytes ++ line) ≡ lines bytes
lines_line bytes [] h = ap lines (append-nil bytes)
lines_line bytes (b ∷ line) h =
    ap lines (sym (append_assoc bytes (b ∷ []) line)) ∙ lines_line (bytes ++ b ∷ []) line h.1
    ∙ lines_push bytes b ∙ ap (λ l. lines bytes ++ l) (cond-false (b == 10) (item_of (rest bytes) ∷ []) [] h.0)
    ∙ append-nil (lines bytes)

-- behind whole lines, the note of an item is one more line, which says that item
pub note_reads : (bytes : List ℕ) (x : Item) → IsSpelled x → rest bytes ≡ []
    → (lines (bytes ++ note_of x) ≡ lines bytes ++ x ∷ []) × (rest (bytes ++ note_of x) ≡ [])
note_reads bytes x h whole =
    let line : List ℕ = item_text x in
    let none = no_feed-item x h in
    let seam : bytes ++ note_of x ≡ (bytes ++ line) ++ 10 ∷ [] = sym (append_assoc bytes line (10 ∷ [])) in
    let behind : rest (bytes ++ line) ≡ line = rest_line bytes line none ∙ ap (λ r. r ++ line) whole in
    let says : item_of (rest (bytes ++ line)) ≡ x = ap item_of behind ∙ item_of-item_text x h in (
      ap lines seam ∙ lines_push (bytes ++ line) 10
          ∙ ap (λ l. l ++ item_of (rest (bytes ++ line)) ∷ []) (lines_line bytes line none)
          ∙ ap (λ i. lines bytes ++ i ∷ []) says,
      ap rest seam ∙ rest_push (bytes ++ line) 10,
    )
