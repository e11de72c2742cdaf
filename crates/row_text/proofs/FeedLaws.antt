-- A row's text has one line feed, its last byte: a text has as many line feeds as it has rows.
use Rattle.std.proofs.Common.{◌≡◌, ℕ, zero, suc, ◌+◌, ◌/◌, ◌%◌, ℤ, pos, negsuc, eqb, ltb, Bool, true, false, cond, Option, Some, None, List, [], ◌∷◌, ◌++◌, map, length, count_by, decimal, refl, ap, ◌∙◌, arith}
use Rattle.std.specs.Fmt.{signed_decimal, digits, digits_onto, digit_glyph}
use Rattle.std.specs.List.{AllByRecursion}
use Rattle.std.proofs.lemmas.Bool.{ne_eqb, cond_both}
use Rattle.std.proofs.lemmas.List.Sums.{sum_by-append, sum_by-cons}
use Rattle.as_words.specs.Words.{spaced, joined}
use Rattle.as_base.specs.declared.item.Given.{Given}
use Rattle.as_base.specs.declared.row.Row.{Row}
use Rattle.as_base.specs.declared.row.Row.TheVariants.{Sel, Agg, Pair}
use Rattle.views.specs.View.{View}
use Rattle.views.specs.Rows.{due_to}
use Rattle.row_text.specs.RowText.{group_words, side_words, row_words, row_text, text_of}
use Rattle.row_text.proofs.TextLaws.{text_of_rows, text_of-due}

-- how many line feeds the bytes have
abbrev feeds : List ℕ → ℕ
feeds bytes = count_by (λ b. eqb b 10) bytes

feeds-append : (a b : List ℕ) → feeds (a ++ b) ≡ feeds a + feeds b
feeds-append a b = sum_by-append _ a b

-- no byte is a line feed
abbrev NoFeed : List ℕ → Type 0
NoFeed bytes = AllByRecursion (λ b. eqb b 10 ≡ false) bytes

feeds-none : (bytes : List ℕ) → NoFeed bytes → feeds bytes ≡ 0
feeds-none [] h = refl
feeds-none (b ∷ bytes) h =
    let here : ◌≡◌ {A = ℕ} (cond (eqb b 10) 1 0) 0 = ap (λ t. cond t 1 0) h.0 in
    omega (arith, sum_by-cons (λ x. cond (eqb x 10) 1 0) b bytes, here, feeds-none bytes h.1)

no_feed-append : (a b : List ℕ) → NoFeed a → NoFeed b → NoFeed (a ++ b)
no_feed-append [] b h k = k
no_feed-append (x ∷ a) b h k = (h.0, no_feed-append a b h.1 k)

-- ---- numbers

no_feed-glyph : (d : ℕ) → eqb (digit_glyph false d) 10 ≡ false
no_feed-glyph d = go (ltb d 10)
  where
    go : (b : Bool) → eqb (cond b (48 + d) (87 + d)) 10 ≡ false
    go true = ne_eqb (48 + d) 10 (λ e. omega (arith, e))
    go false = ne_eqb (87 + d) 10 (λ e. omega (arith, e))

no_feed-onto : (k n : ℕ) (acc : List ℕ) → NoFeed acc → NoFeed (digits_onto k 10 false n acc)
no_feed-onto zero n acc h = h
no_feed-onto (suc k) n acc h =
    let more : List ℕ = digit_glyph false (n % 10) ∷ acc in
    let none : NoFeed more = (no_feed-glyph (n % 10), h) in
    cond_both (eqb (n / 10) 0) more (digits_onto k 10 false (n / 10) more) NoFeed (λ last. none) (λ not_last. no_feed-onto k (n / 10) more none)

no_feed-decimal : (n : ℕ) → NoFeed (decimal n)
unfolding digits
no_feed-decimal n = no_feed-onto 64 n [] tt

no_feed-signed : (z : ℤ) → NoFeed (signed_decimal z)
no_feed-signed (pos n) = no_feed-decimal n
no_feed-signed (negsuc n) = (refl, no_feed-decimal (suc n))

-- ---- words

-- no word has a line feed
abbrev HaveNoFeed : List (List ℕ) → Type 0
HaveNoFeed words = AllByRecursion NoFeed words

words-append : (a b : List (List ℕ)) → HaveNoFeed a → HaveNoFeed b → HaveNoFeed (a ++ b)
words-append [] b h k = k
words-append (word ∷ a) b h k = (h.0, words-append a b h.1 k)

words-signed : (zs : List ℤ) → HaveNoFeed (map signed_decimal zs)
words-signed [] = tt
words-signed (z ∷ zs) = (no_feed-signed z, words-signed zs)

words-group : (group : Option ℤ) → HaveNoFeed (group_words group)
words-group None = tt
words-group (Some z) = (no_feed-signed z, tt)

words-side : (g : Given) → HaveNoFeed (side_words g)
words-side g = (no_feed-decimal g.time, words-signed g.v)

words-row : (row : Row) → HaveNoFeed (row_words row)
words-row (Sel g) = (no_feed-decimal g.time, (no_feed-signed g.key, words-signed g.v))
words-row (Agg start end group value) =
    (no_feed-decimal start, (no_feed-decimal end, words-append (group_words group) (signed_decimal value ∷ []) (words-group group) (no_feed-signed value, tt)))
words-row (Pair start end left right) =
    (no_feed-decimal start, (no_feed-decimal end, (no_feed-signed left.key, words-append (side_words left) (side_words right) (words-side left) (words-side right))))

no_feed-spaced : (words : List (List ℕ)) → HaveNoFeed words → NoFeed (spaced words)
no_feed-spaced [] h = tt
no_feed-spaced (word ∷ words) h = (refl, no_feed-append word (spaced words) h.0 (no_feed-spaced words h.1))

no_feed-joined : (words : List (List ℕ)) → HaveNoFeed words → NoFeed (joined words)
no_feed-joined [] h = tt
no_feed-joined (word ∷ words) h = no_feed-append word (spaced words) h.0 (no_feed-spaced words h.1)

-- ---- rows

-- a row's text has one line feed
pub feeds-row : (row : Row) → count_by (λ b. eqb b 10) (row_text row) ≡ 1
feeds-row row =
    feeds-append (joined (row_words row)) (10 ∷ [])
    ∙ ap (λ n. n + 1) (feeds-none (joined (row_words row)) (no_feed-joined (row_words row) (words-row row)))

pub feeds-rows : (rows : List Row) → count_by (λ b. eqb b 10) (text_of_rows rows) ≡ length rows
feeds-rows [] = refl
feeds-rows (row ∷ rows) = omega (arith, feeds-append (row_text row) (text_of_rows rows), feeds-row row, feeds-rows rows)

-- an output has as many rows as its text has line feeds
pub rows-feeds : (v : View) (n : ℕ) → length (due_to v n) ≡ count_by (λ b. eqb b 10) (text_of v n)
rows-feeds v n = let all = feeds-rows (due_to v n) in let same = ap feeds (text_of-due v n) in omega (arith, all, same)
