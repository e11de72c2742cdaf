-- A text is cut into the words of the row that fits and has this text.
use Rattle.std.proofs.Common.{◌≡◌, ◌↔◌, ℕ, ◌+◌, ◌^◌, ◌<◌, Bool, true, false, ℤ, pos, negsuc, Option, Some, None, List, [], ◌∷◌, ◌++◌, map, codes, decimal, length, ◌-◌, take, drop, eqb, ◌≢◌, refl, sym, ap, subst, ◌∙◌, arith, append-nil, IsTrue}
use Rattle.std.specs.Bool.{then_some}
use Rattle.std.specs.Option.{MatchOption}
use denote.Ref.{Bor}
use Rattle.std.specs.Fmt.{signed_decimal}
use Rattle.std.specs.List.{AllByRecursion}
use Rattle.std.specs.Cmp.Lexicographic.{pointwise}
use Rattle.std.proofs.lemmas.List.{append_cancel_right}
use Rattle.std.proofs.lemmas.Bool.Decides.{Decides-eqb}
use Rattle.std.proofs.lemmas.Slice.Eq.{strip_suffix_is}
use Rattle.as_base.specs.declared.item.Given.{Given}
use Rattle.as_base.specs.declared.query.Group.{Group}
use Rattle.as_base.specs.declared.query.Group.TheVariants as group
use Rattle.as_base.specs.declared.query.Kind.{Kind}
use Rattle.as_base.specs.declared.query.Kind.TheVariants.{Select, Sum, Count, Join}
use Rattle.as_base.specs.declared.query.Plan.{Plan}
use Rattle.as_base.specs.declared.row.Row.{Row}
use Rattle.as_base.specs.declared.row.Row.TheVariants.{Sel, Agg, Pair}
use Rattle.as_base.specs.declared.stream.StreamId.{StreamId}
use Rattle.as_words.specs.Number.{IsSigned}
use Rattle.as_words.specs.Parts.{parts_of}
use Rattle.as_words.specs.Words.{joined}
use Rattle.as_words.proofs.JoinedLaws.{IsWord, parts_of-joined, joined-parts_of, IsShort-decimal, IsShort-signed}
use Rattle.as_words.proofs.WideLaws.{IsShort-wide}
use Rattle.row_text.specs.Fits.{FitsRecord, FitsGroup, FitsValue, FitsRow}
use Rattle.row_text.specs.RowText.{row_text, row_words, group_words, side_words}
use Rattle.row_text.specs.Taking.{HasNoLine, Takes}
use Rattle.row_text.proofs.TakingLaws.{Words}

abbrev AreWords : Words → Type 0
AreWords words = AllByRecursion IsWord words

natural_word : (n : ℕ) → n < 2 ^ 64 → IsWord (decimal n)
natural_word n l = (IsShort-decimal n l).0

signed_word : (z : ℤ) → IsSigned z → IsWord (signed_decimal z)
signed_word z h = (IsShort-signed z h).0

signed_words : (zs : List ℤ) → AllByRecursion IsSigned zs → AreWords (map signed_decimal zs)
signed_words [] h = tt
signed_words (z ∷ zs) h = (signed_word z h.0, signed_words zs h.1)

both : (words more : Words) → AreWords words → AreWords more → AreWords (words ++ more)
both [] more h k = k
both (word ∷ words) more h k = (h.0, both words more h.1 k)

group_are : (by : Group) (told : Option ℤ) → FitsGroup by told → AreWords (group_words told)
group_are by None h = tt
group_are group.All (Some z) h = cc h
group_are group.Key (Some z) h = (signed_word z h, tt)
group_are (group.Col c) (Some z) h = (signed_word z h, tt)

value_is : (kind : Kind) (z : ℤ) → FitsValue kind z → IsWord (signed_decimal z)
value_is (Sum c) z h = (IsShort-wide z h).0
value_is Count (pos n) h = natural_word n h.1
value_is Count (negsuc n) h = absurd h
value_is Select z h = absurd h
value_is Join z h = absurd h

side_are : (stream : StreamId) (g : Given) → FitsRecord stream g → AreWords (side_words g)
side_are stream g h = (natural_word g.time (omega (arith, h.1.0)), signed_words g.v h.1.3)

-- the words of a row that fits, joined and cut
cut : (p : Plan) (row : Row) → FitsRow p row → parts_of 32 (joined (row_words row)) ≡ row_words row
cut p (Sel g) h =
    parts_of-joined (decimal g.time) (signed_decimal g.key ∷ map signed_decimal g.v) (natural_word g.time (omega (arith, h.1.1.0)))
    (signed_word g.key h.1.1.1, signed_words g.v h.1.1.3)
cut p (Agg start end told value) h =
    parts_of-joined (decimal start) (decimal end ∷ group_words told ++ signed_decimal value ∷ []) (natural_word start (omega (arith, h.0.0)))
    (natural_word end h.0.3, both (group_words told) (signed_decimal value ∷ []) (group_are p.group told h.1) (value_is p.kind value h.2, tt))
cut p (Pair start end left right) h =
    parts_of-joined (decimal start) (decimal end ∷ signed_decimal left.key ∷ side_words left ++ side_words right) (natural_word start (omega (arith, h.1.0)))
    (natural_word end h.1.3, (signed_word left.key h.2.0.1.1, both (side_words left) (side_words right) (side_are p.left left h.2.0) (side_are p.right right h.3.0)))

-- a line that with its line feed is the text of a row has the row's words
words_are : (p : Plan) (row : Row) (line : List ℕ) → FitsRow p row → row_text row ≡ line ++ codes "\n" → parts_of 32 line ≡ row_words row ++ []
words_are p row line h e =
    ap (parts_of 32) (sym (append_cancel_right (joined (row_words row)) line (codes "\n") e)) ∙ cut p row h ∙ sym (append-nil (row_words row))

-- the line before the line feed, if there is one
pub line_told : (bytes feed : List ℕ) (r : Option (Bor (List ℕ))) → feed ≡ codes "\n"
    → MatchOption r (pointwise eqb (drop (length bytes - length feed) bytes) feed ≡ false)
    (λ x. (pointwise eqb (drop (length bytes - length feed) bytes) feed ≡ true) × (x.now ≡ take (length bytes - length feed) bytes) × (length x.now + length feed ≡ length bytes))
    → MatchOption r (HasNoLine bytes) (λ line. bytes ≡ line.now ++ codes "\n")
line_told bytes feed r e h = subst (λ f. MatchOption r ((line : List ℕ) → bytes ≢ line ++ f) (λ line. bytes ≡ line.now ++ f)) e (strip_suffix_is Decides-eqb bytes feed r h)

-- no row was taken
pub read_none : (p : Plan) (line bytes : List ℕ) (words new : Words) → bytes ≡ line ++ codes "\n" → words ≡ parts_of 32 line → Takes (FitsRow p) row_words None words new
    → (row : Row) → (None ≡ Some row) ↔ (FitsRow p row × (row_text row ≡ bytes))
read_none p line bytes words new e w h row = (
  λ k. cc k,
  λ k. (h.found row [] k.0 (w ∙ words_are p row line k.0 (k.1 ∙ e))).0,
)

-- a row was taken, and no word is left, or some are
pub read_some : (p : Plan) (line bytes : List ℕ) (taken : Row) (last : Bool) (words new : Words) → bytes ≡ line ++ codes "\n" → words ≡ parts_of 32 line
    → Takes (FitsRow p) row_words (Some taken) words new
    → IsTrue last ↔ (new ≡ []) → (row : Row) → (then_some last taken ≡ Some row) ↔ (FitsRow p row × (row_text row ≡ bytes))
read_some p line bytes taken true words new e w h ends row = (
  λ k.
      let own = h.right row k in
      let cut : parts_of 32 line ≡ row_words row = sym w ∙ own.1 ∙ ap (λ ws. row_words row ++ ws) (ends.0 refl) ∙ append-nil (row_words row) in
      (own.0, ap (λ xs. xs ++ codes "\n") (ap joined (sym cut) ∙ joined-parts_of line) ∙ sym e),
  λ k. (h.found row [] k.0 (w ∙ words_are p row line k.0 (k.1 ∙ e))).0,
)
read_some p line bytes taken false words new e w h ends row = (
  λ k. cc k,
  λ k. absurd (cc (ends.1 (h.found row [] k.0 (w ∙ words_are p row line k.0 (k.1 ∙ e))).1)),
)
