-- Short words, joined, are a query text, which has these words.
use Rattle.std.proofs.Common.{◌≡◌, ◌≤◌, ◌&&◌, true, List, [], ◌∷◌, ◌++◌, length, arith, nat_le, length-append}
use Rattle.std.specs.List.{AllByRecursion}
use Rattle.std.proofs.lemmas.Bool.{and_parts, and_from, leb-true, le-leb}
use Rattle.as_words.specs.Words.{is_word, spaced, joined}
use Rattle.as_words.proofs.JoinedLaws.{IsShort, short_words, parts_of-joined, is_words-joined, length-spaced-le}
use Rattle.as_base.specs.Text.{is_text}
use Rattle.query_text.specs.Reading.{text_words}
use Rattle.query_text.specs.Names.{Word}

abbrev pub AreShort : List Word → Type 0
AreShort ws = AllByRecursion IsShort ws

pub AreShort-append : (xs ys : List Word) → AreShort xs → AreShort ys → AreShort (xs ++ ys)
AreShort-append [] ys h k = k
AreShort-append (w ∷ xs) ys h k = (h.0, AreShort-append xs ys h.1 k)

-- by a test, which computes at a word that is known
pub short : (w : Word) → (is_word w && nat_le (length w) 40) ≡ true → IsShort w
short w h = let parts = and_parts (is_word w) (nat_le (length w) 40) h in (parts.0, leb-true (length w) 40 parts.1)

-- the words of joined words
pub text_words-joined : (w : Word) (ws : List Word) → AreShort (w ∷ ws) → text_words (joined (w ∷ ws)) ≡ w ∷ ws
text_words-joined [] ws h = cc h.0.0
text_words-joined (b ∷ w) ws h = parts_of-joined (b ∷ w) ws h.0.0 (short_words ws h.1)

-- few joined words are a query text
pub is_text-joined : (w : Word) (ws : List Word) → AreShort (w ∷ ws) → length (w ∷ ws) ≤ 99 → is_text (joined (w ∷ ws)) ≡ true
is_text-joined [] ws h few = cc h.0.0
is_text-joined (b ∷ w) ws h few =
    and_from _ _
    (le-leb (length (joined ((b ∷ w) ∷ ws))) 4089 (omega (arith, few, length-append (b ∷ w) (spaced ws), h.0.1, length-spaced-le ws h.1)))
    (is_words-joined (b ∷ w) ws h.0.0 (short_words ws h.1))
