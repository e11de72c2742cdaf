-- The parts of a query text, and that generated lines are in range.
use Rattle.std.proofs.Common.{◌≡◌, ◌⊎◌, inl, inr, ◌≤◌, pos, subst, arith, ℕ, ◌+◌, ◌-◌, ◌*◌, ◌/◌, ◌%◌, ◌^◌, ◌<◌, ℤ, negsuc, ◌<ℤ◌, int_lt, ◌-ℤ◌, nat_le, eqb, ◌&&◌, Bool, true, false, cond, List, [], ◌∷◌, ◌++◌, length, get_or, take, drop, codes, IsTrue, refl, sym, ap, ap₂, ◌∙◌, append_assoc, append-nil, take-append-drop}
use denote.Ref.{Bor}
use Rattle.std.proofs.lemmas.Bool.{and_left, and_right, and_from, lt-leb, lt-ltb, eqb-true, false_from_ne_true}
use Rattle.std.proofs.lemmas.Grind.{flat_map-append}
use Rattle.std.proofs.lemmas.Int.{ints}
use Rattle.std.proofs.lemmas.List.{take_more, map-append}
use Rattle.as_words.specs.Number.{IsSigned}
use Rattle.as_base.specs.Range.{IsSpelled}
use Rattle.as_base.specs.Text.{is_text}
use Rattle.as_base.specs.declared.item.Item.{Item}
use Rattle.as_base.specs.declared.item.Item.TheVariants.{Rec, Mark, Create, Delete}
use Rattle.as_base.specs.declared.stream.StreamId.{StreamId}
use Rattle.as_base.specs.declared.stream.StreamId.TheVariants.{A, B, C, D}
use Rattle.as_lineform.specs.Spelling.{item_text}
use Rattle.generate.specs.Generated.{drawn, stream_at, query_parts, text_of_parts, created_text, record_at, generated, line_of}
use Rattle.generate.specs.Parts.{parts_at}

-- ---- the parts of a text, up to one of them, and from there on

abbrev pub no_part : Bor (List ℕ)
no_part = record { ref_ptr = (0, 0); now = [] }

parts-append : (xs ys : List (Bor (List ℕ))) → text_of_parts (parts_at (xs ++ ys)) ≡ text_of_parts (parts_at xs) ++ text_of_parts (parts_at ys)
parts-append xs ys = ap text_of_parts (map-append (λ (x : Bor (List ℕ)). x.now) xs ys) ∙ flat_map-append (λ part. part) (parts_at xs) (parts_at ys)

pub parts_more : (ps : List (Bor (List ℕ))) (i : ℕ) → i < length ps → text_of_parts (parts_at (take (i + 1) ps)) ≡ text_of_parts (parts_at (take i ps)) ++ (get_or ps i no_part).now
parts_more ps i h =
    let p : Bor (List ℕ) = get_or ps i no_part in
    ap (λ xs. text_of_parts (parts_at xs)) (take_more ps i no_part h)
    ∙ parts-append (take i ps) (p ∷ [])
    ∙ ap (λ xs. text_of_parts (parts_at (take i ps)) ++ xs) (append-nil p.now)

pub parts_split : (ps : List (Bor (List ℕ))) (i : ℕ) → i < length ps
    → text_of_parts (parts_at ps) ≡ text_of_parts (parts_at (take i ps)) ++ (get_or ps i no_part).now ++ text_of_parts (parts_at (drop (i + 1) ps))
parts_split ps i h =
    ap (λ xs. text_of_parts (parts_at xs)) (sym (take-append-drop (i + 1) ps))
    ∙ parts-append (take (i + 1) ps) (drop (i + 1) ps)
    ∙ ap (λ xs. xs ++ text_of_parts (parts_at (drop (i + 1) ps))) (parts_more ps i h)

-- one part more was appended
pub appended_after : (old now new text more : List ℕ) → now ≡ old ++ text → new ≡ now ++ more → new ≡ old ++ (text ++ more)
appended_after old now new text more e f = f ∙ ap (λ xs. xs ++ more) e ∙ append_assoc old text more

-- ---- texts of four shapes

-- what holds of the parts of each shape holds of the parts
by_shape : (P : List (List ℕ) → Type 0) (x y : StreamId)
    → P (query_parts 0 x y) → P (query_parts 1 x y) → P (query_parts 2 x y) → P (query_parts 3 x y) → (shape : ℕ) → P (query_parts shape x y)
by_shape P x y p0 p1 p2 p3 shape = go (eqb shape 0) (eqb shape 1) (eqb shape 2)
  where
    go : (a b c : Bool) → P (cond a (query_parts 0 x y) (cond b (query_parts 1 x y) (cond c (query_parts 2 x y) (query_parts 3 x y))))
    go true b c = p0
    go false true c = p1
    go false false true = p2
    go false false false = p3

-- they are query texts
pub query_is_text : (shape : ℕ) (x y : StreamId) → is_text (text_of_parts (query_parts shape x y)) ≡ true
query_is_text shape x y = by_shape (λ parts. is_text (text_of_parts parts) ≡ true) x y (selection x) (sum x) (count x) (joins x y) shape
  where
    selection : (x : StreamId) → is_text (text_of_parts (query_parts 0 x A)) ≡ true
    selection A = refl
    selection B = refl
    selection C = refl
    selection D = refl

    sum : (x : StreamId) → is_text (text_of_parts (query_parts 1 x A)) ≡ true
    sum A = refl
    sum B = refl
    sum C = refl
    sum D = refl

    count : (x : StreamId) → is_text (text_of_parts (query_parts 2 x A)) ≡ true
    count A = refl
    count B = refl
    count C = refl
    count D = refl

    joins : (x y : StreamId) → is_text (text_of_parts (query_parts 3 x y)) ≡ true
    joins A A = refl
    joins A B = refl
    joins A C = refl
    joins A D = refl
    joins B A = refl
    joins B B = refl
    joins B C = refl
    joins B D = refl
    joins C A = refl
    joins C B = refl
    joins C C = refl
    joins C D = refl
    joins D A = refl
    joins D B = refl
    joins D C = refl
    joins D D = refl

-- the line of a creation has the text after a space
pub creation_line : (shape : ℕ) (x y : StreamId) → item_text (Create (text_of_parts (query_parts shape x y))) ≡ codes "create " ++ text_of_parts (query_parts shape x y)
creation_line shape x y = by_shape (λ parts. item_text (Create (text_of_parts parts)) ≡ codes "create " ++ text_of_parts parts) x y (of 0) (of 1) (of 2) (of 3) shape
  where
    of : (k : ℕ) → codes "create " ++ text_of_parts (query_parts k x y) ++ [] ≡ codes "create " ++ text_of_parts (query_parts k x y)
    of k = append-nil (codes "create " ++ text_of_parts (query_parts k x y))

-- ---- which line it is

-- the watermark that line i is, if it is one
abbrev mark_at : ℕ → ℕ → Item
mark_at streams i = Mark (stream_at (i / 8 % streams)) (10 * i)

by_tests : (x y z w : Item) (a b c : Bool) → a ≡ false → cond a x (cond b y (cond c z w)) ≡ cond b y (cond c z w)
by_tests x y z w a b c e = ap (λ t. cond t x (cond b y (cond c z w))) e

pub creating : (number i streams : ℕ) → eqb (i % 32) 1 ≡ true → generated number i streams ≡ Create (created_text streams (i / 32))
creating number i streams e =
    ap (λ t. cond t (Create (created_text streams (i / 32))) (cond (eqb (i % 32) 17 && nat_le 8 (i / 32)) (Delete (i / 32 - 7)) (cond (eqb (i % 8) 0) (mark_at streams i) (Rec (record_at number i streams))))) e

-- the line of a creation, by its parts
pub creating_line : (number i streams : ℕ) → eqb (i % 32) 1 ≡ true → line_of number i streams ≡ codes "create " ++ created_text streams (i / 32)
creating_line number i streams e =
    ap item_text (creating number i streams e)
    ∙ creation_line (i / 32 % 4) (stream_at (i / 32 / 4 % streams)) (stream_at ((i / 32 / 4 + 1) % streams))

pub marking : (number i streams : ℕ) → eqb (i % 32) 1 ≡ false → (eqb (i % 32) 17 && nat_le 8 (i / 32)) ≡ false → eqb (i % 8) 0 ≡ true → generated number i streams ≡ mark_at streams i
marking number i streams e f g =
    by_tests (Create (created_text streams (i / 32))) (Delete (i / 32 - 7)) (mark_at streams i) (Rec (record_at number i streams)) (eqb (i % 32) 1) (eqb (i % 32) 17 && nat_le 8 (i / 32)) (eqb (i % 8) 0) e
    ∙ ap₂ (λ t u. cond t (Delete (i / 32 - 7)) (cond u (mark_at streams i) (Rec (record_at number i streams)))) f g

pub recording : (number i streams : ℕ) → eqb (i % 32) 1 ≡ false → (eqb (i % 32) 17 && nat_le 8 (i / 32)) ≡ false → eqb (i % 8) 0 ≡ false → generated number i streams ≡ Rec (record_at number i streams)
recording number i streams e f g =
    by_tests (Create (created_text streams (i / 32))) (Delete (i / 32 - 7)) (mark_at streams i) (Rec (record_at number i streams)) (eqb (i % 32) 1) (eqb (i % 32) 17 && nat_le 8 (i / 32)) (eqb (i % 8) 0) e
    ∙ ap₂ (λ t u. cond t (Delete (i / 32 - 7)) (cond u (mark_at streams i) (Rec (record_at number i streams)))) f g

-- it deletes no query
pub keeping : (i : ℕ) → ((i % 32 ≡ 17) × (i / 32 < 8)) ⊎ ¬ (i % 32 ≡ 17) → (eqb (i % 32) 17 && nat_le 8 (i / 32)) ≡ false
keeping i (inl h) = and_right (eqb (i % 32) 17) (nat_le 8 (i / 32)) (lt-leb 8 (i / 32) h.1)
keeping i (inr h) = and_left (eqb (i % 32) 17) (nat_le 8 (i / 32)) (false_from_ne_true (eqb (i % 32) 17) (λ e. h (eqb-true (i % 32) 17 e)))

pub not_eighth : (i : ℕ) → ¬ (i % 8 ≡ 0) → eqb (i % 8) 0 ≡ false
not_eighth i h = false_from_ne_true (eqb (i % 8) 0) (λ e. h (eqb-true (i % 8) 0 e))

-- ---- the ranges of what is generated

lt-to : (a b : ℤ) → a <ℤ b → int_lt a b ≡ true
lt-to a b h = grind (arith, ints)

drawn-signed : (number i j : ℕ) → IsSigned (pos (drawn number i j))
drawn-signed number i j = lt-ltb (drawn number i j) (2 ^ 63) (omega arith)

spelled-record : (number i streams : ℕ) → i ≤ 10000000 → IsSpelled (Rec (record_at number i streams))
spelled-record number i streams few = (
  omega (arith, few),
  lt-ltb (drawn number i 1 % 32) (2 ^ 63) (omega arith),
  refl,
  (drawn-signed number i 2, (lt-ltb (drawn number i 3 % 4) (2 ^ 63) (omega arith), (less (drawn number i 4) (omega arith), (refl, tt)))),
)
  where
    less : (n : ℕ) → n < 65536 → IsSigned (pos n -ℤ pos 32768)
    less n h =
        and_from (int_lt (negsuc (2 ^ 63)) (pos n -ℤ pos 32768)) (int_lt (pos n -ℤ pos 32768) (pos (2 ^ 63)))
        (lt-to (negsuc (2 ^ 63)) (pos n -ℤ pos 32768) (omega (arith, ints)))
        (lt-to (pos n -ℤ pos 32768) (pos (2 ^ 63)) (omega (arith, ints, h)))

pub spelled : (number i streams : ℕ) → i ≤ 10000000 → IsSpelled (generated number i streams)
spelled number i streams few = go (eqb (i % 32) 1) (eqb (i % 32) 17 && nat_le 8 (i / 32)) (eqb (i % 8) 0)
  where
    go : (a b c : Bool) → IsSpelled (cond a (Create (created_text streams (i / 32))) (cond b (Delete (i / 32 - 7)) (cond c (mark_at streams i) (Rec (record_at number i streams)))))
    go true b c = subst IsTrue (sym (query_is_text (i / 32 % 4) (stream_at (i / 32 / 4 % streams)) (stream_at ((i / 32 / 4 + 1) % streams)))) refl
    go false true c = omega (arith, few)
    go false false true = omega (arith, few)
    go false false false = spelled-record number i streams few
