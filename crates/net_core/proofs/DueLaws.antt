-- The pieces that an item makes due, and what the outputs grow by.
use Rattle.std.proofs.Common.{◌≡◌, ◌≢◌, ℕ, ◌+◌, ◌<◌, ◌≤◌, eqb, cond, zero, suc, inl, inr, List, [], ◌∷◌, ◌++◌, map, length, refl, sym, ap, ap₂, subst, ◌∙◌, append-nil, arith}
use Rattle.std.specs.List.{flat_map, range_with_len, AllByRecursion}
use Rattle.std.proofs.Transfers.{drop-appended}
use Rattle.std.proofs.lemmas.Bool.{cases_lt, ne_eqb, eq-eqb}
use Rattle.std.proofs.lemmas.Grind.{flat_map-append}
use Rattle.as_base.specs.declared.answer.Piece.{Piece}
use Rattle.as_base.specs.declared.config.Config.{Config}
use Rattle.as_base.specs.declared.item.Item.{Item}
use Rattle.as_base.specs.Pieces.{ArePieces, bytes_for}
use Rattle.as_base.specs.Range.{InRange}
use Rattle.views.specs.Query.{Query}
use Rattle.views.proofs.ListLaws.{cond_same}
use Rattle.views.proofs.NumberLaws.{IsNumbered, first-number, rest-numbered}
use Rattle.views.proofs.RisingLaws.{Rises, Rises-strictly}
use Rattle.session.specs.Book.{book, numbers}
use Rattle.session.specs.View.{text_of}
use Rattle.session.proofs.BookLaws.{book-in_order}
use Rattle.session.proofs.OutputLaws.{text-grows}
use Rattle.net_core.specs.Due.{piece_of, more_text, due}

abbrev pieces : (ℕ → List ℕ) → List ℕ → List Piece
pieces f ns = flat_map (λ n. piece_of n (f n)) ns

abbrev tags : List Piece → List ℕ
tags ps = map (λ (p : Piece). p.n) ps

-- ---- by rising number, and none empty

pieces-above : (m a k : ℕ) (f : ℕ → List ℕ) → m < a → AllByRecursion (λ n. m < n) (tags (pieces f (range_with_len a k)))
pieces-above m a zero f low = tt
pieces-above m a (suc k) f low = go (f a) (pieces-above m (a + 1) k f (omega (arith, low)))
  where
    go : (bytes : List ℕ) → AllByRecursion (λ n. m < n) (tags (pieces f (range_with_len (a + 1) k)))
        → AllByRecursion (λ n. m < n) (tags (piece_of a bytes ++ pieces f (range_with_len (a + 1) k)))
    go [] rest = rest
    go (b ∷ bytes) rest = (low, rest)

pieces-rise : (a k : ℕ) (f : ℕ → List ℕ) → Rises (tags (pieces f (range_with_len a k)))
pieces-rise a zero f = tt
pieces-rise a (suc k) f = go (f a) (pieces-rise (a + 1) k f)
  where
    go : (bytes : List ℕ) → Rises (tags (pieces f (range_with_len (a + 1) k))) → Rises (tags (piece_of a bytes ++ pieces f (range_with_len (a + 1) k)))
    go [] rest = rest
    go (b ∷ bytes) rest = (pieces-above a (a + 1) k f (omega arith), rest)

pieces-full : (f : ℕ → List ℕ) (ns : List ℕ) → AllByRecursion (λ (p : Piece). p.bytes ≢ []) (pieces f ns)
pieces-full f [] = tt
pieces-full f (n ∷ ns) = go (f n) (pieces-full f ns)
  where
    go : (bytes : List ℕ) → AllByRecursion (λ (p : Piece). p.bytes ≢ []) (pieces f ns) → AllByRecursion (λ (p : Piece). p.bytes ≢ []) (piece_of n bytes ++ pieces f ns)
    go [] rest = rest
    go (b ∷ bytes) rest = (λ same. cc, rest)

range-pieces : (a k : ℕ) (f : ℕ → List ℕ) → ArePieces (pieces f (range_with_len a k))
range-pieces a k f = record { rising = Rises-strictly (tags (pieces f (range_with_len a k))) (pieces-rise a k f); full = pieces-full f (range_with_len a k) }

pub due-pieces : (c : Config) (h : List Item) (x : Item) → ArePieces (due c h x)
due-pieces c h x =
    subst (λ ns. ArePieces (pieces (more_text c h x) ns)) (sym (book-in_order c (h ++ x ∷ [])))
    (range-pieces 1 (length (book c (h ++ x ∷ []))) (more_text c h x))

-- ---- what they have for an output

abbrev picked : ℕ → (ℕ → List ℕ) → List ℕ → List ℕ
picked n f ns = flat_map (λ m. cond (eqb m n) (f m) []) ns

bytes_for-piece : (n m : ℕ) (bytes : List ℕ) → bytes_for n (piece_of m bytes) ≡ cond (eqb m n) bytes []
bytes_for-piece n m [] = sym (cond_same (eqb m n) [])
bytes_for-piece n m (b ∷ bytes) = append-nil (cond (eqb m n) (b ∷ bytes) [])

bytes_for-pieces : (n : ℕ) (f : ℕ → List ℕ) (ns : List ℕ) → bytes_for n (pieces f ns) ≡ picked n f ns
bytes_for-pieces n f [] = refl
bytes_for-pieces n f (m ∷ ns) =
    flat_map-append (λ (p : Piece). cond (eqb p.n n) p.bytes []) (piece_of m (f m)) (pieces f ns)
    ∙ ap₂ (λ a b. a ++ b) (bytes_for-piece n m (f m)) (bytes_for-pieces n f ns)

picked-below : (n a k : ℕ) (f : ℕ → List ℕ) → n < a → picked n f (range_with_len a k) ≡ []
picked-below n a zero f low = refl
picked-below n a (suc k) f low =
    ap (λ b. cond b (f a) [] ++ picked n f (range_with_len (a + 1) k)) (ne_eqb a n (λ same. omega (arith, same, low))) ∙ picked-below n (a + 1) k f (omega (arith, low))

picked-above : (n a k : ℕ) (f : ℕ → List ℕ) → a + k ≤ n → picked n f (range_with_len a k) ≡ []
picked-above n a zero f high = refl
picked-above n a (suc k) f high =
    ap (λ b. cond b (f a) [] ++ picked n f (range_with_len (a + 1) k)) (ne_eqb a n (λ same. omega (arith, same, high))) ∙ picked-above n (a + 1) k f (omega (arith, high))

picked-at : (n a k : ℕ) (f : ℕ → List ℕ) → a ≤ n → n < a + k → picked n f (range_with_len a k) ≡ f n
picked-at n a zero f low high = absurd (omega (arith, low, high))
picked-at n a (suc k) f low high = elim (cases_lt a n) [ inl later ↦ more later (picked-at n (a + 1) k f (omega (arith, later)) (omega (arith, high))) | inr here ↦ first (omega (arith, low, here)) ]
  where
    more : a < n → picked n f (range_with_len (a + 1) k) ≡ f n → picked n f (range_with_len a (suc k)) ≡ f n
    more later rest = ap (λ b. cond b (f a) [] ++ picked n f (range_with_len (a + 1) k)) (ne_eqb a n (λ same. omega (arith, same, later))) ∙ rest

    first : a ≡ n → picked n f (range_with_len a (suc k)) ≡ f n
    first same =
        ap (λ b. cond b (f a) [] ++ picked n f (range_with_len (a + 1) k)) (eq-eqb a n same)
        ∙ ap (λ l. f a ++ l) (picked-below n (a + 1) k f (omega (arith, same)))
        ∙ append-nil (f a)
        ∙ ap f same

-- ---- a number that no query has

text-below : (n k : ℕ) (f : Query → List ℕ) (qs : List Query) → IsNumbered k qs → n < k → flat_map (λ (q : Query). cond (eqb q.n n) (f q) []) qs ≡ []
text-below n k f [] e low = refl
text-below n k f (q ∷ qs) e low =
    let is = first-number k q qs e in
    ap (λ b. cond b (f q) [] ++ flat_map (λ (q : Query). cond (eqb q.n n) (f q) []) qs) (ne_eqb q.n n (λ same. omega (arith, same, is, low)))
    ∙ text-below n (k + 1) f qs (rest-numbered k q qs e) (omega (arith, low))

text-above : (n k : ℕ) (f : Query → List ℕ) (qs : List Query) → IsNumbered k qs → k + length qs ≤ n → flat_map (λ (q : Query). cond (eqb q.n n) (f q) []) qs ≡ []
text-above n k f [] e high = refl
text-above n k f (q ∷ qs) e high =
    let is = first-number k q qs e in
    ap (λ b. cond b (f q) [] ++ flat_map (λ (q : Query). cond (eqb q.n n) (f q) []) qs) (ne_eqb q.n n (λ same. omega (arith, same, is, high)))
    ∙ text-above n (k + 1) f qs (rest-numbered k q qs e) (omega (arith, high))

-- ---- the law

nothing-grew : (old new bytes : List ℕ) → new ≡ [] → bytes ≡ [] → (rest : List ℕ) → new ≡ old ++ rest → new ≡ old ++ bytes
nothing-grew [] new bytes none quiet rest e = none ∙ sym quiet
nothing-grew (b ∷ old) new bytes none quiet rest e = absurd (cc (sym none ∙ e))

-- each output has the bytes of its piece more
pub due-text : (c : Config) (h : List Item) (x : Item) (n : ℕ) → AllByRecursion InRange h → InRange x → text_of c (h ++ x ∷ []) n ≡ text_of c h n ++ bytes_for n (due c h x)
due-text c h x n all within =
    elim (cases_lt n 1) [ inl low ↦ below low | inr high ↦ elim (cases_lt n (1 + many)) [ inl low ↦ at high low | inr over ↦ above over ] ]
  where
    now : List Item
    now = h ++ x ∷ []

    many : ℕ
    many = length (book c now)

    f : ℕ → List ℕ
    f = more_text c h x

    grows : (rest : List ℕ) × (text_of c now n ≡ text_of c h n ++ rest)
    grows = text-grows c h x n all within

    bytes : bytes_for n (due c h x) ≡ picked n f (range_with_len 1 many)
    bytes = bytes_for-pieces n f (numbers c now) ∙ ap (picked n f) (book-in_order c now)

    none : text_of c now n ≡ [] → picked n f (range_with_len 1 many) ≡ [] → text_of c now n ≡ text_of c h n ++ bytes_for n (due c h x)
    none e quiet = nothing-grew (text_of c h n) (text_of c now n) (bytes_for n (due c h x)) e (bytes ∙ quiet) grows.0 grows.1

    below : n < 1 → text_of c now n ≡ text_of c h n ++ bytes_for n (due c h x)
    below low = none (text-below n 1 _ (book c now) (book-in_order c now) low) (picked-below n 1 many f low)

    above : 1 + many ≤ n → text_of c now n ≡ text_of c h n ++ bytes_for n (due c h x)
    above over = none (text-above n 1 _ (book c now) (book-in_order c now) over) (picked-above n 1 many f over)

    at : 1 ≤ n → n < 1 + many → text_of c now n ≡ text_of c h n ++ bytes_for n (due c h x)
    at high low =
        grows.1
        ∙ ap (λ l. text_of c h n ++ l)
        (sym (drop-appended (text_of c h n) (text_of c now n) grows.0 grows.1) ∙ sym (bytes ∙ picked-at n 1 many f high low))
