-- Numbers of queries that rise, and the pieces of queries.
use Rattle.std.proofs.Common.{◌≡◌, ◌≢◌, ℕ, ◌+◌, ◌<◌, nat_lt, eqb, min, Bool, true, false, cond, zero, suc, List, [], ◌∷◌, ◌++◌, map, length, get_or, set, take, drop, nat_le, refl, sym, ap, ap₂, subst, ◌∙◌, append-nil, take_all, arith}
use Rattle.std.specs.List.{filter, flat_map, list_all, AllByRecursion}
use Rattle.std.specs.List.Sorted.{IsStrictlyIncreasing}
use Rattle.std.proofs.lemmas.Bool.{and_parts, ltb-true, eq-eqb}
use Rattle.std.proofs.lemmas.Grind.{flat_map-append}
use Rattle.std.proofs.lemmas.List.{map-append, length-map, drop_all, take-append-drop}
use Rattle.std.proofs.lemmas.List.Sums.{sum_by-cons}
use Rattle.as_base.specs.declared.answer.Piece.{Piece}
use Rattle.as_base.specs.declared.item.Given.{Given}
use Rattle.as_base.specs.Pieces.{ArePieces, bytes_for}
use Rattle.as_base.specs.Times.{times}
use Rattle.views.proofs.ListLaws.{All-by, All-append, All-push, cond_same}
use Rattle.views.proofs.RisingLaws.{Rises, Rises-strictly}
use Rattle.plain_engine.specs.Held.{Held, is_needed}
use Rattle.plain_engine.specs.Walk.{put_by_time}
use Rattle.plain_engine.specs.Holding.{mark_by, with_records, piece_of, ended, wants_left, wants_right, with_given, forgotten}

-- ---- rising numbers

rest-increasing : (x : ℕ) (xs : List ℕ) → IsStrictlyIncreasing (x ∷ xs) → IsStrictlyIncreasing xs
rest-increasing x xs h k within =
    let e : suc k + 1 ≡ suc (k + 1) = omega arith in
    subst (λ n. get_or xs k 0 < get_or (x ∷ xs) n 0) e (h (suc k) (omega (arith, within)))

pub Rises-from : (ns : List ℕ) → IsStrictlyIncreasing ns → Rises ns
Rises-from [] h = tt
Rises-from (n ∷ ns) h = let rest = Rises-from ns (rest-increasing n ns h) in (first ns h rest, rest)
  where
    first : (l : List ℕ) → IsStrictlyIncreasing (n ∷ l) → Rises l → AllByRecursion (λ later. n < later) l
    first [] h r = tt
    first (m ∷ l) h r = let a = h 0 (omega arith) in (a, All-by (λ later. m < later) (λ later. n < later) (λ later k. omega (arith, k, a)) l r.0)

-- the numbers of what is held
abbrev pub numbers_of : List Held → List ℕ
numbers_of hs = map (λ (h : Held). h.n) hs

-- ---- numbers that rise after what is held was changed

abbrev pub KeepsNumbers : (Held → Held) → Type 0
KeepsNumbers f = (h : Held) → (f h).n ≡ h.n

numbers-map : (f : Held → Held) → KeepsNumbers f → (hs : List Held) → numbers_of (map f hs) ≡ numbers_of hs
numbers-map f keeps [] = refl
numbers-map f keeps (h ∷ hs) = ap₂ (λ n l. n ∷ l) (keeps h) (numbers-map f keeps hs)

pub rising-map : (f : Held → Held) → KeepsNumbers f → (hs : List Held) → IsStrictlyIncreasing (numbers_of hs) → IsStrictlyIncreasing (numbers_of (map f hs))
rising-map f keeps hs h = subst IsStrictlyIncreasing (sym (numbers-map f keeps hs)) h

All-kept : (P : ℕ → Type 0) (p : Held → Bool) (hs : List Held) → AllByRecursion P (numbers_of hs) → AllByRecursion P (numbers_of (filter p hs))
All-kept P p [] h = tt
All-kept P p (k ∷ hs) h = go (p k) (All-kept P p hs h.1)
  where
    go : (b : Bool) → AllByRecursion P (numbers_of (filter p hs)) → AllByRecursion P (numbers_of (cond b (k ∷ filter p hs) (filter p hs)))
    go true rest = (h.0, rest)
    go false rest = rest

Rises-kept : (p : Held → Bool) (hs : List Held) → Rises (numbers_of hs) → Rises (numbers_of (filter p hs))
Rises-kept p [] h = tt
Rises-kept p (k ∷ hs) h = go (p k) (Rises-kept p hs h.1)
  where
    go : (b : Bool) → Rises (numbers_of (filter p hs)) → Rises (numbers_of (cond b (k ∷ filter p hs) (filter p hs)))
    go true rest = (All-kept (λ later. k.n < later) p hs h.0, rest)
    go false rest = rest

pub rising-kept : (p : Held → Bool) (hs : List Held) → IsStrictlyIncreasing (numbers_of hs) → IsStrictlyIncreasing (numbers_of (filter p hs))
rising-kept p hs h = Rises-strictly (numbers_of (filter p hs)) (Rises-kept p hs (Rises-from (numbers_of hs) h))

Rises-push : (ns : List ℕ) (k : ℕ) → Rises ns → AllByRecursion (λ n. n < k) ns → Rises (ns ++ k ∷ [])
Rises-push [] k h low = (tt, tt)
Rises-push (n ∷ ns) k h low = (All-push (λ later. n < later) ns k h.0 low.0, Rises-push ns k h.1 low.1)

below_next : (n : ℕ) (hs : List Held) → list_all (λ (h : Held). nat_lt h.n n) hs ≡ true → AllByRecursion (λ m. m < n) (numbers_of hs)
below_next n [] h = tt
below_next n (k ∷ hs) h = let parts = and_parts (nat_lt k.n n) (list_all (λ (h : Held). nat_lt h.n n) hs) h in (ltb-true k.n n parts.0, below_next n hs parts.1)

pub rising-push : (hs : List Held) (k : Held) → list_all (λ (h : Held). nat_lt h.n k.n) hs ≡ true → IsStrictlyIncreasing (numbers_of hs) → IsStrictlyIncreasing (numbers_of (hs ++ k ∷ []))
rising-push hs k next h =
    subst IsStrictlyIncreasing (sym (map-append (λ (h : Held). h.n) hs (k ∷ [])))
    (Rises-strictly (numbers_of hs ++ k.n ∷ []) (Rises-push (numbers_of hs) k.n (Rises-from (numbers_of hs) h) (below_next k.n hs next)))

-- ---- pieces

pieces-above : (m : ℕ) (f : Held → List ℕ) (hs : List Held) → AllByRecursion (λ later. m < later) (numbers_of hs)
    → AllByRecursion (λ later. m < later) (map (λ (p : Piece). p.n) (flat_map (λ (h : Held). piece_of h.n (f h)) hs))
pieces-above m f [] h = tt
pieces-above m f (k ∷ hs) h = go (f k) (pieces-above m f hs h.1)
  where
    go : (bytes : List ℕ) → AllByRecursion (λ later. m < later) (map (λ (p : Piece). p.n) (flat_map (λ (h : Held). piece_of h.n (f h)) hs))
        → AllByRecursion (λ later. m < later) (map (λ (p : Piece). p.n) (piece_of k.n bytes ++ flat_map (λ (h : Held). piece_of h.n (f h)) hs))
    go [] rest = rest
    go (b ∷ bytes) rest = (h.0, rest)

pieces-Rises : (f : Held → List ℕ) (hs : List Held) → Rises (numbers_of hs) → Rises (map (λ (p : Piece). p.n) (flat_map (λ (h : Held). piece_of h.n (f h)) hs))
pieces-Rises f [] h = tt
pieces-Rises f (k ∷ hs) h = go (f k) (pieces-Rises f hs h.1)
  where
    go : (bytes : List ℕ) → Rises (map (λ (p : Piece). p.n) (flat_map (λ (h : Held). piece_of h.n (f h)) hs))
        → Rises (map (λ (p : Piece). p.n) (piece_of k.n bytes ++ flat_map (λ (h : Held). piece_of h.n (f h)) hs))
    go [] rest = rest
    go (b ∷ bytes) rest = (pieces-above k.n f hs h.0, rest)

pieces-full : (f : Held → List ℕ) (hs : List Held) → AllByRecursion (λ (p : Piece). p.bytes ≢ []) (flat_map (λ (h : Held). piece_of h.n (f h)) hs)
pieces-full f [] = tt
pieces-full f (k ∷ hs) = go (f k) (pieces-full f hs)
  where
    go : (bytes : List ℕ) → AllByRecursion (λ (p : Piece). p.bytes ≢ []) (flat_map (λ (h : Held). piece_of h.n (f h)) hs)
        → AllByRecursion (λ (p : Piece). p.bytes ≢ []) (piece_of k.n bytes ++ flat_map (λ (h : Held). piece_of h.n (f h)) hs)
    go [] rest = rest
    go (b ∷ bytes) rest = (λ same. cc, rest)

-- the pieces of queries whose numbers rise
pub pieces-are : (f : Held → List ℕ) (hs : List Held) → IsStrictlyIncreasing (numbers_of hs) → ArePieces (flat_map (λ (h : Held). piece_of h.n (f h)) hs)
pieces-are f hs h = record {
  rising = Rises-strictly (map (λ (p : Piece). p.n) (flat_map (λ (h : Held). piece_of h.n (f h)) hs)) (pieces-Rises f hs (Rises-from (numbers_of hs) h));
  full = pieces-full f hs;
}

bytes_for-piece : (n m : ℕ) (bytes : List ℕ) → bytes_for n (piece_of m bytes) ≡ cond (eqb m n) bytes []
bytes_for-piece n m [] = sym (cond_same (eqb m n) [])
bytes_for-piece n m (b ∷ bytes) = append-nil (cond (eqb m n) (b ∷ bytes) [])

-- what they have for query n
pub bytes_for-pieces : (n : ℕ) (f : Held → List ℕ) (hs : List Held) → bytes_for n (flat_map (λ (h : Held). piece_of h.n (f h)) hs) ≡ flat_map (λ (h : Held). cond (eqb h.n n) (f h) []) hs
bytes_for-pieces n f [] = refl
bytes_for-pieces n f (k ∷ hs) =
    flat_map-append (λ (p : Piece). cond (eqb p.n n) p.bytes []) (piece_of k.n (f k)) (flat_map (λ (h : Held). piece_of h.n (f h)) hs)
    ∙ ap₂ (λ a b. a ++ b) (bytes_for-piece n k.n (f k)) (bytes_for-pieces n f hs)

-- where the queries' numbers are among some numbers, each piece's number is
pub pieces-known : (f : Held → List ℕ) (ns : List ℕ) (hs : List Held) → AllByRecursion (λ (h : Held). 0 < times h.n ns) hs → AllByRecursion (λ (p : Piece). 0 < times p.n ns) (flat_map (λ (h : Held). piece_of h.n (f h)) hs)
pieces-known f ns [] h = tt
pieces-known f ns (k ∷ hs) h =
    All-append (λ (p : Piece). 0 < times p.n ns) (piece_of k.n (f k)) (flat_map (λ (h : Held). piece_of h.n (f h)) hs) (one (f k)) (pieces-known f ns hs h.1)
  where
    one : (bytes : List ℕ) → AllByRecursion (λ (p : Piece). 0 < times p.n ns) (piece_of k.n bytes)
    one [] = tt
    one (b ∷ bytes) = (h.0, tt)

-- each number is among the numbers
pub each-among : {X : Type 0} (f : X → ℕ) (xs : List X) → AllByRecursion (λ x. 0 < times (f x) (map f xs)) xs
each-among f [] = tt
each-among {X} f (x ∷ xs) = (
  let e = sum_by-cons (λ m. cond (eqb m (f x)) 1 0) (f x) (map f xs) in let s = ap {B = ℕ} (λ b. cond b 1 0) (eq-eqb (f x) (f x) refl) in omega (arith, e, s),
  All-by (λ y. 0 < times (f y) (map f xs)) (λ y. 0 < times (f y) (map f (x ∷ xs))) (λ y h. let e = sum_by-cons (λ m. cond (eqb m (f y)) 1 0) (f x) (map f xs) in omega (arith, e, h)) xs (each-among f xs),
)

-- ---- what stands in a vector whose elements were written

written : (len : ℕ) (old new : List Held) → len ≡ length old → length new ≡ length old → take len (new ++ drop (length new) old) ≡ new
written len old new e same =
    ap (λ l. take len (new ++ l)) (drop_all (length new) old (omega (arith, same)))
    ∙ ap (take len) (append-nil new)
    ∙ take_all len new (omega (arith, e, same))

pub written-map : (f : Held → Held) (len : ℕ) (items old new : List Held) → len ≡ length items → old ≡ items → new ≡ map f old → take len (new ++ drop (length new) items) ≡ map f items
written-map f len items old new e same is =
    let all : new ≡ map f items = is ∙ ap (map f) same in
    written len items new e (ap length all ∙ length-map items f) ∙ all

pub written-numbers : (len : ℕ) (items old new : List Held) → len ≡ length items → old ≡ items → numbers_of new ≡ numbers_of old → numbers_of (take len (new ++ drop (length new) items)) ≡ numbers_of items
written-numbers len items old new e same is =
    let all : numbers_of new ≡ numbers_of items = is ∙ ap numbers_of same in
    ap numbers_of (written len items new e (sym (length-map new (λ (h : Held). h.n)) ∙ ap length all ∙ length-map items (λ (h : Held). h.n))) ∙ all

pub KeepsNumbers-ended : (n at : ℕ) → KeepsNumbers (ended n at)
KeepsNumbers-ended n at h = go (eqb h.n n)
  where
    go : (b : Bool) → (cond b (record { n = h.n; plan = h.plan; from = h.from; to = min h.to at; lefts = h.lefts; rights = h.rights }) h).n ≡ h.n
    go true = refl
    go false = refl

pub KeepsNumbers-given : (g : Given) → KeepsNumbers (with_given g)
KeepsNumbers-given g h = go (wants_left h g) (wants_right h g)
  where
    go : (left right : Bool) → (cond left (with_records h (put_by_time g h.lefts) h.rights) (cond right (with_records h h.lefts (put_by_time g h.rights)) h)).n ≡ h.n
    go true right = refl
    go false true = refl
    go false false = refl

pub KeepsNumbers-forgotten : (marks : List ℕ) → KeepsNumbers (λ (h : Held). forgotten (mark_by marks h.plan) h)
KeepsNumbers-forgotten marks h = go (nat_le h.to (mark_by marks h.plan))
  where
    go : (b : Bool) → (cond b h (with_records h (filter (is_needed h.plan.win (mark_by marks h.plan)) h.lefts) (filter (is_needed h.plan.win (mark_by marks h.plan)) h.rights))).n ≡ h.n
    go true = refl
    go false = refl

-- the numbers while some were changed
pub numbers-some : (f : Held → Held) → KeepsNumbers f → (i : ℕ) (hs : List Held) → numbers_of (map f (take i hs) ++ drop i hs) ≡ numbers_of hs
numbers-some f keeps i hs =
    map-append (λ (h : Held). h.n) (map f (take i hs)) (drop i hs)
    ∙ ap (λ l. l ++ numbers_of (drop i hs)) (numbers-map f keeps (take i hs))
    ∙ sym (map-append (λ (h : Held). h.n) (take i hs) (drop i hs))
    ∙ ap numbers_of (take-append-drop i hs)

-- the numbers after one was put back as it was
pub numbers-set : (hs : List Held) (i : ℕ) (h d : Held) → h ≡ get_or hs i d → i < length hs → numbers_of (set hs i h) ≡ numbers_of hs
numbers-set [] i h d e within = absurd (omega (arith, within))
numbers-set (k ∷ hs) zero h d e within = ap (λ (x : Held). x.n ∷ numbers_of hs) e
numbers-set (k ∷ hs) (suc i) h d e within = ap (λ l. k.n ∷ l) (numbers-set hs i h d e (omega (arith, within)))

-- the numbers rise after a push, and after one that found no memory
pub rising-pushed : (b : Bool) (hs new : List Held) (k : Held) → new ≡ cond b (hs ++ k ∷ []) hs → list_all (λ (h : Held). nat_lt h.n k.n) hs ≡ true → IsStrictlyIncreasing (numbers_of hs) → IsStrictlyIncreasing (numbers_of new)
rising-pushed true hs new k e next h = subst (λ l. IsStrictlyIncreasing (numbers_of l)) (sym e) (rising-push hs k next h)
rising-pushed false hs new k e next h = subst (λ l. IsStrictlyIncreasing (numbers_of l)) (sym e) h
