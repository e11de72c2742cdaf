-- What an item adds to a measure of all outputs together, as their length: the measure of its pieces.
use Rattle.std.proofs.Common.{◌≡◌, ℕ, ◌+◌, ◌<◌, ◌⊎◌, inl, inr, ⊎_elim, eqb, Bool, true, false, true≢false, cond, List, [], ◌∷◌, ◌++◌, refl, sym, ap, ap₂, ◌∙◌, eq-eqb, arith}
use Rattle.std.specs.List.{sum_by, AllByRecursion}
use Rattle.std.proofs.lemmas.Bool.{ne_eqb, eqb-true}
use Rattle.std.proofs.lemmas.List.Sums.{sum_by-append, sum_by-cons}
use Rattle.as_base.specs.declared.config.Config.{Config}
use Rattle.as_base.specs.declared.item.Item.{Item}
use Rattle.as_base.specs.declared.answer.Fed.{Fed}
use Rattle.as_base.specs.declared.answer.Piece.{Piece}
use Rattle.as_base.specs.Pieces.{bytes_for}
use Rattle.as_base.specs.Times.{times}
use Rattle.as_base.proofs.TimesLaws.{times-cons}
use Rattle.session.specs.Book.{numbers}
use Rattle.session.specs.Outcome.{Adds, IsFed, created}
use Rattle.session.specs.View.{text_of}
use Rattle.session.proofs.NumberLaws.{number_once}
use Rattle.session.proofs.TextLaws.{text_of-none}

-- a measure of texts: no text has none, and of two texts joined it is the sum
pub record IsMeasure (m : List ℕ → ℕ) : Type 0 where
  pub none : m [] ≡ 0
  pub joined : (a b : List ℕ) → m (a ++ b) ≡ m a + m b

-- ---- sums over a list

-- a sum goes by the terms alone
pub sum-same : {X : Type 0} (f g : X → ℕ) (xs : List X) → ((x : X) → f x ≡ g x) → sum_by f xs ≡ sum_by g xs
sum-same f g [] e = refl
sum-same f g (x ∷ xs) e = omega (arith, sum_by-cons f x xs, sum_by-cons g x xs, e x, sum-same f g xs e)

sum-both : {X : Type 0} (f g : X → ℕ) (xs : List X) → sum_by (λ x. f x + g x) xs ≡ sum_by f xs + sum_by g xs
sum-both f g [] = refl
sum-both f g (x ∷ xs) = omega (arith, sum_by-cons f x xs, sum_by-cons g x xs, sum_by-cons (λ y. f y + g y) x xs, sum-both f g xs)

sum-none : {X : Type 0} (xs : List X) → sum_by (λ x. 0) xs ≡ 0
sum-none [] = refl
sum-none (x ∷ xs) = omega (arith, sum_by-cons (λ y. 0) x xs, sum-none xs)

-- ---- sums over numbers

times-here : (n : ℕ) (ns : List ℕ) → times n (n ∷ ns) ≡ 1 + times n ns
times-here n ns =
    let here : times n (n ∷ []) ≡ 1 = ap (λ b. 0 + cond b 1 0) (eq-eqb n n refl) in
    omega (arith, here, times-cons n n ns)

-- where each number of the list has none, all have none
sum-numbers-none : (f : ℕ → ℕ) (ns : List ℕ) → ((n : ℕ) → 0 < times n ns → f n ≡ 0) → sum_by f ns ≡ 0
sum-numbers-none f [] none = refl
sum-numbers-none f (n ∷ ns) none =
    let rest = sum-numbers-none f ns (λ k some. none k (omega (arith, some, times-cons k n ns))) in
    omega (arith, sum_by-cons f n ns, none n (omega (arith, times-here n ns)), rest)

-- so much at this number, and nothing at the others
abbrev only_at : ℕ → ℕ → ℕ → ℕ
only_at n k i = cond (eqb n i) k 0

only_at-times : (n k i : ℕ) (ns : List ℕ) → ((eqb n i ≡ true) × (times n (i ∷ ns) ≡ 1 + times n ns)) ⊎ ((eqb n i ≡ false) × (times n (i ∷ ns) ≡ times n ns))
only_at-times n k i ns = go (eqb i n) refl
  where
    go : (b : Bool) → eqb i n ≡ b → ((eqb n i ≡ true) × (times n (i ∷ ns) ≡ 1 + times n ns)) ⊎ ((eqb n i ≡ false) × (times n (i ∷ ns) ≡ times n ns))
    go true is =
        let same = eqb-true i n is in
        let here : times n (i ∷ []) ≡ 1 = ap (λ b. 0 + cond b 1 0) is in
        inl (eq-eqb n i (sym same), omega (arith, here, times-cons n i ns))
    go false is =
        let here : times n (i ∷ []) ≡ 0 = ap (λ b. 0 + cond b 1 0) is in
        inr (ne_eqb n i (λ same. true≢false (sym (eq-eqb i n (sym same)) ∙ is)), omega (arith, here, times-cons n i ns))

only-absent : (n k : ℕ) (ns : List ℕ) → times n ns ≡ 0 → sum_by (only_at n k) ns ≡ 0
only-absent n k [] none = refl
only-absent n k (i ∷ ns) none =
    ⊎_elim
    (λ here. absurd (omega (arith, here.1, none)))
    (λ other.
    let zero : only_at n k i ≡ 0 = ap (λ b. cond b k 0) other.0 in
    omega (arith, sum_by-cons (only_at n k) i ns, zero, only-absent n k ns (omega (arith, other.1, none))))
    (only_at-times n k i ns)

only-once : (n k : ℕ) (ns : List ℕ) → times n ns ≡ 1 → sum_by (only_at n k) ns ≡ k
only-once n k [] once = absurd (omega (arith, once))
only-once n k (i ∷ ns) once =
    ⊎_elim
    (λ here.
    let it : only_at n k i ≡ k = ap (λ b. cond b k 0) here.0 in
    omega (arith, sum_by-cons (only_at n k) i ns, it, only-absent n k ns (omega (arith, here.1, once))))
    (λ other.
    let zero : only_at n k i ≡ 0 = ap (λ b. cond b k 0) other.0 in
    omega (arith, sum_by-cons (only_at n k) i ns, zero, only-once n k ns (omega (arith, other.1, once))))
    (only_at-times n k i ns)

-- ---- what pieces have for the outputs

-- the measure of what the pieces have for output n is the sum over those that are its own
measure_for : (m : List ℕ → ℕ) → IsMeasure m → (n : ℕ) (pieces : List Piece) → m (bytes_for n pieces) ≡ sum_by (λ (p : Piece). only_at p.n (m p.bytes) n) pieces
measure_for m is n [] = is.none
measure_for m is n (p ∷ pieces) =
    let here : m (cond (eqb p.n n) p.bytes []) ≡ only_at p.n (m p.bytes) n = go (eqb p.n n) in
    omega (
      arith,
      is.joined (cond (eqb p.n n) p.bytes []) (bytes_for n pieces),
      here,
      measure_for m is n pieces,
      sum_by-cons (λ (q : Piece). only_at q.n (m q.bytes) n) p pieces,
    )
  where
    go : (b : Bool) → m (cond b p.bytes []) ≡ cond b (m p.bytes) 0
    go true = refl
    go false = is.none

-- each piece is for one of the outputs, so their sums are those of all pieces
sum-pieces : (f : Piece → ℕ) (ns : List ℕ) (pieces : List Piece) → AllByRecursion (λ (p : Piece). times p.n ns ≡ 1) pieces
    → sum_by (λ n. sum_by (λ (p : Piece). only_at p.n (f p) n) pieces) ns ≡ sum_by f pieces
sum-pieces f ns [] once = sum-none ns
sum-pieces f ns (p ∷ pieces) once =
    sum-same (λ n. sum_by (λ (q : Piece). only_at q.n (f q) n) (p ∷ pieces)) (λ n. only_at p.n (f p) n + sum_by (λ (q : Piece). only_at q.n (f q) n) pieces) ns
    (λ n. sum_by-cons (λ (q : Piece). only_at q.n (f q) n) p pieces)
    ∙ sum-both (only_at p.n (f p)) (λ n. sum_by (λ (q : Piece). only_at q.n (f q) n) pieces) ns
    ∙ ap₂ (λ a b. a + b) (only-once p.n (f p) ns once.0) (sum-pieces f ns pieces once.1)
    ∙ sym (sum_by-cons f p pieces)

once_each : (c : Config) (h : List Item) (pieces : List Piece) → AllByRecursion (λ (p : Piece). 0 < times p.n (numbers c h)) pieces → AllByRecursion (λ (p : Piece). times p.n (numbers c h) ≡ 1) pieces
once_each c h [] known = tt
once_each c h (p ∷ pieces) known = (omega (arith, known.0, number_once c h p.n), once_each c h pieces known.1)

-- ---- what an item adds

-- the measure of all outputs together
abbrev pub measure_of : (List ℕ → ℕ) → Config → List Item → ℕ
measure_of m c h = sum_by (λ n. m (text_of c h n)) (numbers c h)

-- a new query had no text, so the texts before have the same measure by the numbers after
measure-before : (m : List ℕ → ℕ) → IsMeasure m → (c : Config) (h h' : List Item) (queries : List ℕ) (pieces : List Piece) → Adds c h h' queries pieces
    → sum_by (λ n. m (text_of c h n)) (numbers c h') ≡ measure_of m c h
measure-before m is c h h' queries pieces adds =
    let all = ap (sum_by (λ n. m (text_of c h n))) adds.book in
    let parts = sum_by-append (λ n. m (text_of c h n)) (numbers c h) queries in
    let new = sum-numbers-none (λ n. m (text_of c h n)) queries (λ n some. ap m (text_of-none c h n (adds.fresh n some)) ∙ is.none) in
    omega (arith, all, parts, new)

pub measure-adds : (m : List ℕ → ℕ) → IsMeasure m → (c : Config) (h h' : List Item) (queries : List ℕ) (pieces : List Piece) → Adds c h h' queries pieces
    → measure_of m c h' ≡ measure_of m c h + sum_by (λ (p : Piece). m p.bytes) pieces
measure-adds m is c h h' queries pieces adds =
    sum-same (λ n. m (text_of c h' n)) (λ n. m (text_of c h n) + sum_by (λ (p : Piece). only_at p.n (m p.bytes) n) pieces) (numbers c h')
    (λ n. ap m (adds.text n) ∙ is.joined (text_of c h n) (bytes_for n pieces) ∙ ap (λ k. m (text_of c h n) + k) (measure_for m is n pieces))
    ∙ sum-both (λ n. m (text_of c h n)) (λ n. sum_by (λ (p : Piece). only_at p.n (m p.bytes) n) pieces) (numbers c h')
    ∙ ap₂ (λ a b. a + b) (measure-before m is c h h' queries pieces adds)
    (sum-pieces (λ (p : Piece). m p.bytes) (numbers c h') pieces (once_each c h' pieces adds.known))

-- An item adds to the measure of all outputs that of its pieces.
pub measure-fed : (m : List ℕ → ℕ) → IsMeasure m → (c : Config) (h : List Item) (x : Item) (fed : Fed) → IsFed c h x fed
    → measure_of m c (h ++ x ∷ []) ≡ measure_of m c h + sum_by (λ (p : Piece). m p.bytes) fed.pieces
measure-fed m is c h x fed told = measure-adds m is c h (h ++ x ∷ []) (created fed.answer) fed.pieces told.adds
