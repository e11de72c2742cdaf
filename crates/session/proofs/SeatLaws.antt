-- Seats and slots: a seat more, a seat less, and the seat of a number.
use Rattle.std.proofs.Common.{◌≡◌, ◌≢◌, ℕ, ◌+◌, ◌<◌, ◌≤◌, zero, suc, eqb, nat_lt, Bool, true, false, true≢false, cond, not, ◌||◌, Some, None, is_none, unwrap_or, List, [], ◌∷◌, ◌++◌, map, length, get_or, set, count_by, refl, sym, ap, ◌∙◌, arith}
use Rattle.std.specs.List.{filter, list_any, position, position_or_len, remove}
use Rattle.std.proofs.lemmas.Bool.{ne_eqb, eqb-true, eq-eqb, eqb-false, lt-ltb, ltb-true}
use Rattle.std.proofs.lemmas.Bool.Decides.{nat_tests}
use Rattle.std.proofs.lemmas.List.{map-append, get_or-set_same, get_or-set_other}
use Rattle.std.proofs.lemmas.List.Sums.{sum_by-cons}
use Rattle.as_base.specs.Times.{times}
use Rattle.as_base.proofs.TimesLaws.{times-append, times-cons}
use Rattle.slot_alloc.specs.Slots.{is_live}
use Rattle.slot_alloc.proofs.SlotLaws.{live-within}
use Rattle.session.specs.declared.session.Seat.{Seat}
use Rattle.session.specs.Seats.{AreSeated}

-- the slots of the seats
abbrev pub seat_slots : List Seat → List ℕ
seat_slots seats = map (λ (s : Seat). s.slot) seats

-- the numbers of the seats
abbrev pub seat_numbers : List Seat → List ℕ
seat_numbers seats = map (λ (s : Seat). s.n) seats

-- a seat that takes a free slot
pub seat-more : (slots : List Bool) (seats : List Seat) (s : Seat) → AreSeated slots seats → s.slot < length slots → is_live slots s.slot ≡ false → AreSeated (set slots s.slot true) (seats ++ s ∷ [])
seat-more slots seats s seated within free slot =
    ap (times slot) (map-append (λ (t : Seat). t.slot) seats (s ∷ []))
    ∙ times-append slot (seat_slots seats) (s.slot ∷ [])
    ∙ ap (λ n. n + times slot (s.slot ∷ [])) (seated slot)
    ∙ go (eqb slot s.slot) refl
  where
    go : (b : Bool) → eqb slot s.slot ≡ b → cond (is_live slots slot) 1 0 + times slot (s.slot ∷ []) ≡ cond (is_live (set slots s.slot true) slot) 1 0
    go true e =
        let same = eqb-true slot s.slot e in
        let before : ◌≡◌ {A = ℕ} (cond (is_live slots slot) 1 0) 0 = ap {B = ℕ} (λ b. cond b 1 0) (ap (is_live slots) same ∙ free) in
        let now : ◌≡◌ {A = ℕ} (cond (is_live (set slots s.slot true) slot) 1 0) 1 = ap {B = ℕ} (λ b. cond b 1 0) (ap (is_live (set slots s.slot true)) same ∙ get_or-set_same slots s.slot true false within) in
        let it : ◌≡◌ {A = ℕ} (times slot (s.slot ∷ [])) 1 = let t = ap {B = ℕ} (λ b. cond b 1 0) (eq-eqb s.slot slot (sym same)) in omega (arith, t) in
        omega (arith, before, now, it)
    go false e =
        let apart = eqb-false slot s.slot e in
        let now : is_live (set slots s.slot true) slot ≡ is_live slots slot = get_or-set_other slots s.slot slot true false apart in
        let same : ◌≡◌ {A = ℕ} (cond (is_live (set slots s.slot true) slot) 1 0) (cond (is_live slots slot) 1 0) = ap {B = ℕ} (λ b. cond b 1 0) now in
        let it : ◌≡◌ {A = ℕ} (times slot (s.slot ∷ [])) 0 = let t = ap {B = ℕ} (λ b. cond b 1 0) (ne_eqb s.slot slot (λ h. apart (sym h))) in omega (arith, t) in
        omega (arith, same, it)

-- how often a number stands in a list, one of whose places is gone
times-remove : (f : Seat → ℕ) (n : ℕ) (seats : List Seat) (i : ℕ) (d : Seat) → i < length seats → times n (map f (remove seats i)) + times n (f (get_or seats i d) ∷ []) ≡ times n (map f seats)
times-remove f n [] i d within = absurd (omega (arith, within))
times-remove f n (s ∷ seats) zero d within = let e = times-cons n (f s) (map f seats) in omega (arith, e)
times-remove f n (s ∷ seats) (suc i) d within =
    let e = times-cons n (f s) (map f seats) in
    let r = times-cons n (f s) (map f (remove seats i)) in
    let rest = times-remove f n seats i d (omega (arith, within)) in
    omega (arith, e, r, rest)

times-itself : (n m : ℕ) → n ≡ m → ◌≡◌ {A = ℕ} (times n (m ∷ [])) 1
times-itself n m same = let t = ap {B = ℕ} (λ b. cond b 1 0) (eq-eqb m n (sym same)) in omega (arith, t)

times-other : (n m : ℕ) → n ≢ m → ◌≡◌ {A = ℕ} (times n (m ∷ [])) 0
times-other n m apart = let t = ap {B = ℕ} (λ b. cond b 1 0) (ne_eqb m n (λ h. apart (sym h))) in omega (arith, t)

one_or_none : (b : Bool) → 1 ≤ cond b 1 0 → b ≡ true
one_or_none true h = refl
one_or_none false h = absurd (omega (arith, h))

-- the slot of a seat is live
pub seat-live : (slots : List Bool) (seats : List Seat) (i : ℕ) (d : Seat) → AreSeated slots seats → i < length seats → is_live slots (get_or seats i d).slot ≡ true
seat-live slots seats i d seated within =
    let slot = (get_or seats i d).slot in
    let e = times-remove (λ (s : Seat). s.slot) slot seats i d within in
    let it = times-itself slot slot refl in
    let here = seated slot in
    one_or_none (is_live slots slot) (omega (arith, e, it, here))

-- a seat less, whose slot is free then
pub seat-less : (slots : List Bool) (seats : List Seat) (i : ℕ) (d : Seat) → AreSeated slots seats → i < length seats → AreSeated (set slots (get_or seats i d).slot false) (remove seats i)
seat-less slots seats i d seated within slot = go (eqb slot mine) refl
  where
    mine : ℕ
    mine = (get_or seats i d).slot

    go : (b : Bool) → eqb slot mine ≡ b → times slot (seat_slots (remove seats i)) ≡ cond (is_live (set slots mine false) slot) 1 0
    go true e =
        let same = eqb-true slot mine e in
        let live = seat-live slots seats i d seated within in
        let now : ◌≡◌ {A = ℕ} (cond (is_live (set slots mine false) slot) 1 0) 0 =
        ap {B = ℕ} (λ b. cond b 1 0) (ap (is_live (set slots mine false)) same ∙ get_or-set_same slots mine false false (live-within slots mine live)) in
        let was : ◌≡◌ {A = ℕ} (cond (is_live slots slot) 1 0) 1 = ap {B = ℕ} (λ b. cond b 1 0) (ap (is_live slots) same ∙ live) in
        let all = times-remove (λ (s : Seat). s.slot) slot seats i d within in
        let it = times-itself slot mine same in
        let here = seated slot in
        omega (arith, now, was, all, it, here)
    go false e =
        let apart = eqb-false slot mine e in
        let now : ◌≡◌ {A = ℕ} (cond (is_live (set slots mine false) slot) 1 0) (cond (is_live slots slot) 1 0) =
        ap {B = ℕ} (λ b. cond b 1 0) (get_or-set_other slots mine slot false false apart) in
        let all = times-remove (λ (s : Seat). s.slot) slot seats i d within in
        let it = times-other slot mine apart in
        let here = seated slot in
        omega (arith, now, all, it, here)

-- ---- the one that passes a test, and the others

none-passes : {X : Type 0} (p : X → Bool) (xs : List X) → count_by p xs ≡ 0 → filter (λ x. not (p x)) xs ≡ xs
none-passes p [] e = refl
none-passes p (x ∷ xs) e = go (p x) refl (λ none. none-passes p xs none)
  where
    go : (b : Bool) → p x ≡ b → (count_by p xs ≡ 0 → filter (λ x. not (p x)) xs ≡ xs) → cond (not b) (x ∷ filter (λ x. not (p x)) xs) (filter (λ x. not (p x)) xs) ≡ x ∷ xs
    go true is rest = let c = sum_by-cons (λ x. cond (p x) 1 0) x xs in let t = ap {B = ℕ} (λ b. cond b 1 0) is in absurd (omega (arith, c, t, e))
    go false is rest = let c = sum_by-cons (λ x. cond (p x) 1 0) x xs in ap (λ l. x ∷ l) (rest (omega (arith, c, e)))

remove-suc : {X : Type 0} (x : X) (xs : List X) (i : ℕ) → remove (x ∷ xs) (1 + i) ≡ x ∷ remove xs i
remove-suc x xs i = let e : 1 + i ≡ suc i = omega arith in ap (remove (x ∷ xs)) e

-- where one passes at most, the others are those without the first that passes
pub filter-one : {X : Type 0} (p : X → Bool) (xs : List X) → position_or_len p xs < length xs → count_by p xs ≤ 1 → filter (λ x. not (p x)) xs ≡ remove xs (position_or_len p xs)
filter-one p [] within few = absurd (omega (arith, within))
filter-one p (x ∷ xs) within few = go (p x) refl within (λ inside one. filter-one p xs inside one)
  where
    go : (b : Bool) → p x ≡ b → cond (not b) (1 + position_or_len p xs) 0 < length (x ∷ xs) → (position_or_len p xs < length xs → count_by p xs ≤ 1 → filter (λ x. not (p x)) xs ≡ remove xs (position_or_len p xs))
        → cond (not b) (x ∷ filter (λ x. not (p x)) xs) (filter (λ x. not (p x)) xs) ≡ remove (x ∷ xs) (cond (not b) (1 + position_or_len p xs) 0)
    go true is within rest =
        let c = sum_by-cons (λ x. cond (p x) 1 0) x xs in let t = ap {B = ℕ} (λ b. cond b 1 0) is in
        none-passes p xs (omega (arith, c, t, few))
    go false is within rest =
        let c = sum_by-cons (λ x. cond (p x) 1 0) x xs in
        ap (λ l. x ∷ l) (rest (omega (arith, within)) (omega (arith, c, few))) ∙ sym (remove-suc x xs (position_or_len p xs))

-- where none passes, all are left
pub filter-none : {X : Type 0} (p : X → Bool) (xs : List X) → list_any p xs ≡ false → filter (λ x. not (p x)) xs ≡ xs
filter-none p [] e = refl
filter-none p (x ∷ xs) e = go (p x) e (λ none. filter-none p xs none)
  where
    go : (b : Bool) → (b || list_any p xs) ≡ false → (list_any p xs ≡ false → filter (λ x. not (p x)) xs ≡ xs) → cond (not b) (x ∷ filter (λ x. not (p x)) xs) (filter (λ x. not (p x)) xs) ≡ x ∷ xs
    go true e rest = absurd (true≢false e)
    go false e rest = ap (λ l. x ∷ l) (rest e)

-- some element passes just where the first that does is within the list
pub list_any-position : {X : Type 0} (p : X → Bool) (xs : List X) → list_any p xs ≡ nat_lt (position_or_len p xs) (length xs)
list_any-position p [] = refl
list_any-position p (x ∷ xs) = go (p x) (list_any-position p xs)
  where
    go : (b : Bool) → list_any p xs ≡ nat_lt (position_or_len p xs) (length xs) → (b || list_any p xs) ≡ nat_lt (cond (not b) (1 + position_or_len p xs) 0) (length (x ∷ xs))
    go true e = sym (lt-ltb 0 (length (x ∷ xs)) (omega arith))
    go false e = e ∙ grind (arith, nat_tests)

pub position-none : {X : Type 0} (p : X → Bool) (xs : List X) → position p xs ≡ None → list_any p xs ≡ false
position-none p xs e = list_any-position p xs ∙ go (nat_lt (position_or_len p xs) (length xs)) e
  where
    go : (b : Bool) → cond b (Some (position_or_len p xs)) None ≡ None → b ≡ false
    go true e = absurd (true≢false (sym (ap is_none e)))
    go false e = refl

pub position-some : {X : Type 0} (p : X → Bool) (xs : List X) (i : ℕ) → position p xs ≡ Some i → (position_or_len p xs ≡ i) × (i < length xs)
position-some p xs i e = go (nat_lt (position_or_len p xs) (length xs)) refl e
  where
    go : (b : Bool) → nat_lt (position_or_len p xs) (length xs) ≡ b → cond b (Some (position_or_len p xs)) None ≡ Some i → (position_or_len p xs ≡ i) × (i < length xs)
    go true is e = let same : position_or_len p xs ≡ i = ap (λ o. unwrap_or o 0) e in let low = ltb-true (position_or_len p xs) (length xs) is in (same, omega (arith, same, low))
    go false is e = absurd (true≢false (ap is_none e))

-- as many seats have the number as pass the test for it
pub count-number : (n : ℕ) (seats : List Seat) → count_by (λ (s : Seat). eqb s.n n) seats ≡ times n (seat_numbers seats)
count-number n [] = refl
count-number n (s ∷ seats) =
    let a = sum_by-cons (λ (s : Seat). cond (eqb s.n n) 1 0) s seats in
    let b = sum_by-cons (λ m. cond (eqb m n) 1 0) s.n (seat_numbers seats) in
    let e = count-number n seats in
    omega (arith, a, b, e)

-- the slot of the first seat with the number, or 0
abbrev pub slot_in : ℕ → List Seat → ℕ
slot_in n [] = 0
slot_in n (s ∷ seats) = cond (eqb s.n n) s.slot (slot_in n seats)

pub slot_in-at : (n : ℕ) (seats : List Seat) (d : Seat) → position_or_len (λ (s : Seat). eqb s.n n) seats < length seats → slot_in n seats ≡ (get_or seats (position_or_len (λ (s : Seat). eqb s.n n) seats) d).slot
slot_in-at n [] d within = absurd (omega (arith, within))
slot_in-at n (s ∷ seats) d within = go (eqb s.n n) within (λ inside. slot_in-at n seats d inside)
  where
    at : ℕ
    at = position_or_len (λ (s : Seat). eqb s.n n) seats

    go : (b : Bool) → cond (not b) (1 + at) 0 < length (s ∷ seats) → (at < length seats → slot_in n seats ≡ (get_or seats at d).slot) → cond b s.slot (slot_in n seats) ≡ (get_or (s ∷ seats) (cond (not b) (1 + at) 0) d).slot
    go true within rest = refl
    go false within rest = let e : suc at ≡ 1 + at = omega arith in rest (omega (arith, within)) ∙ ap (λ i. (get_or (s ∷ seats) i d).slot) e
