-- Starts of intervals: which of them is the last that is not after a value, and what one more or one less changes.
use Rattle.std.proofs.Common.{◌≡◌, inl, inr, ℕ, zero, suc, ◌+◌, ◌-◌, ◌^◌, ◌≤◌, ◌<◌, ℤ, pos, negsuc, ◌+ℤ◌, ◌≤ℤ◌, ◌<ℤ◌, int_le, int_lt, Bool, true, false, cond, ◌&&◌, true≢false, List, [], ◌∷◌, map, length, get_or, set, FitsSigned, to_z, of_z, w64, refl, sym, ap, ap₂, subst, ◌∙◌, arith}
use Rattle.std.specs.List.{insert, remove}
use Rattle.std.specs.List.Sorted.{IsPartitionedBy}
use Rattle.std.proofs.lemmas.Int.{ints, to_z-of_z}
use borrow.Rule.Slice.PartMut.{put_mid, mid_of}
use Rattle.as_base.specs.Query.{is_within, lowest, highest}
use Rattle.box_lanes.specs.declared.start.Start.{Start}
use Rattle.box_lanes.specs.Index.{last_of, last_start, look, Rises, IsTable, IsBefore, IsUntil, HasStart, IsCut, HasEnds, put_slot, put_within, IsMarked}

-- ---- tests of signed numbers

le-from : (a b : ℤ) → int_le a b ≡ true → a ≤ℤ b
le-from a b h = grind (arith, ints)

le-to : (a b : ℤ) → a ≤ℤ b → int_le a b ≡ true
le-to a b h = grind (arith, ints)

lt-from_not : (a b : ℤ) → int_le a b ≡ false → b <ℤ a
lt-from_not a b h = grind (arith, ints)

not-from_lt : (a b : ℤ) → b <ℤ a → int_le a b ≡ false
not-from_lt a b h = grind (arith, ints)

lt-to : (a b : ℤ) → a <ℤ b → int_lt a b ≡ true
lt-to a b h = grind (arith, ints)

lt-from : (a b : ℤ) → int_lt a b ≡ true → a <ℤ b
lt-from a b h = grind (arith, ints)

le-from_not_lt : (a b : ℤ) → int_lt a b ≡ false → b ≤ℤ a
le-from_not_lt a b h = grind (arith, ints)

alike : (a b : Bool) → (a ≡ true → b ≡ true) → (b ≡ true → a ≡ true) → a ≡ b
alike true true f g = refl
alike true false f g = sym (f refl)
alike false true f g = g refl
alike false false f g = refl

-- numbers with the same bits are the same
pub same-by_bits : (a b : ℤ) → FitsSigned w64 a → FitsSigned w64 b → of_z w64 a ≡ of_z w64 b → a ≡ b
same-by_bits a b fa fb e = sym (to_z-of_z w64 a fa) ∙ ap (to_z w64) e ∙ to_z-of_z w64 b fb

-- ---- places

rising_above : (z : ℤ) (ss : List Start) → Rises z ss → (k : ℕ) (d : Start) → k < length ss → z <ℤ (get_or ss k d).low
rising_above z [] h k d lt = absurd (omega (arith, lt))
rising_above z (s ∷ ss) h zero d lt = h.0
rising_above z (s ∷ ss) h (suc k) d lt = let a = h.0 in let b = rising_above s.low ss h.1 k d (omega (arith, lt)) in omega (arith, ints, a, b)

parted : (p : ℤ → Bool) → ((a b : ℤ) → a <ℤ b → p b ≡ true → p a ≡ true) → (z : ℤ) (ss : List Start) → Rises z ss → IsPartitionedBy (λ (s : Start). p s.low) ss
parted p falls z [] h i j d le lt is = absurd (omega (arith, lt))
parted p falls z (s ∷ ss) h zero zero d le lt is = is
parted p falls z (s ∷ ss) h zero (suc j) d le lt is = falls s.low (get_or ss j d).low (rising_above s.low ss h.1 j d (omega (arith, lt))) is
parted p falls z (s ∷ ss) h (suc i) zero d le lt is = absurd (omega (arith, le))
parted p falls z (s ∷ ss) h (suc i) (suc j) d le lt is = parted p falls s.low ss h.1 i j d (omega (arith, le)) (omega (arith, lt)) is

table_rises : (xs : List Start) → IsTable xs → Rises (negsuc (2 ^ 63)) xs
table_rises [] h = absurd h
table_rises (s ∷ ss) h = (let a = h.0 in omega (arith, ints, a), h.1)

pub parted-until : (v : ℤ) (xs : List Start) → IsTable xs → IsPartitionedBy (λ (s : Start). int_le s.low v) xs
parted-until v xs h = parted (λ z. int_le z v) (λ a b lt is. let le = le-from b v is in le-to a v (omega (arith, ints, lt, le))) (negsuc (2 ^ 63)) xs (table_rises xs h)

pub parted-before : (v : ℤ) (xs : List Start) → IsTable xs → IsPartitionedBy (λ (s : Start). int_lt s.low v) xs
parted-before v xs h = parted (λ z. int_lt z v) (λ a b lt is. let le = lt-from b v is in lt-to a v (omega (arith, ints, lt, le))) (negsuc (2 ^ 63)) xs (table_rises xs h)

-- the same, start by start
abbrev AtPlace : ℕ → List Start → ℤ → Type 0
AtPlace zero [] v = Unit {0}
AtPlace zero (t ∷ ts) v = int_le t.low v ≡ false
AtPlace (suc k) [] v = ⊥
AtPlace (suc k) (t ∷ ts) v = (int_le t.low v ≡ true) × AtPlace k ts v

rest-until : (v : ℤ) (s : Start) (ss : List Start) (n : ℕ) → IsUntil v (s ∷ ss) (suc n) → IsUntil v ss n
rest-until v s ss n h = (λ k d low high. h.0 (suc k) d (omega (arith, low)) (omega (arith, high)), λ k d low high. h.1 (suc k) d (omega (arith, low)) (omega (arith, high)))

at_place : (v : ℤ) (k : ℕ) (ss : List Start) → IsUntil v ss k → k ≤ length ss → AtPlace k ss v
at_place v zero [] h le = tt
at_place v zero (t ∷ ts) h le = h.1 0 t (omega arith) (omega arith)
at_place v (suc k) [] h le = absurd (omega (arith, le))
at_place v (suc k) (t ∷ ts) h le = (h.0 0 t (omega arith) (omega arith), at_place v k ts (rest-until v t ts k h) (omega (arith, le)))

pub some_until : (v : ℤ) (xs : List Start) (n : ℕ) → IsTable xs → FitsSigned w64 v → IsUntil v xs n → 0 < n
some_until v [] n h fits point = absurd h
some_until v (s ∷ ss) (suc n) h fits point = omega arith
some_until v (s ∷ ss) zero h fits point =
    let first = h.0 in
    let least : s.low ≤ℤ v = omega (arith, ints, first, fits) in
    absurd (true≢false (sym (le-to s.low v least) ∙ point.1 0 s (omega arith) (omega arith)))

last_at : (k : ℕ) (s : Start) (ss : List Start) (v : ℤ) (d : Start) → AtPlace k ss v → get_or (s ∷ ss) k d ≡ last_of s ss v
last_at zero s [] v d h = refl
last_at zero s (t ∷ ts) v d h = sym (ap (λ b. cond b (last_of t ts v) s) h)
last_at (suc k) s [] v d h = absurd h
last_at (suc k) s (t ∷ ts) v d h = last_at k t ts v d h.1 ∙ sym (ap (λ b. cond b (last_of t ts v) s) h.0)

pub last_until : (v : ℤ) (xs : List Start) (n : ℕ) (d : Start) → IsTable xs → 0 < n → n ≤ length xs → IsUntil v xs n → get_or xs (n - 1) d ≡ last_start xs v
last_until v [] n d h some le point = absurd h
last_until v (s ∷ ss) zero d h some le point = absurd (omega (arith, some))
last_until v (s ∷ ss) (suc k) d h some le point =
    ap (λ n. get_or (s ∷ ss) n d) (omega arith) ∙ last_at k s ss v d (at_place v k ss (rest-until v s ss k point) (omega (arith, le)))

-- ---- one start more

same_set : (s t : Start) (ss : List Start) (u : ℤ) → s.set ≡ t.set → (last_of s ss u).set ≡ (last_of t ss u).set
same_set s t [] u e = e
same_set s t (x ∷ ss) u e = branch (int_le x.low u)
  where
    branch : (b : Bool) → (cond b (last_of x ss u) s).set ≡ (cond b (last_of x ss u) t).set
    branch true = refl
    branch false = e

before_all : (s t : Start) (ts : List Start) (u : ℤ) → u <ℤ t.low → last_of s (t ∷ ts) u ≡ s
before_all s t ts u lt = ap (λ b. cond b (last_of t ts u) s) (not-from_lt t.low u lt)

insert_same : (k : ℕ) (s x : Start) (ss : List Start) (u : ℤ) (d : Start) → AtPlace k ss x.low → x.set ≡ (get_or (s ∷ ss) k d).set → (last_of s (insert ss k x) u).set ≡ (last_of s ss u).set
insert_same zero s x [] u d h e = branch (int_le x.low u)
  where
    branch : (b : Bool) → (cond b x s).set ≡ s.set
    branch true = e
    branch false = refl
insert_same zero s x (t ∷ ts) u d h e = branch (int_le x.low u) refl
  where
    branch : (b : Bool) → int_le x.low u ≡ b → (cond b (last_of x (t ∷ ts) u) s).set ≡ (last_of s (t ∷ ts) u).set
    branch true same = same_set x s (t ∷ ts) u e
    branch false same =
        let below = lt-from_not x.low u same in
        let above = lt-from_not t.low x.low h in
        sym (ap (λ (y : Start). y.set) (before_all s t ts u (omega (arith, ints, below, above))))
insert_same (suc k) s x [] u d h e = absurd h
insert_same (suc k) s x (t ∷ ts) u d h e = branch (insert_same k t x ts u d h.1 e) (int_le t.low u)
  where
    branch : (last_of t (insert ts k x) u).set ≡ (last_of t ts u).set → (b : Bool) → (cond b (last_of t (insert ts k x) u) s).set ≡ (cond b (last_of t ts u) s).set
    branch same true = same
    branch same false = refl

insert_rises : (k : ℕ) (s x : Start) (ss : List Start) (d : Start) → Rises s.low ss → AtPlace k ss x.low → (get_or (s ∷ ss) k d).low <ℤ x.low → Rises s.low (insert ss k x)
insert_rises zero s x [] d h p lt = (lt, tt)
insert_rises zero s x (t ∷ ts) d h p lt = (lt, (lt-from_not t.low x.low p, h.1))
insert_rises (suc k) s x [] d h p lt = absurd p
insert_rises (suc k) s x (t ∷ ts) d h p lt = (h.0, insert_rises k t x ts d h.1 p.1 lt)

insert_here : (k : ℕ) (ss : List Start) (x : Start) → AtPlace k ss x.low → HasStart x.low (insert ss k x)
insert_here zero [] x p = inl refl
insert_here zero (t ∷ ts) x p = inl refl
insert_here (suc k) [] x p = absurd p
insert_here (suc k) (t ∷ ts) x p = inr (insert_here k ts x p.1)

insert_keeps : (k : ℕ) (ss : List Start) (x : Start) (y : ℤ) → AtPlace k ss x.low → HasStart y ss → HasStart y (insert ss k x)
insert_keeps zero [] x y p h = absurd h
insert_keeps zero (t ∷ ts) x y p h = inr h
insert_keeps (suc k) [] x y p h = absurd p
insert_keeps (suc k) (t ∷ ts) x y p (inl e) = inl e
insert_keeps (suc k) (t ∷ ts) x y p (inr h) = inr (insert_keeps k ts x y p.1 h)

last_low : (s : Start) (ss : List Start) (v : ℤ) → s.low ≤ℤ v → (last_of s ss v).low ≤ℤ v
last_low s [] v le = le
last_low s (t ∷ ts) v le = branch (last_low t ts v) (int_le t.low v) refl
  where
    branch : (t.low ≤ℤ v → (last_of t ts v).low ≤ℤ v) → (b : Bool) → int_le t.low v ≡ b → (cond b (last_of t ts v) s).low ≤ℤ v
    branch rest true same = rest (le-from t.low v same)
    branch rest false same = le

table_low : (s : Start) (v : ℤ) → s.low ≡ lowest → FitsSigned w64 v → s.low ≤ℤ v
table_low s v e fits = omega (arith, ints, e, fits)

pub inserted : (xs : List Start) (n : ℕ) (x : Start) → IsTable xs → FitsSigned w64 x.low → 0 < n → n ≤ length xs → IsUntil x.low xs n → x.set ≡ (last_start xs x.low).set → ¬ ((last_start xs x.low).low ≡ x.low) → IsTable (insert xs n x) × IsCut x.low xs (insert xs n x)
inserted [] n x h fits some le point set apart = absurd h
inserted (s ∷ ss) zero x h fits some le point set apart = absurd (omega (arith, some))
inserted (s ∷ ss) (suc k) x h fits some le point set apart =
    let place = at_place x.low k ss (rest-until x.low s ss k point) (omega (arith, le)) in
    let last : get_or (s ∷ ss) k x ≡ last_of s ss x.low = last_at k s ss x.low x place in
    let low = last_low s ss x.low (table_low s x.low h.0 fits) in
    let under : (last_of s ss x.low).low <ℤ x.low = apart_lt (last_of s ss x.low).low x.low low apart in (
      (h.0, insert_rises k s x ss x h.1 place (subst (λ (y : Start). y.low <ℤ x.low) (sym last) under)),
      record {
        here = inr (insert_here k ss x place);
        kept = λ y has. keep y has place;
        same = λ u. insert_same k s x ss u x place (set ∙ sym (ap (λ (y : Start). y.set) last));
      },
    )
  where
    apart_lt : (a b : ℤ) → a ≤ℤ b → ¬ (a ≡ b) → a <ℤ b
    apart_lt a b le not = by_cases (int_lt a b) refl
      where
        by_cases : (t : Bool) → int_lt a b ≡ t → a <ℤ b
        by_cases true e = lt-from a b e
        by_cases false e = let back = le-from_not_lt a b e in absurd (not (omega (arith, ints, le, back)))

    keep : (y : ℤ) → HasStart y (s ∷ ss) → AtPlace k ss x.low → HasStart y (s ∷ insert ss k x)
    keep y (inl e) place = inl e
    keep y (inr g) place = inr (insert_keeps k ss x y place g)

has_last : (s : Start) (ss : List Start) (v : ℤ) → HasStart (last_of s ss v).low (s ∷ ss)
has_last s [] v = inl refl
has_last s (t ∷ ts) v = branch (has_last t ts v) (int_le t.low v)
  where
    branch : HasStart (last_of t ts v).low (t ∷ ts) → (b : Bool) → HasStart (cond b (last_of t ts v) s).low (s ∷ t ∷ ts)
    branch h true = inr h
    branch h false = inl refl

-- the value is a start
pub is_cut : (xs : List Start) (v : ℤ) → IsTable xs → (last_start xs v).low ≡ v → IsCut v xs xs
is_cut [] v h e = absurd h
is_cut (s ∷ ss) v h e = record { here = subst (λ y. HasStart y (s ∷ ss)) e (has_last s ss v); kept = λ y has. has; same = λ u. refl }

-- the last start that is not after the value is at it
pub cut-there : (xs : List Start) (value : ℤ) (n : ℕ) (s : Start) → IsTable xs → FitsSigned w64 value → FitsSigned w64 s.low → 0 < n → n ≤ length xs → IsUntil value xs n → s ≡ get_or xs (n - 1) s → of_z w64 s.low ≡ of_z w64 value → IsCut value xs xs
cut-there xs value n s table fits wide some bound point is e =
    let last = is ∙ last_until value xs n s table some bound point in
    is_cut xs value table (sym (ap (λ (x : Start). x.low) last) ∙ same-by_bits s.low value wide fits e)

-- it is not, and a start was inserted, or there was no room
pub cut-new : (xs new : List Start) (value : ℤ) (n : ℕ) (s : Start) (made : Bool) → IsTable xs → FitsSigned w64 value → 0 < n → n ≤ length xs → IsUntil value xs n → s ≡ get_or xs (n - 1) s → ¬ (of_z w64 s.low ≡ of_z w64 value) → new ≡ cond made (insert xs n (record { low = value; set = s.set })) xs → IsTable new × (made ≡ true → IsCut value xs new)
cut-new xs new value n s made table fits some bound point is apart e = by_cases made e
  where
    last : s ≡ last_start xs value
    last = is ∙ last_until value xs n s table some bound point

    x : Start
    x = record { low = value; set = s.set }

    both : IsTable (insert xs n x) × IsCut value xs (insert xs n x)
    both = inserted xs n x table fits some bound point (ap (λ (y : Start). y.set) last) (λ same. apart (ap (of_z w64) (ap (λ (y : Start). y.low) last ∙ same)))

    by_cases : (b : Bool) → new ≡ cond b (insert xs n x) xs → IsTable new × (b ≡ true → IsCut value xs new)
    by_cases true eq = (subst IsTable (sym eq) both.0, λ h. subst (IsCut value xs) (sym eq) both.1)
    by_cases false eq = (subst IsTable (sym eq) table, λ h. absurd (true≢false (sym h)))

-- ---- the last start that is not after a value

last_up : (s : Start) (ss : List Start) (v : ℤ) → Rises s.low ss → s.low ≤ℤ (last_of s ss v).low
last_up s [] v h = omega (arith, ints)
last_up s (t ∷ ts) v h = branch (last_up t ts v h.1) (int_le t.low v)
  where
    branch : t.low ≤ℤ (last_of t ts v).low → (b : Bool) → s.low ≤ℤ (cond b (last_of t ts v) s).low
    branch up true = let a = h.0 in omega (arith, ints, a, up)
    branch up false = omega (arith, ints)

start_above : (z y : ℤ) (ss : List Start) → Rises z ss → HasStart y ss → z <ℤ y
start_above z y [] h has = absurd has
start_above z y (s ∷ ss) h (inl e) = let a = h.0 in omega (arith, ints, a, e)
start_above z y (s ∷ ss) h (inr g) = let a = h.0 in let b = start_above s.low y ss h.1 g in omega (arith, ints, a, b)

start_from : (s : Start) (y : ℤ) (ss : List Start) → Rises s.low ss → HasStart y (s ∷ ss) → s.low ≤ℤ y
start_from s y ss h (inl e) = omega (arith, ints, e)
start_from s y ss h (inr g) = let a = start_above s.low y ss h g in omega (arith, ints, a)

last_above : (s : Start) (ss : List Start) (v z : ℤ) → Rises s.low ss → HasStart z (s ∷ ss) → z ≤ℤ v → z ≤ℤ (last_of s ss v).low
last_above s ss v z h (inl e) le = let a = last_up s ss v h in omega (arith, ints, a, e)
last_above s [] v z h (inr g) le = absurd g
last_above s (t ∷ ts) v z h (inr g) le =
    let from = start_from t z ts h.1 g in
    let in_time : int_le t.low v ≡ true = le-to t.low v (omega (arith, ints, from, le)) in
    subst (λ (y : Start). z ≤ℤ y.low) (sym (ap (λ b. cond b (last_of t ts v) s) in_time)) (last_above t ts v z h.1 g le)

-- ---- the starts of an interval

within_low : (slot : ℕ) (low high : ℤ) (on : Bool) (s : Start) → (put_within slot low high on s).low ≡ s.low
within_low slot low high on s = branch (is_within low s.low high)
  where
    branch : (b : Bool) → (cond b (put_slot slot on s) s).low ≡ s.low
    branch true = refl
    branch false = refl

last_map : (f : Start → Start) → ((s : Start) → (f s).low ≡ s.low) → (s : Start) (ss : List Start) (v : ℤ) → last_of (f s) (map f ss) v ≡ f (last_of s ss v)
last_map f keeps s [] v = refl
last_map f keeps s (t ∷ ts) v = ap (λ z. cond (int_le z v) (last_of (f t) (map f ts) v) (f s)) (keeps t) ∙ branch (last_map f keeps t ts v) (int_le t.low v)
  where
    branch : last_of (f t) (map f ts) v ≡ f (last_of t ts v) → (b : Bool) → cond b (last_of (f t) (map f ts) v) (f s) ≡ f (cond b (last_of t ts v) s)
    branch same true = same
    branch same false = refl

rises_map : (f : Start → Start) → ((s : Start) → (f s).low ≡ s.low) → (z : ℤ) (ss : List Start) → Rises z ss → Rises z (map f ss)
rises_map f keeps z [] h = tt
rises_map f keeps z (s ∷ ss) h = (subst (λ y. z <ℤ y) (sym (keeps s)) h.0, subst (λ y. Rises y (map f ss)) (sym (keeps s)) (rises_map f keeps s.low ss h.1))

table_map : (f : Start → Start) → ((s : Start) → (f s).low ≡ s.low) → (xs : List Start) → IsTable xs → IsTable (map f xs)
table_map f keeps [] h = absurd h
table_map f keeps (s ∷ ss) h = (keeps s ∙ h.0, subst (λ y. Rises y (map f ss)) (sym (keeps s)) (rises_map f keeps s.low ss h.1))

pub table_put : (slot : ℕ) (low high : ℤ) (on : Bool) (xs : List Start) → IsTable xs → IsTable (map (put_within slot low high on) xs)
table_put slot low high on xs h = table_map (put_within slot low high on) (within_low slot low high on) xs h

within_alike : (low l v high : ℤ) → l ≤ℤ v → (low ≤ℤ v → low ≤ℤ l) → (high <ℤ v → high <ℤ l) → is_within low l high ≡ is_within low v high
within_alike low l v high le from past =
    ap₂ (λ a b. a && b)
    (alike (int_le low l) (int_le low v)
    (λ e. let a = le-from low l e in le-to low v (omega (arith, ints, a, le)))
    (λ e. le-to low l (from (le-from low v e))))
    (alike (int_le l high) (int_le v high)
    (λ e. by_cases e (int_le v high) refl)
    (λ e. let a = le-from v high e in le-to l high (omega (arith, ints, a, le))))
  where
    by_cases : int_le l high ≡ true → (b : Bool) → int_le v high ≡ b → b ≡ true
    by_cases e true same = refl
    by_cases e false same =
        let a = le-from l high e in
        let b = past (lt-from_not v high same) in
        absurd (omega (arith, ints, a, b))

pub marked : (slot : ℕ) (low high : ℤ) (on : Bool) (old mid : List Start) → IsTable mid → HasEnds low high old mid → IsMarked slot low high on old (map (put_within slot low high on) mid)
marked slot low high on old [] h ends v fits = absurd h
marked slot low high on old (s ∷ ss) h ends v fits =
    let f : Start → Start = put_within slot low high on in
    let l : Start = last_of s ss v in
    let not_after = last_low s ss v (table_low s v h.0 fits) in
    let from = λ (le : low ≤ℤ v). last_above s ss v low h.1 ends.first le in
    let past = λ (lt : high <ℤ v).
    let top : high <ℤ highest = omega (arith, ints, lt, fits) in
    let next = last_above s ss v (high +ℤ pos 1) h.1 (ends.past top) (omega (arith, ints, lt)) in
    let more : high <ℤ (last_of s ss v).low = omega (arith, ints, next) in
    more in
    ap (λ (x : Start). x.set) (last_map f (within_low slot low high on) s ss v)
    ∙ ap (λ b. (cond b (put_slot slot on l) l).set) (within_alike low l.low v high not_after from past)
    ∙ branch (is_within low v high) l
    ∙ ap (λ xs. cond (is_within low v high) (set xs slot on) xs) (ends.same v)
  where
    branch : (b : Bool) (l : Start) → (cond b (put_slot slot on l) l).set ≡ cond b (set l.set slot on) l.set
    branch true l = refl
    branch false l = refl

pub before_until : (low high : ℤ) (xs : List Start) (from to : ℕ) (d : Start) → low ≤ℤ high → from ≤ length xs → IsBefore low xs from → IsUntil high xs to → from ≤ to
before_until low high xs from to d le bound before until =
    let not : ¬ (to < from) = λ less.
    let a = lt-from (get_or xs to d).low low (before.0 to d (omega arith) less) in
    let b = lt-from_not (get_or xs to d).low high (until.1 to d (omega arith) (omega (arith, less, bound))) in
    absurd (omega (arith, ints, a, b, le)) in
    omega (arith, not)

-- a part of a list is changed by g, which is f there, and f changes nothing else
changed : (f g : Start → Start) (from many : ℕ) (xs : List Start) (d : Start) → ((k : ℕ) → k < from → k < length xs → f (get_or xs k d) ≡ get_or xs k d) → ((k : ℕ) → from ≤ k → k < from + many → k < length xs → f (get_or xs k d) ≡ g (get_or xs k d)) → ((k : ℕ) → from + many ≤ k → k < length xs → f (get_or xs k d) ≡ get_or xs k d) → put_mid from many xs (map g (mid_of from many xs)) ≡ map f xs
changed f g zero zero [] d before inside past = refl
changed f g zero (suc m) [] d before inside past = refl
changed f g (suc n) zero [] d before inside past = refl
changed f g (suc n) (suc m) [] d before inside past = refl
changed f g zero zero (x ∷ xs) d before inside past =
    ap₂ (λ y ys. y ∷ ys) (sym (past 0 (omega arith) (omega arith)))
    (changed f g zero zero xs d (λ k l h. absurd (omega (arith, l))) (λ k l u h. absurd (omega (arith, u))) (λ k l h. past (suc k) (omega arith) (omega (arith, h))))
changed f g zero (suc m) (x ∷ xs) d before inside past =
    ap₂ (λ y ys. y ∷ ys) (sym (inside 0 (omega arith) (omega arith) (omega arith)))
    (changed f g zero m xs d (λ k l h. absurd (omega (arith, l))) (λ k l u h. inside (suc k) (omega arith) (omega (arith, u)) (omega (arith, h))) (λ k l h. past (suc k) (omega (arith, l)) (omega (arith, h))))
changed f g (suc n) m (x ∷ xs) d before inside past =
    ap₂ (λ y ys. y ∷ ys) (sym (before 0 (omega arith) (omega arith)))
    (changed f g n m xs d (λ k l h. before (suc k) (omega (arith, l)) (omega (arith, h))) (λ k l u h. inside (suc k) (omega (arith, l)) (omega (arith, u)) (omega (arith, h))) (λ k l h. past (suc k) (omega (arith, l)) (omega (arith, h))))

put-out : (slot : ℕ) (low high : ℤ) (on : Bool) (s : Start) → is_within low s.low high ≡ false → put_within slot low high on s ≡ s
put-out slot low high on s e = ap (λ b. cond b (put_slot slot on s) s) e

put-in : (slot : ℕ) (low high : ℤ) (on : Bool) (s : Start) → is_within low s.low high ≡ true → put_within slot low high on s ≡ put_slot slot on s
put-in slot low high on s e = ap (λ b. cond b (put_slot slot on s) s) e

within-below : (low z high : ℤ) → z <ℤ low → is_within low z high ≡ false
within-below low z high lt = ap (λ b. b && int_le z high) (not-from_lt low z lt)

within-above : (low z high : ℤ) → high <ℤ z → is_within low z high ≡ false
within-above low z high lt = ap (λ b. int_le low z && b) (not-from_lt z high lt) ∙ last (int_le low z)
  where
    last : (b : Bool) → (b && false) ≡ false
    last true = refl
    last false = refl

within-both : (low z high : ℤ) → low ≤ℤ z → z ≤ℤ high → is_within low z high ≡ true
within-both low z high a b = ap₂ (λ p q. p && q) (le-to low z a) (le-to z high b)

pub put-range : (slot : ℕ) (low high : ℤ) (on : Bool) (xs : List Start) (from to : ℕ) (d : Start) → low ≤ℤ high → from ≤ length xs → IsBefore low xs from → IsUntil high xs to → put_mid from (to - from) xs (map (put_slot slot on) (mid_of from (to - from) xs)) ≡ map (put_within slot low high on) xs
put-range slot low high on xs from to d le bound before until =
    let order = before_until low high xs from to d le bound before until in
    changed (put_within slot low high on) (put_slot slot on) from (to - from) xs d
    (λ k l h. put-out slot low high on (get_or xs k d) (within-below low (get_or xs k d).low high (lt-from (get_or xs k d).low low (before.0 k d (omega arith) l))))
    (λ k l u h. put-in slot low high on (get_or xs k d) (within-both low (get_or xs k d).low high (le-from_not_lt (get_or xs k d).low low (before.1 k d l h)) (le-from (get_or xs k d).low high (until.0 k d (omega arith) (omega (arith, u, order))))))
    (λ k l h. put-out slot low high on (get_or xs k d) (within-above low (get_or xs k d).low high (lt-from_not (get_or xs k d).low high (until.1 k d (omega (arith, l, order)) h))))

-- ---- one start less

remove_rises : (k : ℕ) (z : ℤ) (ss : List Start) → Rises z ss → k < length ss → Rises z (remove ss k)
remove_rises k z [] h lt = absurd (omega (arith, lt))
remove_rises zero z (t ∷ []) h lt = tt
remove_rises zero z (t ∷ u ∷ us) h lt = let a = h.0 in let b = h.1.0 in (omega (arith, ints, a, b), h.1.1)
remove_rises (suc k) z (t ∷ ts) h lt = (h.0, remove_rises k t.low ts h.1 (omega (arith, lt)))

remove_same : (k : ℕ) (s : Start) (ss : List Start) (u : ℤ) (d e : Start) → Rises s.low ss → k < length ss → (get_or (s ∷ ss) k d).set ≡ (get_or ss k e).set → (last_of s (remove ss k) u).set ≡ (last_of s ss u).set
remove_same k s [] u d e h lt same = absurd (omega (arith, lt))
remove_same zero s (t ∷ ts) u d e h lt same = branch (int_le t.low u) refl
  where
    nothing : (xs : List Start) → Rises t.low xs → u <ℤ t.low → last_of s xs u ≡ s
    nothing [] r below = refl
    nothing (x ∷ xs) r below = let a = r.0 in before_all s x xs u (omega (arith, ints, a, below))

    branch : (b : Bool) → int_le t.low u ≡ b → (last_of s ts u).set ≡ (cond b (last_of t ts u) s).set
    branch true is = same_set s t ts u same
    branch false is = ap (λ (x : Start). x.set) (nothing ts h.1 (lt-from_not t.low u is))
remove_same (suc k) s (t ∷ ts) u d e h lt same = branch (remove_same k t ts u d e h.1 (omega (arith, lt)) same) (int_le t.low u)
  where
    branch : (last_of t (remove ts k) u).set ≡ (last_of t ts u).set → (b : Bool) → (cond b (last_of t (remove ts k) u) s).set ≡ (cond b (last_of t ts u) s).set
    branch is true = is
    branch is false = refl

pub table_remove : (xs : List Start) (k : ℕ) → IsTable xs → suc k < length xs → IsTable (remove xs (suc k))
table_remove [] k h lt = absurd h
table_remove (s ∷ ss) k h lt = (h.0, remove_rises k s.low ss h.1 (omega (arith, lt)))

pub look_remove : (xs : List Start) (k : ℕ) (u : ℤ) (d e : Start) → IsTable xs → suc k < length xs → (get_or xs k d).set ≡ (get_or xs (suc k) e).set → look (remove xs (suc k)) u ≡ look xs u
look_remove [] k u d e h lt same = absurd h
look_remove (s ∷ ss) k u d e h lt same = remove_same k s ss u d e h.1 (omega (arith, lt)) same

-- a start was removed whose slots are those of the start before it
pub removed : (xs new : List Start) (n : ℕ) (s t : Start) → IsTable xs → 2 ≤ n → n ≤ length xs → s ≡ get_or xs (n - 2) s → t ≡ get_or xs (n - 1) t → s.set ≡ t.set → new ≡ remove xs (n - 1) → IsTable new × ((v : ℤ) → look new v ≡ look xs v)
removed xs new n s t table two bound first second same e =
    let place : n - 1 ≡ suc (n - 2) = omega (arith, two) in
    let low : suc (n - 2) < length xs = omega (arith, two, bound) in
    let new_is : new ≡ remove xs (suc (n - 2)) = e ∙ ap (remove xs) place in
    let alike_set : (get_or xs (n - 2) s).set ≡ (get_or xs (suc (n - 2)) t).set = sym (ap (λ (x : Start). x.set) first) ∙ same ∙ ap (λ (x : Start). x.set) (second ∙ ap (λ m. get_or xs m t) place) in
    (subst IsTable (sym new_is) (table_remove xs (n - 2) table low), λ v. ap (λ ys. look ys v) new_is ∙ look_remove xs (n - 2) v s t table low alike_set)
