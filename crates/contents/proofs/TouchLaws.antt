-- A slot is quiet between two times just where no change between their epochs touches it.
use Rattle.std.proofs.Common.{◌≡◌, inl, inr, ℕ, zero, suc, ◌-◌, ◌^◌, ◌≤◌, ◌<◌, ◌&&◌, ◌||◌, not, nat_le, nat_lt, max, min, eqb, Bool, cond, true, false, List, [], ◌∷◌, ◌++◌, map, take, drop, length, replicate, get_or, set, refl, sym, ap, ◌∙◌, arith, get_or-set_same, get_or-set_other}
use Rattle.std.proofs.lemmas.Bool.{le-leb, lt-leb, lt-ltb, le-ltb, cases_lt, cases_eq, and_parts, and_left, and_right, eq-eqb, ne_eqb, or_parts, or_from, both_ways}
use Rattle.std.proofs.lemmas.List.FromFn.{get_or-map-range_with_len}
use Rattle.std.proofs.lemmas.List.{get_or-replicate, length-replicate}
use Rattle.std.specs.List.{list_any, fold, AllByRecursion}
use Rattle.as_base.specs.declared.message.Change.{Change}
use Rattle.as_base.specs.declared.message.Change.TheVariants.{Opened, Closed}
use Rattle.as_base.specs.declared.stream.StreamId.{StreamId}
use Rattle.changelog.specs.Orderly.{Suits, MayAllFollow, IsOrderly}
use Rattle.changelog.proofs.HolderLaws.{AreFine, unended-by, fine-held}
use Rattle.changelog.specs.Changes.{slot_of, times_of, epoch_at, Rises}
use Rattle.changelog.proofs.NumberLaws.{one-more, none-more, until-above}
use Rattle.changelog_set.specs.Sets.{has, some_has, entries, unchanged}
use Rattle.views.specs.IsHolder.{time_of, IsUnended}
use Rattle.views.specs.Query.{is_live}
use Rattle.views.specs.Slots.{Holder, opened_holder, closed_holder, held, holders_of, up_to, cut}
use Rattle.views.proofs.CutLaws.{cut-le}
use Rattle.views.proofs.NumberLaws.{ended}
use Rattle.contents.specs.Pairs.{comes_in, stirs, is_quiet}
use Rattle.contents.specs.Touched.{touched_by, touched}

-- the change is of the slot, and came between the times
abbrev pub moves : ℕ → ℕ → ℕ → Change → Bool
moves slot t u c = eqb (slot_of c) slot && comes_in t u (time_of c)

abbrev touches : ℕ → Change → Bool
touches slot c = eqb (slot_of c) slot

-- ---- epochs

by-time : (c : Change) (cs : List Change) (t : ℕ) → time_of c ≤ t → epoch_at (c ∷ cs) t ≡ suc (epoch_at cs t)
by-time c cs t l = one-more t (time_of c) (times_of cs) l

not-by : (c : Change) (cs : List Change) (t : ℕ) → t < time_of c → epoch_at (c ∷ cs) t ≡ epoch_at cs t
not-by c cs t l = none-more t (time_of c) (times_of cs) l

none-by : (c : Change) (cs : List Change) (t : ℕ) → AllByRecursion (λ n. time_of c ≤ n) (times_of cs) → t < time_of c → epoch_at cs t ≡ 0
none-by c cs t a l = until-above (time_of c) (times_of cs) t a l

and-on : (x y : Bool) → y ≡ true → (x && y) ≡ x
and-on true y e = e
and-on false y e = refl

-- between two epochs come just the changes between two times
between : (cs : List Change) (slot t u : ℕ) → Rises cs → t ≤ u → list_any (touches slot) (drop (epoch_at cs t) (take (epoch_at cs u) cs)) ≡ list_any (moves slot t u) cs
between [] slot t u r l = none (epoch_at [] t) (epoch_at [] u)
  where
    none : (n m : ℕ) → list_any (touches slot) (drop n (take m [])) ≡ false
    none zero zero = refl
    none zero (suc m) = refl
    none (suc n) zero = refl
    none (suc n) (suc m) = refl
between (c ∷ cs) slot t u r l = elim (cases_lt t (time_of c)) [
  | inl a ↦ elim (cases_lt u (time_of c)) [
    | inl b ↦ (let z = none-by c cs t r.0 a in let w = none-by c cs u r.0 b in
        ap (λ n. list_any (touches slot) (drop n (take (epoch_at (c ∷ cs) u) (c ∷ cs)))) (not-by c cs t a ∙ z)
        ∙ ap (λ n. list_any (touches slot) (take n (c ∷ cs))) (not-by c cs u b ∙ w)
        ∙ sym (ap (λ x. x || list_any (moves slot t u) cs) (and_right (touches slot c) (comes_in t u (time_of c)) (and_right (nat_lt t (time_of c)) (nat_le (time_of c) u) (lt-leb (time_of c) u b)))
        ∙ sym (between cs slot t u r.1 l) ∙ ap (λ n. list_any (touches slot) (drop n (take (epoch_at cs u) cs))) z ∙ ap (λ n. list_any (touches slot) (take n cs)) w))
    | inr b ↦ (let z = none-by c cs t r.0 a in
        ap (λ n. list_any (touches slot) (drop n (take (epoch_at (c ∷ cs) u) (c ∷ cs)))) (not-by c cs t a ∙ z)
        ∙ ap (λ n. list_any (touches slot) (take n (c ∷ cs))) (by-time c cs u b)
        ∙ ap (λ x. touches slot c || x) (sym (ap (λ n. list_any (touches slot) (drop n (take (epoch_at cs u) cs))) z) ∙ between cs slot t u r.1 l)
        ∙ sym (ap (λ x. x || list_any (moves slot t u) cs) (and-on (touches slot c) (comes_in t u (time_of c)) (ap (λ x. x && nat_le (time_of c) u) (lt-ltb t (time_of c) a) ∙ le-leb (time_of c) u b))))
  ]
  | inr a ↦
      ap (λ n. list_any (touches slot) (drop n (take (epoch_at (c ∷ cs) u) (c ∷ cs)))) (by-time c cs t a)
      ∙ ap (λ n. list_any (touches slot) (drop (suc (epoch_at cs t)) (take n (c ∷ cs)))) (by-time c cs u (omega (arith, a, l)))
      ∙ between cs slot t u r.1 l
      ∙ sym (ap (λ x. x || list_any (moves slot t u) cs) (and_right (touches slot c) (comes_in t u (time_of c)) (and_left (nat_lt t (time_of c)) (nat_le (time_of c) u) (le-ltb t (time_of c) a))))
]

-- ---- changes and holders

late : (t u n : ℕ) → u < n → comes_in t u n ≡ false
late t u n h = and_right (nat_lt t n) (nat_le n u) (lt-leb n u h)

or-false : (b : Bool) → (b || false) ≡ b
or-false true = refl
or-false false = refl

or-assoc : (a b c : Bool) → (a || (b || c)) ≡ ((a || b) || c)
or-assoc true b c = refl
or-assoc false b c = refl

any-end : (p : Holder → Bool) (hs : List Holder) (h : Holder) → list_any p (hs ++ h ∷ []) ≡ (list_any p hs || p h)
any-end p [] h = or-false (p h)
any-end p (g ∷ hs) h = ap (λ x. p g || x) (any-end p hs h) ∙ or-assoc (p g) (list_any p hs) (p h)

mix : (s f a x y : Bool) → ((s && (f || a)) || (x || (y && (s && a)))) ≡ (((s && (f || false)) || x) || (s && a))
mix false f a true true = refl
mix false f a true false = refl
mix false f a false true = refl
mix false f a false false = refl
mix true true a x y = refl
mix true false true true y = refl
mix true false true false y = refl
mix true false false true true = refl
mix true false false true false = refl
mix true false false false true = refl
mix true false false false false = refl

-- the change names a query that lives, and its slot; and the queries that live have no end
abbrev pub Names : List Holder → Change → Type 0
Names hs (Opened n slot at plan) = Unit {0}
Names hs (Closed n slot at) = (list_any (λ (h : Holder). is_live n h.query) hs ≡ true) × AllByRecursion (λ (h : Holder). is_live n h.query ≡ true → h.slot ≡ slot) hs

abbrev pub AllName : List Holder → List Change → Type 0
AllName hs [] = Unit {0}
AllName hs (c ∷ cs) = AllByRecursion IsUnended hs × Names hs c × AllName (held hs c) cs

module _ (slot t u : ℕ) (soon : max t u < 2 ^ 62) where
  abbrev arrives : ℕ → Bool
  arrives n = comes_in (min t u) (max t u) n

  no-end : (to : ℕ) → to ≡ 2 ^ 62 → arrives to ≡ false
  no-end to e = late (min t u) (max t u) to (omega (arith, e, soon))

  close-one : (n at k : ℕ) (h : Holder) (b : Bool) (x y : Bool) → is_live n h.query ≡ b → IsUnended h → (is_live n h.query ≡ true → h.slot ≡ k)
      → (stirs slot t u (record { query = cond b (ended at h.query) h.query; slot = h.slot }) || (x || (y && (eqb k slot && arrives at))))
      ≡ ((stirs slot t u h || x) || ((b || y) && (eqb k slot && arrives at)))
  close-one n at k h true x y e un nm =
      let same : h.slot ≡ k = nm e in
      let end : arrives h.query.to ≡ false = no-end h.query.to (un.lasts (and_parts (eqb h.query.n n) h.query.live e).1) in
      ap (λ z. (eqb h.slot slot && (arrives h.query.from || arrives at)) || (x || (y && (eqb z slot && arrives at)))) (sym same)
      ∙ mix (eqb h.slot slot) (arrives h.query.from) (arrives at) x y
      ∙ ap (λ z. ((eqb h.slot slot && (arrives h.query.from || z)) || x) || (eqb h.slot slot && arrives at)) (sym end)
      ∙ ap (λ z. (stirs slot t u h || x) || (eqb z slot && arrives at)) same
  close-one n at k h false x y e un nm = or-assoc (stirs slot t u h) x (y && (eqb k slot && arrives at))

  close-all : (n at k : ℕ) (hs : List Holder) → AllByRecursion IsUnended hs → AllByRecursion (λ (h : Holder). is_live n h.query ≡ true → h.slot ≡ k) hs
      → list_any (stirs slot t u) (map (closed_holder n at) hs) ≡ (list_any (stirs slot t u) hs || (list_any (λ (h : Holder). is_live n h.query) hs && (eqb k slot && arrives at)))
  close-all n at k [] un nm = refl
  close-all n at k (h ∷ hs) un nm =
      ap (λ z. stirs slot t u (closed_holder n at h) || z) (close-all n at k hs un.1 nm.1)
      ∙ close-one n at k h (is_live n h.query) (list_any (stirs slot t u) hs) (list_any (λ (g : Holder). is_live n g.query) hs) refl un.0 nm.0

  one-change : (hs : List Holder) (c : Change) → AllByRecursion IsUnended hs → Names hs c → list_any (stirs slot t u) (held hs c) ≡ (list_any (stirs slot t u) hs || moves slot (min t u) (max t u) c)
  one-change hs (Opened n k at plan) un nm =
      any-end (stirs slot t u) hs (opened_holder n k at plan) ∙ ap (λ z. list_any (stirs slot t u) hs || (eqb k slot && (arrives at || z))) (no-end (2 ^ 62) refl)
      ∙ ap (λ z. list_any (stirs slot t u) hs || (eqb k slot && z)) (or-false (arrives at))
  one-change hs (Closed n k at) un nm = close-all n at k hs un nm.1 ∙ ap (λ z. list_any (stirs slot t u) hs || (z && (eqb k slot && arrives at))) nm.0

  pub all-changes : (cs : List Change) (hs : List Holder) → AllName hs cs → list_any (stirs slot t u) (fold held hs cs) ≡ (list_any (stirs slot t u) hs || list_any (moves slot (min t u) (max t u)) cs)
  all-changes [] hs nm = sym (or-false (list_any (stirs slot t u) hs))
  all-changes (c ∷ cs) hs nm =
      all-changes cs (held hs c) nm.2 ∙ ap (λ z. z || list_any (moves slot (min t u) (max t u)) cs) (one-change hs c nm.0 nm.1)
      ∙ sym (or-assoc (list_any (stirs slot t u) hs) (moves slot (min t u) (max t u) c) (list_any (moves slot (min t u) (max t u)) cs))

  quiet-between : (cs : List Change) → Rises cs → AllName [] cs → is_quiet (holders_of cs) slot t u ≡ not (list_any (touches slot) (drop (epoch_at cs (min t u)) (take (epoch_at cs (max t u)) cs)))
  quiet-between cs rise nm = ap not (all-changes cs [] nm ∙ sym (between cs slot (min t u) (max t u) rise (omega arith)))

-- ---- as sets

set-has : (k slot : ℕ) → slot < 512 → has slot (set (replicate 512 false) k true) ≡ eqb k slot
set-has k slot l = elim (cases_eq slot k) [
  | inl e ↦ ap (λ n. get_or (set (replicate 512 false) k true) n false) e ∙ get_or-set_same (replicate 512 false) k true false (omega (arith, length-replicate 512 false, l, e)) ∙ sym (eq-eqb k slot (sym e))
  | inr n ↦ get_or-set_other (replicate 512 false) k slot true false n ∙ get_or-replicate 512 slot false false l ∙ sym (ne_eqb k slot (λ e. n (sym e)))
]

any-touched : (slot : ℕ) → slot < 512 → (cs : List Change) → some_has slot (touched cs) ≡ list_any (touches slot) cs
any-touched slot l [] = refl
any-touched slot l (c ∷ cs) = ap (λ b. b || some_has slot (touched cs)) (set-has (slot_of c) slot l) ∙ ap (λ b. touches slot c || b) (any-touched slot l cs)

map-take : {X Y : Type 0} (f : X → Y) (n : ℕ) (xs : List X) → take n (map f xs) ≡ map f (take n xs)
map-take f zero xs = refl
map-take f (suc n) [] = refl
map-take f (suc n) (x ∷ xs) = ap (λ l. f x ∷ l) (map-take f n xs)

map-drop : {X Y : Type 0} (f : X → Y) (n : ℕ) (xs : List X) → drop n (map f xs) ≡ map f (drop n xs)
map-drop f zero xs = refl
map-drop f (suc n) [] = refl
map-drop f (suc n) (x ∷ xs) = map-drop f n xs

take-all : {X : Type 0} (n : ℕ) (xs : List X) → length xs ≡ 0 → take n xs ≡ xs
take-all zero [] e = refl
take-all (suc n) [] e = refl
take-all n (x ∷ xs) e = absurd (omega (arith, e))

drop-take : {X : Type 0} (i j : ℕ) (xs : List X) → drop i (take j xs) ≡ take (j - i) (drop i xs)
drop-take zero j xs = ap (λ n. take n xs) (omega arith)
drop-take (suc i) zero xs = let none : zero ≡ zero - suc i = omega arith in ap (λ n. take n (drop (suc i) xs)) none
drop-take (suc i) (suc j) [] = sym (take-all (suc j - suc i) [] refl)
drop-take (suc i) (suc j) (x ∷ xs) = drop-take i j xs ∙ ap (λ n. take n (drop i xs)) (omega arith)

unchanged-has : (sets : List (List Bool)) (i j slot : ℕ) → slot < 512 → has slot (unchanged sets i j) ≡ not (some_has slot (entries sets i j))
unfolding unchanged
unchanged-has sets i j slot l = get_or-map-range_with_len (λ s. not (some_has s (entries sets i j))) 0 512 slot slot false l (omega arith)

-- a slot is quiet between two times just where it is unchanged between their epochs
pub quiet-is : (cs : List Change) (slot t u : ℕ) → slot < 512 → max t u < 2 ^ 62 → Rises cs → AllName [] cs
    → is_quiet (holders_of cs) slot t u ≡ has slot (unchanged (touched cs) (epoch_at cs (min t u)) (epoch_at cs (max t u)))
quiet-is cs slot t u l soon rise names =
    let i : ℕ = epoch_at cs (min t u) in
    let j : ℕ = epoch_at cs (max t u) in
    quiet-between slot t u soon cs rise names
    ∙ ap (λ k. not (list_any (touches slot) k)) (drop-take i j cs)
    ∙ ap not (sym (ap (some_has slot) (ap (take (j - i)) (map-drop touched_by i cs) ∙ map-take touched_by (j - i) (drop i cs)) ∙ any-touched slot l (take (j - i) (drop i cs))))
    ∙ sym (unchanged-has (touched cs) i j slot l)

-- ---- the epoch of a slice is that of its times

-- what came by a time came by the beginning of its slice
not-since : (c t n : ℕ) → c ≤ t → up_to t n ≤ c → comes_in (min c t) (max c t) n ≡ false
not-since c t n l u = elim (cases_lt t n) [
  | inl a ↦ and_right (nat_lt (min c t) n) (nat_le n (max c t)) (lt-leb n (max c t) (omega (arith, a, l)))
  | inr a ↦ and_left (nat_lt (min c t) n) (nat_le n (max c t)) (le-ltb (min c t) n (let e : up_to t n ≡ n = ap (λ k. cond k n 0) (le-leb n t a) in omega (arith, e, u, l)))
]

none-stirs : (hs : List Holder) (s : StreamId) (slot c t : ℕ) → c ≤ t → cut hs s t ≤ c → list_any (stirs slot c t) hs ≡ false
none-stirs [] s slot c t l u = refl
none-stirs (h ∷ hs) s slot c t l u = or_from (stirs slot c t h) (list_any (stirs slot c t) hs)
    (and_right (eqb h.slot slot) (comes_in (min c t) (max c t) h.query.from || comes_in (min c t) (max c t) h.query.to)
    (or_from (comes_in (min c t) (max c t) h.query.from) (comes_in (min c t) (max c t) h.query.to) (not-since c t h.query.from l (omega (arith, u))) (not-since c t h.query.to l (omega (arith, u)))))
    (none-stirs hs s slot c t l (omega (arith, u)))

by-both : (n c t : ℕ) → c ≤ t → comes_in (min c t) (max c t) n ≡ false → (n ≤ t → n ≤ c)
by-both n c t l e b = elim (cases_lt c n) [
  | inl a ↦ absurd (both_ways (comes_in (min c t) (max c t) n) e (ap (λ k. k && nat_le n (max c t)) (lt-ltb (min c t) n (omega (arith, a, l))) ∙ le-leb n (max c t) (omega (arith, b))))
  | inr a ↦ a
]

own-move : (k : Change) (lo hi : ℕ) → moves (slot_of k) lo hi k ≡ false → comes_in lo hi (time_of k) ≡ false
own-move k lo hi e = ap (λ b. b && comes_in lo hi (time_of k)) (sym (eq-eqb (slot_of k) (slot_of k) refl)) ∙ e

epochs-same : (cs : List Change) (c t : ℕ) → c ≤ t → ((slot : ℕ) → list_any (moves slot (min c t) (max c t)) cs ≡ false) → epoch_at cs c ≡ epoch_at cs t
epochs-same [] c t l h = refl
epochs-same (k ∷ cs) c t l h =
    let rest = epochs-same cs c t l (λ slot. (or_parts (moves slot (min c t) (max c t) k) (list_any (moves slot (min c t) (max c t)) cs) (h slot)).1) in
    let calm = own-move k (min c t) (max c t) (or_parts (moves (slot_of k) (min c t) (max c t) k) (list_any (moves (slot_of k) (min c t) (max c t)) cs) (h (slot_of k))).0 in
    elim (cases_lt t (time_of k)) [
      | inl a ↦ not-by k cs c (omega (arith, a, l)) ∙ rest ∙ sym (not-by k cs t a)
      | inr a ↦ by-time k cs c (by-both (time_of k) c t l calm a) ∙ ap suc rest ∙ sym (by-time k cs t a)
    ]

-- the epoch of the beginning of a slice is that of each time in it
pub epoch-by_cut : (cs : List Change) (s : StreamId) (t : ℕ) → t < 2 ^ 62 → AllName [] cs → epoch_at cs (cut (holders_of cs) s t) ≡ epoch_at cs t
epoch-by_cut cs s t l names =
    let c : ℕ = cut (holders_of cs) s t in
    let b : c ≤ t = cut-le (holders_of cs) s t in
    epochs-same cs c t b (λ slot. sym (all-changes slot c t (omega (arith, b, l)) cs [] names) ∙ none-stirs (holders_of cs) s slot c t b (omega arith))

-- ---- orderly changes

names-all : (last : ℕ) (hs : List Holder) (cs : List Change) → AreFine last hs → MayAllFollow last hs cs → AllName hs cs
names-all last hs [] fine all = tt
names-all last hs (c ∷ cs) fine all = (unended-by last hs fine.settled, one c (all.0).suits, names-all (time_of c) (held hs c) cs (fine-held last hs c fine all.0) all.1)
  where
    one : (c : Change) → Suits hs c → Names hs c
    one (Opened n slot at plan) s = tt
    one (Closed n slot at) s = (s.one, s.each)

pub names-orderly : (cs : List Change) → IsOrderly cs → AllName [] cs
names-orderly cs o = names-all 0 [] cs (record { settled = tt; alone = tt }) o

later-all : (n m : ℕ) (ns : List ℕ) → n ≤ m → AllByRecursion (λ k. m ≤ k) ns → AllByRecursion (λ k. n ≤ k) ns
later-all n m [] l a = tt
later-all n m (k ∷ ns) l a = ((let b = a.0 in omega (arith, l, b)), later-all n m ns l a.1)

climbs : (last : ℕ) (hs : List Holder) (cs : List Change) → MayAllFollow last hs cs → AllByRecursion (λ n. last ≤ n) (times_of cs) × Rises cs
climbs last hs [] all = (tt, tt)
climbs last hs (c ∷ cs) all =
    let rest = climbs (time_of c) (held hs c) cs all.1 in
    (((all.0).time, later-all last (time_of c) (times_of cs) (all.0).time rest.0), (rest.0, rest.1))

pub rises-orderly : (cs : List Change) → IsOrderly cs → Rises cs
rises-orderly cs o = (climbs 0 [] cs o).1
