-- Who has a slot at a time, and at the beginning of the slice that holds it.
use Rattle.std.proofs.Common.{◌≡◌, inl, inr, ℕ, ◌≤◌, ◌<◌, ◌&&◌, nat_le, nat_lt, eqb, Bool, cond, true, false, Some, List, [], ◌∷◌, ◌++◌, refl, sym, ap, subst, ◌∙◌, arith}
use Rattle.std.proofs.lemmas.Bool.{le-leb, lt-leb, lt-ltb, le-ltb, leb-true, ltb-true, eqb-true, eq-eqb, cases_lt, cases_Bool, and_parts, and_left, and_right, both_ways}
use Rattle.std.specs.List.{AllByRecursion}
use Rattle.as_base.specs.declared.item.Record.{Record}
use Rattle.as_base.specs.declared.stream.StreamId.{StreamId}
use Rattle.views.specs.IsHolder.{IsAmong}
use Rattle.views.specs.Query.{Query}
use Rattle.views.specs.Slots.{Holder, lives_at, has_slot, owner, has_mine, up_to, cut_by, cut}
use Rattle.views.specs.View.{is_mine}
use Rattle.views.proofs.CutLaws.{cut-le}
use Rattle.contents.specs.IsPast.{EndsBefore, LiveApart}

pub all-middle : {X : Type 0} (P : X → Type 0) (front : List X) (x : X) (back : List X) → AllByRecursion P (front ++ x ∷ back) → P x
all-middle P [] x back a = a.0
all-middle P (y ∷ front) x back a = all-middle P front x back a.1

-- what holds of all holds of each that is among them
pub All-among : (P : Holder → Type 0) (hs : List Holder) (h : Holder) → IsAmong h hs → AllByRecursion P hs → P h
All-among P hs h (front, back, is) a = all-middle P front h back (subst (AllByRecursion P) is a)

-- when a query that lives at the time began, and when it ends
pub life : (q : Query) (t : ℕ) → lives_at q t ≡ true → (q.from ≤ t) × (t < q.to)
life q t l = let p = and_parts (nat_le q.from t) (nat_lt t q.to) l in (leb-true q.from t p.0, ltb-true t q.to p.1)

gone : (q : Query) (t : ℕ) → q.to ≤ t → lives_at q t ≡ false
gone q t h = and_right (nat_le q.from t) (nat_lt t q.to) (le-ltb t q.to h)

-- a holder of the slot that ends before another begins does not have it then
other : (g h : Holder) (t : ℕ) → EndsBefore g h → h.query.from ≤ t → has_slot t h.slot g ≡ false
other g h t before begun = elim (cases_Bool (eqb g.slot h.slot)) [
  | inl e ↦ and_right (eqb g.slot h.slot) (lives_at g.query t) (gone g.query t (let l = before (eqb-true g.slot h.slot e) in omega (arith, l, begun)))
  | inr e ↦ and_left (eqb g.slot h.slot) (lives_at g.query t) e
]

sole-in : (front back : List Holder) (h : Holder) (t : ℕ) → LiveApart (front ++ h ∷ back) → lives_at h.query t ≡ true → owner (front ++ h ∷ back) t h.slot ≡ Some h
sole-in [] back h t a l =
    ap (λ b. cond (b && lives_at h.query t) (Some h) (owner back t h.slot)) (eq-eqb h.slot h.slot refl)
    ∙ ap (λ b. cond b (Some h) (owner back t h.slot)) l
sole-in (g ∷ front) back h t a l =
    ap (λ b. cond b (Some g) (owner (front ++ h ∷ back) t h.slot)) (other g h t (all-middle (EndsBefore g) front h back a.0) (life h.query t l).0)
    ∙ sole-in front back h t a.1 l

-- a holder that lives has its slot
pub sole : (hs : List Holder) (h : Holder) (t : ℕ) → IsAmong h hs → LiveApart hs → lives_at h.query t ≡ true → owner hs t h.slot ≡ Some h
sole hs h t (front, back, is) a l = subst (λ (k : List Holder). owner k t h.slot ≡ Some h) (sym is) (sole-in front back h t (subst LiveApart is a) l)

-- the owner of a slot that is one's own
pub owner-is : (hs : List Holder) (h : Holder) (t slot : ℕ) → IsAmong h hs → LiveApart hs → h.slot ≡ slot → lives_at h.query t ≡ true → owner hs t slot ≡ Some h
owner-is hs h t slot among apart e l = ap (λ n. owner hs t n) (sym e) ∙ sole hs h t among apart l

owner-step : (hs : List Holder) (g : Holder) (t slot : ℕ) (r : Record) (b : Bool) → has_slot t slot g ≡ b
    → (has_mine r (owner hs t slot) ≡ true → (h : Holder) × IsAmong h hs × (has_slot t slot h ≡ true) × (is_mine h.query r.given.stream r ≡ true))
    → has_mine r (cond b (Some g) (owner hs t slot)) ≡ true
    → (h : Holder) × IsAmong h (g ∷ hs) × (has_slot t slot h ≡ true) × (is_mine h.query r.given.stream r ≡ true)
owner-step hs g t slot r true e f m = (g, ([], hs, refl), e, m)
owner-step hs g t slot r false e f m = let w = f m in (w.0, (g ∷ w.1.0, w.1.1, ap (λ l. g ∷ l) w.1.2), w.2, w.3)

-- where the record belongs to the owner of a slot, that is one of the holders
pub owner-found : (hs : List Holder) (t slot : ℕ) (r : Record) → has_mine r (owner hs t slot) ≡ true
    → (h : Holder) × IsAmong h hs × (has_slot t slot h ≡ true) × (is_mine h.query r.given.stream r ≡ true)
owner-found [] t slot r e = absurd (both_ways false refl e)
owner-found (g ∷ hs) t slot r e = owner-step hs g t slot r (has_slot t slot g) refl (owner-found hs t slot r) e

-- ---- at the beginning of a slice

at-least : (s : StreamId) (t : ℕ) (h : Holder) (front back : List Holder) → cut_by s t h.query ≤ cut (front ++ h ∷ back) s t
at-least s t h [] back = omega arith
at-least s t h (g ∷ front) back = let a = at-least s t h front back in omega (arith, a)

le-by_cut : (x t c : ℕ) → c ≤ t → up_to t x ≤ c → nat_le x t ≡ nat_le x c
le-by_cut x t c b u = elim (cases_lt t x) [
  | inl l ↦ lt-leb x t l ∙ sym (lt-leb x c (omega (arith, l, b)))
  | inr l ↦ le-leb x t l ∙ sym (le-leb x c (let e : up_to t x ≡ x = ap (λ k. cond k x 0) (le-leb x t l) in omega (arith, e, u)))
]

lt-by_cut : (x t c : ℕ) → c ≤ t → up_to t x ≤ c → nat_lt t x ≡ nat_lt c x
lt-by_cut x t c b u = elim (cases_lt t x) [
  | inl l ↦ lt-ltb t x l ∙ sym (lt-ltb c x (omega (arith, l, b)))
  | inr l ↦ le-ltb t x l ∙ sym (le-ltb c x (let e : up_to t x ≡ x = ap (λ k. cond k x 0) (le-leb x t l) in omega (arith, e, u)))
]

lives-between : (q : Query) (s : StreamId) (t c : ℕ) → c ≤ t → cut_by s t q ≤ c → lives_at q t ≡ lives_at q c
lives-between q s t c b u =
    ap (λ k. k && nat_lt t q.to) (le-by_cut q.from t c b (omega (arith, u)))
    ∙ ap (λ k. nat_le q.from c && k) (lt-by_cut q.to t c b (omega (arith, u)))

-- a holder lives at a time just where it lives at the beginning of the slice
pub lives-by_cut : (hs : List Holder) (h : Holder) (s : StreamId) (t : ℕ) → IsAmong h hs → lives_at h.query t ≡ lives_at h.query (cut hs s t)
lives-by_cut hs h s t (front, back, is) =
    lives-between h.query s t (cut hs s t) (cut-le hs s t) (subst (λ (l : List Holder). cut_by s t h.query ≤ cut l s t) (sym is) (at-least s t h front back))

owner-between : (hs : List Holder) (s : StreamId) (t c slot : ℕ) → c ≤ t → cut hs s t ≤ c → owner hs t slot ≡ owner hs c slot
owner-between [] s t c slot b u = refl
owner-between (h ∷ hs) s t c slot b u =
    ap (λ k. cond (eqb h.slot slot && k) (Some h) (owner hs t slot)) (lives-between h.query s t c b (omega (arith, u)))
    ∙ ap (λ o. cond (eqb h.slot slot && lives_at h.query c) (Some h) o) (owner-between hs s t c slot b (omega (arith, u)))

-- a slot has one owner in a slice
pub owner-by_cut : (hs : List Holder) (s : StreamId) (t slot : ℕ) → owner hs t slot ≡ owner hs (cut hs s t) slot
owner-by_cut hs s t slot = owner-between hs s t (cut hs s t) slot (cut-le hs s t) (omega arith)
