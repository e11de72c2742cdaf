-- The set of a pair is the slots of the queries that have both records.
use Rattle.std.proofs.Common.{◌≡◌, inl, inr, ℕ, ◌≤◌, ◌<◌, ◌&&◌, ◌||◌, not, nat_le, nat_lt, max, min, eqb, Bool, true, false, List, [], ◌∷◌, ◌++◌, refl, sym, ap, subst, ◌∙◌, arith}
use Rattle.std.proofs.lemmas.Bool.{lt-leb, le-leb, lt-ltb, le-ltb, eqb-true, eq-eqb, cases_lt, cases_Bool, and_parts, and_from, and_left, and_right, or_from, or_parts, or_left, or_right, or_cases, not-true, both_ways}
use Rattle.std.specs.List.{list_any, AllByRecursion}
use Rattle.as_base.specs.declared.item.Record.{Record}
use Rattle.views.specs.IsHolder.{IsAmong}
use Rattle.views.specs.Query.{Query}
use Rattle.views.specs.Slots.{Holder, lives_at, owner, has_mine, cut_of}
use Rattle.views.specs.View.{is_mine}
use Rattle.contents.specs.IsPast.{EndsBefore, LiveApart}
use Rattle.contents.specs.Pairs.{comes_in, stirs, is_quiet, is_paired, has_both}
use Rattle.contents.proofs.CellLaws.{mine-parts}
use Rattle.contents.proofs.SoleLaws.{all-middle, life, owner-is, owner-found, lives-by_cut}

-- ---- a slot that one query has at both times is quiet between them

-- no life runs backwards
abbrev pub IsForward : Holder → Type 0
IsForward h = h.query.from ≤ h.query.to

early : (t u n : ℕ) → n ≤ t → comes_in t u n ≡ false
early t u n h = and_left (nat_lt t n) (nat_le n u) (le-ltb t n h)

late : (t u n : ℕ) → u < n → comes_in t u n ≡ false
late t u n h = and_right (nat_lt t n) (nat_le n u) (lt-leb n u h)

calm-before : (g h : Holder) (t u : ℕ) → EndsBefore g h → IsForward g → h.query.from ≤ t → h.query.from ≤ u → stirs h.slot t u g ≡ false
calm-before g h t u before forward f f' = elim (cases_Bool (eqb g.slot h.slot)) [
  | inl e ↦ (let l = before (eqb-true g.slot h.slot e) in and_right (eqb g.slot h.slot) (comes_in (min t u) (max t u) g.query.from || comes_in (min t u) (max t u) g.query.to) (or_from (comes_in (min t u) (max t u) g.query.from) (comes_in (min t u) (max t u) g.query.to)
      (early (min t u) (max t u) g.query.from (omega (arith, l, forward, f, f'))) (early (min t u) (max t u) g.query.to (omega (arith, l, f, f')))))
  | inr e ↦ and_left (eqb g.slot h.slot) (comes_in (min t u) (max t u) g.query.from || comes_in (min t u) (max t u) g.query.to) e
]

calm-after : (h g : Holder) (t u : ℕ) → EndsBefore h g → IsForward g → t < h.query.to → u < h.query.to → stirs h.slot t u g ≡ false
calm-after h g t u before forward f f' = elim (cases_Bool (eqb g.slot h.slot)) [
  | inl e ↦ (let l = before (sym (eqb-true g.slot h.slot e)) in and_right (eqb g.slot h.slot) (comes_in (min t u) (max t u) g.query.from || comes_in (min t u) (max t u) g.query.to) (or_from (comes_in (min t u) (max t u) g.query.from) (comes_in (min t u) (max t u) g.query.to)
      (late (min t u) (max t u) g.query.from (omega (arith, l, f, f'))) (late (min t u) (max t u) g.query.to (omega (arith, l, forward, f, f')))))
  | inr e ↦ and_left (eqb g.slot h.slot) (comes_in (min t u) (max t u) g.query.from || comes_in (min t u) (max t u) g.query.to) e
]

calm-rest : (h : Holder) (back : List Holder) (t u : ℕ) → AllByRecursion (EndsBefore h) back → AllByRecursion IsForward back → t < h.query.to → u < h.query.to → list_any (stirs h.slot t u) back ≡ false
calm-rest h [] t u b a f f' = refl
calm-rest h (g ∷ back) t u b a f f' = or_from (stirs h.slot t u g) (list_any (stirs h.slot t u) back) (calm-after h g t u b.0 a.0 f f') (calm-rest h back t u b.1 a.1 f f')

calm-all : (front back : List Holder) (h : Holder) (t u : ℕ) → LiveApart (front ++ h ∷ back) → AllByRecursion IsForward (front ++ h ∷ back) → h.query.from ≤ t → h.query.from ≤ u → t < h.query.to → u < h.query.to → list_any (stirs h.slot t u) (front ++ h ∷ back) ≡ false
calm-all [] back h t u a w f f' e e' = or_from (stirs h.slot t u h) (list_any (stirs h.slot t u) back)
    (and_right (eqb h.slot h.slot) (comes_in (min t u) (max t u) h.query.from || comes_in (min t u) (max t u) h.query.to)
    (or_from (comes_in (min t u) (max t u) h.query.from) (comes_in (min t u) (max t u) h.query.to) (early (min t u) (max t u) h.query.from (omega (arith, f, f'))) (late (min t u) (max t u) h.query.to (omega (arith, e, e')))))
    (calm-rest h back t u a.0 w.1 e e')
calm-all (g ∷ front) back h t u a w f f' e e' =
    or_from (stirs h.slot t u g) (list_any (stirs h.slot t u) (front ++ h ∷ back)) (calm-before g h t u (all-middle (EndsBefore g) front h back a.0) w.0 f f')
    (calm-all front back h t u a.1 w.1 f f' e e')

pub quiet-in : (hs : List Holder) (h : Holder) (t u : ℕ) → IsAmong h hs → LiveApart hs → AllByRecursion IsForward hs → lives_at h.query t ≡ true → lives_at h.query u ≡ true → is_quiet hs h.slot t u ≡ true
quiet-in hs h t u (front, back, is) a w l m =
    let x = life h.query t l in let y = life h.query u m in
    ap not (subst (λ (k : List Holder). list_any (stirs h.slot t u) k ≡ false) (sym is) (calm-all front back h t u (subst LiveApart is a) (subst (AllByRecursion IsForward) is w) x.0 y.0 x.1 y.1))

-- ---- both directions

both-same : (a b : Bool) → (a ≡ true → b ≡ true) → (b ≡ true → a ≡ true) → a ≡ b
both-same true b f g = sym (f refl)
both-same false true f g = absurd (both_ways false refl (g refl))
both-same false false f g = refl

-- one that passes stands somewhere
pub found : (p : Holder → Bool) (hs : List Holder) → list_any p hs ≡ true → (h : Holder) × IsAmong h hs × (p h ≡ true)
found p [] e = absurd (both_ways false refl e)
found p (g ∷ hs) e = elim (or_cases (p g) (list_any p hs) e) [
  | inl f ↦ (g, ([], hs, refl), f)
  | inr f ↦ (let r = found p hs f in (r.0, (g ∷ r.1.0, r.1.1, ap (λ l. g ∷ l) r.1.2), r.2))
]

pub any-among : (p : Holder → Bool) (hs : List Holder) (h : Holder) → IsAmong h hs → p h ≡ true → list_any p hs ≡ true
any-among p hs h (front, back, is) e = subst (λ (l : List Holder). list_any p l ≡ true) (sym is) (any_in front)
  where
    any_in : (k : List Holder) → list_any p (k ++ h ∷ back) ≡ true
    any_in [] = or_left (p h) (list_any p back) e
    any_in (g ∷ k) = or_right (p g) (list_any p (k ++ h ∷ back)) (any_in k)

none-among : (p : Holder → Bool) (front : List Holder) (h : Holder) (back : List Holder) → list_any p (front ++ h ∷ back) ≡ false → p h ≡ false
none-among p [] h back e = (or_parts (p h) (list_any p back) e).0
none-among p (g ∷ front) h back e = none-among p front h back (or_parts (p g) (list_any p (front ++ h ∷ back)) e).1

still : (hs : List Holder) (h : Holder) (t u : ℕ) → IsAmong h hs → is_quiet hs h.slot t u ≡ true → stirs h.slot t u h ≡ false
still hs h t u (front, back, is) q = none-among (stirs h.slot t u) front h back (subst (λ (l : List Holder). list_any (stirs h.slot t u) l ≡ false) is (not-true (list_any (stirs h.slot t u) hs) q))

and-second : (a b : Bool) → a ≡ true → (a && b) ≡ false → b ≡ false
and-second a b e f = ap (λ x. x && b) (sym e) ∙ f

ends-not : (hs : List Holder) (h : Holder) (t u : ℕ) → IsAmong h hs → is_quiet hs h.slot t u ≡ true → comes_in (min t u) (max t u) h.query.to ≡ false
ends-not hs h t u among q =
    (or_parts (comes_in (min t u) (max t u) h.query.from) (comes_in (min t u) (max t u) h.query.to)
    (and-second (eqb h.slot h.slot) (comes_in (min t u) (max t u) h.query.from || comes_in (min t u) (max t u) h.query.to) (eq-eqb h.slot h.slot refl) (still hs h t u among q))).1

lives-past : (q : Query) (a b lo hi : ℕ) → comes_in lo hi q.to ≡ false → lo ≤ a → b ≤ hi → a ≤ b → lives_at q a ≡ true → lives_at q b ≡ true
lives-past q a b lo hi e l m n k = let x = life q a k in let from = x.0 in let to = x.1 in elim (cases_lt b q.to) [
  | inl f ↦ and_from (nat_le q.from b) (nat_lt b q.to) (le-leb q.from b (omega (arith, from, n))) (lt-ltb b q.to f)
  | inr f ↦ absurd (both_ways (comes_in lo hi q.to) e (and_from (nat_lt lo q.to) (nat_le q.to hi) (lt-ltb lo q.to (omega (arith, to, l))) (le-leb q.to hi (omega (arith, f, m)))))
]

-- a query that has one of two records, in a slot that is quiet between them, has the other if the slot's owner has it
one-has : (hs : List Holder) (h : Holder) (slot c d : ℕ) (s : Record) → IsAmong h hs → LiveApart hs → h.slot ≡ slot → is_quiet hs slot c d ≡ true → (a b : ℕ) → min c d ≤ a → b ≤ max c d → a ≤ b → lives_at h.query a ≡ true
    → lives_at h.query s.given.time ≡ lives_at h.query b → has_mine s (owner hs s.given.time slot) ≡ true → is_mine h.query s.given.stream s ≡ true
one-has hs h slot c d s among apart e q a b l m n k w o =
    let quiet' : is_quiet hs h.slot c d ≡ true = ap (λ x. is_quiet hs x c d) e ∙ q in
    let there : lives_at h.query s.given.time ≡ true = w ∙ lives-past h.query a b (min c d) (max c d) (ends-not hs h c d among quiet') l m n k in
    sym (ap (has_mine s) (owner-is hs h s.given.time slot among apart e there)) ∙ o

both-from : (hs : List Holder) (slot : ℕ) (r s : Record) → LiveApart hs → is_paired hs slot r s ≡ true → list_any (has_both slot r s) hs ≡ true
both-from hs slot r s apart e =
    let c : ℕ = cut_of hs r in
    let d : ℕ = cut_of hs s in
    let p = and_parts (has_mine r (owner hs r.given.time slot) && has_mine s (owner hs s.given.time slot)) (is_quiet hs slot c d) e in
    let pp = and_parts (has_mine r (owner hs r.given.time slot)) (has_mine s (owner hs s.given.time slot)) p.0 in
    let x = owner-found hs r.given.time slot r pp.0 in
    let y = owner-found hs s.given.time slot s pp.1 in
    let xo = and_parts (eqb x.0.slot slot) (lives_at x.0.query r.given.time) x.2 in
    let yo = and_parts (eqb y.0.slot slot) (lives_at y.0.query s.given.time) y.2 in
    let xc = lives-by_cut hs x.0 r.given.stream r.given.time x.1 in
    let xd = lives-by_cut hs x.0 s.given.stream s.given.time x.1 in
    let yc = lives-by_cut hs y.0 r.given.stream r.given.time y.1 in
    let yd = lives-by_cut hs y.0 s.given.stream s.given.time y.1 in
    elim (cases_lt d c) [
      | inl l ↦ any-among (has_both slot r s) hs y.0 y.1 (and_from (eqb y.0.slot slot && is_mine y.0.query r.given.stream r) (is_mine y.0.query s.given.stream s) (and_from (eqb y.0.slot slot) (is_mine y.0.query r.given.stream r) yo.0
          (one-has hs y.0 slot c d r y.1 apart (eqb-true y.0.slot slot yo.0) p.1 d c (omega arith) (omega arith) (omega (arith, l)) (sym yd ∙ yo.1) yc pp.0)) y.3)
      | inr l ↦ any-among (has_both slot r s) hs x.0 x.1 (and_from (eqb x.0.slot slot && is_mine x.0.query r.given.stream r) (is_mine x.0.query s.given.stream s) (and_from (eqb x.0.slot slot) (is_mine x.0.query r.given.stream r) xo.0 x.3)
          (one-has hs x.0 slot c d s x.1 apart (eqb-true x.0.slot slot xo.0) p.1 c d (omega arith) (omega arith) l (sym xc ∙ xo.1) xd pp.1))
    ]

from-both : (hs : List Holder) (slot : ℕ) (r s : Record) → LiveApart hs → AllByRecursion IsForward hs → list_any (has_both slot r s) hs ≡ true → is_paired hs slot r s ≡ true
from-both hs slot r s apart forward e =
    let x = found (has_both slot r s) hs e in
    let p = and_parts (eqb x.0.slot slot && is_mine x.0.query r.given.stream r) (is_mine x.0.query s.given.stream s) x.2 in
    let pp = and_parts (eqb x.0.slot slot) (is_mine x.0.query r.given.stream r) p.0 in
    let same : x.0.slot ≡ slot = eqb-true x.0.slot slot pp.0 in
    let lr = (mine-parts x.0.query r.given.stream r pp.1).lives in
    let ls = (mine-parts x.0.query s.given.stream s p.1).lives in
    and_from (has_mine r (owner hs r.given.time slot) && has_mine s (owner hs s.given.time slot)) (is_quiet hs slot (cut_of hs r) (cut_of hs s))
    (and_from (has_mine r (owner hs r.given.time slot)) (has_mine s (owner hs s.given.time slot))
    (ap (has_mine r) (owner-is hs x.0 r.given.time slot x.1 apart same lr) ∙ pp.1) (ap (has_mine s) (owner-is hs x.0 s.given.time slot x.1 apart same ls) ∙ p.1))
    (ap (λ n. is_quiet hs n (cut_of hs r) (cut_of hs s)) (sym same) ∙ quiet-in hs x.0 (cut_of hs r) (cut_of hs s) x.1 apart forward
    (sym (lives-by_cut hs x.0 r.given.stream r.given.time x.1) ∙ lr) (sym (lives-by_cut hs x.0 s.given.stream s.given.time x.1) ∙ ls))

-- the set of a pair has a slot just where a query that has the slot has both records
pub paired-is : (hs : List Holder) (slot : ℕ) (r s : Record) → LiveApart hs → AllByRecursion IsForward hs → is_paired hs slot r s ≡ list_any (has_both slot r s) hs
paired-is hs slot r s apart forward = both-same (is_paired hs slot r s) (list_any (has_both slot r s) hs) (both-from hs slot r s apart) (from-both hs slot r s apart forward)
