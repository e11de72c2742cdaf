-- Where slices begin: what a change leaves of that, and that windows are made of whole slices.
use Rattle.std.proofs.Common.{◌≡◌, inl, inr, ℕ, ◌^◌, ◌≤◌, ◌<◌, ◌&&◌, nat_lt, nat_le, max, min, Bool, true, false, cond}
use Rattle.std.proofs.Common.{List, [], ◌∷◌, ◌++◌, map, refl, sym, ap, ap₂, subst, ◌∙◌, arith}
use Rattle.std.proofs.lemmas.Bool.{and_parts, and_from, and_left, cases_lt, lt-ltb, le-ltb, lt-leb, le-leb, ltb-true, leb-true}
use Rattle.std.specs.List.{AllByRecursion}
use Rattle.as_base.specs.declared.message.Change.{Change}
use Rattle.as_base.specs.declared.message.Change.TheVariants.{Opened, Closed}
use Rattle.as_base.specs.declared.stream.StreamId.{StreamId}
use Rattle.as_base.specs.Windows.{start_of, end_of, last_edge}
use Rattle.as_base.proofs.WindowLaws.{last_edge-le, edge-le-last_edge}
use Rattle.views.specs.Query.{Query, opened}
use Rattle.views.specs.View.{reads}
use Rattle.views.specs.Slots.{Holder, opened_holder, closed_holder, held, lives_at, is_windowed, up_to, edge_by, cut_by, cut, holds_in_life}
use Rattle.views.specs.IsHolder.{time_of, IsUnended, IsAmong}
use Rattle.views.proofs.NumberLaws.{ended}
use Rattle.views.proofs.SlotLaws.{closed-by, still-lives, lives-ended}

-- ---- a change leaves the cuts before it

up_to-later : (t time : ℕ) → t < time → up_to t time ≡ 0
up_to-later t time early = ap (λ b. cond b time 0) (lt-leb time t early)

cut-ended : (s : StreamId) (t at : ℕ) (q : Query) → t < q.to → t < at → cut_by s t (ended at q) ≡ cut_by s t q
cut-ended s t at q before early =
    ap₂
    (λ end lives. max (up_to t q.from)
    (max end (cond ((nat_le q.from t && lives) && is_windowed q.plan && reads q.plan s) (last_edge q.plan.win t) 0)))
    (up_to-later t at early ∙ sym (up_to-later t q.to before)) (lives-ended t q.to at before early)

cut-closed : (s : StreamId) (t n at : ℕ) (hs : List Holder) → AllByRecursion IsUnended hs → t < at → t < 2 ^ 62
    → cut (map (closed_holder n at) hs) s t ≡ cut hs s t
cut-closed s t n at [] u early low = refl
cut-closed s t n at (h ∷ hs) u early low =
    ap₂ (λ a b. max a b)
    (closed-by (λ q. cut_by s t q ≡ cut_by s t h.query) n at h.query
    (λ live. cut-ended s t at h.query (still-lives n t h u.0 low live) early) refl)
    (cut-closed s t n at hs u.1 early low)

cut-append : (s : StreamId) (t : ℕ) (hs gs : List Holder) → cut (hs ++ gs) s t ≡ max (cut hs s t) (cut gs s t)
cut-append s t [] gs = omega arith
cut-append s t (h ∷ hs) gs = let e = cut-append s t hs gs in omega (arith, e)

-- a query that begins and ends later makes no slice begin
cut-later : (s : StreamId) (t : ℕ) (q : Query) → t < q.from → t < q.to → cut_by s t q ≡ 0
cut-later s t q early low =
    let a : up_to t q.from ≡ 0 = up_to-later t q.from early in
    let b : up_to t q.to ≡ 0 = up_to-later t q.to low in
    let dead : lives_at q t ≡ false = and_left (nat_le q.from t) (nat_lt t q.to) (lt-leb q.from t early) in
    let c : edge_by s t q ≡ 0 = ap (λ lives. cond (lives && is_windowed q.plan && reads q.plan s) (last_edge q.plan.win t) 0) dead in
    omega (arith, a, b, c)

pub cut-held : (hs : List Holder) (c : Change) (s : StreamId) (t : ℕ) → AllByRecursion IsUnended hs → t < time_of c → t < 2 ^ 62
    → cut (held hs c) s t ≡ cut hs s t
cut-held hs (Opened n slot at plan) s t u early low =
    cut-append s t hs (opened_holder n slot at plan ∷ [])
    ∙ (let e = cut-later s t (opened n plan at) early low in omega (arith, e))
cut-held hs (Closed n slot at) s t u early low = cut-closed s t n at hs u early low

-- ---- a slice begins no later than its times, and no earlier than what cuts it

or_none-le : (n t : ℕ) (b : Bool) → n ≤ t → cond b n 0 ≤ t
or_none-le n t true low = low
or_none-le n t false low = omega arith

up_to-le : (t time : ℕ) → up_to t time ≤ t
up_to-le t time = go (nat_le time t) refl
  where
    go : (b : Bool) → nat_le time t ≡ b → cond b time 0 ≤ t
    go true e = leb-true time t e
    go false e = omega arith

cut_by-le : (s : StreamId) (t : ℕ) (q : Query) → cut_by s t q ≤ t
cut_by-le s t q =
    let a = up_to-le t q.from in
    let b = up_to-le t q.to in
    let c = or_none-le (last_edge q.plan.win t) t (lives_at q t && is_windowed q.plan && reads q.plan s) (last_edge-le q.plan.win t) in
    omega (arith, a, b, c)

pub cut-le : (hs : List Holder) (s : StreamId) (t : ℕ) → cut hs s t ≤ t
cut-le [] s t = omega arith
cut-le (h ∷ hs) s t = let a = cut_by-le s t h.query in let b = cut-le hs s t in omega (arith, a, b)

cut_by-le-cut : (s : StreamId) (t : ℕ) (front : List Holder) (h : Holder) (back : List Holder)
    → cut_by s t h.query ≤ cut (front ++ h ∷ back) s t
cut_by-le-cut s t [] h back = omega arith
cut_by-le-cut s t (g ∷ front) h back = let a = cut_by-le-cut s t front h back in omega (arith, a)

-- ---- windows go by slices

-- no bound is passed between the beginning of a slice and its times
from-by_cut : (start from t c : ℕ) → c ≤ t → from ≤ c → (start ≤ t → start ≤ c) → nat_le (max start from) t ≡ nat_le (max start from) c
from-by_cut start from t c low begun edge = elim (cases_lt t start) [
  | inl early ↦ lt-leb (max start from) t (omega (arith, early)) ∙ sym (lt-leb (max start from) c (omega (arith, early, low)))
  | inr late ↦ le-leb (max start from) t (omega (arith, late, begun, low))
      ∙ sym (le-leb (max start from) c (omega (arith, begun, edge late)))
]

to-by_cut : (end to t c : ℕ) → c ≤ t → t < to → (end ≤ t → end ≤ c) → nat_lt t (min end to) ≡ nat_lt c (min end to)
to-by_cut end to t c low before edge = elim (cases_lt t end) [
  | inl early ↦ lt-ltb t (min end to) (omega (arith, early, before)) ∙ sym (lt-ltb c (min end to) (omega (arith, early, before, low)))
  | inr late ↦ le-ltb t (min end to) (omega (arith, late)) ∙ sym (le-ltb c (min end to) (omega (arith, edge late)))
]

pub windows-by_cut : (hs : List Holder) (h : Holder) (s : StreamId) (t k : ℕ) → IsAmong h hs → is_windowed h.query.plan ≡ true
    → 0 < h.query.plan.win.slide
    → lives_at h.query t ≡ true → reads h.query.plan s ≡ true
    → holds_in_life h.query k t ≡ holds_in_life h.query k (cut hs s t)
windows-by_cut hs h s t k (front, back, is) windowed moves lives reading =
    let q : Query = h.query in
    let c : ℕ = cut hs s t in
    let low : c ≤ t = cut-le hs s t in
    let least : cut_by s t q ≤ c = subst (λ (l : List Holder). cut_by s t h.query ≤ cut l s t) (sym is) (cut_by-le-cut s t front h back) in
    let life = and_parts (nat_le q.from t) (nat_lt t q.to) lives in
    let on : (lives_at q t && is_windowed q.plan && reads q.plan s) ≡ true =
    and_from (lives_at q t && is_windowed q.plan) (reads q.plan s) (and_from (lives_at q t) (is_windowed q.plan) lives windowed) reading in
    let edge : edge_by s t q ≡ last_edge q.plan.win t = ap (λ b. cond b (last_edge q.plan.win t) 0) on in
    let born : up_to t q.from ≡ q.from = ap (λ b. cond b q.from 0) life.0 in
    let last : last_edge q.plan.win t ≤ c = omega (arith, least, edge) in
    ap₂ (λ a b. a && b)
    (from-by_cut (start_of q.plan.win k) q.from t c low (omega (arith, least, born))
    (λ late. at_edge (start_of q.plan.win k) (last_edge q.plan.win t) c
    (edge-le-last_edge q.plan.win (start_of q.plan.win k) t moves (k, inl refl) late) last))
    (to-by_cut (end_of q.plan.win k) q.to t c low (ltb-true t q.to life.1)
    (λ late. at_edge (end_of q.plan.win k) (last_edge q.plan.win t) c
    (edge-le-last_edge q.plan.win (end_of q.plan.win k) t moves (k, inr refl) late) last))
  where
    at_edge : (e last c : ℕ) → e ≤ last → last ≤ c → e ≤ c
    at_edge e last c a b = omega (arith, a, b)
