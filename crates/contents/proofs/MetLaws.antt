-- Which slices have met: what a change leaves of that, and that slices which begin in a passed window of a join have.
use Rattle.std.proofs.Common.{◌≡◌, inl, inr, ℕ, zero, suc, ◌+◌, ◌-◌, ◌*◌, ◌/◌, ◌^◌, ◌≤◌, ◌<◌, ◌&&◌, ◌||◌, not, nat_le, nat_lt, max, min, eqb, Bool, cond, true, false, List, [], ◌∷◌, map, refl, sym, ap, ap₂, ◌∙◌, arith}
use Rattle.std.proofs.lemmas.Bool.{lt-leb, leb-true, ltb-true, eq-eqb, cases_lt, and_parts, and_from, and_left, and_right, or_left, or_right}
use Rattle.std.proofs.lemmas.Nat.{le-div}
use Rattle.std.proofs.Math.Nat.{div-mul-le_self}
use Rattle.std.specs.List.{list_any, range_with_len, AllByRecursion}
use Rattle.as_base.specs.declared.message.Change.{Change}
use Rattle.as_base.specs.declared.message.Change.TheVariants.{Opened, Closed}
use Rattle.as_base.specs.declared.stream.StreamId.{StreamId}
use Rattle.as_base.specs.declared.windows.WinSpec.{WinSpec}
use Rattle.as_base.specs.Stream.{place_of}
use Rattle.as_base.specs.Windows.{start_of, end_of, first_window, last_window, windows_at}
use Rattle.views.specs.IsHolder.{time_of, IsUnended, IsAmong}
use Rattle.views.specs.Query.{Query, closed, opened}
use Rattle.views.specs.Slots.{Holder, opened_holder, closed_holder, held, holds_in_life}
use Rattle.views.specs.View.{reads}
use Rattle.views.proofs.NumberLaws.{ended}
use Rattle.views.proofs.SlotLaws.{closed-by}
use Rattle.contents.specs.Kept.{is_open_window}
use Rattle.contents.specs.Pairs.{is_join, passed_both, have_met}
use Rattle.contents.proofs.NeedLaws.{any-push}
use Rattle.contents.proofs.PairLaws.{any-among}
use Rattle.contents.proofs.StoreLaws.{IsClear, end-case, open-ended}

any-same : {X : Type 0} (p q : X → Bool) (xs : List X) → ((x : X) → p x ≡ q x) → list_any p xs ≡ list_any q xs
any-same p q [] h = refl
any-same p q (x ∷ xs) h = ap (λ b. b || list_any p xs) (h x) ∙ ap (λ b. q x || b) (any-same p q xs h)

any-none : {X : Type 0} (p : X → Bool) (xs : List X) → ((x : X) → p x ≡ false) → list_any p xs ≡ false
any-none p [] h = refl
any-none p (x ∷ xs) h = ap (λ b. b || list_any p xs) (h x) ∙ any-none p xs h

-- ---- a change

holds-ended : (q : Query) (at k t : ℕ) → t < at → at ≤ 2 ^ 62 → q.to ≡ 2 ^ 62 → holds_in_life (ended at q) k t ≡ holds_in_life q k t
holds-ended q at k t l f e =
    ap (λ b. nat_le (max (start_of q.plan.win k) q.from) t && b) (end-case t (end_of q.plan.win k) at f (inr l) ∙ ap (λ x. nat_lt t (min (end_of q.plan.win k) x)) (sym e))

passed-ended : (marks : List ℕ) (q : Query) (at c d : ℕ) → IsClear marks at → c < at → d < at → at ≤ 2 ^ 62 → q.to ≡ 2 ^ 62 → passed_both marks (ended at q) c d ≡ passed_both marks q c d
passed-ended marks q at c d k l m f e =
    any-same (λ w. holds_in_life (ended at q) w c && holds_in_life (ended at q) w d && not (is_open_window marks (ended at q) w)) (λ w. holds_in_life q w c && holds_in_life q w d && not (is_open_window marks q w)) (windows_at q.plan.win c)
    (λ w. ap (λ b. b && holds_in_life (ended at q) w d && not (is_open_window marks (ended at q) w)) (holds-ended q at w c l f e) ∙ ap (λ b. holds_in_life q w c && b && not (is_open_window marks (ended at q) w)) (holds-ended q at w d m f e)
    ∙ ap (λ b. holds_in_life q w c && holds_in_life q w d && not b) (open-ended marks q at w k (omega (arith, l)) f e))

-- a query that is opened later has met nothing
passed-opened : (marks : List ℕ) (q : Query) (c d : ℕ) → c < q.from → passed_both marks q c d ≡ false
passed-opened marks q c d l = any-none (λ w. holds_in_life q w c && holds_in_life q w d && not (is_open_window marks q w)) (windows_at q.plan.win c)
    (λ w. ap (λ b. b && holds_in_life q w d && not (is_open_window marks q w)) (and_left (nat_le (max (start_of q.plan.win w) q.from) c) (nat_lt c (min (end_of q.plan.win w) q.to)) (lt-leb (max (start_of q.plan.win w) q.from) c (omega (arith, l)))))

abbrev meets-by : List ℕ → StreamId → StreamId → ℕ → ℕ → Query → Bool
meets-by marks a b c d q = is_join q.plan.kind && reads q.plan a && reads q.plan b && passed_both marks q c d

met-closed : (marks : List ℕ) (a b : StreamId) (n at c d : ℕ) (h : Holder) → IsUnended h → IsClear marks at → c < at → d < at → at ≤ 2 ^ 62
    → meets-by marks a b c d (closed n at h.query) ≡ meets-by marks a b c d h.query
met-closed marks a b n at c d h u k l m f = closed-by (λ q. meets-by marks a b c d q ≡ meets-by marks a b c d h.query) n at h.query
    (λ live. ap (λ y. is_join h.query.plan.kind && reads h.query.plan a && reads h.query.plan b && y) (passed-ended marks h.query at c d k l m f (u.lasts (and_parts (eqb h.query.n n) h.query.live live).1))) refl

all-closed : (marks : List ℕ) (a b : StreamId) (n at c d : ℕ) (hs : List Holder) → AllByRecursion IsUnended hs → IsClear marks at → c < at → d < at → at ≤ 2 ^ 62 → have_met marks (map (closed_holder n at) hs) a b c d ≡ have_met marks hs a b c d
all-closed marks a b n at c d [] u k l m f = refl
all-closed marks a b n at c d (h ∷ hs) u k l m f =
    ap₂ (λ x y. x || y) (met-closed marks a b n at c d h u.0 k l m f) (all-closed marks a b n at c d hs u.1 k l m f)

-- a change leaves which slices have met
pub met-held : (marks : List ℕ) (hs : List Holder) (change : Change) (a b : StreamId) (c d : ℕ) → AllByRecursion IsUnended hs → IsClear marks (time_of change) → c < time_of change → d < time_of change → time_of change ≤ 2 ^ 62
    → have_met marks (held hs change) a b c d ≡ have_met marks hs a b c d
met-held marks hs (Opened n slot at plan) a b c d u k l m f = any-push (λ (h : Holder). meets-by marks a b c d h.query) hs (opened_holder n slot at plan)
    (and_right (is_join plan.kind && reads plan a && reads plan b) (passed_both marks (opened n plan at) c d) (passed-opened marks (opened n plan at) c d l))
met-held marks hs (Closed n slot at) a b c d u k l m f = all-closed marks a b n at c d hs u k l m f

-- ---- a window that is passed

in-range : (p : ℕ → Bool) (k from n : ℕ) → from ≤ k → k < from + n → p k ≡ true → list_any p (range_with_len from n) ≡ true
in-range p k from zero l m e = absurd (omega arith)
in-range p k from (suc n) l m e = elim (cases_lt from k) [
  | inl a ↦ or_right (p from) (list_any p (range_with_len (from + 1) n)) (in-range p k (from + 1) n (omega (arith, a)) (omega arith) e)
  | inr a ↦ or_left (p from) (list_any p (range_with_len (from + 1) n)) (ap p (let z : from ≡ k = omega (arith, a, l) in z) ∙ e)
]

mul-mono : (a b c : ℕ) → a ≤ b → a * c ≤ b * c
mul-mono a b c h = grind arith

first-case : (w : WinSpec) (k t : ℕ) (b : Bool) → nat_lt t w.size ≡ b → t < end_of w k → cond b 0 ((t - w.size) / w.slide + 1) ≤ k
first-case w k t true e l = omega arith
first-case w k t false e l = elim (cases_lt ((t - w.size) / w.slide) k) [
  | inl a ↦ omega (arith, a)
  | inr a ↦ absurd (let m = mul-mono k ((t - w.size) / w.slide) w.slide a in let d = div-mul-le_self (t - w.size) w.slide in let s = from-false t w.size e in omega (arith, m, d, s, l))
]
  where
    from-false : (a b : ℕ) → nat_lt a b ≡ false → b ≤ a
    from-false a b e = grind arith

-- slices that begin in a passed window of a join have met
pub met-in_window : (marks : List ℕ) (hs : List Holder) (h : Holder) (k c d : ℕ) → IsAmong h hs → 0 < h.query.plan.win.slide → is_join h.query.plan.kind ≡ true → is_open_window marks h.query k ≡ false
    → holds_in_life h.query k c ≡ true → holds_in_life h.query k d ≡ true → have_met marks hs h.query.plan.left h.query.plan.right c d ≡ true
met-in_window marks hs h k c d among slide join passed i j =
    let q : Query = h.query in
    let l = and_parts (nat_le (max (start_of q.plan.win k) q.from) c) (nat_lt c (min (end_of q.plan.win k) q.to)) i in
    let lo : max (start_of q.plan.win k) q.from ≤ c = leb-true (max (start_of q.plan.win k) q.from) c l.0 in
    let hi : c < min (end_of q.plan.win k) q.to = ltb-true c (min (end_of q.plan.win k) q.to) l.1 in
    let a : first_window q.plan.win c ≤ k = first-case q.plan.win k c (nat_lt c q.plan.win.size) refl (omega (arith, hi)) in
    let b : k ≤ last_window q.plan.win c = le-div k c q.plan.win.slide slide (omega (arith, lo)) in
    let met : passed_both marks q c d ≡ true = in-range (λ x. holds_in_life q x c && holds_in_life q x d && not (is_open_window marks q x)) k (first_window q.plan.win c) (last_window q.plan.win c - first_window q.plan.win c + 1) a (omega (arith, a, b))
    (and_from (holds_in_life q k c && holds_in_life q k d) (not (is_open_window marks q k)) (and_from (holds_in_life q k c) (holds_in_life q k d) i j) (ap not passed)) in
    let left : reads q.plan q.plan.left ≡ true = or_left (eqb (place_of q.plan.left) (place_of q.plan.left)) (eqb (place_of q.plan.right) (place_of q.plan.left)) (eq-eqb (place_of q.plan.left) (place_of q.plan.left) refl) in
    let right : reads q.plan q.plan.right ≡ true = or_right (eqb (place_of q.plan.left) (place_of q.plan.right)) (eqb (place_of q.plan.right) (place_of q.plan.right)) (eq-eqb (place_of q.plan.right) (place_of q.plan.right) refl) in
    any-among (λ (g : Holder). meets-by marks q.plan.left q.plan.right c d g.query) hs h among
    (and_from (is_join q.plan.kind && reads q.plan q.plan.left && reads q.plan q.plan.right) (passed_both marks q c d)
    (and_from (is_join q.plan.kind && reads q.plan q.plan.left) (reads q.plan q.plan.right) (and_from (is_join q.plan.kind) (reads q.plan q.plan.left) join left) right) met)
