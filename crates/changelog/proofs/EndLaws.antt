-- Up to the next edge the last edge is the same one.
use Rattle.std.proofs.Common.{◌≡◌, ℕ, ◌+◌, ◌-◌, ◌*◌, ◌/◌, ◌^◌, ◌<◌, ◌≤◌, Bool, true, false, cond, ◌&&◌, eqb, nat_lt, max, Option, Some, None, refl, sym, ap, ◌∙◌, arith}
use Rattle.std.proofs.lemmas.Bool.{ltb-true, ltb-false, lt-ltb, eqb-true, eqb-false, false_from_ne_true}
use Rattle.std.proofs.lemmas.Nat.{le-div}
use Rattle.std.proofs.Math.Nat.{div-mul-le_self, lt-div-mul-add}
use Rattle.as_base.specs.declared.query.Plan.{Plan}
use Rattle.as_base.specs.declared.stream.StreamId.{StreamId}
use Rattle.as_base.specs.declared.windows.WinSpec.{WinSpec}
use Rattle.as_base.specs.Windows.{end_of, last_edge}
use Rattle.views.specs.View.{reads}
use Rattle.views.specs.Slots.{has_windows}
use Rattle.changelog.specs.Changes.{edge_of}
use Rattle.changelog.specs.Ends.{next_multiple, next_edge, edge_after}

mul_lt : (a b c : ℕ) → a * c < b * c → a < b
mul_lt a b c h = grind arith

pub mul-next : (a c : ℕ) → (a + 1) * c ≡ a * c + c
mul-next a c = grind arith

by_zero : (a c : ℕ) → c ≡ 0 → a * c ≡ 0
by_zero a c e = grind arith

-- the last multiple stays up to the next one
same_multiple : (c t u : ℕ) → t ≤ u → u < next_multiple c t → u / c * c ≡ t / c * c
same_multiple c t u le below = by_cases (eqb c 0) refl below
  where
    by_cases : (b : Bool) → eqb c 0 ≡ b → u < cond b (2 ^ 62) (t / c * c + c) → u / c * c ≡ t / c * c
    by_cases true e h = by_zero (u / c) c (eqb-true c 0 e) ∙ sym (by_zero (t / c) c (eqb-true c 0 e))
    by_cases false e h =
        let some : 0 < c = omega (arith, eqb-false c 0 e) in
        let down : t / c ≤ u / c = le-div (t / c) u c some (omega (arith, div-mul-le_self t c, le)) in
        let up : u / c < t / c + 1 = mul_lt (u / c) (t / c + 1) c (omega (arith, div-mul-le_self u c, h, mul-next (t / c) c)) in
        let same : u / c ≡ t / c = omega (arith, down, up) in
        ap (λ n. n * c) same

after_multiple : (c t : ℕ) → t < 2 ^ 62 → t < next_multiple c t
after_multiple c t most = by_cases (eqb c 0) refl
  where
    by_cases : (b : Bool) → eqb c 0 ≡ b → t < cond b (2 ^ 62) (t / c * c + c)
    by_cases true e = most
    by_cases false e = let some : 0 < c = omega (arith, eqb-false c 0 e) in lt-div-mul-add some

same_end : (w : WinSpec) (t u : ℕ) (b : Bool) → nat_lt t w.size ≡ b → t ≤ u → u < cond b w.size (next_multiple w.slide (t - w.size) + w.size)
    → cond (nat_lt u w.size) 0 (end_of w ((u - w.size) / w.slide)) ≡ cond b 0 (end_of w ((t - w.size) / w.slide))
same_end w t u true e le below = ap (λ b. cond b 0 (end_of w ((u - w.size) / w.slide))) (lt-ltb u w.size below)
same_end w t u false e le below =
    let past : w.size ≤ t = ltb-false t w.size e in
    let late : nat_lt u w.size ≡ false = false_from_ne_true _ (λ x. let l = ltb-true u w.size x in omega (arith, l, past, le)) in
    ap (λ b. cond b 0 (end_of w ((u - w.size) / w.slide))) late
    ∙ ap (λ n. n + w.size) (same_multiple w.slide (t - w.size) (u - w.size) (omega (arith, le)) (omega (arith, below, past, le)))

pub last_edge-while : (w : WinSpec) (t u : ℕ) → t ≤ u → u < next_edge w t → last_edge w u ≡ last_edge w t
last_edge-while w t u le below =
    let starts = same_multiple w.slide t u le (omega (arith, below)) in
    let ends = same_end w t u (nat_lt t w.size) refl le (omega (arith, below)) in
    λ i. max (starts i) (ends i)

after_end : (w : WinSpec) (t : ℕ) (b : Bool) → nat_lt t w.size ≡ b → t < 2 ^ 62 → t < cond b w.size (next_multiple w.slide (t - w.size) + w.size)
after_end w t true e most = ltb-true t w.size e
after_end w t false e most = let past = ltb-false t w.size e in let after = after_multiple w.slide (t - w.size) (omega (arith, most)) in omega (arith, after, past)

pub next_edge-after : (w : WinSpec) (t : ℕ) → t < 2 ^ 62 → t < next_edge w t
next_edge-after w t most =
    let starts = after_multiple w.slide t most in
    let ends = after_end w t (nat_lt t w.size) refl most in
    omega (arith, starts, ends, most)

-- the same of the owner of a slot
pub edge_of-while : (s : StreamId) (t u : ℕ) (holder : Option (ℕ × Plan)) → t ≤ u → u < edge_after s t holder → edge_of s u holder ≡ edge_of s t holder
edge_of-while s t u None le below = refl
edge_of-while s t u (Some q) le below = by_cases (has_windows q.1.kind && reads q.1 s) below
  where
    by_cases : (b : Bool) → u < cond b (next_edge q.1.win t) (2 ^ 62) → cond b (last_edge q.1.win u) 0 ≡ cond b (last_edge q.1.win t) 0
    by_cases true h = last_edge-while q.1.win t u le h
    by_cases false h = refl

pub edge_after-after : (s : StreamId) (t : ℕ) (holder : Option (ℕ × Plan)) → t < 2 ^ 62 → t < edge_after s t holder
edge_after-after s t None most = most
edge_after-after s t (Some q) most = by_cases (has_windows q.1.kind && reads q.1 s)
  where
    by_cases : (b : Bool) → t < cond b (next_edge q.1.win t) (2 ^ 62)
    by_cases true = next_edge-after q.1.win t most
    by_cases false = most
