-- Which windows hold a time, and which edge is the latest that is not after it.
use Rattle.std.proofs.Common.{◌≡◌, ◌⊎◌, inl, inr, ⊎_elim, ℕ, ◌+◌, ◌-◌, ◌*◌, ◌/◌, ◌<◌, ◌≤◌, Bool, true, false, cond, ◌&&◌, nat_lt, nat_le, max, refl, arith}
use Rattle.std.proofs.lemmas.Bool.{and_parts, and_from, ltb-true, lt-ltb, leb-true, leb-false, le-leb, ltb-false}
use Rattle.std.proofs.lemmas.Nat.{le-div}
use Rattle.std.proofs.Math.Nat.{div-mul-le_self, lt-div-mul-add}
use Rattle.as_base.specs.declared.windows.WinSpec.{WinSpec}
use Rattle.as_base.specs.Windows.{fits, start_of, end_of, in_window, first_window, last_window, IsEdge, last_edge}

mul_mono : (a b c : ℕ) → a ≤ b → a * c ≤ b * c
mul_mono a b c h = grind arith

mul_lt : (a b c : ℕ) → a * c < b * c → a < b
mul_lt a b c h = grind arith

one_more : (a c : ℕ) → (a + 1) * c ≡ a * c + c
one_more a c = grind arith

-- what the limits say
pub moves_on : (w : WinSpec) → fits w ≡ true → 0 < w.slide
moves_on w h = let a = and_parts (nat_le 1 w.slide && nat_le w.slide w.size && nat_le w.size 4294967296) (nat_le w.size (64 * w.slide)) h in
    let b = and_parts (nat_le 1 w.slide && nat_le w.slide w.size) (nat_le w.size 4294967296) a.0 in
    let c = and_parts (nat_le 1 w.slide) (nat_le w.slide w.size) b.0 in
    omega (arith, leb-true 1 w.slide c.0)

leaves_no_gap : (w : WinSpec) → fits w ≡ true → w.slide ≤ w.size
leaves_no_gap w h = let a = and_parts (nat_le 1 w.slide && nat_le w.slide w.size && nat_le w.size 4294967296) (nat_le w.size (64 * w.slide)) h in
    let b = and_parts (nat_le 1 w.slide && nat_le w.slide w.size) (nat_le w.size 4294967296) a.0 in
    let c = and_parts (nat_le 1 w.slide) (nat_le w.slide w.size) b.0 in
    leb-true w.slide w.size c.1

overlaps : (w : WinSpec) → fits w ≡ true → w.size ≤ 64 * w.slide
overlaps w h = let a = and_parts (nat_le 1 w.slide && nat_le w.slide w.size && nat_le w.size 4294967296) (nat_le w.size (64 * w.slide)) h in
    leb-true w.size (64 * w.slide) a.1

first_le : (w : WinSpec) (k t : ℕ) (b : Bool) → nat_lt t w.size ≡ b → t < end_of w k → cond b 0 ((t - w.size) / w.slide + 1) ≤ k
first_le w k t true e l = omega arith
first_le w k t false e l =
    let d = div-mul-le_self (t - w.size) w.slide in
    let s = ltb-false t w.size e in
    let below = mul_lt ((t - w.size) / w.slide) k w.slide (omega (arith, d, s, l)) in
    omega (arith, below)

-- where the first window begins to hold times
pub first_reaches : (w : WinSpec) (k t : ℕ) (b : Bool) → 0 < w.slide → nat_lt t w.size ≡ b → cond b 0 ((t - w.size) / w.slide + 1) ≤ k → t < end_of w k
first_reaches w k t true s e l = omega (arith, ltb-true t w.size e)
first_reaches w k t false s e l =
    let m = mul_mono ((t - w.size) / w.slide + 1) k w.slide l in
    let o = one_more ((t - w.size) / w.slide) w.slide in
    let d : t - w.size < (t - w.size) / w.slide * w.slide + w.slide = lt-div-mul-add s in
    omega (arith, m, o, d)

-- a window that holds a time is one of those from the first to the last
pub window-among : (w : WinSpec) (k t : ℕ) → 0 < w.slide → in_window w k t ≡ true → (first_window w t ≤ k) × (k ≤ last_window w t)
window-among w k t s h =
    let parts = and_parts (nat_le (start_of w k) t) (nat_lt t (end_of w k)) h in
    (first_le w k t (nat_lt t w.size) refl (ltb-true t (end_of w k) parts.1), le-div k t w.slide s (leb-true (start_of w k) t parts.0))

-- and each of those holds it
pub among-window : (w : WinSpec) (k t : ℕ) → 0 < w.slide → first_window w t ≤ k → k ≤ last_window w t → in_window w k t ≡ true
among-window w k t s first last =
    let m = mul_mono k (t / w.slide) w.slide last in
    let d = div-mul-le_self t w.slide in
    and_from (nat_le (start_of w k) t) (nat_lt t (end_of w k))
    (le-leb (start_of w k) t (omega (arith, m, d)))
    (lt-ltb t (end_of w k) (first_reaches w k t (nat_lt t w.size) s refl first))

-- some window holds each time, and at most 64 do
first_case : (w : WinSpec) (t : ℕ) (b : Bool) → fits w ≡ true → nat_lt t w.size ≡ b → cond b 0 ((t - w.size) / w.slide + 1) ≤ t / w.slide
first_case w t true h e = omega arith
first_case w t false h e =
    let d = div-mul-le_self (t - w.size) w.slide in
    let o = one_more ((t - w.size) / w.slide) w.slide in
    let s = ltb-false t w.size e in
    le-div ((t - w.size) / w.slide + 1) t w.slide (moves_on w h) (omega (arith, d, o, s, leaves_no_gap w h))

pub first-le-last : (w : WinSpec) (t : ℕ) → fits w ≡ true → first_window w t ≤ last_window w t
first-le-last w t h = first_case w t (nat_lt t w.size) h refl

sixty_four : (a c : ℕ) → (a + 64) * c ≡ a * c + 64 * c
sixty_four a c = grind arith

pub last-lt-first : (w : WinSpec) (t : ℕ) → fits w ≡ true → last_window w t < first_window w t + 64
last-lt-first w t h =
    let below : t < end_of w (first_window w t) = first_reaches w (first_window w t) t (nat_lt t w.size) (moves_on w h) refl (omega arith) in
    let d = div-mul-le_self t w.slide in
    let o = sixty_four (first_window w t) w.slide in
    mul_lt (t / w.slide) (first_window w t + 64) w.slide (omega (arith, below, d, o, overlaps w h))

-- the last edge is an edge
edge_case : (w : WinSpec) (t : ℕ) (b : Bool) → nat_lt t w.size ≡ b → IsEdge w (max (start_of w (t / w.slide)) (cond b 0 (end_of w ((t - w.size) / w.slide))))
edge_case w t true e = (t / w.slide, inl (omega arith))
edge_case w t false e = ⊎_elim
    (λ above. (t / w.slide, inl (omega (arith, above))))
    (λ below. ((t - w.size) / w.slide, inr (omega (arith, below))))
    (either_way (start_of w (t / w.slide)) (end_of w ((t - w.size) / w.slide)))
  where
    either_way : (a b : ℕ) → (b ≤ a) ⊎ (a ≤ b)
    either_way a b = elim (nat_le b a) as (λ x. nat_le b a ≡ x → (b ≤ a) ⊎ (a ≤ b)) [ true ↦ λ e. inl (leb-true b a e) | false ↦ λ e. inr (omega (arith, leb-false b a e)) ] refl

pub last_edge-edge : (w : WinSpec) (t : ℕ) → IsEdge w (last_edge w t)
last_edge-edge w t = edge_case w t (nat_lt t w.size) refl

end_le : (w : WinSpec) (t : ℕ) (b : Bool) → nat_lt t w.size ≡ b → cond b 0 (end_of w ((t - w.size) / w.slide)) ≤ t
end_le w t true e = omega arith
end_le w t false e = omega (arith, div-mul-le_self (t - w.size) w.slide, ltb-false t w.size e)

pub last_edge-le : (w : WinSpec) (t : ℕ) → last_edge w t ≤ t
last_edge-le w t = omega (arith, div-mul-le_self t w.slide, end_le w t (nat_lt t w.size) refl)

start_below : (w : WinSpec) (k t : ℕ) → 0 < w.slide → start_of w k ≤ t → start_of w k ≤ last_edge w t
start_below w k t s h = omega (arith, mul_mono k (t / w.slide) w.slide (le-div k t w.slide s h))

end_case : (w : WinSpec) (k t : ℕ) (b : Bool) → 0 < w.slide → nat_lt t w.size ≡ b → end_of w k ≤ t → end_of w k ≤ max (start_of w (t / w.slide)) (cond b 0 (end_of w ((t - w.size) / w.slide)))
end_case w k t true s e h = absurd (omega (arith, ltb-true t w.size e, h))
end_case w k t false s e h =
    let a = mul_mono k ((t - w.size) / w.slide) w.slide (le-div k (t - w.size) w.slide s (omega (arith, h))) in
    omega (arith, a, ltb-false t w.size e)

-- no edge that is not after the time is later
pub edge-le-last_edge : (w : WinSpec) (e t : ℕ) → 0 < w.slide → IsEdge w e → e ≤ t → e ≤ last_edge w t
edge-le-last_edge w e t s edge h = ⊎_elim
    (λ start. omega (arith, start, start_below w edge.0 t s (omega (arith, start, h))))
    (λ end. omega (arith, end, end_case w edge.0 t (nat_lt t w.size) s refl (omega (arith, end, h))))
    edge.1
