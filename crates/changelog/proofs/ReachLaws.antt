-- At the end of a slice another one begins.
use Rattle.std.proofs.Common.{◌≡◌, ⊎_elim, ℕ, zero, suc, ◌+◌, ◌-◌, ◌*◌, ◌/◌, ◌^◌, ◌<◌, ◌≤◌, Bool, true, false, cond, ◌&&◌, eqb, nat_lt, max, min, Option, Some, None, List, [], ◌∷◌, length, get_or, take, refl, sym, subst, ◌∙◌, arith}
use Rattle.std.specs.List.{AllByRecursion}
use Rattle.std.proofs.lemmas.Bool.{ltb-true, eqb-false, cases_lt}
use Rattle.std.proofs.lemmas.Nat.{le-div}
use Rattle.as_base.specs.declared.query.Plan.{Plan}
use Rattle.as_base.specs.declared.stream.StreamId.{StreamId}
use Rattle.as_base.specs.declared.windows.WinSpec.{WinSpec}
use Rattle.as_base.specs.Windows.{start_of, end_of, last_edge}
use Rattle.as_base.proofs.WindowLaws.{last_edge-le}
use Rattle.views.specs.View.{reads}
use Rattle.views.specs.Slots.{has_windows}
use Rattle.changelog.specs.Changes.{AreClimbing, until, last_or, edge_of, greatest_below}
use Rattle.changelog.specs.Ends.{next_multiple, next_edge, edge_after, least_below}
use Rattle.changelog.proofs.EndLaws.{mul-next}
use Rattle.changelog.proofs.NumberLaws.{All-at, one-more, none-more, until-above}

mul_mono : (a b c : ℕ) → a ≤ b → a * c ≤ b * c
mul_mono a b c h = grind arith

-- ---- edges

-- the next multiple is its own last one
reach_multiple : (c t : ℕ) → next_multiple c t < 2 ^ 62 → next_multiple c t ≤ next_multiple c t / c * c
reach_multiple c t = by_cases (eqb c 0) refl
  where
    by_cases : (b : Bool) → eqb c 0 ≡ b → cond b (2 ^ 62) (t / c * c + c) < 2 ^ 62 → cond b (2 ^ 62) (t / c * c + c) ≤ cond b (2 ^ 62) (t / c * c + c) / c * c
    by_cases true e most = absurd (omega (arith, most))
    by_cases false e most =
        let some : 0 < c = omega (arith, eqb-false c 0 e) in
        let more = mul-next (t / c) c in
        let up : t / c + 1 ≤ (t / c * c + c) / c = le-div (t / c + 1) (t / c * c + c) c some (omega (arith, more)) in
        omega (arith, more, mul_mono (t / c + 1) ((t / c * c + c) / c) c up)

at_start : (w : WinSpec) (t r : ℕ) → next_multiple w.slide t ≡ r → r < 2 ^ 62 → r ≤ last_edge w r
at_start w t r is most = subst (λ n. n ≤ last_edge w n) is (let reach = reach_multiple w.slide t (omega (arith, is, most)) in omega (arith, reach))

end_reach : (w : WinSpec) (r x : ℕ) → w.size ≤ r → r ≤ (r - w.size) / w.slide * w.slide + w.size → (b : Bool) → nat_lt r w.size ≡ b → r ≤ max x (cond b 0 (end_of w ((r - w.size) / w.slide)))
end_reach w r x past reach true e = absurd (let l = ltb-true r w.size e in omega (arith, l, past))
end_reach w r x past reach false e = omega (arith, reach)

at_end : (w : WinSpec) (t r : ℕ) (b : Bool) → nat_lt t w.size ≡ b → cond b w.size (next_multiple w.slide (t - w.size) + w.size) ≡ r → r < 2 ^ 62 → r ≤ last_edge w r
at_end w t r true e is most = end_reach w r (start_of w (r / w.slide)) (omega (arith, is)) (omega (arith, is)) (nat_lt r w.size) refl
at_end w t r false e is most =
    let n = next_multiple w.slide (t - w.size) in
    let reach = reach_multiple w.slide (t - w.size) (omega (arith, is, most)) in
    let back : n ≡ r - w.size = omega (arith, is) in
    let there : n ≤ (r - w.size) / w.slide * w.slide = subst (λ m. n ≤ m / w.slide * w.slide) back reach in
    end_reach w r (start_of w (r / w.slide)) (omega (arith, is)) (omega (arith, is, there)) (nat_lt r w.size) refl

next_edge-reach : (w : WinSpec) (t r : ℕ) → next_edge w t ≡ r → r < 2 ^ 62 → r ≤ last_edge w r
next_edge-reach w t r is most = choose (next_multiple w.slide t) (cond (nat_lt t w.size) w.size (next_multiple w.slide (t - w.size) + w.size)) is
    (λ start. at_start w t r start most) (λ end. at_end w t r (nat_lt t w.size) refl end most)
  where
    choose : (a b : ℕ) → min (min a b) (2 ^ 62) ≡ r → (a ≡ r → r ≤ last_edge w r) → (b ≡ r → r ≤ last_edge w r) → r ≤ last_edge w r
    choose a b e first second = ⊎_elim (λ l. first (omega (arith, e, l, most))) (λ g. second (omega (arith, e, g, most))) (cases_lt a b)

pub edge_after-reach : (s : StreamId) (t r : ℕ) (holder : Option (ℕ × Plan)) → edge_after s t holder ≡ r → r < 2 ^ 62 → r ≤ edge_of s r holder
edge_after-reach s t r None is most = absurd (omega (arith, is, most))
edge_after-reach s t r (Some q) is most = by_cases (has_windows q.1.kind && reads q.1 s) is
  where
    by_cases : (b : Bool) → cond b (next_edge q.1.win t) (2 ^ 62) ≡ r → r ≤ cond b (last_edge q.1.win r) 0
    by_cases true e = next_edge-reach q.1.win t r e most
    by_cases false e = absurd (omega (arith, e, most))

pub edge_of-le : (s : StreamId) (t : ℕ) (holder : Option (ℕ × Plan)) → edge_of s t holder ≤ t
edge_of-le s t None = omega arith
edge_of-le s t (Some q) = by_cases (has_windows q.1.kind && reads q.1 s)
  where
    by_cases : (b : Bool) → cond b (last_edge q.1.win t) 0 ≤ t
    by_cases true = last_edge-le q.1.win t
    by_cases false = omega arith

-- where the least is, something is reached
pub least_below-reach : (f after : ℕ → ℕ) (r n : ℕ) → r < 2 ^ 62 → ((k : ℕ) → after k ≡ r → r ≤ f k) → least_below after n ≡ r → r ≤ greatest_below f n
unfolding greatest_below least_below
least_below-reach f after r zero most reach is = absurd (omega (arith, is, most))
least_below-reach f after r (suc n) most reach is = ⊎_elim
    (λ l. let rest = least_below-reach f after r n most reach (omega (arith, is, l)) in omega (arith, rest))
    (λ g. let here = reach n (omega (arith, is, g)) in omega (arith, here))
    (cases_lt (least_below after n) (after n))

-- ---- changes

-- the last that is not after the time is not after it
pub last_or-until-le : (before r : ℕ) (ns : List ℕ) → AreClimbing ns → before ≤ r → last_or before (take (until r ns) ns) ≤ r
last_or-until-le before r [] h low = none (until r [])
  where
    none : (k : ℕ) → last_or before (take k []) ≤ r
    none zero = low
    none (suc k) = low
last_or-until-le before r (n ∷ ns) h low = ⊎_elim
    (λ late. let none : until r (n ∷ ns) ≡ 0 = none-more r n ns late ∙ until-above n ns r h.0 late in subst (λ k. last_or before (take k (n ∷ ns)) ≤ r) (sym none) low)
    (λ early. let one : until r (n ∷ ns) ≡ suc (until r ns) = one-more r n ns early in
    subst (λ k. last_or before (take k (n ∷ ns)) ≤ r) (sym one) (last_or-until-le n r ns h.1 early))
    (cases_lt r n)

above_all : (n before k : ℕ) (ns : List ℕ) → n ≤ before → AllByRecursion (λ m. n ≤ m) ns → n ≤ last_or before (take k ns)
above_all n before zero ns low h = low
above_all n before (suc k) [] low h = low
above_all n before (suc k) (m ∷ ns) low h = above_all n m k ns h.0 h.1

-- one that is at the time is reached
pub last_or-until-reach : (before r : ℕ) (ns : List ℕ) (i : ℕ) → AreClimbing ns → i < length ns → get_or ns i 0 ≡ r → r ≤ last_or before (take (until r ns) ns)
last_or-until-reach before r [] i h within is = absurd (omega arith)
last_or-until-reach before r (n ∷ ns) zero h within is =
    let one : until r (n ∷ ns) ≡ suc (until r ns) = one-more r n ns (omega (arith, is)) in
    subst (λ k. r ≤ last_or before (take k (n ∷ ns))) (sym one) (subst (λ m. m ≤ last_or n (take (until r ns) ns)) is (above_all n n (until r ns) ns (omega arith) h.0))
last_or-until-reach before r (n ∷ ns) (suc i) h within is =
    let low : n ≤ get_or ns i 0 = All-at (λ m. n ≤ m) ns i h.0 (omega arith) in
    let one : until r (n ∷ ns) ≡ suc (until r ns) = one-more r n ns (omega (arith, is, low)) in
    subst (λ k. r ≤ last_or before (take k (n ∷ ns))) (sym one) (last_or-until-reach n r ns i h.1 (omega arith) is)

-- what is there is no default
pub found : (ns : List ℕ) (i d r : ℕ) → get_or ns i d ≡ r → r < d → (i < length ns) × (get_or ns i 0 ≡ r)
found [] zero d r is below = absurd (omega (arith, is, below))
found [] (suc i) d r is below = absurd (omega (arith, is, below))
found (n ∷ ns) zero d r is below = (omega arith, is)
found (n ∷ ns) (suc i) d r is below = let rest = found ns i d r is below in let within = rest.0 in (omega (arith, within), rest.1)
