use Rattle.std.proofs.Common.{subst, Fits, ℕ, ◌≤◌, ◌+◌, ◌<◌, ◌^◌, ◌∙◌, sym, ap, map, map-id, zero-add, count_by, count_ones, arith, w64, w32}
use Rattle.std.specs.Simd.Lanes.{sum_l}
use Rattle.std.proofs.lemmas.Simd.{sum_fits, fold-sum}
use Rattle.std.proofs.Math.Facts.{Fits-of_lt}
use Rattle.queryset_lanes.proofs.Counts.{count-slots_of, ones_below}
use Rattle.queryset_lanes.proofs.QuerySet.ones.Goals as goal

pub overflow_add-result : goal.overflow_add-result
overflow_add-result c =
    let counts = map (λ (n : ℕ). n) (map count_ones c.lanes.result) in
    let few : sum_l counts ≤ 512 = omega (arith, ap sum_l (map-id (map count_ones c.lanes.result)), ones_below c.lanes.result c.lanes.ensures.words) in
    sum_fits w64 0 counts (omega arith)

pub overflow_cast-result-2 : goal.overflow_cast-result-2
overflow_cast-result-2 c =
    let counts = map (λ (n : ℕ). n) (map count_ones c.lanes.result) in
    let few : sum_l counts ≤ 512 = omega (arith, ap sum_l (map-id (map count_ones c.lanes.result)), ones_below c.lanes.result c.lanes.ensures.words) in
    let fits : 0 + sum_l counts < 2 ^ 32 = omega arith in
    subst (λ n. Fits w32 n) (sym (fold-sum 0 counts)) (Fits-of_lt fits)

pub returns-clause-value : goal.returns-clause-value
returns-clause-value c =
    let words = c.lanes.result in
    fold-sum 0 (map (λ (n : ℕ). n) (map count_ones words))
    ∙ zero-add (sum_l (map (λ (n : ℕ). n) (map count_ones words)))
    ∙ ap sum_l (map-id (map count_ones words))
    ∙ sym (count-slots_of words c.lanes.ensures.words.fit)
    ∙ ap (count_by (λ on. on)) c.lanes.ensures.slots
