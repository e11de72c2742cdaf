use Rattle.std.proofs.Common.{◌≡◌, ◌<◌, ◌-◌, length, get_or, sym, ap, subst, ◌∙◌, arith}
use Rattle.shared_agg.specs.declared.slices.Slice.{Slice}
use Rattle.shared_agg.proofs.OrderLaws.{count-is, count-empty, rises-at}
use Rattle.shared_agg.proofs.slices.place_for.Goals as goal
use Rattle.shared_agg.proofs.slices.place_for.Goals.{then-count-eq0-via-then-count-eq0, then-count-eq0-via-else-count-eq0+then-index-start}

-- none is there, or the last begins before
pub returns-then-count-eq0-clause-count : goal.returns-then-count-eq0-clause-count
returns-then-count-eq0-clause-count c =
    let s = c.args.slices.now in
    let n = c.len-count.result in
    let all : n ≡ length s.items = c.len-count.ensures ∙ s.ok.0 in
    elim c.then-count-eq0.branch [
      | then-count-eq0-via-then-count-eq0 w ↦
          count-empty c.args.start n s.items all w.if-count-eq0.true
      | then-count-eq0-via-else-count-eq0+then-index-start w ↦
          let last = w.index.result.now in
          count-is c.args.start n s.items last c.requires (omega (arith, all)) (λ some. subst (λ (x : Slice). x.start < c.args.start) w.index.ensures w.if-index-start.true) (λ more. absurd (omega (arith, all, more)))
    ]

-- the last begins there
pub returns-then-index-start-2-clause-count : goal.returns-then-index-start-2-clause-count
returns-then-index-start-2-clause-count c =
    let s = c.args.slices.now in
    let n = c.len-count.result in
    let all : n ≡ length s.items = c.len-count.ensures ∙ s.ok.0 in
    let last = c.index-2.result.now in
    let here : (get_or s.items (n - 1) last).start ≡ c.args.start = ap (λ (x : Slice). x.start) (sym c.index-2.ensures) ∙ c.if-index-start-2.true in
    count-is c.args.start (n - 1) s.items last c.requires (omega (arith, all))
    (λ some. let before = rises-at s.items c.requires (n - 1 - 1) (n - 1) last (omega (arith, some)) (omega (arith, all, some)) in omega (arith, before, here))
    (λ more. omega (arith, here))
