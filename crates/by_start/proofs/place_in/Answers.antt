use Rattle.std.proofs.Common.{◌≡◌, ◌-◌, length, ◌∙◌, arith}
use Rattle.by_start.specs.Order.{start_at}
use Rattle.by_start.proofs.OrderLaws.{count-is, rises-at, start_at-read}
use Rattle.by_start.proofs.place_in.Goals as goal
use Rattle.by_start.proofs.place_in.Goals.{then-count-eq0-via-then-count-eq0, then-count-eq0-via-else-count-eq0+then-index-start}

-- none is there, or the last begins before
pub returns-then-count-eq0-clause-count : goal.returns-then-count-eq0-clause-count
returns-then-count-eq0-clause-count g c =
    let s = c.args.list.now in
    let n = c.len-count.result in
    let all : n ≡ length s.items = c.len-count.ensures ∙ s.ok.0 in
    elim c.then-count-eq0.branch [
      | then-count-eq0-via-then-count-eq0 w ↦
          let none = w.if-count-eq0.true in
          count-is c.args.start n s.items c.requires (omega (arith, all)) (λ some. absurd (omega (arith, none, some))) (λ more. absurd (omega (arith, all, more)))
      | then-count-eq0-via-else-count-eq0+then-index-start w ↦
          count-is c.args.start n s.items c.requires (omega (arith, all))
          (λ some. let read = start_at-read s.items (n - 1) w.index.result.now (omega (arith, all, some)) w.index.ensures in let before = w.if-index-start.true in omega (arith, read, before))
          (λ more. absurd (omega (arith, all, more)))
    ]

-- the last begins there
pub returns-then-index-start-2-clause-count : goal.returns-then-index-start-2-clause-count
returns-then-index-start-2-clause-count g c =
    let s = c.args.list.now in
    let n = c.len-count.result in
    let all : n ≡ length s.items = c.len-count.ensures ∙ s.ok.0 in
    let some = c.if-count-eq0.false in
    let here : start_at (n - 1) s.items ≡ c.args.start = start_at-read s.items (n - 1) c.index-2.result.now (omega (arith, all, some)) c.index-2.ensures ∙ c.if-index-start-2.true in
    count-is c.args.start (n - 1) s.items c.requires (omega (arith, all))
    (λ some. let before = rises-at s.items c.requires (n - 1 - 1) (n - 1) (omega (arith, some)) (omega (arith, all, some)) in omega (arith, before, here))
    (λ more. omega (arith, here))
