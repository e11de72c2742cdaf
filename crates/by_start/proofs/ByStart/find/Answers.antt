use Rattle.std.proofs.Common.{◌≡◌, ◌<◌, length, sym, ap, subst, ◌∙◌, arith}
use Rattle.by_start.specs.Order.{look, start_at, thing_at, begun_before}
use Rattle.by_start.proofs.OrderLaws.{start_at-read, begins-before, begins-later}
use Rattle.by_start.proofs.LookLaws.{look-at, look-gap}
use Rattle.by_start.proofs.ByStart.find.Goals as goal
use Rattle.by_start.proofs.ByStart.find.Goals.{else-place-len-via-then-place-len+else-index-start, else-place-len-via-else-place-len}

-- one begins there
pub returns-then-index-start-clause-begins : goal.returns-then-index-start-clause-begins
returns-then-index-start-clause-begins g c =
    let s = c.self.inside.list in
    rw (← c.self.view_is) (start_at-read s.items c.place_for-place.result c.index.result.now (omega (arith, c.if-place-len.true, c.len.ensures, s.ok.0)) c.index.ensures ∙ c.if-index-start.true)

pub returns-then-index-start-clause-looked : goal.returns-then-index-start-clause-looked
returns-then-index-start-clause-looked g c =
    let s = c.self.inside.list in
    let place = c.place_for-place.result in
    let within : place < length s.items = omega (arith, c.if-place-len.true, c.len.ensures, s.ok.0) in
    rw (← c.self.view_is) (subst (λ t. look t s.items ≡ thing_at place s.items) (start_at-read s.items place c.index.result.now within c.index.ensures ∙ c.if-index-start.true) (look-at s.items c.self.invariant place within))

-- none begins there
pub returns-clause-none : goal.returns-clause-none
returns-clause-none g c =
    let s = c.self.inside.list in
    let place = c.place_for-place.result in
    let counted = c.place_for-place.ensures.count ∙ ap (begun_before c.args.start) (sym c.self.view_is) in
    let later : place < length s.items → c.args.start < start_at place s.items =
    λ within. elim c.else-place-len.branch [
      | else-place-len-via-then-place-len+else-index-start w ↦
          let le = begins-later c.args.start s.items c.self.invariant place (omega (arith, counted)) within in
          let read = start_at-read s.items place w.index.result.now within w.index.ensures in
          let other = w.if-index-start.false in
          omega (arith, le, read, other)
      | else-place-len-via-else-place-len w ↦ absurd (omega (arith, within, w.if-place-len.false, c.len.ensures, s.ok.0))
    ] in
    rw (← c.self.view_is) (look-gap c.args.start place s.items c.self.invariant (λ j low. begins-before c.args.start s.items c.self.invariant j (omega (arith, low, counted))) later)
