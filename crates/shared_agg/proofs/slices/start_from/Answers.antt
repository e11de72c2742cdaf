use Rattle.std.proofs.Common.{◌≡◌, ◌<◌, ◌≤◌, ◌∙◌, length, ap, sym, arith}
use Rattle.shared_agg.specs.declared.slices.Slice.{Slice}
use Rattle.shared_agg.proofs.OrderLaws.{begins-later}
use Rattle.shared_agg.proofs.SliceLaws.{none-between, slice-there}
use Rattle.shared_agg.proofs.slices.start_from.Goals as goal

pub returns-then-place-len-clause-from : goal.returns-then-place-len-clause-from
returns-then-place-len-clause-from c =
    let x = c.index.result.now in
    let count = c.count_before-place.ensures.count in
    let is = ap (λ (s : Slice). s.start) c.index.ensures in
    let later = begins-later c.args.from c.args.slices.now.items c.requires c.count_before-place.result x (omega (arith, count))
    (let l = c.if-place-len.true in let e = c.len.ensures in omega (arith, l, e)) in
    omega (arith, later, is)

pub returns-then-place-len-clause-none : goal.returns-then-place-len-clause-none
returns-then-place-len-clause-none c = λ at slot low high.
    none-between c.args.from at c.count_before-place.result slot c.args.slices.now.items c.requires c.count_before-place.ensures.count c.count_before-place.ensures.bound low
    (λ d l. let is = ap (λ (s : Slice). s.start) (c.index.ensures ∙ slice-there c.args.slices.now.items c.count_before-place.result c.index.result.now d l) in omega (arith, is, high))

pub returns-clause-none : goal.returns-clause-none
returns-clause-none c = λ at slot low any.
    none-between c.args.from at c.count_before-place.result slot c.args.slices.now.items c.requires c.count_before-place.ensures.count c.count_before-place.ensures.bound low
    (λ d l. absurd (let e = c.len.ensures in let f = c.if-place-len.false in omega (arith, l, e, f)))
