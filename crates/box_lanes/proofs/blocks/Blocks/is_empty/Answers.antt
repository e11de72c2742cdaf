use Rattle.std.proofs.Common.{[], get_or, sym, ap, ◌∙◌, arith, ⊎_elim}
use Rattle.std.proofs.lemmas.Bool.{cases_eq}
use Rattle.std.proofs.lemmas.List.{get_or_default}
use Rattle.box_lanes.proofs.BlockLaws.{joined-none}
use Rattle.box_lanes.proofs.blocks.Blocks.is_empty.Goals as goal

pub loop-place-preserved : goal.loop-place-preserved
loop-place-preserved c =
    λ k lt.
    let blocks = c.self.inside.blocks.items in
    let place = c.loop-place.place in
    let block = c.index.ensures ∙ get_or_default blocks place c.index.result.now [] (omega (arith, c.loop-place-test.true, c.self.invariant.eight)) in
    ⊎_elim
    (λ e. ap (λ n. get_or blocks n []) e ∙ sym block ∙ c.is_empty.ensures c.if-not-is_empty.false)
    (λ ne. c.loop-place.invariant k (omega (arith, lt, ne)))
    (cases_eq k place)

pub returns : goal.returns
returns c = λ _. sym c.self.view_is ∙ joined-none c.self.inside.blocks.items c.self.invariant (λ k lt. c.loop-place.invariant k (omega (arith, lt, c.loop-place-test.false)))
