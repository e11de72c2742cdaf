use Rattle.std.proofs.Common.{pos, [], sym, ap, ◌∙◌, arith}
use Rattle.std.proofs.lemmas.List.{take_all}
use Rattle.std.proofs.lemmas.Simd.{length-zip2}
use Rattle.std.specs.List.{list_any}
use Rattle.as_base.specs.declared.item.Record.{Record}
use Rattle.as_base.specs.declared.stream.StreamId.TheVariants.{A}
use Rattle.slice_store.specs.Placed.{placed, placed_of, is_awaited}
use Rattle.slice_store.proofs.PlacedLaws.{any-here, none-more}
use Rattle.slice_store.proofs.placements.any_awaited.Goals as goal

-- what stands for a record where there is none
abbrev none : Record
none = record { seq = 0; given = record { stream = A; time = 0; key = pos 0; v = [] } }

pub returns-then-is_awaited : goal.returns-then-is_awaited
returns-then-is_awaited c =
    sym (any-here (is_awaited c.args.windows.now c.args.selects.now c.args.wm) c.args.records.now c.args.sets.now c.loop-place.place none c.index-sets-place.result
    c.requires c.loop-place-test.true c.index-sets-place.is (sym c.is_awaited.ensures ∙ c.if-is_awaited.true))

pub loop-place-preserved : goal.loop-place-preserved
loop-place-preserved c =
    none-more (is_awaited c.args.windows.now c.args.selects.now c.args.wm) c.args.records.now c.args.sets.now c.loop-place.place none c.index-sets-place.result
    c.requires c.loop-place-test.true c.index-sets-place.is c.loop-place.invariant (sym c.is_awaited.ensures ∙ c.if-is_awaited.false)

pub returns : goal.returns
returns c =
    let test = is_awaited c.args.windows.now c.args.selects.now c.args.wm in
    let all = length-zip2 placed c.args.records.now c.args.sets.now c.requires in
    sym (ap (list_any test) (sym (take_all c.loop-place.place (placed_of c.args.records.now c.args.sets.now) (omega (arith, all, c.loop-place-test.false)))) ∙ c.loop-place.invariant)
