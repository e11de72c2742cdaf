use Rattle.std.proofs.Common.{IsTrue, sym, ap, ◌∙◌}
use Rattle.queryset_lanes.specs.Slots.{both}
use Rattle.box_lanes.specs.Columns.{selected}
use Rattle.box_lanes.proofs.IndexedLaws.{selected-looked}
use Rattle.box_lanes.proofs.columns.Columns.select.Goals as goal

pub returns-then-is_whole-clause-value : goal.returns-then-is_whole-clause-value
returns-then-is_whole-clause-value c =
    let x = c.self.inside.indexes in
    let g = c.args.g.now in
    let whole : IsTrue x.is_whole = sym c.is_whole.ensures ∙ c.if-is_whole.true in
    c.and.ensures.value
    ∙ ap (λ xs. both xs c.args.reads.now) c.look.ensures.value
    ∙ selected-looked x c.self.inside.blocks c.args.reads.now g (c.self.invariant.whole whole) c.look.ensures.fits
    ∙ ap (λ xs. selected xs c.args.reads.now g) c.self.view_is
