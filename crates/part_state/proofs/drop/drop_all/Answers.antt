use Rattle.std.proofs.Common.{◌∙◌, cond, [], ap}
use Rattle.as_base.specs.declared.stream.StreamId.TheVariants.{A, B, C, D}
use Rattle.contents.specs.Past.{mark_of}
use Rattle.part_state.specs.Dropped.{are_dropped}
use Rattle.part_state.proofs.DropLaws.{thinned-then}
use Rattle.part_state.proofs.drop.drop_all.Goals as goal

pub returns-clause-cells : goal.returns-clause-cells
returns-clause-cells c A at slot l = c.drop_passed-4.ensures.cells A at slot l ∙ c.drop_passed-3.ensures.cells A at slot l ∙ c.drop_passed-2.ensures.cells A at slot l ∙ c.drop_passed.ensures.cells A at slot l
returns-clause-cells c B at slot l = c.drop_passed-4.ensures.cells B at slot l ∙ c.drop_passed-3.ensures.cells B at slot l ∙ c.drop_passed-2.ensures.cells B at slot l
    ∙ ap (λ x. cond (are_dropped B (mark_of c.args.marks.now B) c.args.marks.now c.args.entries.now B at slot) [] x) (c.drop_passed.ensures.cells B at slot l)
returns-clause-cells c C at slot l = c.drop_passed-4.ensures.cells C at slot l ∙ c.drop_passed-3.ensures.cells C at slot l
    ∙ ap (λ x. cond (are_dropped C (mark_of c.args.marks.now C) c.args.marks.now c.args.entries.now C at slot) [] x) (c.drop_passed-2.ensures.cells C at slot l ∙ c.drop_passed.ensures.cells C at slot l)
returns-clause-cells c D at slot l = c.drop_passed-4.ensures.cells D at slot l
    ∙ ap (λ x. cond (are_dropped D (mark_of c.args.marks.now D) c.args.marks.now c.args.entries.now D at slot) [] x)
    (c.drop_passed-3.ensures.cells D at slot l ∙ c.drop_passed-2.ensures.cells D at slot l ∙ c.drop_passed.ensures.cells D at slot l)

pub returns-clause-thinned : goal.returns-clause-thinned
returns-clause-thinned c =
    thinned-then c.args.aggs.now c.drop_passed.new.aggs c.drop_passed-4.new.aggs c.drop_passed.ensures.thinned
    (thinned-then c.drop_passed.new.aggs c.drop_passed-2.new.aggs c.drop_passed-4.new.aggs c.drop_passed-2.ensures.thinned
    (thinned-then c.drop_passed-2.new.aggs c.drop_passed-3.new.aggs c.drop_passed-4.new.aggs c.drop_passed-3.ensures.thinned c.drop_passed-4.ensures.thinned))
