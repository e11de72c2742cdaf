use Rattle.std.proofs.Common.{◌∙◌, set, sym, ap, arith}
use Rattle.std.proofs.lemmas.List.Edits.{map_over_more}
use Rattle.shared_agg.specs.declared.duties.Class.{Class}
use Rattle.shared_agg.specs.Duties.{marked}
use Rattle.shared_agg.proofs.duties.mark_all.Goals as goal

pub loop-class-preserved : goal.loop-class-preserved
loop-class-preserved c =
    let classes = c.loop-class.classes in
    let i = c.loop-class.class-index in
    ap (λ (x : Class). set classes i x) c.marked.ensures
    ∙ ap (λ (x : Class). set classes i (marked c.args.slot c.args.duty x)) (sym c.class-item.is)
    ∙ map_over_more (marked c.args.slot c.args.duty) c.args.classes.now classes i c.class-item.result (omega arith) c.loop-class.invariant c.class-item.is
