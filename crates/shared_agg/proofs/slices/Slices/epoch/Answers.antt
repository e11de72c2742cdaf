use Rattle.std.proofs.Common.{Some, get_or, ap, subst, ◌∙◌}
use Rattle.shared_agg.specs.declared.slices.Slice.{Slice}
use Rattle.shared_agg.specs.Slices.{Lane, StartsRise}
use Rattle.shared_agg.proofs.AggLaws.{epoch-at}
use Rattle.shared_agg.proofs.slices.Slices.epoch.Goals as goal

pub returns : goal.returns
returns c =
    let same = ap (λ (l : Lane). l.slices) c.self.view_is in
    ap (λ (s : Slice). Some s.epoch) (c.index.ensures ∙ ap (λ l. get_or l c.args.i c.index.result.now) same)
    ∙ epoch-at c.args.self.now.slices c.args.i c.index.result.now (subst StartsRise same c.self.invariant.rise) c.requires
