use Rattle.std.proofs.Common.{take, drop, ap, ◌∙◌}
use Rattle.changelog_set.proofs.BlockLaws.{unites-between}
use Rattle.changelog_set.proofs.unions.Unions.between.Goals as goal

pub returns : goal.returns
returns c = λ sets u held rises within.
    let s = c.args.self.now in
    let first = c.saturating_sub-first.result in
    let n = c.count_between.result in
    unites-between s.gone s.count s.whole.items s.begun sets u c.args.from c.args.to first n c.part.result.now c.union_of.result
    held rises within c.saturating_sub-first.ensures c.count_between.ensures (c.part.ensures ∙ ap (λ l. take n (drop first l)) c.deref.ensures.value) c.union_of.ensures
