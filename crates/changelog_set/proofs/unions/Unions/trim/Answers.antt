use Rattle.std.proofs.Common.{min, ap₂, ◌∙◌}
use Rattle.changelog_set.proofs.BlockLaws.{unites-freed}
use Rattle.changelog_set.proofs.unions.Unions.trim.Goals as goal

pub returns-clause-freed : goal.returns-clause-freed
returns-clause-freed c = λ sets u within.
    let s = c.args.self.now in
    unites-freed s.gone s.count s.whole.items s.begun sets u c.args.blocks c.min-count.result c.cut.new.sets.items within
    (c.min-count.ensures ∙ ap₂ min c.saturating_sub.ensures (c.len.ensures ∙ s.whole.ok.0)) c.cut.ensures
