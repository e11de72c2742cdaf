use Rattle.std.proofs.Common.{sym, ◌∙◌}
use Rattle.shared_join.proofs.LaneLaws.{cut-none, without-cut}
use Rattle.shared_join.proofs.lanes.cut.Goals as goal

pub returns-in_default : goal.returns-in_default
returns-in_default g c = sym (cut-none c.args.start c.args.list.now c.in_default.ensures.none)

pub returns : goal.returns
returns g c =
    c.remove.ensures.list ∙ without-cut c.args.start c.in-Some.place c.args.list.now c.len-count.ensures.rise c.in-Some.ensures.within c.in-Some.ensures.begins
