use Rattle.std.proofs.Common.{Option, List, [], ap, ◌∙◌}
use Rattle.std.specs.Option.{is_some, unwrap_or}
use Rattle.shared_join.specs.declared.pair.Pair.{Pair}
use Rattle.shared_join.specs.Joins.{has_slice, met_in, met_of}
use Rattle.shared_join.proofs.JoinLaws.{met-less, some-less, kept-less}
use Rattle.shared_join.proofs.joins.Joins.forget.Goals as goal

pub returns-clause-met : goal.returns-clause-met
unfolding met_of
returns-clause-met c = λ t x u y.
    ap is_some (met-less c.args.s c.args.start c.place_of.result c.args.self.now.lanes c.forget_all.new.lanes c.place_of.ensures.place c.forget_all.ensures t x u y)
    ∙ some-less (has_slice c.args.s c.args.start t x u y) (met_in c.args.self.now t x u y)

pub returns-clause-kept : goal.returns-clause-kept
unfolding met_of
returns-clause-kept c = λ t x u y.
    ap (λ (o : Option (List Pair)). unwrap_or o []) (met-less c.args.s c.args.start c.place_of.result c.args.self.now.lanes c.forget_all.new.lanes c.place_of.ensures.place c.forget_all.ensures t x u y)
    ∙ kept-less (has_slice c.args.s c.args.start t x u y) (met_in c.args.self.now t x u y)
