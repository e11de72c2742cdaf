use Rattle.std.proofs.Common.{◌++◌, sym, subst, ap, ◌∙◌, append-nil}
use Rattle.std.specs.Option.{option_to_list}
use Rattle.feeder.specs.Maker.{HasLoads, IsIn, failed_in}
use Rattle.feeder.proofs.MakingLaws.{closing_ends}
use Rattle.feeder.proofs.GoingLaws.{none_more}
use Rattle.feeder.proofs.maker.Maker.make.Goals as goal

pub returns-in-Over : goal.returns-in-Over
returns-in-Over g c = λ limit given failed made was faults.
    let s = c.args.self.now in
    let left = (g.F.Source.seen c.args.source.now).left in
    none_more _ limit given failed c.read_over.new.self made
    (c.read_over.ensures.made limit given left made (subst (λ p. IsIn p s.cutter s.waiting s.most limit given left made) c.in-Over.is was))
    (faults ∙ ap failed_in c.in-Over.is ∙ sym c.read_over.ensures.calm)

pub returns-in-Closing : goal.returns-in-Closing
returns-in-Closing g c = λ limit given failed made was faults.
    let s = c.args.self.now in
    let left = (g.F.Source.seen c.args.source.now).left in
    none_more _ limit given failed c.end.new.self made
    (subst (λ m. HasLoads limit given left m made) (sym c.end.ensures)
    (closing_ends limit given left made (subst (λ p. IsIn p s.cutter s.waiting s.most limit given left made) c.in-Closing.is was)))
    (faults ∙ ap failed_in c.in-Closing.is ∙ ap (λ m. failed_in m.phase) (sym c.end.ensures))

pub returns-in-Ended : goal.returns-in-Ended
returns-in-Ended g c = λ limit given failed made was faults.
    let s = c.args.self.now in
    let left = (g.F.Source.seen c.args.source.now).left in
    none_more _ limit given failed s made
    (subst (λ l. IsIn s.phase s.cutter s.waiting s.most limit given left l) (sym (ap (λ n. made ++ option_to_list n) c.requires.none ∙ append-nil made)) was)
    faults
