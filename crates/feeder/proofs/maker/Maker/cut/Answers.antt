use Rattle.std.proofs.Common.{◌++◌, sym, subst}
use Rattle.std.specs.Option.{option_to_list}
use Rattle.feeder.specs.Maker.{HasLoads, IsIn}
use Rattle.feeder.proofs.MakingLaws.{in_cut, in_no_memory}
use Rattle.feeder.proofs.maker.Maker.cut.Goals as goal

pub returns-in-Ok-clause-made : goal.returns-in-Ok-clause-made
returns-in-Ok-clause-made c = λ limit given left made was.
    let s = c.args.self.now in
    subst (λ w. IsIn s.phase c.take_front.new.cutter w s.most limit given left (made ++ option_to_list c.load_of.result)) (sym c.skip.ensures)
    (in_cut s.phase s.cutter c.take_front.new.cutter c.in-Ok.used s.waiting s.most limit given left made (option_to_list c.in-Ok.item) c.load_of.result c.requires.unread
    (rw (sym c.front.ensures) c.in-Ok.ensures.reads) c.load_of.ensures was)

pub returns-in-Err-clause-made : goal.returns-in-Err-clause-made
returns-in-Err-clause-made c = λ limit given left made was.
    let s = c.args.self.now in
    subst (λ m. HasLoads limit given left m made) (sym c.end.ensures)
    (in_no_memory s.phase s.cutter s.waiting s.most limit given left made c.requires.unread was)
