use Rattle.std.proofs.Common.{[], sym, subst}
use Rattle.feeder.specs.declared.maker.Phase.TheVariants as phase
use Rattle.feeder.specs.Maker.{HasLoads}
use Rattle.feeder.proofs.MakingLaws.{in_no_memory}
use Rattle.feeder.proofs.maker.Maker.close.Goals as goal

pub returns-in-Err-clause-made : goal.returns-in-Err-clause-made
returns-in-Err-clause-made c = λ limit given left made empty was.
    subst (λ m. HasLoads limit given left m made) (sym c.end-in-Err.ensures)
    (in_no_memory phase.Reading c.args.self.now.cutter [] c.args.self.now.most limit given left made tt was)
