use Rattle.std.proofs.Common.{sym, subst}
use Rattle.std.specs.List.{AllByRecursion}
use Rattle.group_table.specs.Cells.{IsSound}
use Rattle.result_router.specs.Lent.{lent}
use Rattle.result_router.proofs.SoundLaws.{sound-cells}
use Rattle.result_router.proofs.bodies.sound_cells.Goals as goal

pub returns-clause-sound : goal.returns-clause-sound
returns-clause-sound c = subst (AllByRecursion IsSound) (sym c.in_ok-found.ensures) (sound-cells (lent c.args.fragments.now) c.requires)
