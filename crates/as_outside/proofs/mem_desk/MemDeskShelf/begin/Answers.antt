use Rattle.std.proofs.Common.{rules, refl}
use Rattle.as_outside.proofs.MakesLaws.{begin_blurred}
use Rattle.as_outside.proofs.mem_desk.MemDeskShelf.begin.Goals as goal

pub returns-in-Lost-clause-err : goal.returns-in-Lost-clause-err
returns-in-Lost-clause-err c = begin_blurred _ _ refl refl refl _ (search rules) refl (λ m. search rules)

pub returns-in-Untold : goal.returns-in-Untold
returns-in-Untold c = record { ok = tt; err = begin_blurred _ _ refl refl refl _ (search rules) refl (λ m. search rules) }
