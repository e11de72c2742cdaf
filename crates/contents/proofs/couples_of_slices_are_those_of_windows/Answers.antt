use Rattle.views.proofs.ListLaws.{All-by}
use Rattle.contents.specs.IsPast.{IsHolder}
use Rattle.contents.proofs.JoinLaws.{couples-counted, couples-as-given}
use Rattle.contents.proofs.PairLaws.{IsForward}
use Rattle.contents.proofs.WholeLaws.{moves-all}
use Rattle.contents.proofs.couples_of_slices_are_those_of_windows.Goals as goal

pub returns-clause-counts : goal.returns-clause-counts
returns-clause-counts c p stored h k cs ds test i among =
    couples-counted test p stored h k cs ds among i.apart (All-by IsHolder IsForward (λ g a. a.forward) p.holders i.holders) (moves-all p i.holders h among).0

pub returns-clause-given : goal.returns-clause-given
returns-clause-given c = couples-as-given
