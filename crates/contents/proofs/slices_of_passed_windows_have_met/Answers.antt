use Rattle.contents.proofs.MetLaws.{met-held, met-in_window}
use Rattle.contents.proofs.PastLaws.{unended-all, change-after}
use Rattle.contents.proofs.WholeLaws.{moves-all}
use Rattle.contents.proofs.slices_of_passed_windows_have_met.Goals as goal

pub returns-clause-passed : goal.returns-clause-passed
returns-clause-passed c p h k a b i among = met-in_window p.marks p.holders h k a b among (moves-all p i.holders h among).0

pub returns-clause-change : goal.returns-clause-change
returns-clause-change c is_there p change a b x y i f low high =
    let time = change-after is_there p change f in
    met-held p.marks p.holders change a b x y (unended-all p i) time.marks low high time.most
