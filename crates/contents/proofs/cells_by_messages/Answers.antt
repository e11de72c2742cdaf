use Rattle.contents.proofs.PastLaws.{unended-all, change-after}
use Rattle.contents.proofs.StoreLaws.{cells-with_record, cells-with_advance, cells-with_change}
use Rattle.contents.proofs.WholeLaws.{moves-all, share-fresh}
use Rattle.contents.proofs.cells_by_messages.Goals as goal

pub returns-clause-record : goal.returns-clause-record
returns-clause-record c = cells-with_record

pub returns-clause-advance : goal.returns-clause-advance
returns-clause-advance c is_there p wm s slot cut i f = cells-with_advance p wm slot i.apart (moves-all p i.holders) f.up s cut

pub returns-clause-change : goal.returns-clause-change
returns-clause-change c is_there p change s slot d i f =
    let time = change-after is_there p change f in
    cells-with_change p change s slot d (unended-all p i) time.marks time.most time.records

pub returns-clause-share : goal.returns-clause-share
returns-clause-share c p slot r i = share-fresh p slot i.apart (moves-all p i.holders) r
