use Rattle.as_lineform.proofs.CutterLaws.{reads_line, reads_more}
use Rattle.as_lineform.proofs.lines.Lines.feed.Goals as goal

pub returns-then-byte-eq10-clause-reads : goal.returns-then-byte-eq10-clause-reads
returns-then-byte-eq10-clause-reads c = λ bytes read.
    reads_line bytes c.args.byte c.args.self.now c.clear.new.self c.in_ok-item.item c.if-byte-eq10.true read c.clear.ensures c.in_ok-item.ensures.item

pub returns-clause-reads : goal.returns-clause-reads
returns-clause-reads c = λ bytes read.
    reads_more bytes c.args.byte c.args.self.now c.keep.new.self c.if-byte-eq10.false read c.keep.ensures
