use Rattle.as_lineform.proofs.RecordLaws.{four_read, same_integer}
use Rattle.as_lineform.proofs.front.Front.values.Goals as goal

pub returns-clause-reads : goal.returns-clause-reads
returns-clause-reads c =
    four_read c.in_ok-first.first c.in_ok-second.second c.in_ok-third.third c.in_ok-fourth.fourth _ _ _ _
    (same_integer c.in_ok-first.first c.in_ok-first.ensures.range) (same_integer c.in_ok-second.second c.in_ok-second.ensures.range)
    (same_integer c.in_ok-third.third c.in_ok-third.ensures.range) (same_integer c.in_ok-fourth.fourth c.in_ok-fourth.ensures.range)
    c.args.self.now c.spaced_integer.new.self c.spaced_integer-2.new.self c.spaced_integer-3.new.self c.spaced_integer-4.new.self
    c.in_ok-first.ensures.reads c.in_ok-second.ensures.reads c.in_ok-third.ensures.reads c.in_ok-fourth.ensures.reads
