use Rattle.group_table.proofs.NumberLaws.{giving-begin, giving-step, giving-done}
use Rattle.group_table.proofs.numbers.Numbers.give_each.Goals as goal

pub slots-init : goal.slots-init
slots-init c = giving-begin c.args.self.now c.args.slots.now c.of-left.result c.of-left.ensures c.requires

pub give_one-requires-clause-none : goal.give_one-requires-clause-none
give_one-requires-clause-none c = c.slots.invariant.waiting c.in-Some.slot c.in-Some.ensures.some.was

pub slots-preserved : goal.slots-preserved
slots-preserved c =
    giving-step c.args.self.now c.slots.self c.give_one.new.self c.args.slots.now c.slots.left c.next.new.self c.in-Some.slot c.slots.invariant c.in-Some.ensures.some
    c.give_one.ensures.long c.give_one.ensures.few c.give_one.ensures.value

pub returns-clause-more : goal.returns-clause-more
returns-clause-more c = c.slots.invariant.more

pub returns-clause-given : goal.returns-clause-given
returns-clause-given c = giving-done c.args.self.now c.slots.self c.args.slots.now c.slots.left c.slots.invariant c.in_default.ensures.none
