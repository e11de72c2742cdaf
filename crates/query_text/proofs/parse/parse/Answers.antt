use Rattle.query_text.proofs.ReadingLaws.{head_wrong, whole_read}
use Rattle.query_text.proofs.parse.parse.Goals as goal

pub returns-in_default : goal.returns-in_default
returns-in_default c = head_wrong c.args.cursor.now c.take_head.new.cursor c.in_default.ensures

pub returns : goal.returns
returns c =
    whole_read c.in-Some.head c.args.cursor.now c.take_head.new.cursor c.new-left.result.items c.new-right.result.items
    c.take_conditions.new.left.items c.take_conditions.new.right.items c.from_vec.result c.from_vec-2.result c.tree.result
    c.in-Some.ensures c.new-left.ensures.items c.new-right.ensures.items c.in_ok-take_conditions.ensures c.tree.ensures c.from_vec.ensures c.from_vec-2.ensures
