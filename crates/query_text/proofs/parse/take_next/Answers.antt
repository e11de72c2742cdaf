use Rattle.query_text.proofs.ReadingLaws.{wrong_by, on_by, sided_less}
use Rattle.query_text.proofs.parse.take_next.Goals as goal

pub returns-in_default-clause-goes : goal.returns-in_default-clause-goes
returns-in_default-clause-goes c = λ some.
    wrong_by c.args.head c.args.left.now.items c.args.right.now.items c.as_slice.result.now c.as_slice-2.result.now c.has_any-has_left.result c.has_any-has_right.result
    c.args.cursor.now c.take_sided.new.cursor c.has_any-has_left.ensures c.as_slice.ensures.value c.has_any-has_right.ensures c.as_slice-2.ensures.value some c.in_default.ensures

pub returns-clause-goes : goal.returns-clause-goes
returns-clause-goes c = λ some.
    on_by c.args.head c.args.left.now.items c.args.right.now.items c.as_slice.result.now c.as_slice-2.result.now c.has_any-has_left.result c.has_any-has_right.result
    c.args.cursor.now c.take_sided.new.cursor c.in-Some.side c.in-Some.cond c.put.new.left.items c.put.new.right.items
    c.has_any-has_left.ensures c.as_slice.ensures.value c.has_any-has_right.ensures c.as_slice-2.ensures.value some c.in-Some.ensures c.in_ok-put.ensures.left c.in_ok-put.ensures.right

pub returns-clause-shorter : goal.returns-clause-shorter
returns-clause-shorter c = sided_less c.args.head c.has_any-has_left.result c.has_any-has_right.result c.args.cursor.now _ c.in-Some.ensures
