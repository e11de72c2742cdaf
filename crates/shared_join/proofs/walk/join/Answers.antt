use Rattle.std.proofs.Common.{◌++◌, true, false, ap, ◌∙◌}
use Rattle.std.specs.List.{count_by}
use Rattle.shared_join.specs.Found.{found}
use Rattle.shared_join.proofs.AlikeLaws.{found-left, found-right}
use Rattle.shared_join.proofs.walk.join.Goals as goal

pub returns-then-min-lt-INDEXED_MIN : goal.returns-then-min-lt-INDEXED_MIN
returns-then-min-lt-INDEXED_MIN c = λ test.
    ap (count_by test) (c.in_ok-join_all.ensures ∙ ap (λ l. l ++ found false c.args.mask.now c.args.lefts.now c.args.rights.now) c.new-pairs.ensures.items)
    ∙ found-left c.args.mask.now c.args.lefts.now c.args.rights.now test

pub returns-then-len : goal.returns-then-len
returns-then-len c = λ test.
    ap (count_by test) (c.in_ok-join_indexed.ensures ∙ ap (λ l. l ++ found true c.args.mask.now c.args.rights.now c.args.lefts.now) c.new-pairs.ensures.items)
    ∙ found-right c.args.mask.now c.args.lefts.now c.args.rights.now test

pub returns : goal.returns
returns c = λ test.
    ap (count_by test) (c.in_ok-join_indexed-2.ensures ∙ ap (λ l. l ++ found false c.args.mask.now c.args.lefts.now c.args.rights.now) c.new-pairs.ensures.items)
    ∙ found-left c.args.mask.now c.args.lefts.now c.args.rights.now test
