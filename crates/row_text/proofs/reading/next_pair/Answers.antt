use Rattle.std.proofs.Common.{◌≡◌, to_z, of_z, w64, arith}
use Rattle.std.proofs.lemmas.Int.{ints, to_z-of_z}
use Rattle.row_text.proofs.RowLaws.{pair_no_window, pair_no_key, pair_no_left, pair_no_right, pair_taken}
use Rattle.row_text.proofs.reading.next_pair.Goals as goal

pub returns-in_err-start : goal.returns-in_err-start
returns-in_err-start c = rw c.from_residual.ensures (pair_no_window c.args.plan.now _ _ _ c.requires c.in_err-start.ensures)

pub returns-in_err-key : goal.returns-in_err-key
returns-in_err-key c = rw c.from_residual-in_err-key.ensures (pair_no_key c.args.plan.now c.in_ok-start.start c.in_ok-start.end _ _ _ _ c.requires c.in_ok-start.ensures c.in_err-key.ensures)

pub returns-in_err-left : goal.returns-in_err-left
returns-in_err-left c =
    let key : to_z w64 (of_z w64 c.in_ok-key.key) ≡ c.in_ok-key.key = grind (arith, ints, to_z-of_z) in
    rw c.from_residual-in_err-left.ensures
    (pair_no_left c.args.plan.now c.in_ok-start.start c.in_ok-start.end c.in_ok-key.key _ _ _ _ _ c.requires c.in_ok-start.ensures c.in_ok-key.ensures (rw key at c.in_err-left.ensures))

pub returns-in_err-right : goal.returns-in_err-right
returns-in_err-right c =
    let key : to_z w64 (of_z w64 c.in_ok-key.key) ≡ c.in_ok-key.key = grind (arith, ints, to_z-of_z) in
    rw c.from_residual-in_err-right.ensures
    (pair_no_right c.args.plan.now c.in_ok-start.start c.in_ok-start.end c.in_ok-key.key c.in_ok-left.left _ _ _ _ _ _ c.requires c.in_ok-start.ensures c.in_ok-key.ensures (rw key at c.in_ok-left.ensures)
    (rw key at c.in_err-right.ensures))

pub returns : goal.returns
returns c =
    let key : to_z w64 (of_z w64 c.in_ok-key.key) ≡ c.in_ok-key.key = grind (arith, ints, to_z-of_z) in
    pair_taken c.args.plan.now c.in_ok-start.start c.in_ok-start.end c.in_ok-key.key c.in_ok-left.left c.in_ok-right.right _ _ _ _ _ c.requires c.in_ok-start.ensures c.in_ok-key.ensures
    (rw key at c.in_ok-left.ensures) (rw key at c.in_ok-right.ensures)
