use Rattle.row_text.proofs.RowLaws.{count_none, count_some}
use Rattle.std.proofs.Common.{◌≡◌, pos, to_z, of_z, arith}
use Rattle.std.specs.Int.{w128}
use Rattle.std.proofs.lemmas.Int.{ints, to_z-of_z}
use Rattle.row_text.proofs.reading.parse_count.Goals as goal

pub returns-in_err-count : goal.returns-in_err-count
returns-in_err-count c = rw c.from_residual.ensures (count_none c.args.word.now c.in_err-count.ensures)

pub returns : goal.returns
returns c =
    let through : to_z w128 (of_z w128 c.from.result) ≡ pos c.in_ok-count.count = grind (arith, ints, to_z-of_z) in
    rw c.then_some.ensures (rw through (count_some c.args.word.now c.in_ok-count.count c.in_ok-count.ensures))
