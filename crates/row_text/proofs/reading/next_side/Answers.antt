use Rattle.std.proofs.Common.{◌≡◌, to_z, of_z, w64, arith}
use Rattle.std.proofs.lemmas.Int.{ints, to_z-of_z}
use Rattle.as_words.proofs.NumberLaws.{IsSigned-mag}
use Rattle.row_text.proofs.RowLaws.{side_taken}
use Rattle.row_text.proofs.reading.next_side.Goals as goal

pub returns : goal.returns
returns c =
    let key : to_z w64 (of_z w64 c.args.key) ≡ c.args.key = grind (arith, ints, to_z-of_z) in
    rw key (side_taken c.args.stream c.args.start c.args.end c.in_ok-time.time c.args.key c.in_ok-v.v _ _ _ (IsSigned-mag c.args.key c.ranges.key.sfits) c.in_ok-time.ensures c.in_ok-v.ensures)
