use Rattle.std.proofs.Common.{◌≡◌, to_z, of_z, w64, arith}
use Rattle.std.proofs.lemmas.Int.{ints, to_z-of_z}
use Rattle.row_text.proofs.RowLaws.{given_taken}
use Rattle.row_text.proofs.reading.next_given.Goals as goal

pub returns : goal.returns
returns c =
    let key : to_z w64 (of_z w64 c.in_ok-key.key) ≡ c.in_ok-key.key = grind (arith, ints, to_z-of_z) in
    rw key (given_taken c.args.stream c.in_ok-time.time c.in_ok-key.key c.in_ok-v.v _ _ _ _ c.in_ok-time.ensures c.in_ok-key.ensures c.in_ok-v.ensures)
