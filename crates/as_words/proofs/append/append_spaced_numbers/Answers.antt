use Rattle.std.proofs.Common.{◌≡◌, ◌∷◌, map, take, drop, get_or, pos, suc, to_z, of_z, w64, arith}
use Rattle.std.proofs.lemmas.Int.{ints, to_z-of_z}
use Rattle.std.specs.Fmt.{signed_decimal}
use Rattle.as_words.specs.Words.{spaced}
use Rattle.as_words.proofs.AppendsLaws.{AppendsPrefix-stopped}
use Rattle.as_words.proofs.JoinedLaws.{spaced_more, spaced_around}
use Rattle.as_words.proofs.append.append_spaced_numbers.Goals as goal

pub returns-in_err-append_spaced_signed : goal.returns-in_err-append_spaced_signed
returns-in_err-append_spaced_signed c =
    let i = c.loop-number.number-index in
    let numbers = c.args.numbers.now in
    let same : to_z w64 (of_z w64 (get_or numbers i (pos 0))) ≡ get_or numbers i (pos 0) = grind (arith, ints, to_z-of_z) in
    AppendsPrefix-stopped c.from_residual.result c.args.out.now.items c.loop-number.out.items c.append_spaced_signed.new.out.items
    (spaced (map signed_decimal (take i numbers))) (32 ∷ signed_decimal (get_or numbers i (pos 0))) (spaced (map signed_decimal (drop (suc i) numbers))) _
    c.from_residual.ensures.0 c.loop-number.invariant (spaced_around numbers i c.loop-number-test.true) (rw same at c.in_err-append_spaced_signed.ensures)

pub loop-number-preserved : goal.loop-number-preserved
loop-number-preserved c =
    let same : to_z w64 (of_z w64 (get_or c.args.numbers.now c.loop-number.number-index (pos 0))) ≡ get_or c.args.numbers.now c.loop-number.number-index (pos 0) = grind (arith, ints, to_z-of_z) in
    spaced_more c.args.out.now.items c.loop-number.out.items c.append_spaced_signed.new.out.items c.args.numbers.now c.loop-number.number-index c.loop-number-test.true
    c.loop-number.invariant same c.in_ok-append_spaced_signed.ensures
