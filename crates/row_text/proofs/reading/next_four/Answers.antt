use Rattle.std.proofs.Common.{◌≡◌, to_z, of_z, w64, arith}
use Rattle.std.proofs.lemmas.Int.{ints, to_z-of_z}
use Rattle.row_text.proofs.TakingLaws.{no_first, first_then, no_values}
use Rattle.row_text.proofs.reading.next_four.Goals as goal

pub returns-in_err-first : goal.returns-in_err-first
returns-in_err-first c = rw c.from_residual.ensures (no_first 3 _ _ _ c.in_err-first.ensures)

pub returns-in_err-second : goal.returns-in_err-second
returns-in_err-second c = rw c.from_residual-in_err-second.ensures (first_then 3 c.in_ok-first.first _ _ _ _ c.in_ok-first.ensures (no_first 2 _ _ _ c.in_err-second.ensures))

pub returns-in_err-third : goal.returns-in_err-third
returns-in_err-third c =
    rw c.from_residual-in_err-third.ensures
    (first_then 3 c.in_ok-first.first _ _ _ _ c.in_ok-first.ensures (first_then 2 c.in_ok-second.second _ _ _ _ c.in_ok-second.ensures (no_first 1 _ _ _ c.in_err-third.ensures)))

pub returns-in_err-fourth : goal.returns-in_err-fourth
returns-in_err-fourth c =
    rw c.from_residual-in_err-fourth.ensures
    (first_then 3 c.in_ok-first.first _ _ _ _ c.in_ok-first.ensures (first_then 2 c.in_ok-second.second _ _ _ _ c.in_ok-second.ensures
    (first_then 1 c.in_ok-third.third _ _ _ _ c.in_ok-third.ensures (no_first 0 _ _ _ c.in_err-fourth.ensures))))

pub returns : goal.returns
returns c =
    let a : to_z w64 (of_z w64 c.in_ok-first.first) ≡ c.in_ok-first.first = grind (arith, ints, to_z-of_z) in
    let b : to_z w64 (of_z w64 c.in_ok-second.second) ≡ c.in_ok-second.second = grind (arith, ints, to_z-of_z) in
    let d : to_z w64 (of_z w64 c.in_ok-third.third) ≡ c.in_ok-third.third = grind (arith, ints, to_z-of_z) in
    let e : to_z w64 (of_z w64 c.in_ok-fourth.fourth) ≡ c.in_ok-fourth.fourth = grind (arith, ints, to_z-of_z) in
    rw (a, b, d, e)
    (first_then 3 c.in_ok-first.first _ _ _ _ c.in_ok-first.ensures (first_then 2 c.in_ok-second.second _ _ _ _ c.in_ok-second.ensures
    (first_then 1 c.in_ok-third.third _ _ _ _ c.in_ok-third.ensures (first_then 0 c.in_ok-fourth.fourth _ _ _ _ c.in_ok-fourth.ensures (no_values _)))))
