use Rattle.std.proofs.Common.{◌≡◌, ◌<◌, ◌^◌, ℕ, List, take, get_or, length, ◌∙◌, arith, rules}
use Rattle.std.proofs.lemmas.List.{length-take-le}
use Rattle.as_lineform.specs.Digits.{last_digits}
use Rattle.as_lineform.proofs.DigitLaws.{word_read, digits_fit}
use Rattle.as_lineform.proofs.FrontLaws.{last_below, last_value, front_digits, spelled}
use Rattle.as_lineform.proofs.digits.short_number.Goals as goal

pub number_of-requires : goal.number_of-requires
number_of-requires c =
    let bytes : List ℕ = c.args.bytes.now in
    let count : ℕ = c.count_digits-count.result in
    let chunk = c.in_ok-eight.ensures.cases in
    let small : (i : ℕ) → get_or bytes i 0 < 256 = search rules in
    let word = word_read bytes _ _ chunk.enough chunk.same small c.from_le_bytes-word.ensures in
    let digits = c.count_digits-count.ensures.digits (take 8 bytes) word in
    digits_fit (last_digits count (take 8 bytes)) c.last_digits.result (c.last_digits.ensures (take 8 bytes) word digits) (last_below count (take 8 bytes) digits)

pub returns-clause-reads : goal.returns-clause-reads
returns-clause-reads c =
    let bytes : List ℕ = c.args.bytes.now in
    let count : ℕ = c.count_digits-count.result in
    let chunk = c.in_ok-eight.ensures.cases in
    let small : (i : ℕ) → get_or bytes i 0 < 256 = search rules in
    let word = word_read bytes _ _ chunk.enough chunk.same small c.from_le_bytes-word.ensures in
    let front = c.count_digits-count.ensures.digits (take 8 bytes) word in
    let digits = front_digits count bytes c.count_digits-count.ensures.few front in
    let number = c.number_of.ensures (last_digits count (take 8 bytes)) (c.last_digits.ensures (take 8 bytes) word front) (last_below count (take 8 bytes) front)
    ∙ last_value count bytes (omega (arith, c.count_digits-count.ensures.few, c.if-count-eq8.false)) in
    let size : length (take count bytes) ≡ count = length-take-le count bytes (omega (arith, c.count_digits-count.ensures.few, chunk.enough)) in
    let fits : c.number_of.result < 2 ^ 64 = search rules in
    spelled (take count bytes) c.number_of.result digits number (omega (arith, size, c.if-count-eq0.false)) (c.leads_with_zero.ensures c.if-leads_with_zero.false) fits
