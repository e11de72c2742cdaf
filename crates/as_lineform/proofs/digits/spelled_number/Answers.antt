use Rattle.std.proofs.Common.{◌<◌, ◌^◌, length, arith, rules}
use Rattle.as_lineform.proofs.FrontLaws.{spelled}
use Rattle.as_lineform.proofs.digits.spelled_number.Goals as goal

pub returns : goal.returns
returns c =
    let some : 0 < length c.args.word.now = search (rules, c.if-is_empty.ensures) in
    let fits : c.in_ok-number.number < 2 ^ 64 = search rules in
    spelled c.args.word.now c.in_ok-number.number c.in_ok-number.ensures.digits c.in_ok-number.ensures.number some (c.leads_with_zero.ensures c.if-leads_with_zero.false) fits
