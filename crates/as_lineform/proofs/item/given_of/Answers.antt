use Rattle.std.proofs.Common.{sym, ◌∙◌, ap}
use Rattle.std.specs.Bool.{then_some}
use Rattle.as_lineform.proofs.ReadingLaws.{made, through, given_of-None, given_of-Some}
use Rattle.as_lineform.proofs.item.given_of.Goals as goal

pub returns-in_err-v : goal.returns-in_err-v
returns-in_err-v c =
    c.from_residual-in_err-v.ensures
    ∙ sym (given_of-None c.args.stream c.args.words c.in_ok-time.time c.in_ok-key.key c.next_below.new.words c.next_integer.new.words c.in_ok-time.ensures c.in_ok-key.ensures c.in_err-v.ensures)

pub returns : goal.returns
returns c =
    c.then_some.ensures
    ∙ ap (λ key. then_some c.is_empty.result (made c.args.stream c.in_ok-time.time key c.in_ok-v.v)) (through c.next_below.new.words c.in_ok-key.key c.next_integer.new.words c.in_ok-key.ensures)
    ∙ given_of-Some c.args.stream c.args.words c.in_ok-time.time c.in_ok-key.key c.in_ok-v.v c.next_below.new.words c.next_integer.new.words c.next_four.new.words c.is_empty.result c.in_ok-time.ensures c.in_ok-key.ensures c.in_ok-v.ensures c.is_empty.ensures
