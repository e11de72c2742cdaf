use Rattle.std.proofs.Common.{set, ap, ◌∙◌, arith}
use Rattle.std.proofs.lemmas.List.{get_or_default}
use Rattle.std.proofs.lemmas.List.Edits.{map_over_more}
use Rattle.plain_engine.specs.Holding.{with_given}
use Rattle.plain_engine.proofs.PieceLaws.{numbers_of, numbers-set, numbers-some, KeepsNumbers-given}
use Rattle.plain_engine.proofs.store.take_among.Goals as goal

pub loop-holding-preserved : goal.loop-holding-preserved
loop-holding-preserved c =
    let i = c.loop-holding.holding-index in
    ap (set c.loop-holding.held i) c.in_ok-take.ensures.ok
    ∙ map_over_more (with_given c.args.given.now) c.args.held.now c.loop-holding.held i _ c.loop-holding-test.true c.loop-holding.invariant (get_or_default c.loop-holding.held i _ _ (let same = c.loop-holding.auto.held in let low = c.loop-holding-test.true in omega (arith, same, low)))

pub returns-in_err-take-clause-numbers : goal.returns-in_err-take-clause-numbers
returns-in_err-take-clause-numbers c =
    let i = c.loop-holding.holding-index in
    let same = c.loop-holding.auto.held in
    let low = c.loop-holding-test.true in
    numbers-set c.loop-holding.held i c.take.new.self c.holding-item.result c.in_err-take.ensures.err (omega (arith, same, low))
    ∙ ap numbers_of c.loop-holding.invariant
    ∙ numbers-some (with_given c.args.given.now) (KeepsNumbers-given c.args.given.now) i c.args.held.now

pub returns-clause-numbers : goal.returns-clause-numbers
returns-clause-numbers c =
    ap numbers_of c.loop-holding.invariant ∙ numbers-some (with_given c.args.given.now) (KeepsNumbers-given c.args.given.now) c.loop-holding.holding-index c.args.held.now
