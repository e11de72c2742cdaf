use Rattle.std.proofs.Common.{rules}
use Rattle.service.proofs.ServedLaws.{say_nothing, say_came}
use Rattle.service.proofs.delivery.say.Goals as goal

pub returns-then-is_empty-clause-calls : goal.returns-then-is_empty-clause-calls
returns-then-is_empty-clause-calls g c = say_nothing _ c.args.text.now (search rules)

pub returns-clause-calls : goal.returns-clause-calls
returns-clause-calls g c =
    let came = c.say_text.ensures in
    say_came _ _ c.args.text.now c.say_text.result (search rules) came.stop came.ok came.err
