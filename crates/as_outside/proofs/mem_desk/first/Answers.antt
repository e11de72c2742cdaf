use Rattle.std.proofs.Common.{drop, sym}
use Rattle.std.proofs.lemmas.List.{take-append-drop}
use Rattle.as_outside.proofs.mem_desk.first.Goals as goal

pub returns-clause-prefix : goal.returns-clause-prefix
returns-clause-prefix c = (drop c.min.result c.args.bytes.now, sym (take-append-drop c.min.result c.args.bytes.now))
