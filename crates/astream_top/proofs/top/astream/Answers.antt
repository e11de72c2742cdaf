use Rattle.std.proofs.Common.{[], map, string_bytes, rules}
use Rattle.as_outside.proofs.MakesLaws.{makes_none}
use Rattle.astream_top.proofs.CommandLaws.{run_fits, run_small, soak_fits, generate_fits}
use Rattle.astream_top.proofs.top.astream.Goals as goal

pub returns-in-Err-clause-explained : goal.returns-in-Err-clause-explained
returns-in-Err-clause-explained g c = λ text is. (record { calls = []; makes = makes_none _; holds = search rules }, search rules)

pub run_within-requires-clause-small : goal.run_within-requires-clause-small
run_within-requires-clause-small g c = run_small (map string_bytes c.args.words.now) c.in-Ok-Some-Run.config c.in-Ok-Some-Run.limit (search rules)

pub run_within-requires-clause-fits : goal.run_within-requires-clause-fits
run_within-requires-clause-fits g c = run_fits (map string_bytes c.args.words.now) c.in-Ok-Some-Run.config c.in-Ok-Some-Run.limit (search rules)

pub soak-status-requires-clause-fits : goal.soak-status-requires-clause-fits
soak-status-requires-clause-fits g c = (soak_fits (map string_bytes c.args.words.now) c.in-Ok-Some-Soak.config c.in-Ok-Some-Soak.number c.in-Ok-Some-Soak.lines (search rules)).0

pub soak-status-requires-clause-lines : goal.soak-status-requires-clause-lines
soak-status-requires-clause-lines g c = (soak_fits (map string_bytes c.args.words.now) c.in-Ok-Some-Soak.config c.in-Ok-Some-Soak.number c.in-Ok-Some-Soak.lines (search rules)).1

pub generate-status-requires-clause-lines : goal.generate-status-requires-clause-lines
generate-status-requires-clause-lines g c = (generate_fits (map string_bytes c.args.words.now) c.in-Ok-Some-Generate.number c.in-Ok-Some-Generate.lines c.in-Ok-Some-Generate.streams (search rules)).0

pub generate-status-requires-clause-streams : goal.generate-status-requires-clause-streams
generate-status-requires-clause-streams g c = (generate_fits (map string_bytes c.args.words.now) c.in-Ok-Some-Generate.number c.in-Ok-Some-Generate.lines c.in-Ok-Some-Generate.streams (search rules)).1
