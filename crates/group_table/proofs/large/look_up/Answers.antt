use Rattle.group_table.proofs.GridLaws.{keys-apart, keys-of, keys-long}
use Rattle.group_table.proofs.large.look_up.Goals as goal

pub returns-clause-apart : goal.returns-clause-apart
returns-clause-apart c = keys-apart c.args.groups.now.keys c.insert_full.new.self.keys _ c.in_ok-row.ensures.keys c.requires

pub returns-clause-more : goal.returns-clause-more
returns-clause-more c = λ rows. keys-of c.args.groups.now.keys c.insert_full.new.self.keys _ rows c.in_ok-row.ensures.keys

pub returns-clause-one : goal.returns-clause-one
returns-clause-one c = keys-long c.args.groups.now.keys c.insert_full.new.self.keys _ c.in_ok-row.ensures.keys
