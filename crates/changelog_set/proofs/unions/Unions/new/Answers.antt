use Rattle.changelog_set.proofs.BlockLaws.{unites-none}
use Rattle.changelog_set.proofs.unions.Unions.new.Goals as goal

pub returns-clause-none : goal.returns-clause-none
returns-clause-none c = unites-none c.new.result.items c.none.result c.new.ensures.items c.none.ensures
