use Rattle.std.specs.Ordering.{int_eq}
use Rattle.views.specs.Groups.{groups}
use Rattle.views.proofs.GroupLaws.{RisesSigned-pairs, RisesSigned-groups, list_any-groups}
use Rattle.views.proofs.groups_are_those_of_records.Goals as goal

pub returns-clause-rise : goal.returns-clause-rise
returns-clause-rise c = λ by gs. RisesSigned-pairs (groups by gs) (RisesSigned-groups by gs)

pub returns-clause-hold : goal.returns-clause-hold
returns-clause-hold c = λ by gs z. list_any-groups (λ y. int_eq y z) by gs
