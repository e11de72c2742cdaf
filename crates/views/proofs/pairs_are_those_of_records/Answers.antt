use Rattle.views.specs.Pairs.{couples}
use Rattle.views.proofs.PairLaws.{by_numbers-sorted, count_by-pairs}
use Rattle.views.proofs.pairs_are_those_of_records.Goals as goal

pub returns-clause-rise : goal.returns-clause-rise
returns-clause-rise c = λ lefts rights. by_numbers-sorted (couples lefts rights)

pub returns-clause-hold : goal.returns-clause-hold
returns-clause-hold c = λ lefts rights p. count_by-pairs p lefts rights
