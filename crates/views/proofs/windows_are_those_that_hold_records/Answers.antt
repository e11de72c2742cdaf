use Rattle.views.specs.Passed.{windows_with}
use Rattle.views.proofs.RisingLaws.{Rises-strictly}
use Rattle.views.proofs.WindowLaws.{Rises-windows, list_any-windows}
use Rattle.views.proofs.windows_are_those_that_hold_records.Goals as goal

pub returns-clause-rise : goal.returns-clause-rise
returns-clause-rise c = λ w gs. Rises-strictly (windows_with w gs) (Rises-windows w gs)

pub returns-clause-hold : goal.returns-clause-hold
returns-clause-hold c = list_any-windows
