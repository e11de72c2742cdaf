use Rattle.views.proofs.DueLaws.{has_passed-after, rows_of-after}
use Rattle.views.proofs.passed_windows_stay.Goals as goal

pub returns : goal.returns
returns c = λ v m n k is f passed. (has_passed-after v m n k is f passed, rows_of-after v m n k is f passed)
