use Rattle.as_base.proofs.WindowLaws.{moves_on, window-among, among-window, first-le-last, last-lt-first}
use Rattle.as_base.proofs.laws.windows_hold_their_times.Goals as goal

pub returns-clause-holds : goal.returns-clause-holds
returns-clause-holds c w k t fit = (window-among w k t (moves_on w fit), λ among. among-window w k t (moves_on w fit) among.0 among.1)

pub returns-clause-few : goal.returns-clause-few
returns-clause-few c w t fit = last-lt-first w t fit

pub returns-clause-some : goal.returns-clause-some
returns-clause-some c w t fit = first-le-last w t fit
