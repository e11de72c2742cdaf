use Rattle.as_base.proofs.WindowLaws.{moves_on, last_edge-edge, last_edge-le, edge-le-last_edge}
use Rattle.as_base.proofs.laws.last_edges_are_the_latest.Goals as goal

pub returns-clause-edge : goal.returns-clause-edge
returns-clause-edge c w t = last_edge-edge w t

pub returns-clause-before : goal.returns-clause-before
returns-clause-before c w t = last_edge-le w t

pub returns-clause-latest : goal.returns-clause-latest
returns-clause-latest c w e t fit edge before = edge-le-last_edge w e t (moves_on w fit) edge before
