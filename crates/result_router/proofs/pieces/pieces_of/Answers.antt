use Rattle.std.proofs.Common.{sym, subst, ◌∙◌}
use Rattle.as_base.specs.Pieces.{ArePieces}
use Rattle.result_router.specs.Lent.{lent}
use Rattle.result_router.proofs.PieceLaws.{are-pieces}
use Rattle.result_router.proofs.pieces.pieces_of.Goals as goal

pub returns-clause-order : goal.returns-clause-order
returns-clause-order c = subst ArePieces (sym (c.from_vec.ensures ∙ c.in_ok-pieces.ensures)) (are-pieces (lent c.deref.result.now))
