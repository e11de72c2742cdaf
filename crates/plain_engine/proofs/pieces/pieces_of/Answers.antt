use Rattle.std.proofs.Common.{sym, ap, subst, ◌∙◌, take_all}
use Rattle.std.specs.List.{flat_map}
use Rattle.as_base.specs.Pieces.{ArePieces}
use Rattle.plain_engine.specs.Held.{Held}
use Rattle.plain_engine.specs.Holding.{mark_by, due_text, piece_due}
use Rattle.plain_engine.proofs.PieceLaws.{pieces-are}
use Rattle.plain_engine.proofs.pieces.pieces_of.Goals as goal

pub returns-clause-order : goal.returns-clause-order
returns-clause-order c =
    let held = c.args.held.now in
    let marks = c.args.marks.now in
    let later = c.args.later.now in
    let within = c.loop-holding-test.false in
    let is = c.from_vec.ensures ∙ c.loop-holding.invariant ∙ ap (flat_map (piece_due marks later)) (take_all c.loop-holding.holding-index held within) in
    subst ArePieces (sym is) (pieces-are (λ (h : Held). due_text (mark_by marks h.plan) (mark_by later h.plan) h) held c.requires)
