use Rattle.inbox.specs.Passes.{offered, feeder_in}
use Rattle.inbox.specs.Roles.{loads, list_of, KeepsRoles}
use Rattle.crossbeam_queue.specs.Passes.{view}
use Rattle.inbox.proofs.Closing.{five_same, loads_kept}
use Rattle.inbox.proofs.seats.joined.Goals as goal

pub returns-clause-offered : goal.returns-clause-offered
returns-clause-offered g c =
    let last = view c.bring-5.new.into in
    let after : KeepsRoles (view c.bring-2.new.into) last = λ r l e. c.bring-5.ensures.kept r l (c.bring-4.ensures.kept r l (c.bring-3.ensures.kept r l e)) in
    five_same offered (λ p. loads (list_of last (feeder_in p))) c.args.feeds _ _ _ _ _ c.apart-first.ensures
    (loads_kept last _ _ (after _ _ (c.bring-2.ensures.kept _ _ c.bring.ensures.gained)))
    (loads_kept last _ _ (after _ _ c.bring-2.ensures.gained))
    (loads_kept last _ _ (c.bring-5.ensures.kept _ _ (c.bring-4.ensures.kept _ _ c.bring-3.ensures.gained)))
    (loads_kept last _ _ (c.bring-5.ensures.kept _ _ c.bring-4.ensures.gained))
    (loads_kept last _ _ c.bring-5.ensures.gained)
