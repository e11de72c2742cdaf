use Rattle.std.proofs.Common.{◌≡◌, ◌∙◌, length, map, ap, sym, subst, arith}
use Rattle.part_state.specs.Entries.{holders_in, closed_entry, AreSafe}
use Rattle.part_state.proofs.EntryLaws.{written, holders-closed, safe-closed}
use Rattle.part_state.proofs.entries.close_all.Goals as goal

pub returns-clause-closed : goal.returns-clause-closed
returns-clause-closed c =
    let old = c.args.entries.now in
    let new = c.close_each.new.entries in
    let long : old.len ≡ length new = omega (arith, old.ok.0, c.close_each.auto.entries, c.deref_mut.ensures.len) in
    ap holders_in (written old.len new old.items long ∙ c.close_each.ensures ∙ ap (map (closed_entry c.args.n c.args.at)) c.deref_mut.ensures.value)
    ∙ holders-closed c.args.n c.args.at c.args.entries.now.items

pub returns-clause-safe : goal.returns-clause-safe
returns-clause-safe c = λ safe.
    let old = c.args.entries.now in
    let new = c.close_each.new.entries in
    let long : old.len ≡ length new = omega (arith, old.ok.0, c.close_each.auto.entries, c.deref_mut.ensures.len) in
    subst AreSafe (sym (written old.len new old.items long ∙ c.close_each.ensures ∙ ap (map (closed_entry c.args.n c.args.at)) c.deref_mut.ensures.value))
    (safe-closed c.args.n c.args.at c.args.entries.now.items safe)
