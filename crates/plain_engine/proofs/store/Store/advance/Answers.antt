use Rattle.std.proofs.Common.{map, refl, sym, ap, subst, ◌∙◌}
use Rattle.std.specs.List.{filter, flat_map}
use Rattle.std.specs.List.Sorted.{IsStrictlyIncreasing}
use Rattle.plain_engine.specs.Held.{Held}
use Rattle.plain_engine.specs.Holding.{mark_by, forgotten, still_awaits, piece_due}
use Rattle.plain_engine.proofs.PieceLaws.{numbers_of, written-map, rising-map, rising-kept, KeepsNumbers-forgotten}
use Rattle.plain_engine.proofs.StepLaws.{advance-step}
use Rattle.plain_engine.proofs.store.Store.advance.Goals as goal

pub invariant_of-self-2 : goal.invariant_of-self-2
invariant_of-self-2 c =
    let marks = c.args.marks.now in
    let old = c.args.self.now.held in
    let held = c.drop_ended.new.held in
    let forgets = λ (h : Held). forgotten (mark_by marks h.plan) h in
    let all =
    written-map forgets held.len held.items c.deref_mut.result.now c.forget_among.new.held held.ok.0 c.deref_mut.ensures.value c.forget_among.ensures ∙ ap (map forgets) c.drop_ended.ensures in
    record {
      rising = subst (λ l. IsStrictlyIncreasing (numbers_of l)) (sym all)
          (rising-map forgets (KeepsNumbers-forgotten marks) (filter (still_awaits marks) old.items) (rising-kept (still_awaits marks) old.items c.args.self.now.rising));
    }

pub returns-clause-stands : goal.returns-clause-stands
returns-clause-stands c = λ v is f stands.
    let marks = c.args.marks.now in
    let held = c.drop_ended.new.held in
    let forgets = λ (h : Held). forgotten (mark_by marks h.plan) h in
    advance-step c.args.self.now _ v marks c.in_ok-pieces.pieces is f stands refl
    (written-map forgets held.len held.items c.deref_mut.result.now c.forget_among.new.held held.ok.0 c.deref_mut.ensures.value c.forget_among.ensures ∙ ap (map forgets) c.drop_ended.ensures)
    (c.in_ok-pieces.ensures.rows ∙ ap (flat_map (piece_due c.args.self.now.marks marks)) c.deref.ensures.value)
