use Rattle.std.proofs.Common.{OnOk, Result, Ok, Err, refl, sym, subst}
use Rattle.std.specs.List.Sorted.{IsStrictlyIncreasing}
use Rattle.plain_engine.specs.Holding.{with_given}
use Rattle.plain_engine.proofs.PieceLaws.{written-map, written-numbers}
use Rattle.plain_engine.proofs.StepLaws.{record-step}
use Rattle.plain_engine.proofs.store.Store.take_record.Goals as goal

-- a fact of what stands after a success
under_ok : {E : Type 0} (r : Result (Unit {0}) E) (P Q : Type 0) → (P → Q) → OnOk r P → OnOk r Q
under_ok (Ok u) P Q f h = f h
under_ok (Err e) P Q f h = h

pub invariant_of-self : goal.invariant_of-self
invariant_of-self c =
    let held = c.args.self.now.held in
    record {
      rising = subst IsStrictlyIncreasing
          (sym (written-numbers held.len held.items c.deref_mut.result.now c.take_among.new.held held.ok.0 c.deref_mut.ensures.value c.take_among.ensures.numbers)) c.args.self.now.rising;
    }

pub returns : goal.returns
returns c = λ v r same is f stands.
    let held = c.args.self.now.held in
    under_ok c.take_among.result _ _
    (λ taken.
    record-step c.args.self.now _ v r c.args.given.now same is f stands refl
    (written-map (with_given c.args.given.now) held.len held.items c.deref_mut.result.now c.take_among.new.held held.ok.0 c.deref_mut.ensures.value taken))
    c.take_among.ensures.ok
