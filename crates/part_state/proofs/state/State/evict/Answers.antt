use Rattle.std.proofs.Common.{◌≤◌, ◌&&◌, nat_lt, cond, [], length, refl, sym, ap, ap₂, subst, ◌∙◌, arith}
use Rattle.as_base.specs.Stream.{place_of}
use Rattle.shared_agg.specs.Fill.{has}
use Rattle.contents.specs.Past.{mark_of}
use Rattle.part_state.specs.declared.waiting.Wait.TheVariants.{Passed}
use Rattle.part_state.specs.Entries.{running}
use Rattle.part_state.specs.Waiting.{waiting}
use Rattle.part_state.proofs.EntryLaws.{running-later}
use Rattle.part_state.proofs.PassedLaws.{cells-left}
use Rattle.part_state.proofs.StandingLaws.{place-below}
use Rattle.part_state.proofs.state.State.evict.Goals as goal

pub returns-clause-stands : goal.returns-clause-stands
returns-clause-stands c = λ p stored past follows low was.
    let marks = c.args.marks.now in
    let thinned = c.drop_all.ensures.thinned in
    record {
      epochs = was.epochs;
      untrimmed = was.untrimmed;
      touched = was.touched;
      readers = λ s d. c.evict_each.ensures.evicted (place_of s) d (let b = place-below s in let e = c.evict_each.ensures.four in omega (arith, b, e))
          s p stored past follows.up was.entries low (was.readers s d);
      duties = thinned.duties p.changes was.duties;
      cells = λ s at slot l. c.drop_all.ensures.cells s at slot l
          ∙ ap₂ (λ es x. cond (nat_lt at (mark_of marks s) && has (waiting Passed marks at es) slot) [] x) was.entries (was.cells s at slot l)
          ∙ sym (cells-left p marks past follows.up follows.most s slot at l);
      cell_epochs = λ s at e f. let k = was.cell_epochs s at e (thinned.epochs s at e f) in record { epoch = k.epoch; begun = k.begun };
      added = λ s. subst (λ n. n ≤ length p.records) (sym (thinned.records s)) (was.added s);
      marks = refl;
      entries = c.retain_running.ensures ∙ ap (running marks) was.entries ∙ running-later p.marks marks p.holders follows.up;
    }
