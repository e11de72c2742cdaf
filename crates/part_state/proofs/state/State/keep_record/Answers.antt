use Rattle.std.proofs.Common.{◌≤◌, eqb, length, get_or, sym, ap, subst, ◌∙◌, arith}
use Rattle.std.proofs.lemmas.Result.{on_ok_weaker}
use Rattle.changelog.specs.Changes as changes
use Rattle.changelog.specs.EpochsFor.{IsKept}
use Rattle.changelog.proofs.BySlotLaws.{epoch_within}
use Rattle.as_base.specs.declared.message.Msg.TheVariants as msg
use Rattle.contents.specs.Kept.{kept_with}
use Rattle.contents.specs.Past.{followed}
use Rattle.part_state.specs.declared.reader.Reader.{Reader}
use Rattle.part_state.specs.Reader.{IsReaderFor}
use Rattle.part_state.proofs.CellLaws.{cell-record, epoch-record, one-longer}
use Rattle.part_state.proofs.StandingLaws.{owners-by, epochs-by, readers-record, any-of}
use Rattle.part_state.proofs.state.State.keep_record.Goals as goal

pub returns-clause-stands : goal.returns-clause-stands
returns-clause-stands c = λ is_there p stored past follows was.
    any-of c.args.self.now.readers c.take_at.ensures.within (λ (any : Reader).
    let r = c.args.r.now in
    let s = r.given.stream in
    let t = r.given.time in
    let st = c.args.self.now in
    let cs = p.changes in
    let placing = c.in_ok-placing.placing in
    let took = λ (d : Reader). c.in_ok-placing.ensures.own is_there p stored d was.epochs was.untrimmed past follows
    (subst (λ n. IsReaderFor (get_or st.readers n d) s p stored) (sym c.place_of.ensures.place) (was.readers s d)) in
    let placed = (took any).0 in
    let kept : IsKept st.epochs placing.epoch = (let all = was.untrimmed in omega (arith, all)) in
    let within : placing.epoch ≤ length cs = subst (λ n. n ≤ length cs) (sym placed.epoch) (epoch_within cs t) in
    on_ok_weaker c.add.result (λ cells. record {
      epochs = was.epochs;
      untrimmed = was.untrimmed;
      touched = was.touched;
      readers = readers-record p stored r st.readers c.take_at.new.readers was.readers
          (λ d. subst (λ n. IsReaderFor (get_or c.take_at.new.readers n d) s (followed p (msg.Rec r)) (kept_with (followed p (msg.Rec r)) stored (msg.Rec r))) c.place_of.ensures.place (took d).1)
          (λ i d e. c.take_at.ensures.others i d (ap (eqb i) c.place_of.ensures.place ∙ e));
      duties = c.add.ensures.stands cs was.epochs was.duties kept within;
      cells = cell-record p r st.aggs c.add.new.self placing.start placing.epoch placing.set past follows.mark placed.set placed.start
          (λ slot. ap (λ e. changes.owner cs e slot) placed.epoch ∙ owners-by p t past c.requires.time slot)
          was.cells (cells cs was.epochs was.duties kept within);
      cell_epochs = epoch-record p r st.aggs c.add.new.self placing.start placing.epoch placed.start placed.epoch (epochs-by p s t past c.requires.time)
          was.cell_epochs c.add.ensures.kept c.add.ensures.made;
      added = λ u. one-longer p r _ _ (c.add.ensures.records u) (was.added u);
      marks = was.marks;
      entries = was.entries;
    }) c.add.ensures.cells)
