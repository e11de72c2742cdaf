use Rattle.std.proofs.Common.{get_or, sym, ap₂, ◌∙◌}
use Rattle.std.proofs.lemmas.Result.{on_ok_weaker}
use Rattle.as_base.specs.Stream.{place_of}
use Rattle.shared_agg.proofs.AggLaws.{AggsFor-push}
use Rattle.views.specs.Slots.{held}
use Rattle.contents.proofs.PastLaws.{unended-all, change-after}
use Rattle.contents.proofs.StoreLaws.{cells-with_change}
use Rattle.part_state.specs.Entries.{running}
use Rattle.part_state.proofs.EntryLaws.{running-held}
use Rattle.part_state.proofs.ReaderLaws.{reader-change, epoch-after}
use Rattle.part_state.proofs.state.State.keep_change.Goals as goal

pub returns-clause-stands : goal.returns-clause-stands
returns-clause-stands c = λ is_there p stored past follows early was.
    let st = c.args.self.now in
    let change = c.args.c.now in
    let time = change-after is_there p change follows in
    on_ok_weaker c.change.result (λ entries. record {
      epochs = c.in_ok-append_both.ensures.epochs p was.epochs;
      untrimmed = c.in_ok-append_both.ensures.kept 0 was.untrimmed;
      touched = c.in_ok-append_both.ensures.touched p was.touched;
      readers = λ s d. reader-change p stored change s (get_or st.readers (place_of s) d) (unended-all p past) time.records early (was.readers s d);
      duties = AggsFor-push st.aggs p.changes change was.duties;
      cells = λ s d slot l. was.cells s d slot l ∙ sym (cells-with_change p change s slot d (unended-all p past) time.marks time.most time.records);
      cell_epochs = λ s d e f. epoch-after p change time.records d e (was.cell_epochs s d e f);
      added = was.added;
      marks = was.marks;
      entries = entries ∙ ap₂ (λ m hs. running m (held hs change)) was.marks was.entries ∙ running-held p.marks p.holders change;
    }) c.change.ensures
