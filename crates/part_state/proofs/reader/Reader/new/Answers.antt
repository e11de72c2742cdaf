use Rattle.std.proofs.Common.{false, [], refl, ap, sym, ◌∙◌}
use Rattle.std.specs.Prelude.{is_some}
use Rattle.std.proofs.lemmas.Bool.{both_ways}
use Rattle.slice_store.specs.Slices.{Store, placed_at, epoch_at}
use Rattle.part_state.proofs.reader.Reader.new.Goals as goal

pub returns : goal.returns
returns c = record {
  tags = c.in_ok-new.ensures.stands [];
  epoch = c.in_ok-new.ensures.epoch;
  cut = c.no_cut.ensures c.args.s [];
  store = ap (λ (s : Store). s.stream) c.new-2.ensures;
  placed = λ at. ap (λ (s : Store). placed_at at s.slices) c.new-2.ensures;
  epochs = λ at e f. absurd (both_ways false refl (ap is_some (sym (ap (λ (s : Store). epoch_at at s.slices) c.new-2.ensures) ∙ f)));
}
