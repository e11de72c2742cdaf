use Rattle.std.proofs.Common.{◌≤◌, false, [], ◌∷◌, refl, sym, ap, subst, ◌∙◌, arith}
use Rattle.std.specs.Prelude.{is_some}
use Rattle.std.proofs.lemmas.Bool.{both_ways}
use Rattle.as_base.specs.declared.stream.StreamId.TheVariants.{A, B, C, D}
use Rattle.shared_agg.specs.Aggs.{lane_of}
use Rattle.contents.specs.Past.{no_past}
use Rattle.part_state.specs.declared.reader.Reader.{Reader}
use Rattle.part_state.specs.Reader.{IsReaderFor}
use Rattle.part_state.specs.Standing.{AreReadersFor}
use Rattle.part_state.proofs.StateLaws.{no-cells, no-epoch}
use Rattle.part_state.proofs.state.State.new.Goals as goal

four : (a b c d : Reader) → IsReaderFor a A no_past [] → IsReaderFor b B no_past [] → IsReaderFor c C no_past [] → IsReaderFor d D no_past [] → AreReadersFor (a ∷ b ∷ c ∷ d ∷ []) no_past []
four a b c d f g h k A any = f
four a b c d f g h k B any = g
four a b c d f g h k C any = h
four a b c d f g h k D any = k

pub returns-clause-stands : goal.returns-clause-stands
returns-clause-stands c = record {
  orderly = tt;
  stands = record {
    epochs = c.new.ensures.none;
    untrimmed = let l = c.new.ensures.last in omega (arith, l);
    touched = c.new-2.ensures.none;
    readers = four c.in_ok-new.field-0 c.in_ok-new-2.field-0 c.in_ok-new-3.field-0 c.in_ok-new-4.field-0
        c.in_ok-new.ensures c.in_ok-new-2.ensures c.in_ok-new-3.ensures c.in_ok-new-4.ensures;
    duties = c.new-7.ensures.stands [];
    cells = λ s at slot l. no-cells (lane_of c.new-7.result s).slices at slot (c.new-7.ensures.none.starts_are s);
    cell_epochs = λ s at e f. absurd (both_ways false refl (ap is_some (sym (no-epoch (lane_of c.new-7.result s).slices at (c.new-7.ensures.none.starts_are s)) ∙ f)));
    added = λ s. subst (λ n. n ≤ 0) (sym (c.new-7.ensures.none.records_are s)) (omega arith);
    marks = refl;
    entries = c.new-8.ensures;
  };
}
