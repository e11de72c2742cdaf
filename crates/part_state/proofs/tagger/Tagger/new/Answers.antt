use Rattle.std.proofs.Common.{◌∙◌, sym, ap}
use Rattle.changelog.proofs.BySlotLaws.{by_slot-first}
use Rattle.part_state.specs.Keeping.{keeps_records, keeping}
use Rattle.part_state.proofs.tagger.Tagger.new.Goals as goal

pub returns-clause-stands : goal.returns-clause-stands
returns-clause-stands c = λ cs. record {
  stream = c.in_ok-new.ensures.stream;
  columns = c.in_ok-new.ensures.stands cs;
  keepers = c.none.ensures ∙ by_slot-first keeps_records cs ∙ ap (keeping cs) (sym c.in_ok-new.ensures.epoch);
}
