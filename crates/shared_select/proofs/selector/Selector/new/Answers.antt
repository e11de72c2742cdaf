use Rattle.std.proofs.Common.{refl, ◌∙◌}
use Rattle.changelog.proofs.BySlotLaws.{by_slot-first}
use Rattle.shared_select.specs.Wanting.{bounds_on}
use Rattle.shared_select.proofs.selector.Selector.new.Goals as goal

pub returns : goal.returns
returns c = record { stream = refl; epoch = refl; stands = λ cs. c.in_ok-columns.ensures ∙ by_slot-first (bounds_on c.args.s) cs }
