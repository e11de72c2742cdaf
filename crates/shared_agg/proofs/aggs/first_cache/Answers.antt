use Rattle.std.proofs.Common.{◌∙◌, arith}
use Rattle.changelog.proofs.BySlotLaws.{by_slot-first}
use Rattle.shared_agg.specs.Duties.{duty_of}
use Rattle.shared_agg.proofs.aggs.first_cache.Goals as goal

pub returns : goal.returns
returns c = λ cs. record { duties = c.new.ensures ∙ by_slot-first duty_of cs; epoch = omega arith }
