use Rattle.std.proofs.Common.{◌∙◌, false, take, ap}
use Rattle.std.proofs.lemmas.List.{take-replicate}
use Rattle.slot_alloc.proofs.Slots.new.Goals as goal

pub returns : goal.returns
returns c = ap (take c.args.slots) c.none.ensures ∙ take-replicate c.args.slots 512 false c.requires.most
