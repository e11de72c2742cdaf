use Rattle.std.proofs.Common.{rules}
use Rattle.std.proofs.lemmas.Fn.{filter_same}
use Rattle.group_table.specs.declared.small.Entry.{Entry}
use Rattle.group_table.specs.Held.{is_kept}
use Rattle.group_table.proofs.small.keep_others.Goals as goal

pub returns : goal.returns
returns c = filter_same _ (λ (entry : Entry). is_kept c.args.slots.now entry.slot) _ (λ x b f k. search rules) _ _ c.retain.ensures.filtered
