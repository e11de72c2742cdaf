use Rattle.std.proofs.Common.{rules}
use Rattle.std.proofs.lemmas.List.Sorted.{answers_always}
use Rattle.as_base.specs.declared.fragment.Cell.{Cell}
use Rattle.group_table.proofs.SumLaws.{sums-permuted, falls-sorted}
use Rattle.group_table.proofs.UpLaws.{sound-permuted}
use Rattle.group_table.proofs.sums.sort.Goals as goal

pub returns-clause-order : goal.returns-clause-order
returns-clause-order c =
    falls-sorted c.sort_unstable_by_key.new.self.items (c.sort_unstable_by_key.ensures.sorted (λ (x : Cell). x.group) (answers_always _ _ _ (λ f a r k h. search rules)))

pub returns-clause-same : goal.returns-clause-same
returns-clause-same c = sums-permuted c.args.cells.now.items c.sort_unstable_by_key.new.self.items c.sort_unstable_by_key.ensures.permutation

pub returns-clause-sound : goal.returns-clause-sound
returns-clause-sound c = sound-permuted c.args.cells.now.items c.sort_unstable_by_key.new.self.items c.sort_unstable_by_key.ensures.permutation
