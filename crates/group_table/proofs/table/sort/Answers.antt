use Rattle.std.proofs.Common.{rules}
use Rattle.std.proofs.lemmas.List.Sorted.{answers_always}
use Rattle.as_base.specs.declared.fragment.Cell.{Cell}
use Rattle.group_table.proofs.SumLaws.{sorted-is, falls-sorted}
use Rattle.group_table.proofs.table.sort.Goals as goal

pub returns : goal.returns
returns c =
    let cells = c.sort_unstable_by_key.new.self.items in
    sorted-is c.args.cells.now.items cells c.sort_unstable_by_key.ensures.permutation
    (falls-sorted cells (c.sort_unstable_by_key.ensures.sorted (λ (x : Cell). x.group) (answers_always _ _ _ (λ f a r k h. search rules)))) c.requires
