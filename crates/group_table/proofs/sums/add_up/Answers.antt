use Rattle.std.proofs.Common.{ap, arith}
use Rattle.group_table.specs.Cells.{count_at}
use Rattle.group_table.proofs.SumLaws.{count-sums}
use Rattle.group_table.proofs.sums.add_up.Goals as goal

pub join_groups-requires-clause-few : goal.join_groups-requires-clause-few
join_groups-requires-clause-few c = λ g.
    let same = ap (λ l. count_at l g) c.sort.ensures.same in
    let a = count-sums g c.args.cells.items in
    let b = count-sums g c.sort.new.cells.items in
    let few = c.requires.few g in
    omega (arith, same, a, b, few)
