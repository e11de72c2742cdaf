use Rattle.std.proofs.Common.{◌≡◌, ◌-◌, ◌^◌, min, length, ap, ◌∙◌, rules}
use Rattle.shared_join.proofs.NameLaws.{number-is, listed-once}
use Rattle.shared_join.proofs.joins.Joins.pairs.Goals as goal

pub returns-clause-number : goal.returns-clause-number
returns-clause-number c =
    let long : length c.args.self.now.lanes ≡ 16 = search rules in
    c.count_all.ensures.number ∙ ap (λ n. min n (2 ^ 64 - 1)) (number-is c.args.self.now long c.count_all.ensures.order)

pub returns-clause-listed : goal.returns-clause-listed
returns-clause-listed c = listed-once c.args.self.now c.count_all.ensures.order
