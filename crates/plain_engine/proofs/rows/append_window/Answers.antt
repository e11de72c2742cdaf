use Rattle.std.proofs.Common.{◌≡◌, ◌++◌, OnOk, subst}
use Rattle.plain_engine.proofs.CellLaws.{window-groups}
use Rattle.plain_engine.proofs.rows.append_window.Goals as goal

pub returns-in-Sum : goal.returns-in-Sum
returns-in-Sum c =
    subst (λ l. OnOk c.append_groups.result (c.append_groups.new.out.items ≡ c.args.out.now.items ++ l))
    (window-groups c.args.plan.now c.args.k c.args.lefts.now c.args.rights.now c.window_records-lefts.result.now c.window_records-lefts.ensures c.in-Sum.is) c.append_groups.ensures
