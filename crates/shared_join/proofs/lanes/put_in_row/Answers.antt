use Rattle.std.proofs.Common.{Option, Some, eqb, cond, sym, ap, ◌∙◌, []}
use Rattle.std.specs.Option.{unwrap_or}
use Rattle.std.proofs.lemmas.Result.{on_ok_weaker, on_err_weaker}
use Rattle.by_start.specs.Order.{look, start_at, with_begun, with_thing}
use Rattle.by_start.proofs.ListLaws.{with_thing-same}
use Rattle.shared_join.specs.Lanes.{Row}
use Rattle.shared_join.proofs.lanes.put_in_row.Goals as goal

pub returns-clause-looks : goal.returns-clause-looks
returns-clause-looks c =
    let there = ap (λ (o : Option Row). unwrap_or o []) (sym c.thing_mut.ensures.value) in
    on_ok_weaker c.insert.result (λ is x.
    c.thing_mut.ensures.looks c.insert.new.self x
    ∙ ap (λ (r : Row). cond (eqb x (start_at c.args.place c.args.lane.now)) (Some r) (look x c.args.lane.now)) (is ∙ ap (with_begun c.args.second c.args.pairs) there)) c.insert.ensures.list

pub returns-clause-err : goal.returns-clause-err
returns-clause-err c =
    on_err_weaker c.insert.result (λ e. ap (with_thing c.args.place c.args.lane.now) e ∙ with_thing-same c.args.place c.args.lane.now c.thing_mut.result.now c.thing_mut.ensures.value)
    c.insert.ensures.err
