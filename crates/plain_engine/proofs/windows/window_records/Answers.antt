use Rattle.std.proofs.Common.{nat_lt, nat_le, ap, ◌∙◌}
use Rattle.std.specs.List.{filter}
use Rattle.as_base.specs.declared.item.Given.{Given}
use Rattle.as_base.specs.Windows.{start_of, end_of}
use Rattle.views.proofs.ListLaws.{filter-filter}
use Rattle.plain_engine.proofs.windows.window_records.Goals as goal

pub returns : goal.returns
returns c =
    let w = c.args.win.now in
    c.until_time.ensures.value
    ∙ ap (filter (λ (g : Given). nat_lt g.time (end_of w c.args.k))) c.from_time.ensures.value
    ∙ filter-filter (λ (g : Given). nat_lt g.time (end_of w c.args.k)) (λ (g : Given). nat_le (start_of w c.args.k) g.time) c.args.records.now
