use Rattle.std.proofs.Common.{nat_le, drop, sym, ap, ◌∙◌}
use Rattle.std.specs.List.{filter}
use Rattle.as_base.specs.declared.item.Given.{Given}
use Rattle.plain_engine.proofs.waiting.Waiting.forget_before.Goals as goal

pub returns : goal.returns
returns c =
    c.forget.ensures
    ∙ ap (drop c.count_before-count.result) (sym c.as_slice.ensures.value)
    ∙ c.count_before-count.ensures.rest
    ∙ ap (filter (λ (g : Given). nat_le c.args.time g.time)) c.as_slice.ensures.value
