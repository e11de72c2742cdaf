use Rattle.std.proofs.Common.{◌≡◌, List, ap, ap₂, sym, ◌∙◌}
use Rattle.as_base.specs.declared.fragment.Cell.{Cell}
use Rattle.group_table.specs.Cells.{sums}
use Rattle.shared_agg.specs.Slices.{cells_within, sums_between}
use Rattle.shared_agg.proofs.StepLaws.{if_ok_weaker}
use Rattle.shared_agg.proofs.WindowLaws.{window-cells}
use Rattle.shared_agg.proofs.slices.window.Goals as goal

pub returns : goal.returns
returns c =
    let xs = c.args.slices.now.items in
    if_ok_weaker (λ (cells : List Cell). cells ≡ sums (cells_within c.places_between-first.result.0 c.places_between-first.result.1 c.args.slot xs))
    (λ (cells : List Cell). cells ≡ sums_between c.args.from c.args.to c.args.slot xs)
    c.sorted_between.result
    (λ cells is. is ∙ ap₂ (λ a b. sums (cells_within a b c.args.slot xs)) c.places_between-first.ensures.first c.places_between-first.ensures.past
    ∙ sym (ap sums (window-cells c.args.from c.args.to c.args.slot xs c.requires.rise)))
    c.sorted_between.ensures
