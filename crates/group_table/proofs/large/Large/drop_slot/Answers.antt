use Rattle.std.proofs.Common.{◌≡◌, ◌∙◌, ◌==◌, List, [], cond, length, get_or, ap, arith}
use Rattle.as_base.specs.declared.fragment.Cell.{Cell}
use Rattle.group_table.specs.Grids.{Grid, cells_of, all_shown, column, without}
use Rattle.group_table.proofs.ListLaws.{written-back}
use Rattle.group_table.proofs.GridLaws.{length-without}
use Rattle.group_table.proofs.LargeLaws.{cells_in, large-part, blanked-cells, blanked-large}
use Rattle.group_table.proofs.large.Large.drop_slot.Goals as goal

pub overflow_sub-self : goal.overflow_sub-self
overflow_sub-self c =
    let part = large-part c.self.inside.groups.keys c.self.inside.rows.items c.self.inside.numbers.numbers c.self.inside.numbers.width c.self.inside.count c.self.invariant c.args.slot c.requires in
    let a = c.blank_column.ensures.count in
    let b = ap (λ (l : List (List Cell)). length (all_shown (column c.of-number.result l))) c.deref_mut.ensures.value in
    let d = ap (λ n. length (all_shown (column n c.self.inside.rows.items))) c.of-number.ensures.value in
    omega (arith, part, a, b, d)

pub invariant_of-self : goal.invariant_of-self
invariant_of-self c =
    let rows = c.self.inside.rows.items in
    let new = c.blank_column.new.rows in
    let is = c.blank_column.ensures.value ∙ ap (λ (l : List (List Cell)). without c.of-number.result l) c.deref_mut.ensures.value ∙ ap (λ n. without n rows) c.of-number.ensures.value in
    let long : length new ≡ length rows = ap (λ (l : List (List Cell)). length l) is ∙ length-without (get_or c.self.inside.numbers.numbers c.args.slot 512) rows in
    blanked-large c.self.inside.groups.keys c.self.inside.rows.items c.self.inside.numbers.numbers c.self.inside.numbers.width c.self.inside.count c.self.invariant c.args.slot c.blank_column.result _ c.requires c.of-number.ensures.apart
    (c.blank_column.ensures.count ∙ ap (λ (l : List (List Cell)). length (all_shown (column c.of-number.result l))) c.deref_mut.ensures.value ∙ ap (λ n. length (all_shown (column n rows))) c.of-number.ensures.value)
    (written-back c.self.inside.rows.len new rows (let ok = c.self.inside.rows.ok.0 in omega (arith, ok)) long ∙ is)

pub returns : goal.returns
returns c = λ s.
    let rows = c.self.inside.rows.items in
    let numbers = c.self.inside.numbers.numbers in
    let new = c.blank_column.new.rows in
    let is = c.blank_column.ensures.value ∙ ap (λ (l : List (List Cell)). without c.of-number.result l) c.deref_mut.ensures.value ∙ ap (λ n. without n rows) c.of-number.ensures.value in
    let long : length new ≡ length rows = ap (λ (l : List (List Cell)). length l) is ∙ length-without (get_or numbers c.args.slot 512) rows in
    ap (λ (l : List (List Cell)). cells_in numbers l s) (written-back c.self.inside.rows.len new rows (let ok = c.self.inside.rows.ok.0 in omega (arith, ok)) long ∙ is)
    ∙ blanked-cells c.self.inside.groups.keys c.self.inside.rows.items c.self.inside.numbers.numbers c.self.inside.numbers.width c.self.inside.count c.self.invariant c.args.slot s c.of-number.ensures.apart
    ∙ ap (λ (grid : Grid). cond (s == c.args.slot) [] (cells_of grid s)) c.self.view_is
