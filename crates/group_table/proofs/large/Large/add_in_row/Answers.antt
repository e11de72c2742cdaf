use Rattle.std.proofs.Common.{◌≡◌, ◌≤◌, ◌<◌, ◌+◌, ◌^◌, ◌∙◌, ℕ, List, Some, false, cond, [], length, get_or, slice_get, sym, ap, subst}
use Rattle.group_table.specs.Cells.{add_in, sums, count_at}
use Rattle.group_table.specs.Grids.{Grid, cells_of, Takes, HasAdded}
use Rattle.group_table.proofs.LargeLaws.{row-low, large-takes, added-large, added-sums}
use Rattle.group_table.proofs.large.Large.add_in_row.Goals as goal

pub add_to-requires-clause-within : goal.add_to-requires-clause-within
add_to-requires-clause-within c =
    let view = sym c.self.view_is in
    let at = subst (λ (grid : Grid). slice_get grid.keys c.args.row ≡ Some c.args.cell.group) view c.requires.row in
    row-low c.self.inside.groups.keys c.self.inside.rows.items c.self.inside.numbers.numbers c.self.inside.numbers.width c.self.inside.count c.self.invariant c.args.row c.args.cell.group at

pub add_to-requires-clause-takes : goal.add_to-requires-clause-takes
add_to-requires-clause-takes c =
    let view = sym c.self.view_is in
    let at = subst (λ (grid : Grid). slice_get grid.keys c.args.row ≡ Some c.args.cell.group) view c.requires.row in
    subst (λ (l : List ℕ). Takes (get_or c.self.inside.rows.items c.args.row []) l c.args.slots.now c.args.cell) (sym c.all.ensures.value)
    (large-takes c.self.inside.groups.keys c.self.inside.rows.items c.self.inside.numbers.numbers c.self.inside.numbers.width c.self.inside.count c.self.invariant c.args.row c.args.slots.now c.args.cell at c.requires.sound c.requires.some
    (ap (λ (l : List ℕ). length l) (sym c.all.ensures.value) ∙ c.all.ensures.len) c.all.ensures.apart
    (λ s on. subst (λ (grid : Grid). get_or grid.numbers s 512 < length (get_or grid.rows c.args.row [])) view (c.requires.within s on))
    (λ s on. subst (λ (grid : Grid). count_at (sums (cells_of grid s)) c.args.cell.group + c.args.cell.count ≤ 2 ^ 62) view (c.requires.few s on)))

pub invariant_of-self : goal.invariant_of-self
invariant_of-self c =
    let view = sym c.self.view_is in
    let at = subst (λ (grid : Grid). slice_get grid.keys c.args.row ≡ Some c.args.cell.group) view c.requires.row in
    let rows = c.self.inside.rows.items in
    let new = c.add_to.new.rows.items in
    added-large c.self.inside.groups.keys c.self.inside.rows.items c.self.inside.numbers.numbers c.self.inside.numbers.width c.self.inside.count c.self.invariant c.args.row c.args.slots.now c.args.cell new c.add_to.result at c.add_to.ensures.value
    (subst (λ (l : List ℕ). HasAdded (get_or rows c.args.row []) (get_or new c.args.row []) l c.args.slots.now c.args.cell c.add_to.result) c.all.ensures.value c.add_to.ensures.added)

pub returns-clause-ok : goal.returns-clause-ok
returns-clause-ok c = λ s.
    let view = sym c.self.view_is in
    let at = subst (λ (grid : Grid). slice_get grid.keys c.args.row ≡ Some c.args.cell.group) view c.requires.row in
    let rows = c.self.inside.rows.items in
    let new = c.add_to.new.rows.items in
    added-sums c.self.inside.groups.keys c.self.inside.rows.items c.self.inside.numbers.numbers c.self.inside.numbers.width c.self.inside.count c.self.invariant c.args.row c.args.slots.now c.args.cell new c.add_to.result at c.add_to.ensures.value
    (subst (λ (l : List ℕ). HasAdded (get_or rows c.args.row []) (get_or new c.args.row []) l c.args.slots.now c.args.cell c.add_to.result) c.all.ensures.value c.add_to.ensures.added)
    s c.requires.some
    ∙ ap (λ (grid : Grid). cond (get_or c.args.slots.now s false) (add_in (sums (cells_of grid s)) c.args.cell) (sums (cells_of grid s))) c.self.view_is
