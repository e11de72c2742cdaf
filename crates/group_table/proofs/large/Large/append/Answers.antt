use Rattle.std.proofs.Common.{◌≡◌, ◌++◌, ◌∙◌, [], sym, ap, subst, append-nil, arith}
use Rattle.group_table.specs.Cells.{AreCells}
use Rattle.group_table.specs.Grids.{Grid, cells_of}
use Rattle.group_table.proofs.LargeLaws.{large-cells, large-none}
use Rattle.group_table.proofs.large.Large.append.Goals as goal

-- a slot without a column has no cells
pub returns-then-number-width-clause-ok : goal.returns-then-number-width-clause-ok
returns-then-number-width-clause-ok c =
    let a = c.of-number.ensures.value in
    let b = c.width.ensures.value in
    let far = c.if-number-width.true in
    let none : cells_of c.args.self.now c.args.slot ≡ [] = ap (λ (grid : Grid). cells_of grid c.args.slot) (sym c.self.view_is) ∙ large-none c.self.inside.groups.keys c.self.inside.rows.items c.self.inside.numbers.numbers c.self.inside.numbers.width c.self.inside.count c.self.invariant c.args.slot (omega (arith, a, b, far)) in
    sym (ap (λ l. c.args.cells.now.items ++ l) none ∙ append-nil c.args.cells.now.items)

pub returns-then-number-width-clause-cells : goal.returns-then-number-width-clause-cells
returns-then-number-width-clause-cells c = subst (λ (grid : Grid). AreCells (cells_of grid c.args.slot)) c.self.view_is (large-cells c.self.inside.groups.keys c.self.inside.rows.items c.self.inside.numbers.numbers c.self.inside.numbers.width c.self.inside.count c.self.invariant c.args.slot)

pub returns-clause-cells : goal.returns-clause-cells
returns-clause-cells c = subst (λ (grid : Grid). AreCells (cells_of grid c.args.slot)) c.self.view_is (large-cells c.self.inside.groups.keys c.self.inside.rows.items c.self.inside.numbers.numbers c.self.inside.numbers.width c.self.inside.count c.self.invariant c.args.slot)
