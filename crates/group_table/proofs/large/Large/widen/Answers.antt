use Rattle.std.proofs.Common.{◌<◌, ◌-◌, ◌∙◌, [], length, get_or, pos, sym, ap, subst, arith}
use Rattle.group_table.specs.Grids.{Grid, cells_of}
use Rattle.group_table.proofs.LargeLaws.{at-low, wide-same, wide-large}
use Rattle.group_table.proofs.large.Large.widen.Goals as goal

pub invariant_of-self : goal.invariant_of-self
invariant_of-self c =
    let row = c.args.row in
    let rows = c.self.inside.rows.items in
    let new = c.widen_row.new.rows.items in
    let at = at-low c.self.inside.groups.keys row (pos 0) (subst (λ (grid : Grid). row < length grid.keys) (sym c.self.view_is) c.requires) in
    wide-large c.self.inside.groups.keys c.self.inside.rows.items c.self.inside.numbers.numbers c.self.inside.numbers.width c.self.inside.count c.self.invariant row (get_or c.self.inside.groups.keys row (pos 0)) new (length (get_or new row []) - length (get_or rows row [])) at c.widen_row.ensures.value c.widen_row.ensures.more
    (λ short. let a = c.width-width.ensures.value in let b = c.widen_row.ensures.most (omega (arith, a, short)) in omega (arith, a, b))

pub returns-clause-same : goal.returns-clause-same
returns-clause-same c = λ s.
    let row = c.args.row in
    let rows = c.self.inside.rows.items in
    let new = c.widen_row.new.rows.items in
    let at = at-low c.self.inside.groups.keys row (pos 0) (subst (λ (grid : Grid). row < length grid.keys) (sym c.self.view_is) c.requires) in
    wide-same c.self.inside.groups.keys c.self.inside.rows.items c.self.inside.numbers.numbers c.self.inside.numbers.width c.self.inside.count c.self.invariant row (get_or c.self.inside.groups.keys row (pos 0)) new (length (get_or new row []) - length (get_or rows row [])) at c.widen_row.ensures.value c.widen_row.ensures.more s
    ∙ ap (λ (grid : Grid). cells_of grid s) c.self.view_is
