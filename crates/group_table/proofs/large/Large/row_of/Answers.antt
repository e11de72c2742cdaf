use Rattle.std.proofs.Common.{◌-◌, ◌∙◌, length, ap, arith}
use Rattle.group_table.specs.Grids.{Grid, cells_of}
use Rattle.group_table.proofs.LargeLaws.{padded-large, padded-same, more-groups}
use Rattle.group_table.proofs.large.Large.row_of.Goals as goal

pub invariant_of-self : goal.invariant_of-self
invariant_of-self c = padded-large c.self.inside.groups.keys c.self.inside.rows.items c.self.inside.numbers.numbers c.self.inside.numbers.width c.self.inside.count c.self.invariant c.make_row.new.rows.items (length c.make_row.new.rows.items - length c.self.inside.rows.items) c.in_err-make_row.ensures.more

pub returns-in_err-make_row-clause-same : goal.returns-in_err-make_row-clause-same
returns-in_err-make_row-clause-same c = λ s.
    padded-same c.self.inside.groups.keys c.self.inside.rows.items c.self.inside.numbers.numbers c.self.inside.numbers.width c.self.inside.count c.self.invariant c.make_row.new.rows.items (length c.make_row.new.rows.items - length c.self.inside.rows.items) s c.in_err-make_row.ensures.more
    ∙ ap (λ (grid : Grid). cells_of grid s) c.self.view_is

pub invariant_of-self-in_err-row : goal.invariant_of-self-in_err-row
invariant_of-self-in_err-row c =
    let padded = padded-large c.self.inside.groups.keys c.self.inside.rows.items c.self.inside.numbers.numbers c.self.inside.numbers.width c.self.inside.count c.self.invariant c.make_row.new.rows.items (length c.make_row.new.rows.items - length c.self.inside.rows.items) c.in_ok-make_row.ensures.more in
    more-groups c.self.inside.groups.keys c.make_row.new.rows.items c.self.inside.numbers.numbers c.self.inside.numbers.width c.self.inside.count padded
    c.look_up.new.groups.keys c.in_err-row.ensures.apart (c.in_err-row.ensures.more c.make_row.new.rows.items padded.each)
    (let a = c.in_err-row.ensures.one in let b = c.in_ok-make_row.ensures.ok in let d = c.len-groups.ensures in omega (arith, a, b, d))

pub returns-in_err-row-clause-same : goal.returns-in_err-row-clause-same
returns-in_err-row-clause-same c = λ s.
    padded-same c.self.inside.groups.keys c.self.inside.rows.items c.self.inside.numbers.numbers c.self.inside.numbers.width c.self.inside.count c.self.invariant c.make_row.new.rows.items (length c.make_row.new.rows.items - length c.self.inside.rows.items) s c.in_ok-make_row.ensures.more
    ∙ ap (λ (grid : Grid). cells_of grid s) c.self.view_is

pub invariant_of-self-2 : goal.invariant_of-self-2
invariant_of-self-2 c =
    let padded = padded-large c.self.inside.groups.keys c.self.inside.rows.items c.self.inside.numbers.numbers c.self.inside.numbers.width c.self.inside.count c.self.invariant c.make_row.new.rows.items (length c.make_row.new.rows.items - length c.self.inside.rows.items) c.in_ok-make_row.ensures.more in
    more-groups c.self.inside.groups.keys c.make_row.new.rows.items c.self.inside.numbers.numbers c.self.inside.numbers.width c.self.inside.count padded
    c.look_up.new.groups.keys c.in_ok-row.ensures.apart (c.in_ok-row.ensures.more c.make_row.new.rows.items padded.each)
    (let a = c.in_ok-row.ensures.one in let b = c.in_ok-make_row.ensures.ok in let d = c.len-groups.ensures in omega (arith, a, b, d))

pub returns-clause-same : goal.returns-clause-same
returns-clause-same c = λ s.
    padded-same c.self.inside.groups.keys c.self.inside.rows.items c.self.inside.numbers.numbers c.self.inside.numbers.width c.self.inside.count c.self.invariant c.make_row.new.rows.items (length c.make_row.new.rows.items - length c.self.inside.rows.items) s c.in_ok-make_row.ensures.more
    ∙ ap (λ (grid : Grid). cells_of grid s) c.self.view_is
