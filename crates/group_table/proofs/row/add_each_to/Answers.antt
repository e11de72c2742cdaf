use Rattle.std.proofs.Common.{◌≡◌, ◌==◌, ◌≤◌, ◌+◌, ◌^◌, ℕ, cond, get_or, set, sym, subst, arith}
use Rattle.group_table.specs.Cells.{blank, plus, IsSound}
use Rattle.group_table.proofs.RowLaws.{adding-begin, adding-most, adding-within, adding-sound, adding-few, adding-step, adding-done}
use Rattle.group_table.proofs.row.add_each_to.Goals as goal

pub slots-init : goal.slots-init
slots-init c = adding-begin c.args.places.now c.args.numbers.now c.args.slots.now c.args.cell c.requires c.of-left.result c.of-left.ensures

pub add_there-fresh-requires-clause-within : goal.add_there-fresh-requires-clause-within
add_there-fresh-requires-clause-within c =
    let a = adding-within c.args.places.now c.args.numbers.now c.args.slots.now c.args.cell c.requires c.slots.places c.slots.left c.slots.fresh c.slots.invariant c.next.new.self c.in-Some.slot c.in-Some.ensures.some in
    let b = c.number_of.ensures in
    omega (arith, a, b)

pub add_there-fresh-requires-clause-held : goal.add_there-fresh-requires-clause-held
add_there-fresh-requires-clause-held c =
    subst (λ n. IsSound (get_or c.slots.places n blank)) (sym c.number_of.ensures)
    (adding-sound c.args.places.now c.args.numbers.now c.args.slots.now c.args.cell c.requires c.slots.places c.slots.left c.slots.fresh c.slots.invariant c.next.new.self c.in-Some.slot c.in-Some.ensures.some)

pub add_there-fresh-requires-clause-few : goal.add_there-fresh-requires-clause-few
add_there-fresh-requires-clause-few c =
    subst (λ n. c.args.cell.count + (get_or c.slots.places n blank).count ≤ 2 ^ 62) (sym c.number_of.ensures)
    (adding-few c.args.places.now c.args.numbers.now c.args.slots.now c.args.cell c.requires c.slots.places c.slots.left c.slots.fresh c.slots.invariant c.next.new.self c.in-Some.slot c.in-Some.ensures.some)

pub overflow_add-fresh : goal.overflow_add-fresh
overflow_add-fresh c =
    let a = adding-most c.args.places.now c.args.numbers.now c.args.slots.now c.args.cell c.requires c.slots.places c.slots.left c.slots.fresh c.slots.invariant in
    let b = c.add_there-fresh.ensures.most in
    omega (arith, a, b)

pub slots-preserved : goal.slots-preserved
slots-preserved c =
    adding-step c.args.places.now c.args.numbers.now c.args.slots.now c.args.cell c.requires c.slots.places c.slots.left c.slots.fresh c.slots.invariant c.next.new.self c.in-Some.slot c.in-Some.ensures.some
    c.add_there-fresh.new.places c.add_there-fresh.result
    (subst (λ n. c.add_there-fresh.new.places ≡ set c.slots.places n (plus c.args.cell (get_or c.slots.places n blank))) c.number_of.ensures c.add_there-fresh.ensures.value)
    (subst (λ n. c.add_there-fresh.result ≡ cond {A = ℕ} ((get_or c.slots.places n blank).count == 0) 1 0) c.number_of.ensures c.add_there-fresh.ensures.fresh)

pub returns : goal.returns
returns c = adding-done c.args.places.now c.args.numbers.now c.args.slots.now c.args.cell c.requires c.slots.places c.slots.left c.slots.fresh c.slots.invariant c.in_default.ensures.none
