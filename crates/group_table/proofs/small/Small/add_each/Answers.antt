use Rattle.std.proofs.Common.{List, refl, ap}
use Rattle.group_table.specs.declared.small.Entry.{Entry}
use Rattle.group_table.specs.Cells.{add_in, sums}
use Rattle.group_table.specs.Held.{held}
use Rattle.group_table.proofs.ListLaws.{on-err}
use Rattle.group_table.proofs.EachLaws.{each-begin, each-room, each-step, each-done, each-some}
use Rattle.group_table.proofs.small.Small.add_each.Goals as goal

pub slots-init : goal.slots-init
slots-init c = each-begin (λ cs. add_in cs c.args.cell) (λ k. sums (held c.args.self.now k)) c.args.slots.now (λ k. sums (held c.args.self.now k)) c.of-left.result (λ s. refl) c.of-left.ensures

pub add-requires-clause-few : goal.add-requires-clause-few
add-requires-clause-few c =
    each-room (λ k. sums (held c.args.self.now k)) (λ k. sums (held c.slots.self k)) c.args.slots.now c.slots.left c.next.new.self c.args.cell c.in-Some.slot
    c.slots.invariant c.in-Some.ensures.some c.requires.few

pub slots-preserved : goal.slots-preserved
slots-preserved c =
    each-step (λ cs. add_in cs c.args.cell) (λ k. sums (held c.args.self.now k)) c.args.slots.now (λ k. sums (held c.slots.self k)) c.slots.left c.slots.invariant
    (λ k. sums (held c.add.new.self k)) c.next.new.self c.in-Some.slot c.in-Some.ensures.some c.in_ok-add.ensures.ok

pub returns-in_err-add-clause-err : goal.returns-in_err-add-clause-err
returns-in_err-add-clause-err c = on-err c.from_residual.result
    (each-some (λ k. sums (held c.args.self.now k)) (λ k. sums (held c.slots.self k)) (λ k. sums (held c.add.new.self k)) c.args.slots.now c.slots.left c.args.cell c.slots.invariant
    (λ s. ap (λ (es : List Entry). sums (held es s)) c.in_err-add.ensures.err))

pub returns-clause-ok : goal.returns-clause-ok
returns-clause-ok c = each-done (λ cs. add_in cs c.args.cell) (λ k. sums (held c.args.self.now k)) c.args.slots.now (λ k. sums (held c.slots.self k)) c.slots.left c.slots.invariant c.in_default.ensures.none
