use Rattle.std.proofs.Common.{[], refl}
use Rattle.group_table.specs.Grids.{cells_of}
use Rattle.group_table.proofs.EachLaws.{each-begin, each-step, each-done, sums-dropped}
use Rattle.group_table.proofs.large.Large.drop_each.Goals as goal

pub slots-init : goal.slots-init
slots-init c = each-begin (λ cs. []) (cells_of c.args.self.now) c.args.slots.now (cells_of c.args.self.now) c.of-left.result (λ s. refl) c.of-left.ensures

pub slots-preserved : goal.slots-preserved
slots-preserved c =
    each-step (λ cs. []) (cells_of c.args.self.now) c.args.slots.now (cells_of c.slots.self) c.slots.left c.slots.invariant
    (cells_of c.drop_slot.new.self) c.next.new.self c.in-Some.slot c.in-Some.ensures.some c.drop_slot.ensures

pub returns : goal.returns
returns c = λ s.
    sums-dropped (cells_of c.args.self.now) (cells_of c.slots.self) c.args.slots.now s
    (each-done (λ cs. []) (cells_of c.args.self.now) c.args.slots.now (cells_of c.slots.self) c.slots.left c.slots.invariant c.in_default.ensures.none s)
