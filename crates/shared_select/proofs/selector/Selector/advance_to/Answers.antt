use Rattle.std.proofs.Common.{subst, sym, ◌∙◌, ◌≡◌, ◌≤◌, length, arith}
use Rattle.changelog.specs.Changes.{epoch_at}
use Rattle.changelog.proofs.BySlotLaws.{by_slot-between, epoch_within}
use Rattle.shared_select.specs.Wanting.{bounds_on}
use Rattle.shared_select.proofs.selector.Selector.advance_to.Goals as goal

pub returns-clause-stands : goal.returns-clause-stands
returns-clause-stands c cs epochs stand kept later =
    let is : c.epoch_at-epoch.result ≡ epoch_at cs c.args.time = c.epoch_at-epoch.ensures cs epochs (omega (arith, kept, later)) in
    let up = subst (λ n. c.args.self.now.epoch ≤ n) (sym is) later in (
      c.renew_all.ensures
          ∙ by_slot-between (bounds_on c.args.self.now.stream) c.args.epochs.now cs c.args.self.now.epoch c.epoch_at-epoch.result c.slots_between-slots.result.now c.args.self.now.columns
          epochs kept up c.slots_between-slots.ensures.within
          (c.slots_between-slots.ensures.slots cs epochs kept up (subst (λ n. n ≤ length cs) (sym is) (epoch_within cs c.args.time)))
          stand,
      is,
    )
