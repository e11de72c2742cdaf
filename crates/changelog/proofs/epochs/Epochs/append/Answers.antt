use Rattle.std.proofs.Common.{◌<◌, ◌+◌, [], ◌∷◌, length, refl, ap, ◌∙◌, arith}
use Rattle.changelog.specs.declared.spans.Span.{Span}
use Rattle.changelog.specs.Changes.{last_or}
use Rattle.changelog.proofs.KeepLaws.{keeps-append}
use Rattle.changelog.proofs.NumberLaws.{last_or-append}
use Rattle.changelog.proofs.SlotLaws.{slots-append, keeps-few}
use Rattle.changelog.proofs.epochs.Epochs.append.Goals as goal

pub returns-clause-changes : goal.returns-clause-changes
returns-clause-changes c = λ cs k.
    let e = c.args.self.now in
    let filled = c.fill.new.table in
    let x : Span = record { epoch = e.last + 1; holder = c.opened_by.result } in
    let within : c.slot_of-slot.result < length filled.items = omega (arith, c.in_ok-fill.ensures.ok, filled.ok.0) in (
      keeps-append e.last e.floor e.times.items c.put_all.new.times.items e.table.items filled.items c.put_all.new.table.items cs c.args.c.now c.time_of.result c.slot_of-slot.result x
          k.0 c.requires.time refl c.opened_by.ensures c.in_ok-fill.ensures.same within c.time_of.ensures c.slot_of-slot.ensures c.in_ok-put_all.ensures.times c.in_ok-put_all.ensures.table,
      slots-append e.times.items c.put_all.new.times.items e.slots c.put_all.new.slots cs c.args.c.now c.time_of.result c.slot_of-slot.result (keeps-few e.last e.floor e.times.items e.table.items cs k.0) k.1
          c.in_ok-put_all.ensures.times c.slot_of-slot.ensures c.in_ok-put_all.ensures.slots,
    )

pub returns-clause-newest : goal.returns-clause-newest
returns-clause-newest c =
    let e = c.args.self.now in
    ap (last_or e.floor) c.in_ok-put_all.ensures.times ∙ last_or-append e.floor e.times.items (c.time_of.result ∷ []) ∙ c.time_of.ensures
