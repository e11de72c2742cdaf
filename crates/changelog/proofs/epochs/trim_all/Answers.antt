use Rattle.std.proofs.Common.{◌<◌, length, sym, ap, ◌∙◌, arith}
use Rattle.changelog.specs.Spans.{holder_at}
use Rattle.changelog.proofs.TableLaws.{holder_at-set, freed-set, freed-all}
use Rattle.changelog.proofs.epochs.trim_all.Goals as goal

pub loop-spans-preserved : goal.loop-spans-preserved
loop-spans-preserved c =
    let table = c.loop-spans.table in
    let place = c.loop-spans.spans-index in
    let within : place < length table = omega (arith, c.loop-spans-test.true, c.loop-spans.auto.table) in (
      (λ slot e h. holder_at-set table place c.trim.new.self c.spans-item.result slot e within c.spans-item.is
          (c.trim.ensures.same e h ∙ ap (λ xs. holder_at xs e) (sym c.spans-item.is))
          ∙ c.loop-spans.invariant.0 slot e h),
      freed-set table place c.trim.new.self c.args.epoch within c.trim.ensures.freed c.loop-spans.invariant.1,
    )

pub returns-clause-freed : goal.returns-clause-freed
returns-clause-freed c = freed-all c.loop-spans.table c.loop-spans.spans-index c.args.epoch (omega (arith, c.loop-spans-test.false, c.loop-spans.auto.table)) c.loop-spans.invariant.1
