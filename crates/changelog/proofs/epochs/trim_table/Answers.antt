use Rattle.std.proofs.Common.{◌≡◌, length, drop, sym, ap, subst, ◌∙◌, arith}
use Rattle.changelog.specs.EpochsFor.{spans_of}
use Rattle.changelog.specs.Spans.{holder_at, BeginAfter}
use Rattle.changelog.proofs.TableLaws.{written}
use Rattle.changelog.proofs.epochs.trim_table.Goals as goal

pub returns-clause-same : goal.returns-clause-same
returns-clause-same c = λ slot e h.
    let old = c.args.table.now in
    let new = c.trim_all.new.table in
    let long : old.len ≡ length new = omega (arith, old.ok.0, c.trim_all.auto.table, c.deref_mut.ensures.len) in
    ap (λ table. holder_at (spans_of table slot) e) (written old.len new old.items long) ∙ c.trim_all.ensures.same slot e h ∙ ap (λ table. holder_at (spans_of table slot) e) c.deref_mut.ensures.value

pub returns-clause-freed : goal.returns-clause-freed
returns-clause-freed c = λ slot.
    let old = c.args.table.now in
    let new = c.trim_all.new.table in
    let long : old.len ≡ length new = omega (arith, old.ok.0, c.trim_all.auto.table, c.deref_mut.ensures.len) in
    subst (λ table. BeginAfter c.args.epoch (drop 1 (spans_of table slot))) (sym (written old.len new old.items long)) (c.trim_all.ensures.freed slot)
