use Rattle.std.proofs.Common.{◌<◌, ◌==◌, cond, length, get_or, take_all, sym, ap, ◌∙◌, arith}
use Rattle.group_table.specs.Cells.{add_in, sums}
use Rattle.group_table.specs.Held.{held, none}
use Rattle.group_table.proofs.MergeLaws.{entry-few, sums-held, own-at}
use Rattle.group_table.proofs.table.in_columns.Goals as goal

pub add-requires-clause-few : goal.add-requires-clause-few
add-requires-clause-few c =
    let es = c.args.entries.now in
    let i = c.loop-entry.entry-index in
    let low : i < length es = omega (arith, c.loop-entry-test.true) in
    entry-few es i _ c.requires low (c.loop-entry.invariant (get_or es i none).slot)

pub loop-entry-preserved : goal.loop-entry-preserved
loop-entry-preserved c = λ s.
    let es = c.args.entries.now in
    let i = c.loop-entry.entry-index in
    let e = get_or es i none in
    let low : i < length es = omega (arith, c.loop-entry-test.true) in
    c.in_ok-add.ensures.ok s ∙ ap (λ l. cond (s == e.slot) (add_in l e.cell) l) (c.loop-entry.invariant s) ∙ sym (sums-held es i e s low (own-at es i none low))

pub returns : goal.returns
returns c = λ s.
    let es = c.args.entries.now in
    c.loop-entry.invariant s ∙ ap (λ l. sums (held l s)) (take_all c.loop-entry.entry-index es (omega (arith, c.loop-entry-test.false)))
