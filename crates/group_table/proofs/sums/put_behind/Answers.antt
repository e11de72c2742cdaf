use Rattle.std.proofs.Common.{◌≡◌, true, false, List, sym, ap, ◌∙◌}
use Rattle.as_base.specs.declared.fragment.Cell.{Cell}
use Rattle.group_table.proofs.UpLaws.{last_is, joined-last, put-other, few-last, sound-last}
use Rattle.group_table.proofs.sums.put_behind.Goals as goal

pub plus-requires-clause-few : goal.plus-requires-clause-few
plus-requires-clause-few c =
    let last : last_is c.args.cells.now.items c.args.kept c.args.cell.group ≡ true = ap (λ (l : List Cell). last_is l c.args.kept c.args.cell.group) (sym c.deref.ensures.value) ∙ sym c.is_last.ensures ∙ c.if-is_last.true in
    few-last c.args.cells.now.items c.args.kept c.args.cell c.index.result.now last c.requires.within c.index.ensures c.requires.few

pub plus-requires-clause-sound : goal.plus-requires-clause-sound
plus-requires-clause-sound c =
    let last : last_is c.args.cells.now.items c.args.kept c.args.cell.group ≡ true = ap (λ (l : List Cell). last_is l c.args.kept c.args.cell.group) (sym c.deref.ensures.value) ∙ sym c.is_last.ensures ∙ c.if-is_last.true in
    sound-last c.args.cells.now.items c.args.kept c.args.cell c.index.result.now last c.requires.within c.index.ensures c.requires.held

pub returns-then-is_last-clause-value : goal.returns-then-is_last-clause-value
returns-then-is_last-clause-value c =
    let last : last_is c.args.cells.now.items c.args.kept c.args.cell.group ≡ true = ap (λ (l : List Cell). last_is l c.args.kept c.args.cell.group) (sym c.deref.ensures.value) ∙ sym c.is_last.ensures ∙ c.if-is_last.true in
    joined-last c.args.cells.now.items c.args.kept c.args.cell c.index.result.now c.plus.result last c.requires.within c.requires.rising c.index.ensures c.plus.ensures

pub returns-clause-value : goal.returns-clause-value
returns-clause-value c =
    let last : last_is c.args.cells.now.items c.args.kept c.args.cell.group ≡ false = ap (λ (l : List Cell). last_is l c.args.kept c.args.cell.group) (sym c.deref.ensures.value) ∙ sym c.is_last.ensures ∙ c.if-is_last.false in
    put-other c.args.cells.now.items c.args.kept c.args.cell last c.requires.within c.requires.rising c.requires.order
