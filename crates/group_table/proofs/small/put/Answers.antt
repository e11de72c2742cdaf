use Rattle.std.proofs.Common.{◌≡◌, Some, None, List, sym, subst, ◌∙◌}
use Rattle.std.specs.List.{position}
use Rattle.group_table.specs.declared.small.Entry.{Entry}
use Rattle.group_table.specs.Held.{is_of}
use Rattle.group_table.proofs.HeldLaws.{put-some, few-some, put-missing}
use Rattle.group_table.proofs.small.put.Goals as goal

pub add_at-requires-clause-few : goal.add_at-requires-clause-few
add_at-requires-clause-few c =
    few-some c.args.slot c.args.cell c.args.entries.now.items c.in-Some.place
    (subst (λ (es : List Entry). Some c.in-Some.place ≡ position (is_of c.args.slot c.args.cell.group) es) c.deref.ensures.value c.in-Some.ensures) c.requires.few

pub returns-in-Some-clause-ok : goal.returns-in-Some-clause-ok
returns-in-Some-clause-ok c =
    c.add_at.ensures
    ∙ sym (put-some c.args.slot c.args.cell c.args.entries.now.items c.in-Some.place
    (subst (λ (es : List Entry). Some c.in-Some.place ≡ position (is_of c.args.slot c.args.cell.group) es) c.deref.ensures.value c.in-Some.ensures))

pub returns-clause-ok : goal.returns-clause-ok
returns-clause-ok c =
    c.in_ok-push.ensures.items
    ∙ sym (put-missing c.args.slot c.args.cell c.args.entries.now.items
    (subst (λ (es : List Entry). None ≡ position (is_of c.args.slot c.args.cell.group) es) c.deref.ensures.value c.in_default.ensures))
