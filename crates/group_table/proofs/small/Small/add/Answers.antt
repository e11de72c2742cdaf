use Rattle.std.proofs.Common.{◌≡◌, ◌≤◌, ◌+◌, ◌^◌, ℕ, ◌==◌, List, cond, ap, sym, subst, ◌∙◌, arith}
use Rattle.as_base.specs.declared.fragment.Cell.{Cell}
use Rattle.group_table.specs.declared.small.Entry.{Entry}
use Rattle.group_table.specs.Cells.{add_in, sums, count_at}
use Rattle.group_table.specs.Held.{held, AreEntries}
use Rattle.group_table.proofs.HeldLaws.{entries-put, put-sums}
use Rattle.group_table.proofs.SumLaws.{count-sums}
use Rattle.group_table.proofs.small.Small.add.Goals as goal

few_of : (es seen : List Entry) (slot : ℕ) (c : Cell) → es ≡ seen → count_at (sums (held seen slot)) c.group + c.count ≤ 2 ^ 62 → count_at (held es slot) c.group + c.count ≤ 2 ^ 62
few_of es seen slot c same few =
    let a = count-sums c.group (held es slot) in
    let b = ap (λ (es : List Entry). count_at (sums (held es slot)) c.group) same in
    omega (arith, a, b, few)

pub put-requires-clause-few : goal.put-requires-clause-few
put-requires-clause-few c = few_of c.self.inside.entries.items c.args.self.now c.args.slot c.args.cell c.self.view_is c.requires.few

pub invariant_of-self : goal.invariant_of-self
invariant_of-self c = subst AreEntries (sym c.in_err-put.ensures.err) c.self.invariant

pub invariant_of-self-2 : goal.invariant_of-self-2
invariant_of-self-2 c =
    let few = few_of c.self.inside.entries.items c.args.self.now c.args.slot c.args.cell c.self.view_is c.requires.few in
    subst AreEntries (sym c.in_ok-put.ensures.ok) (entries-put c.args.slot c.args.cell c.self.inside.entries.items c.requires.slot c.requires.some c.requires.sound few c.self.invariant)

pub returns-clause-ok : goal.returns-clause-ok
returns-clause-ok c = λ s.
    ap (λ (es : List Entry). sums (held es s)) c.in_ok-put.ensures.ok
    ∙ put-sums c.args.slot s c.args.cell c.self.inside.entries.items
    ∙ ap (λ (es : List Entry). cond (s == c.args.slot) (add_in (sums (held es s)) c.args.cell) (sums (held es s))) c.self.view_is
