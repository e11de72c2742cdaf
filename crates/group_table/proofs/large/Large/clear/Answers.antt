use Rattle.std.proofs.Common.{◌≡◌, ◌∙◌, List, length, ap, arith}
use Rattle.as_base.specs.declared.fragment.Cell.{Cell}
use Rattle.group_table.proofs.ListLaws.{written-back}
use Rattle.group_table.proofs.LargeLaws.{all-nothing, nothing-in, large-emptied}
use Rattle.group_table.proofs.large.Large.clear.Goals as goal

pub invariant_of-self : goal.invariant_of-self
invariant_of-self c =
    let items = c.self.inside.rows.items in
    let new = c.clear_all.new.rows in
    let long : length new ≡ length items = c.clear_all.ensures.len ∙ ap (λ (l : List (List Cell)). length l) c.deref_mut.ensures.value in
    let is = written-back c.self.inside.rows.len new items (let ok = c.self.inside.rows.ok.0 in omega (arith, ok)) long ∙ all-nothing new c.clear_all.ensures.none in
    large-emptied c.clear.new.self.keys _ c.clear-2.new.self.numbers c.clear-2.new.self.width (length new) c.clear.ensures.empty is

pub returns : goal.returns
returns c = λ s.
    let items = c.self.inside.rows.items in
    let new = c.clear_all.new.rows in
    let long : length new ≡ length items = c.clear_all.ensures.len ∙ ap (λ (l : List (List Cell)). length l) c.deref_mut.ensures.value in
    let is = written-back c.self.inside.rows.len new items (let ok = c.self.inside.rows.ok.0 in omega (arith, ok)) long ∙ all-nothing new c.clear_all.ensures.none in
    nothing-in c.clear-2.new.self.numbers _ (length new) s is
