use Rattle.std.proofs.Common.{◌≡◌, ℕ, ℤ, List, ◌<◌, ◌≤◌, false, get_or, set, length, FitsSigned, to_z, of_z, w64, rules, sym, ap, ap₂, subst, ◌∙◌, arith}
use Rattle.std.specs.Int.{w128}
use Rattle.std.specs.List.{insert}
use Rattle.std.specs.Ordering.{int_eq}
use Rattle.std.proofs.lemmas.Int.{ints, to_z-of_z}
use Rattle.std.proofs.lemmas.List.{get_or_default}
use Rattle.as_base.specs.declared.fragment.Cell.{Cell}
use Rattle.plain_engine.specs.Cells.{AreWithin, with_one, cell_of_one, put_cell, IsPlace}
use Rattle.plain_engine.proofs.CellLaws.{put-written, put-inserted, within-put, same-by_bits, apart-by_bits}
use Rattle.plain_engine.proofs.cells.put.Goals as goal
use Rattle.plain_engine.proofs.cells.put.Goals.{else-place-len-via-then-place-len+else-index-group, else-place-len-via-else-place-len}

place_in : (z : ℤ) (cs cs' : List Cell) (i : ℕ) → FitsSigned w64 z → cs' ≡ cs → IsPlace (to_z w64 (of_z w64 z)) cs' i → IsPlace z cs i
place_in z cs cs' i fits same h = subst (λ l. IsPlace z l i) same (subst (λ y. IsPlace y cs' i) (to_z-of_z w64 z fits) h)

written : (c : goal.After-cells-1) → set c.args.cells.now.items c.place_for-place.result c.with_one.result ≡ put_cell c.args.group c.args.value c.args.cells.now.items
written c =
    let items = c.args.cells.now.items in
    let place = c.place_for-place.result in
    let fits : FitsSigned w64 c.index.result.now.group = search rules in
    let cell = c.index-then-index-group.result.now in
    let low : place < length items = let a = c.if-place-len.true in let b = c.len.ensures in let ok = c.args.cells.now.ok.0 in omega (arith, a, b, ok) in
    let same : (get_or items place cell).group ≡ c.args.group =
    ap (λ (x : Cell). x.group) (get_or_default items place cell c.index.result.now low ∙ sym c.index.ensures) ∙ same-by_bits c.index.result.now.group c.args.group fits c.ranges.group c.if-index-group.true in
    ap (set items place) (c.with_one.ensures ∙ ap₂ with_one (to_z-of_z w64 c.args.value c.ranges.value) c.index-then-index-group.ensures)
    ∙ sym (put-written c.args.group c.args.value items place cell (place_in c.args.group items c.deref.result.now place c.ranges.group c.deref.ensures.value c.place_for-place.ensures.place) low same)

pub returns-then-index-group-clause-value : goal.returns-then-index-group-clause-value
returns-then-index-group-clause-value c = written c

pub returns-then-index-group-clause-within : goal.returns-then-index-group-clause-within
returns-then-index-group-clause-within c = subst (AreWithin _) (sym (written c)) (within-put c.args.many c.args.group c.args.value c.args.cells.now.items c.ranges.value c.requires.within)

inserted : (c : goal.In_ok-insert) → c.insert.new.self.items ≡ put_cell c.args.group c.args.value c.args.cells.now.items
inserted c =
    let items = c.args.cells.now.items in
    let place = c.place_for-place.result in
    let one = cell_of_one c.args.group c.args.value in
    let len = c.args.cells.now.ok.0 in
    let apart : place < length items → int_eq (get_or items place one).group c.args.group ≡ false =
    λ low. elim c.else-place-len.branch [
      | else-place-len-via-then-place-len+else-index-group w ↦
          ap (λ (x : Cell). int_eq x.group c.args.group) (get_or_default items place one w.index.result.now low ∙ sym w.index.ensures) ∙ apart-by_bits w.index.result.now.group c.args.group w.if-index-group.false
      | else-place-len-via-else-place-len w ↦ let a = w.if-place-len.false in let b = c.len.ensures in absurd (omega (arith, a, b, len, low))
    ] in
    let sum : to_z w128 (of_z w128 c.from.result) ≡ c.args.value = grind (arith, ints, to_z-of_z) in
    let le : place ≤ length items = let a = c.place_for-place.ensures.bound in let b = ap length c.deref.ensures.value in omega (arith, a, b) in
    c.in_ok-insert.ensures.items
    ∙ ap₂ (λ z s. insert items place (record { group = z; sum = s; count = 1 })) (to_z-of_z w64 c.args.group c.ranges.group) sum
    ∙ sym (put-inserted c.args.group c.args.value items place one (place_in c.args.group items c.deref.result.now place c.ranges.group c.deref.ensures.value c.place_for-place.ensures.place) le apart)

pub returns-clause-value : goal.returns-clause-value
returns-clause-value c = inserted c

pub returns-clause-within : goal.returns-clause-within
returns-clause-within c = subst (AreWithin _) (sym (inserted c)) (within-put c.args.many c.args.group c.args.value c.args.cells.now.items c.ranges.value c.requires.within)
