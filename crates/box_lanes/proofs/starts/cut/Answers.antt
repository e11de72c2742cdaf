use Rattle.std.proofs.Common.{◌≡◌, ℤ, List, ℕ, true, cond, length, ◌≤◌, FitsSigned, subst, ap, ◌∙◌, rules, to_z, of_z, w64}
use Rattle.std.specs.List.{insert}
use Rattle.std.proofs.lemmas.Int.{to_z-of_z}
use Rattle.box_lanes.specs.declared.start.Start.{Start}
use Rattle.box_lanes.specs.Index.{IsTable, IsCut, IsUntil}
use Rattle.box_lanes.proofs.IndexLaws.{cut-there, cut-new}
use Rattle.box_lanes.proofs.starts.cut.Goals as goal
use Rattle.box_lanes.proofs.starts.cut.Goals.{Then-last-value, After-insert_in_room}

point : (xs ys : List Start) (z value : ℤ) (n : ℕ) → ys ≡ xs → z ≡ value → IsUntil z ys n → IsUntil value xs n
point xs ys z value n e same h = subst (λ l. IsUntil value l n) e (subst (λ y. IsUntil y ys n) same h)

bound : (xs ys : List Start) (n : ℕ) → ys ≡ xs → n ≤ length ys → n ≤ length xs
bound xs ys n e le = subst (λ l. n ≤ length l) e le

pub returns-then-last-value-clause-made : goal.returns-then-last-value-clause-made
returns-then-last-value-clause-made c =
    λ _.
    let xs = c.args.starts.now.items in
    let n = c.count_until-after.result in
    let v = c.args.value in
    let fits : FitsSigned w64 c.index-last.result.now.low = search rules in
    cut-there xs v n c.index-last.result.now c.requires c.ranges.value fits c.count_until-after.ensures.some
    (bound xs c.deref.result.now n c.deref.ensures.value c.count_until-after.ensures.bound)
    (point xs c.deref.result.now (to_z w64 (of_z w64 v)) v n c.deref.ensures.value (to_z-of_z w64 v c.ranges.value) c.count_until-after.ensures.place)
    c.index-last.ensures c.if-last-value.true

both : (c : After-insert_in_room) → IsTable c.insert_in_room.new.starts.items × (c.insert_in_room.result ≡ true → IsCut c.args.value c.args.starts.now.items c.insert_in_room.new.starts.items)
both c =
    let xs = c.args.starts.now.items in
    let n = c.count_until-after.result in
    let v = c.args.value in
    let set = c.index-last.result.now.set in
    cut-new xs c.insert_in_room.new.starts.items v n c.index-last.result.now c.insert_in_room.result c.requires c.ranges.value c.count_until-after.ensures.some
    (bound xs c.deref.result.now n c.deref.ensures.value c.count_until-after.ensures.bound)
    (point xs c.deref.result.now (to_z w64 (of_z w64 v)) v n c.deref.ensures.value (to_z-of_z w64 v c.ranges.value) c.count_until-after.ensures.place)
    c.index-last.ensures c.if-last-value.false
    (c.insert_in_room.ensures ∙ ap (λ (z : ℤ). cond c.insert_in_room.result (insert xs n (record { low = z; set = set })) xs) (to_z-of_z w64 v c.ranges.value))

pub returns-clause-table : goal.returns-clause-table
returns-clause-table c = (both c).0

pub returns-clause-made : goal.returns-clause-made
returns-clause-made c = (both c).1
