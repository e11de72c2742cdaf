use Rattle.std.proofs.Common.{◌≡◌, ℤ, length, ap, arith}
use Rattle.box_lanes.specs.Index.{look, IsTable}
use Rattle.box_lanes.proofs.IndexLaws.{removed}
use Rattle.box_lanes.proofs.starts.join.Goals as goal
use Rattle.box_lanes.proofs.starts.join.Goals.{After-remove}

both : (c : After-remove) → IsTable c.remove.new.self.items × ((v : ℤ) → look c.remove.new.self.items v ≡ look c.args.starts.now.items v)
both c =
    let xs = c.args.starts.now.items in
    let n = c.count_until-after.result in
    let a = ap length c.deref.ensures.value in
    let b = c.count_until-after.ensures.bound in
    removed xs c.remove.new.self.items n c.index.result.now c.index-then-after-ge2.result.now c.requires c.if-after-ge2.true (omega (arith, a, b)) c.index.ensures c.index-then-after-ge2.ensures (c.is_same.ensures c.if-is_same.true) c.remove.ensures.items

pub returns-then-is_same-clause-table : goal.returns-then-is_same-clause-table
returns-then-is_same-clause-table c = (both c).0

pub returns-then-is_same-clause-same : goal.returns-then-is_same-clause-same
returns-then-is_same-clause-same c = (both c).1
