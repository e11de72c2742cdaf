use Rattle.std.proofs.Common.{◌-◌, subst, ap, sym, ◌∙◌, w64, arith}
use Rattle.std.proofs.lemmas.Int.{to_z-of_z}
use borrow.Rule.Slice.PartMut.{put_mid}
use Rattle.box_lanes.specs.Index.{last_start, IsTable, IsBefore, IsUntil}
use Rattle.box_lanes.proofs.IndexLaws.{put-range, table_put}
use Rattle.box_lanes.proofs.starts.put.Goals as goal

pub returns : goal.returns
returns c =
    let xs = c.args.starts.now in
    let low = c.args.low in
    let high = c.args.high in
    let from = c.range_of-from.result.0 in
    let to = c.range_of-from.result.1 in
    let first = subst (λ z. IsBefore z xs from) (to_z-of_z w64 low c.ranges.low) c.range_of-from.ensures.first in
    let past = subst (λ z. IsUntil z xs to) (to_z-of_z w64 high c.ranges.high) c.range_of-from.ensures.past in
    let value = ap (put_mid from (to - from) xs) c.put_all.ensures ∙ put-range c.args.slot low high c.args.on xs from to (last_start xs low) c.requires.some (omega (arith, c.range_of-from.ensures.order, c.range_of-from.ensures.bound)) first past in
    record { table = subst IsTable (sym value) (table_put c.args.slot low high c.args.on xs c.requires.table); value = value }
