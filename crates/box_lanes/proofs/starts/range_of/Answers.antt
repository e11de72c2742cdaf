use Rattle.std.proofs.Common.{subst, w64}
use Rattle.std.proofs.lemmas.Int.{to_z-of_z}
use Rattle.box_lanes.specs.Index.{last_start, IsBefore, IsUntil}
use Rattle.box_lanes.proofs.IndexLaws.{before_until}
use Rattle.box_lanes.proofs.starts.range_of.Goals as goal

pub returns : goal.returns
returns c =
    let xs = c.args.starts.now in
    let low = c.args.low in
    let high = c.args.high in
    let from = c.count_before-from.result in
    let to = c.count_until-to.result in
    let first = subst (λ z. IsBefore z xs from) (to_z-of_z w64 low c.ranges.low) c.count_before-from.ensures.place in
    let past = subst (λ z. IsUntil z xs to) (to_z-of_z w64 high c.ranges.high) c.count_until-to.ensures.place in
    record {
      order = before_until low high xs from to (last_start xs low) c.requires.some c.count_before-from.ensures.bound first past;
      bound = c.count_until-to.ensures.bound;
      first = first;
      past = past;
    }
