use Rattle.std.proofs.Common.{◌≡◌, min, ◌++◌, [], length, sym, ap, ◌∙◌, arith}
use Rattle.std.specs.List.{flat_map}
use Rattle.std.specs.Option.{unwrap_or}
use Rattle.std.proofs.lemmas.Int.{clamps}
use Rattle.shared_join.specs.Lanes.{met_at}
use Rattle.shared_join.specs.Window.{shown, row_shown, start_of, starts_upto}
use Rattle.shared_join.proofs.RangeLaws.{range-begins, range-more, range-ends}
use Rattle.shared_join.proofs.window.push_row.Goals as goal

pub loop-place-init : goal.loop-place-init
loop-place-init c =
    let w = c.args.window.now in
    let others = c.args.others.now in
    let f = row_shown w c.args.lane.now c.args.first in
    let low : c.min-low.result ≡ min c.within-low.result.0 (length others.slices) = c.min-low.ensures ∙ ap (min c.within-low.result.0) c.len-count.ensures.len in
    record {
      within = omega (arith, clamps, low);
      pairs =
          range-begins f w.from w.to c.within-low.result.0 c.within-low.result.1 (length others.slices) (start_of others) c.within-low.ensures.places c.args.couples.now.items
          ∙ ap (λ n. c.args.couples.now.items ++ flat_map f (starts_upto w others n)) (sym low);
    }

pub loop-place-preserved : goal.loop-place-preserved
loop-place-preserved c =
    let w = c.args.window.now in
    let others = c.args.others.now in
    let f = row_shown w c.args.lane.now c.args.first in
    let low : c.min-low.result ≡ min c.within-low.result.0 (length others.slices) = c.min-low.ensures ∙ ap (min c.within-low.result.0) c.len-count.ensures.len in
    let past : c.min-past.result ≡ min c.within-low.result.1 (length others.slices) = c.min-past.ensures ∙ ap (min c.within-low.result.1) c.len-count.ensures.len in
    record {
      within = omega (arith, clamps, past, c.loop-place-test.true);
      pairs =
          range-more f w.from w.to c.within-low.result.0 c.within-low.result.1 (length others.slices) (start_of others) c.within-low.ensures.places c.args.couples.now.items
          c.loop-place.place c.loop-place.couples.items c.push_all_shown.new.couples.items (omega (arith, low, c.loop-place.auto.place)) (omega (arith, past, c.loop-place-test.true))
          c.loop-place.invariant.pairs
          (c.in_ok-push_all_shown.ensures
          ∙ ap (λ l. c.loop-place.couples.items ++ flat_map (shown w) l) (c.pairs_at.ensures ∙ ap (λ d. unwrap_or (met_at c.args.lane.now c.args.first d) []) c.start.ensures));
    }

pub returns : goal.returns
returns c =
    let w = c.args.window.now in
    let others = c.args.others.now in
    let past : c.min-past.result ≡ min c.within-low.result.1 (length others.slices) = c.min-past.ensures ∙ ap (min c.within-low.result.1) c.len-count.ensures.len in
    range-ends (row_shown w c.args.lane.now c.args.first) w.from w.to c.within-low.result.0 c.within-low.result.1 (length others.slices) (start_of others)
    c.within-low.ensures.places c.args.couples.now.items c.loop-place.place c.loop-place.couples.items c.loop-place.invariant.within
    (omega (arith, past, c.loop-place-test.false)) c.loop-place.invariant.pairs
