use Rattle.std.proofs.Common.{◌≡◌, ℕ, min, List, ◌++◌, length, sym, ap, ◌∙◌, arith}
use Rattle.std.specs.List.{flat_map}
use Rattle.std.proofs.lemmas.Int.{clamps}
use Rattle.as_base.specs.declared.fragment.Couple.{Couple}
use Rattle.shared_join.specs.Window.{row_shown, start_of, starts_upto, starts_between}
use Rattle.shared_join.proofs.RangeLaws.{range-begins, range-more, range-ends}
use Rattle.shared_join.proofs.window.push_lane.Goals as goal

pub loop-place-init : goal.loop-place-init
loop-place-init c =
    let w = c.args.window.now in
    let ones = c.args.ones.now in
    let f : ℕ → List Couple = λ x. flat_map (row_shown w c.args.lane.now x) (starts_between w c.args.others.now) in
    let low : c.min-low.result ≡ min c.within-low.result.0 (length ones.slices) = c.min-low.ensures ∙ ap (min c.within-low.result.0) c.len-count.ensures.len in
    record {
      within = omega (arith, clamps, low);
      pairs =
          range-begins f w.from w.to c.within-low.result.0 c.within-low.result.1 (length ones.slices) (start_of ones) c.within-low.ensures.places c.args.couples.now.items
          ∙ ap (λ n. c.args.couples.now.items ++ flat_map f (starts_upto w ones n)) (sym low);
    }

pub loop-place-preserved : goal.loop-place-preserved
loop-place-preserved c =
    let w = c.args.window.now in
    let ones = c.args.ones.now in
    let f : ℕ → List Couple = λ x. flat_map (row_shown w c.args.lane.now x) (starts_between w c.args.others.now) in
    let low : c.min-low.result ≡ min c.within-low.result.0 (length ones.slices) = c.min-low.ensures ∙ ap (min c.within-low.result.0) c.len-count.ensures.len in
    let past : c.min-past.result ≡ min c.within-low.result.1 (length ones.slices) = c.min-past.ensures ∙ ap (min c.within-low.result.1) c.len-count.ensures.len in
    record {
      within = omega (arith, clamps, past, c.loop-place-test.true);
      pairs =
          range-more f w.from w.to c.within-low.result.0 c.within-low.result.1 (length ones.slices) (start_of ones) c.within-low.ensures.places c.args.couples.now.items
          c.loop-place.place c.loop-place.couples.items c.push_row.new.couples.items (omega (arith, low, c.loop-place.auto.place)) (omega (arith, past, c.loop-place-test.true))
          c.loop-place.invariant.pairs
          (c.in_ok-push_row.ensures ∙ ap (λ x. c.loop-place.couples.items ++ f x) c.start.ensures);
    }

pub returns : goal.returns
returns c =
    let w = c.args.window.now in
    let ones = c.args.ones.now in
    let f : ℕ → List Couple = λ x. flat_map (row_shown w c.args.lane.now x) (starts_between w c.args.others.now) in
    let past : c.min-past.result ≡ min c.within-low.result.1 (length ones.slices) = c.min-past.ensures ∙ ap (min c.within-low.result.1) c.len-count.ensures.len in
    range-ends f w.from w.to c.within-low.result.0 c.within-low.result.1 (length ones.slices) (start_of ones)
    c.within-low.ensures.places c.args.couples.now.items c.loop-place.place c.loop-place.couples.items c.loop-place.invariant.within
    (omega (arith, past, c.loop-place-test.false)) c.loop-place.invariant.pairs
