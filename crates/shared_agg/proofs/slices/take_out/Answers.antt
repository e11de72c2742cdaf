use Rattle.std.proofs.Common.{◌≡◌, ◌<◌, length, get_or, refl, sym, ap, ◌∙◌, arith}
use Rattle.std.proofs.lemmas.List.{get_or_default}
use Rattle.shared_agg.specs.declared.slices.Slice.{Slice}
use Rattle.shared_agg.specs.Slices.{HasLost}
use Rattle.shared_agg.proofs.SliceLaws.{changed-length}
use Rattle.shared_agg.proofs.StepLaws.{lost-dropped, lost-lane, gap-dropped, gap-is}
use Rattle.shared_agg.proofs.slices.take_out.Goals as goal
use Rattle.shared_agg.proofs.slices.take_out.Goals.{else-place-len-via-then-place-len+else-index-start, else-place-len-via-else-place-len, After-let_go}

pub let_go-requires : goal.let_go-requires
let_go-requires c =
    let a = changed-length (HasLost c.args.slots.now) c.place_for-place.result c.args.slices.now.items c.drop_at.new.slices.items c.drop_at.ensures in
    omega (arith, a, c.if-place-len.true, c.len.ensures, c.args.slices.now.ok.0)

here : (c : After-let_go) → (get_or c.args.slices.now.items c.place_for-place.result c.index.result.now).start ≡ c.args.start
here c = ap (λ (s : Slice). s.start) (sym c.index.ensures) ∙ c.if-index-start.true

within : (c : After-let_go) → c.place_for-place.result < length c.args.slices.now.items
within c = omega (arith, c.if-place-len.true, c.len.ensures, c.args.slices.now.ok.0)

pub returns-then-index-start-clause-dropped : goal.returns-then-index-start-clause-dropped
returns-then-index-start-clause-dropped c =
    lost-dropped c.args.start c.place_for-place.result c.args.slots.now c.args.slices.now.items c.drop_at.new.slices.items c.let_go.new.slices.items c.index.result.now
    c.requires.rise (within c) (here c) c.drop_at.ensures c.let_go.ensures

pub returns-then-index-start-clause-lane : goal.returns-then-index-start-clause-lane
returns-then-index-start-clause-lane c =
    lost-lane c.args.start c.place_for-place.result c.args.slots.now c.args.slices.now.items c.drop_at.new.slices.items c.let_go.new.slices.items c.index.result.now
    c.requires.rise (within c) (here c) c.drop_at.ensures c.let_go.ensures

pub returns-else-place-len-clause-dropped : goal.returns-else-place-len-clause-dropped
returns-else-place-len-clause-dropped c =
    let s = c.args.slices.now in
    let i = c.place_for-place.result in
    gap-dropped c.args.start i c.args.slots.now s.items s.items c.requires.rise
    (gap-is c.args.start i s.items c.requires.rise c.place_for-place.ensures.count c.place_for-place.ensures.bound (λ d lt same.
    elim c.else-place-len.branch [
      | else-place-len-via-then-place-len+else-index-start w ↦
          w.if-index-start.false (ap (λ (x : Slice). x.start) (w.index.ensures ∙ get_or_default s.items i w.index.result.now d lt) ∙ same)
      | else-place-len-via-else-place-len w ↦ absurd (omega (arith, lt, w.if-place-len.false, c.len.ensures, s.ok.0))
    ])) refl
