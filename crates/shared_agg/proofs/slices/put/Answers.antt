use Rattle.std.proofs.Common.{◌≡◌, ◌<◌, length, get_or, refl, sym, ap, ◌∙◌, arith}
use Rattle.std.proofs.lemmas.List.{get_or_default}
use Rattle.std.proofs.lemmas.Result.{on_ok_weaker, on_err_weaker}
use Rattle.shared_agg.specs.declared.slices.Slice.{Slice}
use Rattle.shared_agg.specs.Fill.{due}
use Rattle.shared_agg.proofs.FillLaws.{due-most}
use Rattle.shared_agg.proofs.SliceLaws.{IsGap}
use Rattle.shared_agg.proofs.StepLaws.{got-fed, grown-partly, none-partly, grown-stay, grown-others, grown-lane, made-fed, made-stay, made-lane, none-stay, none-lane, by_either, on_err_all, gap-is}
use Rattle.shared_agg.proofs.slices.put.Goals as goal
use Rattle.shared_agg.proofs.slices.put.Goals.{else-place-len-via-then-place-len+else-index-start, else-place-len-via-else-place-len, After-fill_at, After-insert}

-- the slice that begins there
here : (c : After-fill_at) → (get_or c.args.slices.now.items c.place_for-place.result c.index.result.now).start ≡ c.args.start
here c = ap (λ (s : Slice). s.start) (sym c.index.ensures) ∙ c.if-index-start.true

within : (c : After-fill_at) → c.place_for-place.result < length c.args.slices.now.items
within c = omega (arith, c.if-place-len.true, c.len.ensures, c.args.slices.now.ok.0)

pub returns-then-index-start-clause-fed : goal.returns-then-index-start-clause-fed
returns-then-index-start-clause-fed c =
    on_ok_weaker c.fill_at.result (got-fed c.args.start c.args.epoch c.place_for-place.result (due c.args.g.now c.args.set.now c.args.duties.now)
    c.args.slices.now.items c.fill_at.new.slices.items c.index.result.now c.requires.rise (within c) (here c)) c.fill_at.ensures.fed

pub returns-then-index-start-clause-epochs : goal.returns-then-index-start-clause-epochs
returns-then-index-start-clause-epochs c =
    grown-stay c.args.start c.args.epoch c.place_for-place.result (due c.args.g.now c.args.set.now c.args.duties.now)
    c.args.slices.now.items c.fill_at.new.slices.items c.index.result.now c.requires.rise (within c) (here c) c.fill_at.ensures.partly

pub returns-then-index-start-clause-others : goal.returns-then-index-start-clause-others
returns-then-index-start-clause-others c =
    on_err_all c.fill_at.result (grown-others c.args.start c.args.epoch c.place_for-place.result (due c.args.g.now c.args.set.now c.args.duties.now)
    c.args.slices.now.items c.fill_at.new.slices.items c.index.result.now c.requires.rise (within c) (here c) c.fill_at.ensures.partly)

pub returns-then-index-start-clause-lane : goal.returns-then-index-start-clause-lane
returns-then-index-start-clause-lane c =
    grown-lane c.args.start c.args.epoch c.place_for-place.result (due c.args.g.now c.args.set.now c.args.duties.now)
    c.args.slices.now.items c.fill_at.new.slices.items c.index.result.now c.requires.rise (within c) (here c)
    (due-most c.args.g.now c.args.set.now c.args.duties.now) c.fill_at.ensures.partly

pub returns-then-index-start-clause-own : goal.returns-then-index-start-clause-own
returns-then-index-start-clause-own c =
    on_err_all c.fill_at.result (grown-partly c.args.start c.place_for-place.result (due c.args.g.now c.args.set.now c.args.duties.now)
    c.args.slices.now.items c.fill_at.new.slices.items c.index.result.now c.requires.rise (within c) (here c) c.fill_at.ensures.partly)

pub returns-in_err-slice-clause-own : goal.returns-in_err-slice-clause-own
returns-in_err-slice-clause-own c =
    on_err_all c.from_residual.result (none-partly c.args.start (due c.args.g.now c.args.set.now c.args.duties.now) c.args.slices.now.items c.args.slices.now.items refl)

pub returns-clause-own : goal.returns-clause-own
returns-clause-own c =
    on_err_weaker c.insert.result (none-partly c.args.start (due c.args.g.now c.args.set.now c.args.duties.now) c.args.slices.now.items c.insert.new.slices.items) c.insert.ensures.err

-- none begins there
gap : (c : After-insert) → IsGap c.args.start c.place_for-place.result c.args.slices.now.items
gap c =
    let s = c.args.slices.now in
    let i = c.place_for-place.result in
    gap-is c.args.start i s.items c.requires.rise c.place_for-place.ensures.count c.place_for-place.ensures.bound (λ d lt same.
    elim c.else-place-len.branch [
      | else-place-len-via-then-place-len+else-index-start w ↦
          w.if-index-start.false (ap (λ (x : Slice). x.start) (w.index.ensures ∙ get_or_default s.items i w.index.result.now d lt) ∙ same)
      | else-place-len-via-else-place-len w ↦ absurd (omega (arith, lt, w.if-place-len.false, c.len.ensures, s.ok.0))
    ])

pub returns-clause-fed : goal.returns-clause-fed
returns-clause-fed c =
    on_ok_weaker c.insert.result (made-fed c.args.start c.args.epoch c.place_for-place.result (due c.args.g.now c.args.set.now c.args.duties.now)
    c.args.slices.now.items c.insert.new.slices.items c.in_ok-slice.slice c.requires.rise (gap c) c.in_ok-slice.ensures) c.insert.ensures.ok

pub returns-clause-epochs : goal.returns-clause-epochs
returns-clause-epochs c =
    by_either c.insert.result c.insert.ensures.ok c.insert.ensures.err
    (made-stay c.args.start c.args.epoch c.place_for-place.result (due c.args.g.now c.args.set.now c.args.duties.now)
    c.args.slices.now.items c.insert.new.slices.items c.in_ok-slice.slice c.requires.rise (gap c) c.in_ok-slice.ensures)
    (none-stay c.args.start c.args.epoch c.args.slices.now.items c.insert.new.slices.items)

pub returns-clause-lane : goal.returns-clause-lane
returns-clause-lane c =
    by_either c.insert.result c.insert.ensures.ok c.insert.ensures.err
    (λ put. made-lane c.args.start c.args.epoch c.place_for-place.result (due c.args.g.now c.args.set.now c.args.duties.now)
    c.args.slices.now.items c.insert.new.slices.items c.in_ok-slice.slice c.requires.rise (gap c) c.in_ok-slice.ensures put
    (due-most c.args.g.now c.args.set.now c.args.duties.now))
    (none-lane c.args.slices.now.items c.insert.new.slices.items)
