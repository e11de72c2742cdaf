use Rattle.std.proofs.Common.{◌≡◌, ◌≤◌, min, max, length, sym, ap, ap₂, subst, ◌∙◌}
use Rattle.std.specs.List.{count_by}
use Rattle.changelog_set.specs.Sets.{unchanged}
use Rattle.changelog_set.specs.TouchedFor.{IsKept}
use Rattle.slice_store.specs.Placed.{placed_of}
use Rattle.slice_store.specs.Slices.{slice_of}
use Rattle.shared_join.specs.Wanted.{wanted, low_epoch, high_epoch}
use Rattle.shared_join.proofs.WalkLaws.{placed-again}
use Rattle.shared_join.proofs.joins.pairs_of.Goals as goal

pub returns : goal.returns
returns c = λ sets stands kept le test.
    let a = c.args.a.now in
    let b = c.args.b.now in
    let ps = (slice_of a.slices c.args.i).placed in
    let qs = (slice_of b.slices c.args.j).placed in
    let low : min c.epoch.result c.epoch-2.result ≡ low_epoch a c.args.i b c.args.j = ap₂ min c.epoch.ensures c.epoch-2.ensures in
    let high : max c.epoch.result c.epoch-2.result ≡ high_epoch a c.args.i b c.args.j = ap₂ max c.epoch.ensures c.epoch-2.ensures in
    let mask =
    c.unchanged_between-mask.ensures sets stands (subst (IsKept c.args.touched.now) (sym low) kept) (subst (λ n. n ≤ length sets) (sym high) le) ∙ ap₂ (unchanged sets) low high in
    let lefts : c.new-lefts.result ≡ ps = c.new-lefts.ensures ∙ ap₂ placed_of c.recs.ensures c.sets.ensures ∙ placed-again ps in
    let rights : c.new-rights.result ≡ qs = c.new-rights.ensures ∙ ap₂ placed_of c.recs-2.ensures c.sets-2.ensures ∙ placed-again qs in
    ap (count_by test) c.from_vec.ensures
    ∙ c.in_ok-pairs.ensures test
    ∙ ap₂ (λ l r. count_by test (wanted l r c.unchanged_between-mask.result)) lefts rights
    ∙ ap (λ m. count_by test (wanted ps qs m)) mask
