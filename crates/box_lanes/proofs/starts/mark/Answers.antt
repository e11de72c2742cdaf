use Rattle.std.proofs.Common.{◌≡◌, ℕ, List, [], ◌∷◌, ◌++◌, length, take, drop, refl, arith, map, cond, set, ap, ap₂, ◌∙◌, to_z, of_z, w64}
use Rattle.std.proofs.lemmas.Int.{to_z-of_z}
use Rattle.std.proofs.lemmas.List.{length-map}
use Rattle.box_lanes.specs.declared.start.Start.{Start}
use Rattle.as_base.specs.Query.{is_within}
use Rattle.box_lanes.specs.Index.{look, put_within}
use Rattle.box_lanes.proofs.IndexLaws.{marked}
use Rattle.box_lanes.proofs.starts.mark.Goals as goal

front : (ys zs : List Start) → take (length ys) (ys ++ zs) ≡ ys
front [] zs = refl
front (y ∷ ys) zs = ap (λ t. y ∷ t) (front ys zs)

-- a vector of which each element was written is what was written
whole : (n : ℕ) (xs ys : List Start) → n ≡ length ys → take n (ys ++ drop (length ys) xs) ≡ ys
whole n xs ys e = ap (λ m. take m (ys ++ drop (length ys) xs)) e ∙ front ys (drop (length ys) xs)

pub returns-clause-made : goal.returns-clause-made
returns-clause-made c =
    λ _ v fits.
    let old = c.args.starts.now.items in
    let mid = c.cut_ends.new.starts.items in
    let slot = c.args.slot in
    let on = c.args.on in
    let low = to_z w64 (of_z w64 c.args.low) in
    let high = to_z w64 (of_z w64 c.args.high) in
    let put = c.put.ensures.value ∙ ap (λ xs. map (put_within slot low high on) xs) c.deref_mut.ensures.value in
    let same = ap length put ∙ length-map mid (put_within slot low high on) in
    c.join_ends.ensures.same v
    ∙ ap (λ xs. look xs v) (whole c.cut_ends.new.starts.len mid c.put.new.starts (omega (arith, c.cut_ends.new.starts.ok.0, same)) ∙ put)
    ∙ marked slot low high on old mid c.cut_ends.ensures.table (c.cut_ends.ensures.made c.if-not-cut_ends.false) v fits
    ∙ ap₂ (λ a b. cond (is_within a v b) (set (look old v) slot on) (look old v)) (to_z-of_z w64 c.args.low c.ranges.low) (to_z-of_z w64 c.args.high c.ranges.high)
