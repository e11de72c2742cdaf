use Rattle.std.proofs.Common.{◌≡◌, ℕ, ◌<◌, ◌++◌, List, length, get_or, w64, to_z, of_z, sym, ap, subst, ◌∙◌, arith}
use Rattle.std.specs.List.{flat_map}
use Rattle.std.proofs.lemmas.Int.{ints, to_z-of_z}
use Rattle.key_index.specs.Places.{places_of}
use Rattle.slice_store.specs.Placed.{placed}
use Rattle.shared_join.specs.Found.{places_with, kept_at}
use Rattle.shared_join.proofs.WalkLaws.{places-within, walk-all, by-places, nothing-more}
use Rattle.shared_join.proofs.walk.join_by_index.Goals as goal

pub push_at-requires : goal.push_at-requires
push_at-requires c =
    let key = c.args.one.now.given.key in
    let same : to_z w64 (of_z w64 key) ≡ key = grind (arith, ints, to_z-of_z) in
    let are : c.places-places.result.now ≡ places_with key c.args.others.now =
    c.places-places.ensures ∙ ap (places_of c.args.index.now) same ∙ c.requires key in
    subst (λ (l : List ℕ). get_or l c.loop-place.place-index 0 < length c.args.others.now) (sym are)
    (places-within key c.args.others.now c.loop-place.place-index (subst (λ (l : List ℕ). c.loop-place.place-index < length l) are c.loop-place-test.true))

pub returns-then-is_empty : goal.returns-then-is_empty
returns-then-is_empty c =
    nothing-more c.args.turned c.is_empty.result (placed c.args.one.now c.args.set.now) c.args.others.now c.args.pairs.now.items c.is_empty.ensures.value c.if-is_empty.true

pub returns : goal.returns
returns c =
    let key = c.args.one.now.given.key in
    let same : to_z w64 (of_z w64 key) ≡ key = grind (arith, ints, to_z-of_z) in
    let one = placed c.args.one.now c.args.set.now in
    walk-all (kept_at c.args.turned one c.args.others.now) c.places-places.result.now c.loop-place.place-index c.loop-place-test.false
    c.args.pairs.now.items c.loop-place.pairs.items c.loop-place.invariant
    ∙ ap (λ l. c.args.pairs.now.items ++ flat_map (kept_at c.args.turned one c.args.others.now) l)
    (c.places-places.ensures ∙ ap (places_of c.args.index.now) same ∙ c.requires key)
    ∙ ap (λ l. c.args.pairs.now.items ++ l) (by-places c.args.turned one c.args.others.now)
