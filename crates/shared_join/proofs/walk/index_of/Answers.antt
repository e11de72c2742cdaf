use Rattle.std.proofs.Common.{◌≡◌, w64, arith, refl}
use Rattle.std.proofs.lemmas.Int.{ints, to_z-of_z}
use Rattle.std.proofs.Common.{to_z, of_z}
use Rattle.key_index.specs.Places.{places_of}
use Rattle.slice_store.specs.Placed.{placed}
use Rattle.shared_join.specs.Found.{nothing}
use Rattle.shared_join.proofs.WalkLaws.{index-more}
use Rattle.shared_join.proofs.walk.index_of.Goals as goal

pub loop-place-preserved : goal.loop-place-preserved
loop-place-preserved c =
    let r = c.at.result.0.now in
    let same : to_z w64 (of_z w64 r.given.key) ≡ r.given.key = grind (arith, ints, to_z-of_z) in
    index-more c.args.side.now c.loop-place.place c.loop-place.place (placed r c.at.result.1.now) (to_z w64 (of_z w64 r.given.key)) (places_of c.loop-place.index) (places_of c.add.new.self)
    (c.at.ensures nothing) same refl c.loop-place.invariant c.in_ok-add.ensures.ok
