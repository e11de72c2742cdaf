use Rattle.std.proofs.Common.{get_or, sym, ap, ◌∙◌, arith}
use Rattle.std.proofs.lemmas.Simd.{get_or-zip2}
use Rattle.slice_store.specs.Placed.{placed}
use Rattle.shared_join.specs.Found.{nothing}
use Rattle.shared_join.proofs.side.beside.Goals as goal

pub returns : goal.returns
returns c =
    λ d. get_or-zip2 placed c.args.records.now c.args.sets.now c.args.place nothing.accepted c.index-sets-place.result d
    c.requires.within (omega (arith, c.requires.same, c.requires.within))
    ∙ ap (placed (get_or c.args.records.now c.args.place nothing.accepted)) (sym c.index-sets-place.is)
