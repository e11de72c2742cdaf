use Rattle.std.proofs.Common.{List, length, get_or, sym, ap, ◌∙◌, arith}
use Rattle.std.proofs.lemmas.Simd.{length-zip2}
use Rattle.slice_store.specs.Placed.{Placed, placed}
use Rattle.shared_join.proofs.side.Side.at.Goals as goal

pub beside-requires-clause-within : goal.beside-requires-clause-within
beside-requires-clause-within c =
    let s = c.self.inside in
    let long = length-zip2 placed s.records.now s.sets.now c.self.invariant in
    let same = ap (λ (l : List Placed). length l) c.self.view_is in
    omega (arith, long, same, c.requires)

pub returns : goal.returns
returns c = λ d. sym (ap (λ (l : List Placed). get_or l c.args.place d) c.self.view_is) ∙ c.beside.ensures d
