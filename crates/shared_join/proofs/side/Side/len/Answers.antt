use Rattle.std.proofs.Common.{List, length, sym, ap, ◌∙◌}
use Rattle.std.proofs.lemmas.Simd.{length-zip2}
use Rattle.slice_store.specs.Placed.{Placed, placed}
use Rattle.shared_join.proofs.side.Side.len.Goals as goal

pub returns : goal.returns
returns c =
    let s = c.self.inside in
    sym (length-zip2 placed s.records.now s.sets.now c.self.invariant) ∙ ap (λ (l : List Placed). length l) c.self.view_is
