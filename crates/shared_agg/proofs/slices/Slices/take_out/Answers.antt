use Rattle.shared_agg.proofs.slices.Slices.take_out.Goals as goal

pub invariant_of-self : goal.invariant_of-self
invariant_of-self c = c.take_out.ensures.lane c.self.inside.added c.self.invariant
