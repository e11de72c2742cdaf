-- The five sources as a list.
use Rattle.std.specs.Prelude.{List, [], ◌∷◌}
use Rattle.weave_top.specs.declared.sources.Sources.{Sources}

-- the five in their order
abbrev pub all_sources : {F : Type 0} → Sources F → List F
all_sources s = s.one ∷ s.two ∷ s.three ∷ s.four ∷ s.five ∷ []
