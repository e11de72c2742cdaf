-- The owners of one slot, each from an epoch on.
use Rattle.std.specs.Prelude.{ℕ, ◌<◌, nat_le, if◌then◌else◌, Option, None, List, [], ◌∷◌}
use Rattle.std.specs.List.{AllByRecursion}
use Rattle.as_base.specs.declared.query.Plan.{Plan}
use Rattle.changelog.specs.declared.spans.Span.{Span}

-- what the last span that began by the epoch has, where this is what was before them
abbrev pub holder_from : Option (ℕ × Plan) → List Span → ℕ → Option (ℕ × Plan)
holder_from before [] epoch = before
holder_from before (x ∷ xs) epoch = holder_from (if nat_le x.epoch epoch then x.holder else before) xs epoch

-- the owner in an epoch: that of the last span that began by then
abbrev pub holder_at : List Span → ℕ → Option (ℕ × Plan)
holder_at xs epoch = holder_from None xs epoch

-- each of them begins after the epoch
abbrev pub BeginAfter : ℕ → List Span → Type 0
BeginAfter epoch xs = AllByRecursion (λ (x : Span). epoch < x.epoch) xs
