use Rattle.std.proofs.Common.{false, [], ◌∷◌, sym, subst₂}
use Rattle.session.specs.declared.session.Clock.{Clock}
use Rattle.session.proofs.StepLaws.{Stands, stands-out, first-stands}
use Rattle.session.proofs.session.Session.new.Goals as goal

pub returns : goal.returns
returns c = λ config streams slots.
    let k : Clock = record { front = 0; mark = 0; ended = false } in
    stands-out _ _ _ (subst₂ (λ l v. Stands config [] c.args.streams 0 (k ∷ k ∷ k ∷ k ∷ []) 0 0 l v) (sym c.new.ensures) (sym c.in_ok-with_capacity.ensures.items)
    (first-stands config c.args.streams c.args.slots streams slots))
