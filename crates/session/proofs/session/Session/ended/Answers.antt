use Rattle.std.proofs.Common.{false, get_or, ap, ap₂, ◌∙◌}
use Rattle.session.specs.declared.session.Clock.{Clock}
use Rattle.session.proofs.ClockLaws.{clock-at}
use Rattle.session.proofs.session.Session.ended.Goals as goal

pub returns : goal.returns
returns c = λ config h s.
    let d : Clock = record { front = 0; mark = 0; ended = false } in
    ap₂ (λ l i. (get_or l i d).ended) s.clocks c.place_of.ensures.value
    ∙ ap (λ (k : Clock). k.ended) (clock-at config h c.args.stream d)
