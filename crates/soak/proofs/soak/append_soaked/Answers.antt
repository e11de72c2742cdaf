use Rattle.std.proofs.Common.{◌∙◌, ◌++◌, ap}
use Rattle.soak.proofs.TallyLaws.{appended, told-soaked}
use Rattle.soak.proofs.soak.append_soaked.Goals as goal

pub returns : goal.returns
returns c = λ d h tally all.
    appended c.args.out.now.items _ _ _ _ _ _ _ _ _ _ _ _ _ _ c.in_ok-append_counted.ensures c.in_ok-append_counted-2.ensures c.in_ok-append_counted-3.ensures
    c.in_ok-append_counted-4.ensures c.in_ok-append_counted-5.ensures c.in_ok-append_counted-6.ensures c.in_ok-append_counted-7.ensures
    ∙ ap (λ text. c.args.out.now.items ++ text) (told-soaked d h c.args.lines c.args.tally.now tally all)
