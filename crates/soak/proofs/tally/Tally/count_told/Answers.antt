use Rattle.std.proofs.Common.{◌∷◌, [], ◌++◌, subst, sym}
use Rattle.std.proofs.lemmas.Result.{on_ok_weaker}
use Rattle.soak.specs.Tally.{IsTallyOf}
use Rattle.soak.proofs.TallyLaws.{tally_told}
use Rattle.soak.proofs.tally.Tally.count_told.Goals as goal

pub returns : goal.returns
returns c = λ d h x tally told.
    on_ok_weaker c.count_answer.result
    (λ e. subst (IsTallyOf d (h ++ x ∷ [])) (sym e) (tally_told d h x c.args.answer.now c.args.self.now tally told))
    c.count_answer.ensures
