use Rattle.std.proofs.Common.{◌≡◌, ◌∷◌, [], ◌++◌, ◌∙◌, ap, rules, subst, sym}
use Rattle.std.proofs.lemmas.Result.{on_ok_weaker}
use Rattle.soak.specs.Tally.{IsTallyOf, with_pieces}
use Rattle.soak.proofs.TallyLaws.{tally_fed}
use Rattle.soak.proofs.tally.Tally.count.Goals as goal

pub returns : goal.returns
returns c = λ d h x tally told.
    let fed = c.args.fed.now in
    let same : c.as_slice.result.now ≡ fed.pieces = search rules in
    on_ok_weaker c.count_pieces.result
    (λ e. subst (IsTallyOf d (h ++ x ∷ []))
    (sym (e ∙ ap (λ pieces. with_pieces pieces c.count_answer.new.self) same ∙ ap (with_pieces fed.pieces) c.in_ok-count_answer.ensures))
    (tally_fed d h x fed c.args.self.now tally told)) c.count_pieces.ensures
