use Rattle.std.proofs.Common.{sym}
use Rattle.std.proofs.lemmas.List.{take_rest}
use Rattle.as_words.proofs.WordLaws.{drop_word, drop_last}
use Rattle.as_words.proofs.words.after_word.Goals as goal

pub returns-in_err-at : goal.returns-in_err-at
returns-in_err-at c = rw c.from_residual.ensures (sym (drop_last c.args.rest.now (sym c.in_err-at.ensures)))

pub returns : goal.returns
returns c = rw take_rest (sym (drop_word c.args.rest.now c.in_ok-at.at (sym c.in_ok-at.ensures)))
