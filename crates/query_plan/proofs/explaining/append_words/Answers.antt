use Rattle.std.proofs.Common.{◌∷◌, ◌++◌, ◌∙◌, ap, sym, take, drop, get_or, ◌+◌}
use Rattle.as_words.specs.Words.{spaced}
use Rattle.as_words.proofs.AppendsLaws.{AppendsPrefix-stopped}
use Rattle.query_plan.specs.Text.{words_at}
use Rattle.query_plan.proofs.TextLaws.{no_word, words_more, words_split, appended_after}
use Rattle.query_plan.proofs.explaining.append_words.Goals as goal

pub returns-in_err-append_spaced : goal.returns-in_err-append_spaced
returns-in_err-append_spaced c =
    let words = c.args.words.now in
    let i = c.loop-word.word-index in
    AppendsPrefix-stopped c.from_residual.result c.args.out.now.items c.loop-word.out.items c.append_spaced.new.out.items
    (spaced (words_at (take i words))) (32 ∷ (get_or words i no_word).now) (spaced (words_at (drop (i + 1) words))) (spaced (words_at words))
    c.from_residual.ensures.0 c.loop-word.invariant (words_split words i c.loop-word-test.true) c.in_err-append_spaced.ensures

pub loop-word-preserved : goal.loop-word-preserved
loop-word-preserved c =
    let words = c.args.words.now in
    let i = c.loop-word.word-index in
    appended_after c.args.out.now.items c.loop-word.out.items c.append_spaced.new.out.items (spaced (words_at (take i words))) (32 ∷ (get_or words i no_word).now) c.loop-word.invariant c.in_ok-append_spaced.ensures
    ∙ ap (λ xs. c.args.out.now.items ++ xs) (sym (words_more words i c.loop-word-test.true))
