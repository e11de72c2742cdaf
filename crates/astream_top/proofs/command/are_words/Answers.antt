use Rattle.std.proofs.Common.{◌&&◌, sym, ap, ap₂, ◌∙◌, string_bytes, take_all}
use Rattle.std.specs.List.{list_all}
use Rattle.std.proofs.lemmas.List.Folds.{list_all-map, list_all_at, list_all_more}
use Rattle.as_words.specs.Words.{is_word}
use Rattle.astream_top.proofs.command.are_words.Goals as goal

pub returns-then-not-is_word : goal.returns-then-not-is_word
returns-then-not-is_word c =
    let words = c.args.words.now in
    let first = ap (λ word. is_word (string_bytes word)) (sym c.word-item.is) ∙ ap is_word (sym c.as_bytes.ensures.value) ∙ sym c.is_word.ensures ∙ c.if-not-is_word.true in
    sym (list_all-map is_word string_bytes words ∙ list_all_at (λ word. is_word (string_bytes word)) words c.loop-word.word-index c.word-item.result c.loop-word-test.true first)

pub loop-word-preserved : goal.loop-word-preserved
loop-word-preserved c =
    let words = c.args.words.now in
    let next = ap (λ word. is_word (string_bytes word)) (sym c.word-item.is) ∙ ap is_word (sym c.as_bytes.ensures.value) ∙ sym c.is_word.ensures ∙ c.if-not-is_word.false in
    list_all_more (λ word. is_word (string_bytes word)) words c.loop-word.word-index c.word-item.result c.loop-word-test.true ∙ ap₂ (λ a b. a && b) c.loop-word.invariant next

pub returns : goal.returns
returns c =
    let words = c.args.words.now in
    sym (list_all-map is_word string_bytes words ∙ sym (ap (list_all (λ word. is_word (string_bytes word))) (take_all c.loop-word.word-index words c.loop-word-test.false)) ∙ c.loop-word.invariant)
