use Rattle.std.proofs.Common.{◌≡◌, ◌+◌, map, length, get_or, string_bytes, sym, ap, ◌∙◌, arith}
use Rattle.astream_top.proofs.WordLaws.{spaced-more, spaced-grows, long_words}
use Rattle.astream_top.proofs.command.are_short.Goals as goal

pub returns-then-size-room : goal.returns-then-size-room
returns-then-size-room c =
    let words = c.args.words.now in
    let i = c.loop-word.word-index in
    let word = c.word-item.result in
    let size : length c.as_bytes-size.result.now ≡ length (string_bytes (get_or words i word)) = ap length c.as_bytes-size.ensures.value ∙ ap (λ w. length (string_bytes w)) c.word-item.is in
    sym (long_words (map string_bytes words) (omega (arith, spaced-more string_bytes words i word c.loop-word-test.true, spaced-grows string_bytes words (i + 1), size, c.loop-word.invariant, c.if-size-room.true)))

pub loop-word-preserved : goal.loop-word-preserved
loop-word-preserved c =
    let words = c.args.words.now in
    let i = c.loop-word.word-index in
    let word = c.word-item.result in
    let size : length c.as_bytes-size.result.now ≡ length (string_bytes (get_or words i word)) = ap length c.as_bytes-size.ensures.value ∙ ap (λ w. length (string_bytes w)) c.word-item.is in
    omega (arith, spaced-more string_bytes words i word c.loop-word-test.true, size, c.loop-word.invariant, c.if-size-room.false)
