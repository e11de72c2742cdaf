use Rattle.std.proofs.Common.{sym, ◌∙◌, ap, take_all, ◌+◌}
use Rattle.as_words.proofs.WordLaws.{parts_count}
use Rattle.as_words.proofs.words.count_words.Goals as goal

pub returns : goal.returns
returns c =
    let inv = rw (take_all c.loop-byte.byte-index c.args.rest.now c.loop-byte-test.false) at c.loop-byte.invariant in
    ap (λ n. n + 1) inv ∙ sym (parts_count 32 c.args.rest.now)
