use Rattle.std.proofs.Common.{sym, ◌∙◌}
use Rattle.options.proofs.PairLaws.{pairs_few}
use Rattle.options.proofs.are_pairs.Goals as goal

pub returns : goal.returns
returns c = c.is_empty.ensures ∙ sym (pairs_few c.args.known.now c.loop-rest.rest.now c.in_default.len_below) ∙ sym c.loop-rest.invariant
