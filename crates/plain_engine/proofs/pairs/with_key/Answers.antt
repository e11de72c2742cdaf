use Rattle.std.proofs.Common.{w64}
use Rattle.std.proofs.lemmas.Int.{to_z-of_z}
use Rattle.plain_engine.proofs.PairLaws.{both-cuts}
use Rattle.plain_engine.proofs.pairs.with_key.Goals as goal

pub returns : goal.returns
returns c =
    let same = to_z-of_z w64 c.args.key c.ranges.key in
    both-cuts c.args.key _ _ c.args.records.now _ _ same same c.from_key.ensures.value c.until_key.ensures
