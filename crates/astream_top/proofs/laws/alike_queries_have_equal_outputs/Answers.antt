use Rattle.astream_top.proofs.WorldLaws.{same_in_the_end, same_so_far}
use Rattle.astream_top.proofs.laws.alike_queries_have_equal_outputs.Goals as goal

pub returns : goal.returns
returns c = record { ended = same_in_the_end; prompt = same_so_far }
