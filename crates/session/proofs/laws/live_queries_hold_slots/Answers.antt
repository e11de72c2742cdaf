use Rattle.session.proofs.HolderLaws.{holders-queries, held-live}
use Rattle.session.proofs.laws.live_queries_hold_slots.Goals as goal

pub returns : goal.returns
returns c = record { queries = holders-queries; slots = held-live }
