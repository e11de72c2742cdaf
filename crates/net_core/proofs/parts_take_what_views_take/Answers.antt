use Rattle.net_core.proofs.TakenLaws.{taken-queries, taken-holders, taken-marks, taken-records}
use Rattle.net_core.proofs.parts_take_what_views_take.Goals as goal

pub returns : goal.returns
returns c = record { queries = taken-queries; slots = taken-holders; marks = taken-marks; records = taken-records }
