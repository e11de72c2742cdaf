use Rattle.std.proofs.Common.{sym, ap, ◌∙◌}
use Rattle.std.specs.Option.{is_some}
use Rattle.shared_join.proofs.LaneLaws.{there-is}
use Rattle.shared_join.proofs.lanes.has_entry.Goals as goal

pub returns-in-Some : goal.returns-in-Some
returns-in-Some c = sym (ap is_some c.in-Some.ensures.looked ∙ there-is c.in-Some.field-0 c.args.row.now c.in-Some.ensures.within)
