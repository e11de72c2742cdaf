use Rattle.contents.specs.Past.{no_past}
use Rattle.std.proofs.Common.{[]}
use Rattle.contents.proofs.PastLaws.{view-followed}
use Rattle.contents.proofs.StepLaws.{kept-push, orderly-push, orderly-front}
use Rattle.contents.proofs.messages_come_one_by_one.Goals as goal

pub returns-clause-view : goal.returns-clause-view
returns-clause-view c = view-followed

pub returns-clause-kept : goal.returns-clause-kept
returns-clause-kept c = kept-push no_past []

pub returns-clause-orderly : goal.returns-clause-orderly
returns-clause-orderly c is_there = orderly-push is_there no_past

pub returns-clause-each : goal.returns-clause-each
returns-clause-each c is_there = orderly-front is_there no_past
