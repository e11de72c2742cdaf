use Rattle.std.proofs.lemmas.Result.{on_ok_weaker}
use Rattle.as_base.specs.declared.message.Msg.TheVariants as msg
use Rattle.views.specs.IsHolder.{time_of}
use Rattle.contents.specs.Kept.{kept}
use Rattle.contents.specs.Past.{past_of}
use Rattle.contents.proofs.PastLaws.{change-after}
use Rattle.part_state.specs.StateFor.{streams_of, is_there}
use Rattle.part_state.proofs.StateLaws.{state-step, state-past, kept-before, slot-below, newest-before}
use Rattle.part_state.proofs.state.State.take_change.Goals as goal

pub keep_change-requires-clause-slot : goal.keep_change-requires-clause-slot
keep_change-requires-clause-slot c =
    slot-below (is_there (streams_of c.args.self.now)) (past_of c.requires.0) c.args.c.now (state-past c.args.self.now c.requires.0 c.requires.1.0) c.requires.1.1

pub keep_change-requires-clause-time : goal.keep_change-requires-clause-time
keep_change-requires-clause-time c =
    newest-before c.args.self.now.epochs (past_of c.requires.0) (time_of c.args.c.now) c.requires.1.0.stands.epochs
    (change-after (is_there (streams_of c.args.self.now)) (past_of c.requires.0) c.args.c.now c.requires.1.1).changes

pub returns-clause-stands : goal.returns-clause-stands
returns-clause-stands c = λ ms was follows.
    let st = c.args.self.now in
    let change = c.args.c.now in
    let there = is_there (streams_of st) in
    on_ok_weaker c.keep_change.result (state-step st c.keep_change.new.self ms (msg.Change change) was follows c.keep_change.ensures.streams)
    (c.keep_change.ensures.stands there (past_of ms) (kept ms) (state-past st ms was) follows
    (kept-before st ms (time_of change) was (change-after there (past_of ms) change follows)) was.stands)
