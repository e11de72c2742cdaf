use Rattle.as_base.specs.declared.message.Msg.TheVariants as msg
use Rattle.contents.specs.Kept.{kept}
use Rattle.contents.specs.Past.{past_of}
use Rattle.part_state.proofs.StateLaws.{state-step, state-past, kept-early}
use Rattle.part_state.proofs.state.State.take_marks.Goals as goal

pub returns-clause-stands : goal.returns-clause-stands
returns-clause-stands c = λ ms was follows.
    let st = c.args.self.now in
    state-step st c.evict.new.self ms (msg.Advance c.args.marks.now) was follows c.evict.ensures.streams
    (c.evict.ensures.stands (past_of ms) (kept ms) (state-past st ms was) follows (kept-early st ms was) was.stands)
