use Rattle.std.proofs.Common.{arith}
use Rattle.std.proofs.lemmas.Result.{on_ok_weaker}
use Rattle.as_base.specs.declared.message.Msg.TheVariants as msg
use Rattle.contents.specs.Kept.{kept}
use Rattle.contents.specs.Past.{past_of}
use Rattle.part_state.specs.StateFor.{streams_of, is_there}
use Rattle.part_state.proofs.StateLaws.{state-step, state-past, few-before}
use Rattle.part_state.proofs.state.State.take_record.Goals as goal

pub keep_record-requires-clause-few : goal.keep_record-requires-clause-few
keep_record-requires-clause-few c =
    let ms = c.requires.0 in
    let was = c.requires.1.0 in
    let few = few-before c.args.self.now ms c.args.r.now was c.requires.1.1 in
    let added = was.stands.added c.args.r.now.given.stream in
    omega (arith, few, added)

pub returns-clause-stands : goal.returns-clause-stands
returns-clause-stands c = λ ms was follows.
    on_ok_weaker c.keep_record.result (state-step c.args.self.now c.keep_record.new.self ms (msg.Rec c.args.r.now) was follows c.keep_record.ensures.streams)
    (c.keep_record.ensures.stands (is_there (streams_of c.args.self.now)) (past_of ms) (kept ms) (state-past c.args.self.now ms was) follows was.stands)
