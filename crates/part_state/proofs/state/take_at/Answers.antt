use Rattle.std.proofs.Common.{sym, subst, arith}
use Rattle.std.specs.Prelude.{IfOk}
use Rattle.as_base.specs.declared.message.Msg.TheVariants as msg
use Rattle.contents.specs.Kept.{kept_with}
use Rattle.contents.specs.Past.{followed}
use Rattle.part_state.specs.declared.reader.Reader.{Reader}
use Rattle.part_state.specs.declared.reader.Placing.{Placing}
use Rattle.part_state.specs.Reader.{IsReaderFor}
use Rattle.part_state.specs.Tagged.{IsPlacingOf}
use Rattle.part_state.proofs.EntryLaws.{any-default}
use Rattle.part_state.proofs.StandingLaws.{set-there}
use Rattle.part_state.proofs.state.take_at.Goals as goal

pub returns-clause-own : goal.returns-clause-own
returns-clause-own c = λ is_there p stored d epochs kept past follows was.
    let r = c.args.r.now in
    subst (λ (k : Reader). IfOk c.take.result (λ (placing : Placing). IsPlacingOf p r placing × IsReaderFor k r.given.stream (followed p (msg.Rec r)) (kept_with (followed p (msg.Rec r)) stored (msg.Rec r))))
    (sym (set-there c.args.readers.now c.args.place c.take.new.self d c.requires.within))
    (c.take.ensures is_there p stored epochs (omega (arith, kept)) past follows (subst (λ (k : Reader). IsReaderFor k r.given.stream p stored) (any-default c.args.readers.now c.args.place d c.index-readers-place.result c.requires.within) was))
