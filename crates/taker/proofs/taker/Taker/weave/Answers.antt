use Rattle.std.proofs.Common.{rules}
use Rattle.taker.specs.declared.halt.Halt.TheVariants as halt
use Rattle.taker.proofs.WovenLaws.{halts-full, halts-note, weaves_out, woven-step, halted-step}
use Rattle.taker.proofs.taker.Taker.weave.Goals as goal

pub returns-then-is_err-clause-calls : goal.returns-then-is_err-clause-calls
returns-then-is_err-clause-calls g c = λ d h calls was.
    halts-full g.E.QueryEngine d _ c.args.self.now.processor h c.args.item calls was

pub returns-in_err-note-clause-calls : goal.returns-in_err-note-clause-calls
returns-in_err-note-clause-calls g c = λ d h calls was.
    let p = c.args.self.now.processor in
    let failed = c.in_err-note.ensures in
    weaves_out g.E.QueryEngine d _ _ p h c.args.item calls _ c.in_err-note.field-0.0 halt.Journal c.from_residual.ensures.1 failed.halt
    (halts-note g.E.QueryEngine d _ _ p h c.args.item calls failed.err.0 was failed.err.2)

pub returns-in-Ok-clause-calls : goal.returns-in-Ok-clause-calls
returns-in-Ok-clause-calls g c = λ d h calls was.
    woven-step g.E.QueryEngine d _ _ _ c.args.self.now.processor c.process.new.processor h c.args.item calls c.deref.result.now
    c.requires.range (search rules) was c.in_ok-note.ensures.ok (λ noted. c.in-Ok.ensures.calls d h _ noted)

pub returns-in-Err-clause-calls : goal.returns-in-Err-clause-calls
returns-in-Err-clause-calls g c = λ d h calls was.
    halted-step g.E.QueryEngine d _ _ _ c.args.self.now.processor c.process.new.processor h c.args.item calls c.deref.result.now
    c.in-Err.stop c.requires.range (search rules) was c.in_ok-note.ensures.ok (λ noted. c.in-Err.ensures.calls d h _ noted)
