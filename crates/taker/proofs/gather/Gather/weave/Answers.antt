use Rattle.std.proofs.Common.{[], ◌∷◌, ◌++◌, sym, subst, Some}
use Rattle.inbox.specs.declared.load.Load.TheVariants.{Line}
use Rattle.service.specs.declared.stop.Stop.TheVariants as stop
use Rattle.feeder.specs.Loads.{lines_of}
use Rattle.taker.specs.declared.halt.Halt.TheVariants as halt
use Rattle.taker.specs.Gather.{IsAt}
use Rattle.taker.proofs.GatherLaws.{does_none, at-full, at-woven, at-halted}
use Rattle.taker.proofs.gather.Gather.weave.Goals as goal

pub returns-then-items-ge-LINES_MAX-clause-at : goal.returns-then-items-ge-LINES_MAX-clause-at
returns-then-items-ge-LINES_MAX-clause-at g c = λ d t n calls was.
    let p = c.args.self.now.taker.processor in
    does_none _ calls (λ all. IsAt g.E.QueryEngine d (Some (halt.Line stop.NoMemory)) p (t ++ (n, Line c.args.item) ∷ []) all)
    (at-full g.E.QueryEngine d p t n c.args.item calls was)

pub returns-in-Ok-clause-at : goal.returns-in-Ok-clause-at
returns-in-Ok-clause-at g c = λ d t n calls was.
    let p = c.weave.new.self.processor in
    let after = c.in-Ok.ensures.calls d (lines_of t) calls was.woven in
    record {
      calls = after.calls;
      makes = after.makes;
      holds = subst (λ h. IsAt g.E.QueryEngine d h p (t ++ (n, Line c.args.item) ∷ []) (calls ++ after.calls)) (sym c.requires.going)
          (at-woven g.E.QueryEngine d c.args.self.now.taker.processor p t n c.args.item calls (calls ++ after.calls) was after.holds);
    }

pub returns-in-Err-clause-at : goal.returns-in-Err-clause-at
returns-in-Err-clause-at g c = λ d t n calls was.
    let after = c.in-Err.ensures.calls d (lines_of t) calls was.woven in
    record {
      calls = after.calls;
      makes = after.makes;
      holds = at-halted g.E.QueryEngine d c.in-Err.halt c.weave.new.self.processor t n c.args.item (calls ++ after.calls) after.holds;
    }
