use Rattle.std.proofs.Common.{◌≡◌, ◌+◌, ◌∷◌, [], ◌++◌, ◌∙◌, ap, arith, subst, sym}
use Rattle.soak.specs.Soaked.{items_of, HasSoaked}
use Rattle.soak.proofs.LineLaws.{generated-in_range, items_of-more}
use Rattle.soak.proofs.soak.Soak.take_lines.Goals as goal

pub take-requires-clause-range : goal.take-requires-clause-range
take-requires-clause-range g c =
    generated-in_range c.args.number (c.loop-self.self.lines + 1) c.args.streams c.in_ok-line.line (omega arith) c.in_ok-line.ensures.ok

pub loop-self-preserved : goal.loop-self-preserved
loop-self-preserved g c =
    let lines = c.loop-self.self.lines in
    let before = items_of c.args.number lines c.args.streams in
    let same : c.take.new.self.lines ≡ lines = c.in_ok-take.ensures.lines in
    let all : before ++ c.in_ok-line.line ∷ [] ≡ items_of c.args.number (c.take.new.self.lines + 1) c.args.streams =
    ap (λ x. before ++ x ∷ []) c.in_ok-line.ensures.ok ∙ sym (items_of-more c.args.number lines c.args.streams) ∙ ap (λ k. items_of c.args.number (k + 1) c.args.streams) (sym same) in
    record {
      soaked = λ d soaked.
          let own = subst (HasSoaked g.E.QueryEngine d c.take.new.self) all (c.in_ok-take.ensures.soaked d before (c.loop-self.invariant.soaked d soaked)) in
          record { config = own.config; stands = own.stands; tally = own.tally };
      count = omega (arith, c.in_ok-take.ensures.count, c.loop-self.invariant.count, same);
      most = omega (arith, same);
    }

pub returns-clause-soaked : goal.returns-clause-soaked
returns-clause-soaked g c = λ d soaked.
    let all : c.loop-self.self.lines ≡ c.args.lines = omega arith in
    subst (λ k. HasSoaked g.E.QueryEngine d c.loop-self.self (items_of c.args.number k c.args.streams)) all (c.loop-self.invariant.soaked d soaked)
