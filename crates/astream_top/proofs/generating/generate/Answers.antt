use Rattle.std.proofs.Common.{◌≡◌, refl, arith}
use Rattle.as_outside.specs.declared.report.Status.TheVariants.{Done}
use Rattle.astream_top.proofs.GenerationLaws.{generated_causes, said-more, stopped_at}
use Rattle.astream_top.proofs.generating.generate.Goals as goal

pub loop-said-preserved : goal.loop-said-preserved
loop-said-preserved g c =
    let count = c.loop-said.said in
    let start = g.D.Shelf.seen c.args.desk.now in
    let before = g.D.Shelf.seen c.loop-said.desk in
    let after = g.D.Shelf.seen c.say_line.new.desk in
    let early = c.loop-said-test.true in
    record {
      most = omega (arith, early);
      makes = said-more c.args.number c.args.streams count start before after c.loop-said.invariant.makes c.in-Done.ensures.said;
    }

pub returns-in_default : goal.returns-in_default
returns-in_default g c =
    let start = g.D.Shelf.seen c.args.desk.now in
    let before = g.D.Shelf.seen c.loop-said.desk in
    let after = g.D.Shelf.seen c.say_line.new.desk in
    let said = stopped_at c.args.number c.args.lines c.args.streams c.loop-said.said c.say_line.result start before after c.loop-said-test.true c.in_default.not-Done c.loop-said.invariant.makes c.say_line.ensures.said in
    record { causes = generated_causes c.args.number c.args.lines c.args.streams c.say_line.result c.loop-said.said start after said; said = said }

pub returns-clause-causes : goal.returns-clause-causes
returns-clause-causes g c =
    let start = g.D.Shelf.seen c.args.desk.now in
    let after = g.D.Shelf.seen c.loop-said.desk in
    let most = c.loop-said.invariant.most in
    let rest = c.loop-said-test.false in
    let all : c.loop-said.said ≡ c.args.lines = omega (arith, most, rest) in
    generated_causes c.args.number c.loop-said.said c.args.streams Done c.loop-said.said start after (record { calls = _; makes = c.loop-said.invariant.makes; holds = (refl, refl) })
