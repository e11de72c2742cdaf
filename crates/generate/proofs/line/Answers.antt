use Rattle.std.proofs.Common.{subst, sym}
use Rattle.std.proofs.lemmas.Bool.{eq-eqb}
use Rattle.as_words.specs.Appends.{Appends}
use Rattle.generate.proofs.LineLaws.{creating_line}
use Rattle.generate.proofs.line.Goals as goal

pub returns-then-i-eq1 : goal.returns-then-i-eq1
returns-then-i-eq1 c =
    subst (Appends c.creation_line.result c.args.out.now.items c.creation_line.new.out.items)
    (sym (creating_line c.args.number c.args.i c.args.streams (eq-eqb _ _ c.if-i-eq1.true))) c.creation_line.ensures
