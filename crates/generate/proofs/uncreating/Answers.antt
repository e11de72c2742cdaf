use Rattle.std.proofs.Common.{◌*◌, ◌/◌, ◌%◌, ap, sym, ◌∙◌}
use Rattle.std.proofs.lemmas.Bool.{eq-eqb}
use Rattle.as_base.specs.declared.item.Item.TheVariants.{Rec, Mark}
use Rattle.generate.specs.Generated.{stream_at}
use Rattle.generate.proofs.LineLaws.{keeping, not_eighth, marking, recording}
use Rattle.generate.proofs.uncreating.Goals as goal

pub returns-then-i-eq0 : goal.returns-then-i-eq0
returns-then-i-eq0 c =
    ap (λ s. Mark s (10 * c.args.i)) (c.stream_at.ensures ∙ ap (λ n. stream_at (c.args.i / 8 % n)) c.from.ensures)
    ∙ sym (marking c.args.number c.args.i c.args.streams c.requires.other (keeping c.args.i c.else-i-eq17.either) (eq-eqb _ _ c.if-i-eq0.true))

pub returns : goal.returns
returns c =
    ap Rec c.record_at.ensures
    ∙ sym (recording c.args.number c.args.i c.args.streams c.requires.other (keeping c.args.i c.else-i-eq17.either) (not_eighth c.args.i c.if-i-eq0.false))
