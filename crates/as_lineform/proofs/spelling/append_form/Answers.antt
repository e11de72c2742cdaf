use Rattle.std.proofs.Common.{refl, ◌∷◌}
use Rattle.as_base.specs.Stream.{stream_name}
use Rattle.as_words.proofs.AppendsLaws.{AppendsPrefix-after}
use Rattle.as_lineform.proofs.spelling.append_form.Goals as goal

pub returns : goal.returns
returns c =
    AppendsPrefix-after c.append_spaced.result _ _ _ c.args.form.now (32 ∷ stream_name c.args.stream) _ c.in_ok-extend_from_slice.ensures.items refl
    (rw c.stream_name.ensures at c.append_spaced.ensures)
