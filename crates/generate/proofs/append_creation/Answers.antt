use Rattle.std.proofs.Common.{[], codes, refl, sym, ◌∙◌, append-nil}
use Rattle.as_words.proofs.AppendsLaws.{AppendsPrefix-within}
use Rattle.generate.specs.Generated.{created_text}
use Rattle.generate.proofs.append_creation.Goals as goal

pub returns-in_err-extend_from_slice : goal.returns-in_err-extend_from_slice
returns-in_err-extend_from_slice c =
    AppendsPrefix-within c.from_residual.result c.args.out.now.items c.extend_from_slice.new.self.items (codes "create ") (created_text c.args.streams c.args.m)
    c.from_residual.ensures.0 ([], (codes "create ", refl), c.in_err-extend_from_slice.ensures.items ∙ sym (append-nil c.args.out.now.items))
