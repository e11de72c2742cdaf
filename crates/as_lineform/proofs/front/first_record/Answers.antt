use Rattle.std.proofs.Common.{refl, length, ◌-◌, ◌≡◌, ℕ, List, ◌∷◌, ◌++◌, ap, sym, ◌∙◌}
use Rattle.as_base.specs.declared.item.Item.TheVariants.{Rec}
use Rattle.as_lineform.specs.Spelling.{item_text}
use Rattle.as_lineform.proofs.RecordLaws.{front_of}
use Rattle.as_lineform.proofs.front.first_record.Goals as goal

pub returns-clause-reads : goal.returns-clause-reads
returns-clause-reads c =
    let line : List ℕ = item_text (Rec c.in_ok-given.given) in
    let same : c.front.inside.rest.now ≡ c.record.new.self = c.front.view_is in
    let read : c.args.bytes.now ≡ line ++ 10 ∷ c.front.inside.rest.now = c.in_ok-given.ensures.reads ∙ ap (λ xs. line ++ 10 ∷ xs) (sym same) in
    (front_of c.args.bytes.now line c.front.inside.rest.now (length c.args.bytes.now - length c.front.inside.rest.now) read refl).2
