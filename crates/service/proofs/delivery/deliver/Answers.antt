use Rattle.std.proofs.Common.{ℕ, ◌<◌, ◌++◌, List, sym, subst, ap, ◌∙◌}
use Rattle.std.specs.List.{AllByRecursion}
use Rattle.as_base.specs.declared.answer.Piece.{Piece}
use Rattle.as_base.specs.Times.{times}
use Rattle.session.specs.Book.{numbers}
use Rattle.session.specs.View.{text_of}
use Rattle.session.specs.Outcome.{created}
use Rattle.session.proofs.TextLaws.{text_of-none}
use Rattle.service.specs.Served.{HasServed, with_pieces}
use Rattle.service.proofs.GoesLaws.{then, weaker}
use Rattle.service.proofs.ServedLaws.{served-same}
use Rattle.service.proofs.delivery.deliver.Goals as goal

pub returns : goal.returns
returns g c = λ d h h' spoken calls served adds.
    let pieces = c.args.fed.now.pieces in
    let more : List ℕ = numbers d h ++ created c.args.fed.now.answer in
    let same = c.as_slice.ensures in
    let broken = c.put_all.new.broken.numbers.items in
    let known : AllByRecursion (λ (p : Piece). 0 < times p.n more) c.as_slice.result.now =
    subst (λ l. AllByRecursion (λ (p : Piece). 0 < times p.n more) l) (sym same) (subst (λ l. AllByRecursion (λ (p : Piece). 0 < times p.n l) pieces) adds.book adds.known) in
    then _ _ _ calls (HasServed more (text_of d h) spoken c.begin_created.new.broken.numbers.items) (HasServed (numbers d h') (text_of d h') spoken broken)
    (c.begin_created.ensures.calls (numbers d h) (text_of d h) spoken calls served (λ n some. (adds.fresh n some, text_of-none d h n (adds.fresh n some))))
    (λ all t. weaker _ _ all (HasServed more (with_pieces (text_of d h) c.as_slice.result.now) spoken broken) (HasServed (numbers d h') (text_of d h') spoken broken)
    (λ l u. served-same more (numbers d h') (with_pieces (text_of d h) c.as_slice.result.now) (text_of d h') spoken broken l (sym adds.book)
    (λ n. ap (λ ps. with_pieces (text_of d h) ps n) same ∙ sym (adds.text n)) u)
    (c.put_all.ensures more (text_of d h) spoken all t known))
