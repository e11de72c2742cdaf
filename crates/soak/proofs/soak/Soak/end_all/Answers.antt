use Rattle.std.proofs.Common.{◌++◌, List, subst}
use Rattle.std.proofs.lemmas.Result.{on_ok_weaker}
use Rattle.as_base.specs.declared.item.Item.{Item}
use Rattle.as_base.specs.declared.stream.StreamId.TheVariants.{A, B, C}
use Rattle.session.specs.Shut.{end_of}
use Rattle.session.proofs.ShutLaws.{ends-shut}
use Rattle.soak.specs.Soaked.{HasSoaked}
use Rattle.soak.proofs.soak.Soak.end_all.Goals as goal

pub returns-clause-soaked : goal.returns-clause-soaked
returns-clause-soaked g c = λ d h soaked.
    let one : List Item = h ++ end_of d h A in
    let two : List Item = one ++ end_of d one B in
    let three : List Item = two ++ end_of d two C in
    on_ok_weaker c.end-4.result (subst (HasSoaked g.E.QueryEngine d c.end-4.new.self) (ends-shut d h))
    (c.end-4.ensures.soaked d three (c.in_ok-end-3.ensures.soaked d two (c.in_ok-end-2.ensures.soaked d one (c.in_ok-end.ensures.soaked d h soaked))))
