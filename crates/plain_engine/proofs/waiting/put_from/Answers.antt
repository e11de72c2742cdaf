use Rattle.std.proofs.Common.{◌≡◌, ◌+◌, ◌-◌, length, take, drop, refl, ap, subst, ◌∙◌, take_all, length-drop, arith}
use Rattle.plain_engine.specs.Walk.{IsPlaceAt}
use Rattle.plain_engine.proofs.TimeLaws.{put-insert, drop-insert}
use Rattle.plain_engine.proofs.waiting.put_from.Goals as goal

pub returns-clause-ok : goal.returns-clause-ok
returns-clause-ok c =
    let from = c.args.from in
    let items = c.args.records.now.items in
    let place = c.count_until-place.result in
    let same = c.deref.ensures.value in
    let all : take (length c.deref.result.now - from) (drop from c.deref.result.now) ≡ drop from items =
    take_all (length c.deref.result.now - from) (drop from c.deref.result.now) (omega (arith, length-drop from c.deref.result.now)) ∙ ap (drop from) same in
    let ok = c.args.records.now.ok.0 in
    let within = c.requires.within in
    let low = c.count_until-place.ensures.bound in
    let len = ap length all in
    ap (drop from) c.in_ok-insert.ensures.items
    ∙ drop-insert from place (from + place) c.args.given.now items refl (omega (arith, ok, within))
    ∙ put-insert c.args.given.now (drop from items) place (subst (λ l. IsPlaceAt c.args.given.now.time l place) all c.count_until-place.ensures.place) (omega (arith, low, len))
