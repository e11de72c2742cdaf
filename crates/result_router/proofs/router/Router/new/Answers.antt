use Rattle.std.proofs.Common.{◌≡◌, None, length, sym, ap, ◌∙◌, arith}
use Rattle.std.proofs.lemmas.List.{length-replicate}
use Rattle.result_router.proofs.HeldLaws.{nothing-sound}
use Rattle.result_router.proofs.router.Router.new.Goals as goal

pub invariant_of-result : goal.invariant_of-result
invariant_of-result c =
    let is = c.in_ok-none_held.ensures in
    let long = ap length is ∙ length-replicate c.args.parts None in
    let fits = c.ranges.parts.fits in
    (nothing-sound c.args.parts _ is, omega (arith, long, fits))
