use Rattle.std.proofs.Common.{◌-◌, ◌^◌, not, eqb, sym, subst, arith, w64}
use Rattle.std.specs.Int.{trailing_zeros}
use Rattle.std.proofs.lemmas.Simd.{bitmask_splat}
use Rattle.queryset_lanes.specs.Words.{IsFirstOpen}
use Rattle.queryset_lanes.proofs.First.{first_open_lane}
use Rattle.queryset_lanes.proofs.first_open.Goals as goal

pub returns-else-open-eq0-clause-some : goal.returns-else-open-eq0-clause-some
returns-else-open-eq0-clause-some c =
    let mask = bitmask_splat w64 (λ a b. not (eqb a b)) c.args.words 8 (2 ^ 64 - 1) c.requires.eight (omega arith) in
    subst (λ n. IsFirstOpen c.args.words (trailing_zeros w64 n)) (sym mask) (first_open_lane c.args.words c.requires (omega arith))
