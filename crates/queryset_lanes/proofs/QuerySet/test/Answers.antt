use Rattle.std.proofs.Common.{◌*◌, ◌%◌, ◌∙◌, false, length, eqb, get_or, sym, ap, arith}
use Rattle.std.specs.Int.{bit_at}
use Rattle.std.proofs.lemmas.Nat.Bits.{shr_and_one}
use Rattle.queryset_lanes.specs.Inverse.{length-slots_of}
use Rattle.queryset_lanes.proofs.Words.{slot_bit}
use Rattle.queryset_lanes.proofs.QuerySet.test.Goals as goal

pub returns-clause-slots : goal.returns-clause-slots
returns-clause-slots c = ap length (sym c.self.view_is) ∙ length-slots_of c.self.inside.words ∙ ap (λ n. 64 * n) c.self.invariant.eight

pub returns-clause-value : goal.returns-clause-value
returns-clause-value c =
    let words = c.self.inside.words in
    let i = c.args.slot % 64 in
    ap (λ n. eqb n 1) (shr_and_one (get_or words c.from.result 0) i)
    ∙ ap (λ k. eqb (bit_at (get_or words k 0) i) 1) c.from.ensures
    ∙ sym (slot_bit words c.args.slot (omega (arith, c.self.invariant.eight)))
    ∙ ap (λ slots. get_or slots c.args.slot false) c.self.view_is
