use Rattle.std.proofs.Common.{ℕ, ◌*◌, ◌%◌, ◌^◌, ◌<◌, ◌∙◌, length, get_or, set, sym, ap, subst, arith, w64}
use Rattle.std.specs.Int.{bit_not}
use Rattle.std.specs.Int.Bits.{and_lt, or_lt}
use Rattle.queryset_lanes.specs.Words.{word_slots}
use Rattle.queryset_lanes.proofs.Words.{IsWords-set, length-slots_of-words, slots_of-with, word_slots-set_on, word_slots-set_off}
use Rattle.queryset_lanes.proofs.QuerySet.with.Goals as goal
use Rattle.queryset_lanes.proofs.QuerySet.with.Goals.{then-on, else-on}

pub invariant_of-result : goal.invariant_of-result
invariant_of-result c =
    let i = c.args.slot % 64 in
    let bit : 1 * 2 ^ i % 2 ^ 64 < 2 ^ 64 = omega arith in
    let word = get_or c.self.inside.words c.from-place.result 0 in
    IsWords-set c.self.inside.words c.from-place.result c.if-on.words (elim c.if-on.branch [
      | then-on w ↦ subst (λ (n : ℕ). n < 2 ^ 64) (sym w.words-is) (or_lt 64 word (1 * 2 ^ i % 2 ^ 64) w.if-on.element_fits.fits bit)
      | else-on w ↦ subst (λ (n : ℕ). n < 2 ^ 64) (sym w.words-is) (and_lt 64 word (bit_not w64 (1 * 2 ^ i % 2 ^ 64)) w.if-on.element_fits.fits (omega arith))
    ]) c.self.invariant

pub returns-clause-slots : goal.returns-clause-slots
returns-clause-slots c = ap length (sym c.self.view_is) ∙ length-slots_of-words c.self.inside.words c.self.invariant

pub returns-clause-value : goal.returns-clause-value
returns-clause-value c =
    let words = c.self.inside.words in
    let i = c.args.slot % 64 in
    let low : i < 64 = omega arith in
    let word = get_or words c.from-place.result 0 in
    slots_of-with words c.args.self.now c.from-place.result c.args.slot c.if-on.words c.args.on c.self.invariant c.self.view_is c.requires c.from-place.ensures (elim c.if-on.branch [
      | then-on w ↦ ap word_slots w.words-is ∙ word_slots-set_on word i low ∙ ap (set (word_slots word) i) (sym w.if-on.true)
      | else-on w ↦ ap word_slots w.words-is ∙ word_slots-set_off word i low ∙ ap (set (word_slots word) i) (sym w.if-on.false)
    ])
