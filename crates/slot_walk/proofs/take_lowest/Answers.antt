use Rattle.std.proofs.Common.{false, ◌*◌, ◌+◌, ◌%◌, ◌≡◌, ℕ, get_or, set, ap, ◌∙◌, refl, sym, arith, w64}
use Rattle.std.specs.Int.{trailing_zeros}
use Rattle.queryset_lanes.specs.Words.{word_slots, slots_of}
use Rattle.queryset_lanes.proofs.Words.{slots_of-with, word_slots-set_off}
use Rattle.slot_walk.proofs.WalkLaws.{inside, lowest_on, below_off}
use Rattle.slot_walk.proofs.take_lowest.Goals as goal

pub returns-clause-value : goal.returns-clause-value
returns-clause-value c =
    let words = c.args.words.now in
    let k = c.args.place in
    let word = get_or words k 0 in
    let t : ℕ = trailing_zeros w64 word in
    let low = inside words c.requires.words k c.requires.within c.requires.some in
    let bit : (64 * k + t) % 64 ≡ t = omega (arith, low) in
    slots_of-with words (slots_of words) k (64 * k + t) _ false c.requires.words refl (omega (arith, low, c.requires.within)) (omega (arith, low))
    (word_slots-set_off word t low ∙ ap (λ i. set (word_slots word) i false) (sym bit))

pub returns-clause-was : goal.returns-clause-was
returns-clause-was c = lowest_on c.args.words.now c.requires.words c.args.place c.requires.within c.requires.some

pub returns-clause-least : goal.returns-clause-least
returns-clause-least c = below_off c.args.words.now c.requires.words c.args.place c.requires.within c.requires.some
