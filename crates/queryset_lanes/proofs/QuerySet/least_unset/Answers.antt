use Rattle.std.proofs.Common.{List, Bool, ◌≡◌, ℕ, ◌+◌, ◌*◌, ◌<◌, ◌∙◌, length, not, get_or, sym, ap, arith, w64}
use Rattle.std.specs.Int.{trailing_ones}
use Rattle.std.specs.List.{position_or_len}
use Rattle.std.proofs.lemmas.List.{get_or_read}
use Rattle.queryset_lanes.specs.Words.{slots_of, IsWords, IsFirstOpen}
use Rattle.queryset_lanes.proofs.First.{first_off, ones-lt, none_off, position-take_some, position-take_none}
use Rattle.queryset_lanes.proofs.QuerySet.least_unset.Goals as goal

-- the first place that is off, where the word at `place` is the first with one
place_off : (words : List ℕ) (slots : List Bool) (place ones word : ℕ) → IsWords words → slots_of words ≡ slots → IsFirstOpen words place → word ≡ get_or words place word → ones ≡ trailing_ones w64 word → position_or_len (λ on. not on) slots ≡ 64 * place + ones
place_off words slots place ones word is same first read count =
    let here : word ≡ get_or words place 0 = get_or_read words place word (omega (arith, first.within, is.eight)) read 0 in
    ap (position_or_len (λ on. not on)) (sym same)
    ∙ first_off words place is first.within first.before first.here
    ∙ ap (λ n. 64 * place + n) (ap (trailing_ones w64) (sym here) ∙ sym count)

-- and it is one of the slots
ones_within : (words : List ℕ) (place ones word n : ℕ) → IsWords words → IsFirstOpen words place → word ≡ get_or words place word → ones ≡ trailing_ones w64 word → n ≡ 512 → 64 * place + ones < n
ones_within words place ones word n is first read count size =
    let here : word ≡ get_or words place 0 = get_or_read words place word (omega (arith, first.within, is.eight)) read 0 in
    let low = ones-lt words place is first in
    omega (arith, low, first.within, size, count ∙ ap (trailing_ones w64) here)

pub returns-in_err-place-clause-value : goal.returns-in_err-place-clause-value
returns-in_err-place-clause-value c =
    let words = c.lanes-words.result in
    let slots = c.args.self.now in
    let off = ap (position_or_len (λ on. not on)) (sym c.lanes-words.ensures.slots) ∙ none_off words c.lanes-words.ensures.words c.in_err-place.ensures.none in
    c.from_residual.ensures ∙ position-take_none (λ on. not on) slots c.args.below 512 off (omega (arith, c.lanes-words.ensures.size))

pub returns-then-slot-below-clause-value : goal.returns-then-slot-below-clause-value
returns-then-slot-below-clause-value c =
    let place = c.in_ok-place.place in
    let slots = c.args.self.now in
    let some = c.in_ok-place.ensures.some in
    let off = place_off c.lanes-words.result slots place c.trailing_ones.result c.index.result.now c.lanes-words.ensures.words c.lanes-words.ensures.slots some c.index.ensures c.trailing_ones.ensures in
    let within : 64 * place + c.trailing_ones.result < length slots = ones_within c.lanes-words.result place c.trailing_ones.result c.index.result.now (length slots) c.lanes-words.ensures.words some c.index.ensures c.trailing_ones.ensures c.lanes-words.ensures.size in
    position-take_some (λ on. not on) slots c.args.below (64 * place + c.trailing_ones.result) off within c.if-slot-below.true

pub returns-else-slot-below-clause-value : goal.returns-else-slot-below-clause-value
returns-else-slot-below-clause-value c =
    let place = c.in_ok-place.place in
    let slots = c.args.self.now in
    let off = place_off c.lanes-words.result slots place c.trailing_ones.result c.index.result.now c.lanes-words.ensures.words c.lanes-words.ensures.slots c.in_ok-place.ensures.some c.index.ensures c.trailing_ones.ensures in
    position-take_none (λ on. not on) slots c.args.below (64 * place + c.trailing_ones.result) off (omega (arith, c.if-slot-below.false))
