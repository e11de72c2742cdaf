-- What a change of one slot does to the slots and to how many are live, and when none is free.
use Rattle.std.proofs.Common.{◌≡◌, ℕ, ◌+◌, ◌<◌, Bool, true, false, cond, not, List, [], ◌∷◌, length, get_or, set, refl, sym, ap, ◌∙◌, ⊎_elim, arith, Some, None, length-set}
use Rattle.std.specs.List.{position_or_len}
use Rattle.std.proofs.lemmas.Bool.{cases_lt, cond-true, not-true, not-false, true≢false, lt-ltb}
use Rattle.std.proofs.lemmas.List.{get_or_past}
use Rattle.std.proofs.lemmas.List.Quantifiers.{position-Some}
use Rattle.std.proofs.lemmas.List.Sums.{sum_by-cons, sum_by-set, count_by-le-length, prefix_len-le-length}
use Rattle.std.proofs.lemmas.Option.{none-some}
use Rattle.slot_alloc.specs.Slots.{is_live, live_count, least_free, IsLeastFree}

pub least_free-is : (slots : List Bool) (slot : ℕ) → Some slot ≡ least_free slots → IsLeastFree slots slot
least_free-is slots slot e =
    let at = position-Some (λ on. not on) slots slot false (sym e) in
    record {
      within = at.0;
      free = not-true (get_or slots slot false) at.1;
      below = λ k h. not-false (get_or slots k false) (at.2 k h);
    }

-- a slot that is live is there
pub live-within : (slots : List Bool) (slot : ℕ) → is_live slots slot ≡ true → slot < length slots
live-within slots slot h = ⊎_elim (λ l. l) (λ g. absurd (true≢false (sym h ∙ get_or_past slots slot false g))) (cases_lt slot (length slots))

pub live_count-set_on : (slots : List Bool) (slot : ℕ) → slot < length slots → is_live slots slot ≡ false → live_count (set slots slot true) ≡ live_count slots + 1
live_count-set_on slots slot h free =
    let off : cond {A = ℕ} (get_or slots slot false) 1 0 ≡ 0 = ap (λ on. cond {A = ℕ} on 1 0) free in
    omega (arith, sum_by-set (λ on. cond {A = ℕ} on 1 0) slots slot true false h)

pub live_count-set_off : (slots : List Bool) (slot : ℕ) → is_live slots slot ≡ true → live_count (set slots slot false) + 1 ≡ live_count slots
live_count-set_off slots slot live =
    let on : cond {A = ℕ} (get_or slots slot false) 1 0 ≡ 1 = ap (λ on. cond {A = ℕ} on 1 0) live in
    omega (arith, sum_by-set (λ on. cond {A = ℕ} on 1 0) slots slot false false (live-within slots slot live))

all_live : (slots : List Bool) → position_or_len (λ on. not on) slots ≡ length slots → live_count slots ≡ length slots
all_live [] e = refl
all_live (true ∷ slots) e = omega (arith, sum_by-cons (λ on. cond {A = ℕ} on 1 0) true slots, all_live slots (omega arith))
all_live (false ∷ slots) e = absurd (omega arith)

pub live_count-full : (slots : List Bool) → None ≡ least_free slots → live_count slots ≡ length slots
live_count-full slots e =
    let most = prefix_len-le-length (λ on. not (not on)) slots in
    all_live slots (⊎_elim
    (λ l. absurd (none-some _ (e ∙ cond-true _ _ _ (lt-ltb _ _ l))))
    (λ g. omega arith)
    (cases_lt (position_or_len (λ on. not on) slots) (length slots)))

pub live_count-lt : (slots : List Bool) (slot : ℕ) → Some slot ≡ least_free slots → live_count slots < length slots
live_count-lt slots slot e =
    let is = least_free-is slots slot e in
    omega (arith, live_count-set_on slots slot is.within is.free, count_by-le-length (λ on. on) (set slots slot true), length-set slots slot true)

pub ruleset laws = (least_free-is, live-within, live_count-set_on, live_count-set_off, live_count-full, live_count-lt)
