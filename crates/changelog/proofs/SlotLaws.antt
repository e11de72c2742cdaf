-- The slots that are kept of changes.
use Rattle.std.proofs.Common.{◌≡◌, ℕ, ◌+◌, ◌-◌, ◌≤◌, List, [], ◌∷◌, ◌++◌, length, length-drop, map, take, drop, sym, ap, subst, ◌∙◌, arith}
use Rattle.std.proofs.lemmas.List.{length-append, length-map, map-append, take-map, drop-map, drop-drop, drop-append-le, take-append-drop}
use Rattle.std.specs.List.{AllByRecursion}
use Rattle.as_base.specs.declared.message.Change.{Change}
use Rattle.views.specs.IsHolder.{time_of}
use Rattle.views.proofs.ListLaws.{All-first, All-rest}
use Rattle.changelog.specs.declared.spans.Span.{Span}
use Rattle.changelog.specs.Changes.{slot_of, times_of}
use Rattle.changelog.specs.EpochsFor.{Keeps, AreLastSlots}

-- ---- parts of a list

All-take : (P : ℕ → Type 0) (n : ℕ) (ns : List ℕ) → AllByRecursion P ns → AllByRecursion P (take n ns)
All-take P n ns h = All-first P (take n ns) (drop n ns) (subst (AllByRecursion P) (sym (take-append-drop n ns)) h)

pub All-drop : (P : ℕ → Type 0) (n : ℕ) (ns : List ℕ) → AllByRecursion P ns → AllByRecursion P (drop n ns)
All-drop P n ns h = All-rest P (take n ns) (drop n ns) (subst (AllByRecursion P) (sym (take-append-drop n ns)) h)

pub All-part : (P : ℕ → Type 0) (part ns : List ℕ) (first count : ℕ) → part ≡ take count (drop first ns) → AllByRecursion P ns → AllByRecursion P part
All-part P part ns first count is h = subst (AllByRecursion P) (sym is) (All-take P count (drop first ns) (All-drop P first ns h))

-- ---- the slots of changes

pub keeps-few : (last floor : ℕ) (times : List ℕ) (table : List (List Span)) (cs : List Change) → Keeps last floor times table cs → length times ≤ length cs
keeps-few last floor times table cs k =
    let all : length (k.trimmed ++ times) ≡ length (times_of cs) = ap length k.stamps in
    omega (arith, all, length-append k.trimmed times, length-map cs time_of)

-- one change more
pub slots-append : (times longer slots more : List ℕ) (cs : List Change) (c : Change) (time place : ℕ) → length times ≤ length cs → AreLastSlots (length times) slots cs
    → longer ≡ times ++ time ∷ [] → place ≡ slot_of c → more ≡ slots ++ place ∷ [] → AreLastSlots (length longer) more (cs ++ c ∷ [])
slots-append times longer slots more cs c time place few last times_are place_is more_are =
    more_are
    ∙ (λ i. last i ++ place_is i ∷ [])
    ∙ sym (drop-append-le before (map slot_of cs) (slot_of c ∷ []) (omega (arith, length-map cs slot_of)))
    ∙ (λ i. drop (same i) (sym (map-append slot_of cs (c ∷ [])) i))
  where
    before : ℕ
    before = length cs - length times

    same : before ≡ length (cs ++ c ∷ []) - length longer
    same = let l : length longer ≡ length (times ++ time ∷ []) = ap length times_are in omega (arith, l, length-append times (time ∷ []), length-append cs (c ∷ []))

last-slots : (slots : List ℕ) (cs : List Change) (count : ℕ) → count ≤ length cs → AreLastSlots count slots cs → length slots ≡ count
last-slots slots cs count few last =
    let l : length slots ≡ length (drop (length cs - count) (map slot_of cs)) = ap length last in
    omega (arith, few, l, length-drop (length cs - count) (map slot_of cs), length-map cs slot_of)

-- all but so many of the last changes are let go
pub slots-trim : (times shorter slots less : List ℕ) (cs : List Change) (long later : ℕ) → length times ≤ length cs → AreLastSlots (length times) slots cs → long ≡ length times
    → shorter ≡ drop (long - later) times → less ≡ drop (length slots - later) slots → AreLastSlots (length shorter) less cs
slots-trim times shorter slots less cs long later few last all times_are less_are =
    let count = last-slots slots cs (length times) few last in
    let left : length shorter ≡ length (drop (long - later) times) = ap length times_are in
    let same : length cs - length times + (length slots - later) ≡ length cs - length shorter = omega (arith, few, count, left, length-drop (long - later) times, all) in
    less_are
    ∙ ap (drop (length slots - later)) last
    ∙ drop-drop (length slots - later) (length cs - length times) (map slot_of cs)
    ∙ ap (λ n. drop n (map slot_of cs)) same

-- those after one epoch and up to another
pub slots-between : (last floor : ℕ) (times slots part : List ℕ) (table : List (List Span)) (cs : List Change) (from to trimmed first count : ℕ) → Keeps last floor times table cs
    → AreLastSlots (length times) slots cs → last ≤ from + length times → trimmed ≡ last - length slots → first ≡ from - trimmed → count ≡ to - from
    → part ≡ take count (drop first slots) → part ≡ map slot_of (take (to - from) (drop from cs))
slots-between last floor times slots part table cs from to trimmed first count k last_are asked trimmed_is first_is count_is part_is =
    let few = keeps-few last floor times table cs k in
    let long = last-slots slots cs (length times) few last_are in
    let same : length cs - length times + first ≡ from = omega (arith, few, long, k.count, asked, trimmed_is, first_is) in
    part_is
    ∙ (λ i. take (count_is i) (drop first (last_are i)))
    ∙ ap (take (to - from)) (drop-drop first (length cs - length times) (map slot_of cs) ∙ ap (λ n. drop n (map slot_of cs)) same ∙ drop-map slot_of from cs)
    ∙ take-map slot_of (to - from) (drop from cs)
