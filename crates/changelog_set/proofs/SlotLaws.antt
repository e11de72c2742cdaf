-- Whether a slot is unchanged, by each entry between.
use Rattle.std.proofs.Common.{◌≡◌, ℕ, ◌+◌, ◌-◌, ◌<◌, ◌≤◌, Bool, true, false, not, List, [], length, get_or, drop, refl, sym, ap, ◌∙◌, arith}
use Rattle.std.proofs.lemmas.Bool.{true≢false, not-true}
use Rattle.std.proofs.lemmas.List.{get_or-take, get_or-drop, length-take, length-drop}
use Rattle.std.proofs.lemmas.List.Elements.{All-from_get_or}
use Rattle.std.proofs.lemmas.List.Folds.{list_any_at, list_any_none}
use Rattle.changelog_set.specs.Sets.{has, some_has, entry, entries, unchanged}
use Rattle.changelog_set.proofs.SetLaws.{has-unchanged}

get_or-entries : (sets : List (List Bool)) (i j k : ℕ) → k < j - i → get_or (entries sets i j) k [] ≡ get_or sets (i + k) []
get_or-entries sets i j k h = get_or-take (j - i) (drop i sets) k [] h ∙ get_or-drop i sets k []

length-entries : (sets : List (List Bool)) (i j : ℕ) (k : ℕ) → k < length (entries sets i j) → (k < j - i) × (i + k < length sets)
length-entries sets i j k h =
    let a = length-take (j - i) (drop i sets) in
    let b = length-drop i sets in
    (omega (arith, h, a, b), omega (arith, h, a, b))

-- an unchanged slot is in no entry between
pub unchanged-none : (sets : List (List Bool)) (i j slot : ℕ) → slot < 512 → has slot (unchanged sets i j) ≡ true → (e : ℕ) → i < e → e ≤ j → e ≤ length sets → has slot (entry sets e) ≡ false
unchanged-none sets i j slot h same e above below within = by (has slot (entry sets e)) refl
  where
    k : ℕ
    k = e - 1 - i

    there : k < length (entries sets i j)
    there = omega (arith, above, below, within, length-take (j - i) (drop i sets), length-drop i sets)

    is : get_or (entries sets i j) k [] ≡ entry sets e
    is = let place : i + k ≡ e - 1 = omega (arith, above) in get_or-entries sets i j k (omega (arith, above, below)) ∙ ap (λ n. get_or sets n []) place

    by : (b : Bool) → has slot (entry sets e) ≡ b → b ≡ false
    by false q = refl
    by true q =
        let some : some_has slot (entries sets i j) ≡ true = list_any_at (λ set. has slot set) (entries sets i j) k [] there (ap (has slot) is ∙ q) in
        let none : some_has slot (entries sets i j) ≡ false = not-true (some_has slot (entries sets i j)) (sym (has-unchanged sets i j slot h) ∙ same) in
        absurd (true≢false (sym some ∙ none))

-- a slot in no entry between is unchanged
pub none-unchanged : (sets : List (List Bool)) (i j slot : ℕ) → slot < 512 → ((e : ℕ) → i < e → e ≤ j → e ≤ length sets → has slot (entry sets e) ≡ false) → has slot (unchanged sets i j) ≡ true
none-unchanged sets i j slot h each =
    has-unchanged sets i j slot h
    ∙ ap not (list_any_none (λ set. has slot set) (entries sets i j) (All-from_get_or (λ set. has slot set ≡ false) (entries sets i j) [] (λ k there.
    let l = length-entries sets i j k there in
    let place : i + k + 1 - 1 ≡ i + k = omega arith in
    ap (has slot) (get_or-entries sets i j k l.0 ∙ ap (λ n. get_or sets n []) (sym place)) ∙ each (i + k + 1) (omega arith) (omega (arith, l.0)) (omega (arith, l.1)))))
