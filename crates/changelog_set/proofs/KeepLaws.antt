-- What is kept of entries.
use Rattle.std.proofs.Common.{◌≡◌, ℕ, ◌+◌, ◌-◌, ◌*◌, ◌≤◌, max, Bool, List, [], ◌∷◌, ◌++◌, length, take, drop, sym, ap, ap₂, ◌∙◌, arith}
use Rattle.std.specs.List.{AllByRecursion}
use Rattle.std.proofs.lemmas.List.{length-append, length-drop, drop-drop, drop-append-le}
use Rattle.changelog_set.specs.declared.unions.Unions.{Unions}
use Rattle.changelog_set.specs.Sets.{union_of, entries}
use Rattle.changelog_set.specs.Blocks.{UnionsFor, gone_of}
use Rattle.changelog_set.specs.TouchedFor.{Keeps}
use Rattle.queryset_lanes.specs.Slots.{either}
use Rattle.changelog_set.proofs.SetLaws.{either-union_of, entries-split}

All-push : (sets : List (List Bool)) (set : List Bool) → AllByRecursion (λ xs. length xs ≡ 512) sets → length set ≡ 512 → AllByRecursion (λ xs. length xs ≡ 512) (sets ++ set ∷ [])
All-push [] set h long = (long, tt)
All-push (x ∷ sets) set h long = (h.0, All-push sets set h.1 long)

-- one entry more
pub keeps-append : (last : ℕ) (held longer : List (List Bool)) (unions more : Unions) (sets : List (List Bool)) (set : List Bool)
    → Keeps last held unions sets → length set ≡ 512 → longer ≡ held ++ set ∷ []
    → UnionsFor more (sets ++ set ∷ []) → gone_of more ≡ gone_of unions → Keeps (last + 1) longer more (sets ++ set ∷ [])
keeps-append last held longer unions more sets set k set_long longer_is more_for gone =
    let long : length longer ≡ length (held ++ set ∷ []) = ap length longer_is in
    let held_long = length-append held (set ∷ []) in
    let sets_long = length-append sets (set ∷ []) in
    let same : length sets - length held ≡ length (sets ++ set ∷ []) - length longer = omega (arith, long, held_long, sets_long) in record {
      count = omega (arith, k.count, sets_long);
      slots = All-push sets set k.slots set_long;
      few = omega (arith, k.few, long, held_long, sets_long);
      latest =
          longer_is
          ∙ ap (λ l. l ++ set ∷ []) k.latest
          ∙ sym (drop-append-le (length sets - length held) sets (set ∷ []) (omega arith))
          ∙ ap (λ n. drop n (sets ++ set ∷ [])) same;
      blocks = more_for;
      reach = omega (arith, k.reach, gone, long, held_long, sets_long);
    }

-- all but so many of the last entries are let go
pub keeps-trim : (last : ℕ) (held shorter : List (List Bool)) (unions less : Unions) (sets : List (List Bool)) (base later count : ℕ) → Keeps last held unions sets → base ≤ last → later ≡ last - base
    → count ≡ length held - later → shorter ≡ drop count held → UnionsFor less sets → 64 * gone_of less ≤ max (64 * gone_of unions) base → Keeps last shorter less sets
keeps-trim last held shorter unions less sets base later count k low later_is count_is shorter_is less_for gone =
    let left : length shorter ≡ length (drop count held) = ap length shorter_is in
    let left_is = length-drop count held in
    let same : length sets - length held + count ≡ length sets - length shorter = omega (arith, k.few, left, left_is, count_is) in record {
      count = k.count;
      slots = k.slots;
      few = omega (arith, k.few, left, left_is);
      latest = shorter_is ∙ ap (drop count) k.latest ∙ drop-drop count (length sets - length held) sets ∙ ap (λ n. drop n sets) same;
      blocks = less_for;
      reach = omega (arith, k.reach, k.few, k.count, low, gone, left, left_is, count_is, later_is);
    }

-- a walk of neighbouring entries
pub keeps-walked : (last : ℕ) (held : List (List Bool)) (unions : Unions) (sets : List (List Bool)) (i j trimmed first n : ℕ) (found : List (List Bool)) (union : List Bool)
    → Keeps last held unions sets
    → last ≤ i + length held → trimmed ≡ last - length held → first ≡ i - trimmed → n ≡ j - i → found ≡ take n (drop first held) → union ≡ union_of found → union ≡ union_of (entries sets i j)
keeps-walked last held unions sets i j trimmed first n found union k asked trimmed_is first_is n_is found_is union_is =
    let here : length sets - length held + first ≡ i = omega (arith, k.count, k.few, asked, trimmed_is, first_is) in
    union_is
    ∙ ap union_of
    (found_is
    ∙ ap₂ (λ m l. take m (drop first l)) n_is k.latest
    ∙ ap (take (j - i)) (drop-drop first (length sets - length held) sets ∙ ap (λ m. drop m sets) here))

-- entries before some blocks, in them, and behind them
pub touched-split : (sets : List (List Bool)) (i a b j : ℕ) (before blocks after : List Bool) → i ≤ a → a ≤ b → b ≤ j → j ≤ length sets → before ≡ union_of (entries sets i a)
    → blocks ≡ union_of (entries sets a b) → after ≡ union_of (entries sets b j) → either (either before blocks) after ≡ union_of (entries sets i j)
touched-split sets i a b j before blocks after first second third within before_is blocks_is after_is =
    ap₂ either (ap₂ either before_is blocks_is ∙ either-union_of (entries sets i a) (entries sets a b) ∙ ap union_of (entries-split sets i a b first second (omega (arith, third, within)))) after_is
    ∙ either-union_of (entries sets i b) (entries sets b j)
    ∙ ap union_of (entries-split sets i b j (omega (arith, first, second)) third within)

pub ruleset walks = (keeps-walked)
