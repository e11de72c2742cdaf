-- Blocks of 64 entries, one after another.
use Rattle.std.proofs.Common.{◌≡◌, ℕ, zero, suc, ◌+◌, ◌-◌, ◌*◌, ◌<◌, ◌≤◌, min, Bool, false, List, [], ◌∷◌, ◌++◌, map, length, take, drop, replicate, refl, sym, ap, ap₂, ◌∙◌, ◌||◌, arith}
use Rattle.std.specs.List.{AllByRecursion}
use Rattle.std.proofs.lemmas.List.{length-append, length-map, length-drop, map-append, append_assoc, append-nil, take-map, drop-map, drop-drop, drop-append-le, take-append-le}
use Rattle.std.proofs.lemmas.List.Folds.{list_any-append}
use Rattle.std.proofs.Math.Seq.{take-append-add, drop-append-add}
use Rattle.changelog_set.specs.Sets.{has, some_has, union_of, entries}
use Rattle.changelog_set.specs.Blocks.{joined, Unites}
use Rattle.changelog_set.proofs.SetLaws.{length-union_of, has-union_of, union_is, union_of-none}

abbrev AreFull : List (List (List Bool)) → Type 0
AreFull blocks = AllByRecursion (λ block. length block ≡ 64) blocks

AreFull-drop : (n : ℕ) (blocks : List (List (List Bool))) → AreFull blocks → AreFull (drop n blocks)
AreFull-drop zero blocks h = h
AreFull-drop (suc n) [] h = tt
AreFull-drop (suc n) (block ∷ blocks) h = AreFull-drop n blocks h.1

AreFull-push : (blocks : List (List (List Bool))) (block : List (List Bool)) → AreFull blocks → length block ≡ 64 → AreFull (blocks ++ block ∷ [])
AreFull-push [] block h long = (long, tt)
AreFull-push (b ∷ blocks) block h long = (h.0, AreFull-push blocks block h.1 long)

length-joined : (blocks : List (List (List Bool))) → AreFull blocks → length (joined blocks) ≡ 64 * length blocks
length-joined [] h = refl
length-joined (block ∷ blocks) h = omega (arith, length-append block (joined blocks), h.0, length-joined blocks h.1)

joined-push : (blocks : List (List (List Bool))) (block : List (List Bool)) → joined (blocks ++ block ∷ []) ≡ joined blocks ++ block
joined-push [] block = append-nil block
joined-push (b ∷ blocks) block = ap (λ l. b ++ l) (joined-push blocks block) ∙ sym (append_assoc b (joined blocks) block)

drop-joined : (n : ℕ) (blocks : List (List (List Bool))) → AreFull blocks → n ≤ length blocks → drop (64 * n) (joined blocks) ≡ joined (drop n blocks)
drop-joined zero blocks h le = refl
drop-joined (suc n) [] h le = absurd (omega arith)
drop-joined (suc n) (block ∷ blocks) h le =
    let e : 64 * suc n ≡ length block + 64 * n = omega (arith, h.0) in
    ap (λ m. drop m (block ++ joined blocks)) e ∙ drop-append-add block (joined blocks) (64 * n) ∙ drop-joined n blocks h.1 (omega arith)

take-joined : (n : ℕ) (blocks : List (List (List Bool))) → AreFull blocks → n ≤ length blocks → take (64 * n) (joined blocks) ≡ joined (take n blocks)
take-joined zero blocks h le = refl
take-joined (suc n) [] h le = absurd (omega arith)
take-joined (suc n) (block ∷ blocks) h le =
    let e : 64 * suc n ≡ length block + 64 * n = omega (arith, h.0) in
    ap (λ m. take m (block ++ joined blocks)) e ∙ take-append-add block (joined blocks) (64 * n) ∙ ap (λ l. block ++ l) (take-joined n blocks h.1 (omega arith))

-- the entries of some neighbouring blocks
entries-blocks : (blocks : List (List (List Bool))) (rest : List (List Bool)) (from to : ℕ) → AreFull blocks → from ≤ to → to ≤ length blocks
    → entries (joined blocks ++ rest) (64 * from) (64 * to) ≡ joined (take (to - from) (drop from blocks))
entries-blocks blocks rest from to full rises within =
    let later = drop from blocks in
    let later_full = AreFull-drop from blocks full in
    let count : length later ≡ length blocks - from = length-drop from blocks in
    let long = length-joined blocks full in
    let later_long = length-joined later later_full in
    let n : 64 * to - 64 * from ≡ 64 * (to - from) = omega (arith, rises) in
    ap₂ (λ m l. take m l) n (drop-append-le (64 * from) (joined blocks) rest (omega (arith, long, rises, within)) ∙ ap (λ l. l ++ rest) (drop-joined from blocks full (omega (arith, rises, within))))
    ∙ take-append-le (64 * (to - from)) (joined later) rest (omega (arith, later_long, count, rises, within))
    ∙ take-joined (to - from) later later_full (omega (arith, count, rises, within))

-- the union of the blocks' unions is that of all their entries
union_of-unions : (blocks : List (List (List Bool))) → union_of (map union_of blocks) ≡ union_of (joined blocks)
union_of-unions blocks =
    union_is (joined blocks) (union_of (map union_of blocks)) (length-union_of (map union_of blocks)) (λ slot h. has-union_of (map union_of blocks) slot h ∙ same slot h blocks)
  where
    same : (slot : ℕ) → slot < 512 → (bs : List (List (List Bool))) → some_has slot (map union_of bs) ≡ some_has slot (joined bs)
    same slot h [] = refl
    same slot h (b ∷ bs) = ap₂ (λ x y. x || y) (has-union_of b slot h) (same slot h bs) ∙ sym (list_any-append (λ set. has slot set) b (joined bs))

-- ---- what is held of them

pub unites-none : (whole : List (List Bool)) (none : List Bool) → whole ≡ [] → none ≡ replicate 512 false → Unites 0 whole 0 none []
unites-none whole none empty is = record {
  blocks = [];
  rest = [];
  all = refl;
  full = tt;
  within = omega arith;
  unions = empty;
  few = omega arith;
  after = refl;
  union = is ∙ union_of-none;
}

module _ (gone count : ℕ) (whole : List (List Bool)) (begun : List Bool) (sets : List (List Bool)) (u : Unites gone whole count begun sets) where
  -- one entry more, where it fills no block
  pub unites-begun : (set union : List Bool) → count < 63 → ((xs : List (List Bool)) → begun ≡ union_of xs → union ≡ union_of (xs ++ set ∷ [])) → Unites gone whole (count + 1) union (sets ++ set ∷ [])
  unites-begun set union few with_set = record {
    blocks = u.blocks;
    rest = u.rest ++ set ∷ [];
    all = ap (λ l. l ++ set ∷ []) u.all ∙ append_assoc (joined u.blocks) u.rest (set ∷ []);
    full = u.full;
    within = u.within;
    unions = u.unions;
    few = omega (arith, few);
    after = omega (arith, length-append u.rest (set ∷ []), u.after);
    union = with_set u.rest u.union;
  }

  -- one entry more, which fills a block
  pub unites-full : (set union none : List Bool) (more : List (List Bool)) → 63 ≤ count → none ≡ replicate 512 false → more ≡ whole ++ union ∷ []
      → ((xs : List (List Bool)) → begun ≡ union_of xs → union ≡ union_of (xs ++ set ∷ [])) → Unites gone more 0 none (sets ++ set ∷ [])
  unites-full set union none more last none_is more_is with_set =
      let block : List (List Bool) = u.rest ++ set ∷ [] in record {
        blocks = u.blocks ++ block ∷ [];
        rest = [];
        all = ap (λ l. l ++ set ∷ []) u.all ∙ append_assoc (joined u.blocks) u.rest (set ∷ []) ∙ sym (joined-push u.blocks block) ∙ sym (append-nil (joined (u.blocks ++ block ∷ [])));
        full = AreFull-push u.blocks block u.full (omega (arith, length-append u.rest (set ∷ []), u.after, u.few, last));
        within = omega (arith, u.within, length-append u.blocks (block ∷ []));
        unions =
            more_is
            ∙ ap₂ (λ l s. l ++ s ∷ []) u.unions (with_set u.rest u.union)
            ∙ sym (drop-append-le gone (map union_of u.blocks) (union_of block ∷ []) (omega (arith, u.within, length-map u.blocks union_of)))
            ∙ ap (drop gone) (sym (map-append union_of u.blocks (block ∷ [])));
        few = omega arith;
        after = refl;
        union = none_is ∙ union_of-none;
      }

  -- so many unions less
  pub unites-trim : (n : ℕ) (less : List (List Bool)) → n ≤ length whole → less ≡ drop n whole → Unites (gone + n) less count begun sets
  unites-trim n less within less_is =
      let long : length whole ≡ length (drop gone (map union_of u.blocks)) = ap length u.unions in record {
        blocks = u.blocks;
        rest = u.rest;
        all = u.all;
        full = u.full;
        within = omega (arith, within, long, length-drop gone (map union_of u.blocks), length-map u.blocks union_of, u.within);
        unions = less_is ∙ ap (drop n) u.unions ∙ drop-drop n gone (map union_of u.blocks);
        few = u.few;
        after = u.after;
        union = u.union;
      }

  -- how many are left
  pub unites-freed : (blocks n : ℕ) (less : List (List Bool)) → 64 * blocks ≤ length sets → n ≡ min (blocks - gone) (length whole) → less ≡ drop n whole → 64 * (blocks + length less) ≤ length sets
  unites-freed blocks n less within n_is less_is =
      let all : length sets ≡ length (joined u.blocks ++ u.rest) = ap length u.all in
      let sum : length sets ≡ 64 * length u.blocks + count = omega (arith, all, length-append (joined u.blocks) u.rest, length-joined u.blocks u.full, u.after) in
      let long : length whole ≡ length (drop gone (map union_of u.blocks)) = ap length u.unions in
      let whole_is : length whole ≡ length u.blocks - gone = omega (arith, long, length-drop gone (map union_of u.blocks), length-map u.blocks union_of) in
      let left : length less ≡ length (drop n whole) = ap length less_is in
      omega (arith, sum, u.few, u.within, within, whole_is, n_is, left, length-drop n whole)

  -- the union of some neighbouring blocks
  pub unites-between : (from to first n : ℕ) (found : List (List Bool)) (union : List Bool) → gone ≤ from → from ≤ to → 64 * to ≤ length sets → first ≡ from - gone → n ≡ to - from
      → found ≡ take n (drop first whole) → union ≡ union_of found → union ≡ union_of (entries sets (64 * from) (64 * to))
  unites-between from to first n found union held rises within first_is n_is found_is union_is =
      let all : length sets ≡ length (joined u.blocks ++ u.rest) = ap length u.all in
      let few : to ≤ length u.blocks = omega (arith, all, length-append (joined u.blocks) u.rest, length-joined u.blocks u.full, u.after, u.few, within) in
      let here : gone + first ≡ from = omega (arith, first_is, held) in
      union_is
      ∙ ap union_of
      (found_is
      ∙ ap₂ (λ m l. take m (drop first l)) n_is u.unions
      ∙ ap (take (to - from)) (drop-drop first gone (map union_of u.blocks) ∙ ap (λ m. drop m (map union_of u.blocks)) here ∙ drop-map union_of from u.blocks)
      ∙ take-map union_of (to - from) (drop from u.blocks))
      ∙ union_of-unions (take (to - from) (drop from u.blocks))
      ∙ ap union_of (sym (entries-blocks u.blocks u.rest from to u.full rises few) ∙ ap (λ l. entries l (64 * from) (64 * to)) (sym u.all))

pub ruleset laws = (unites-begun, unites-full)

pub ruleset trims = (unites-trim, unites-freed)
