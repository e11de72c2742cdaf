-- The slots of a block, and of blocks one after another.
use Rattle.std.proofs.Common.{◌≡◌, ℕ, zero, suc, ◌+◌, ◌*◌, ◌/◌, ◌%◌, ◌^◌, ◌<◌, Bool, true, false, ◌&&◌, cond, eqb, List, [], ◌∷◌, ◌++◌, map, length, get_or, set, take, drop, replicate, refl, sym, ap, ap₂, ◌∙◌, arith, Option, Some, None, subst, bit_and, length-append, ext_get_or}
use Rattle.std.specs.Int.Bits.{and_lt}
use Rattle.std.specs.Simd.Lanes.{zip2, mask_l, Each1}
use Rattle.std.proofs.lemmas.List.{length-replicate, get_or-replicate, set-append_left, set-append_right, length-map, get_or-append-add}
use Rattle.std.proofs.Math.ListN.{get_or-append}
use Rattle.std.proofs.lemmas.Nat.{and_le_l}
use Rattle.std.proofs.lemmas.Nat.Bits.{bit_at-zero}
use Rattle.std.specs.Int.{bit_at}
use Rattle.std.proofs.lemmas.Simd.{length-zip2, get_or-zip2, mask_l-lt}
use Rattle.as_base.specs.Query.{holds_all}
use Rattle.as_base.specs.declared.item.Given.{Given}
use Rattle.as_base.specs.declared.query.Bounds.{Bounds}
use Rattle.queryset_lanes.specs.Slots.{both}
use Rattle.queryset_lanes.specs.Words.{word_slots, slots_of}
use Rattle.queryset_lanes.specs.Inverse.{length-word_slots, get_or-word_slots, mask_l-word_slots}
use Rattle.queryset_lanes.proofs.Words.{word_slots-bit_and, word_slots_are}
use Rattle.box_lanes.specs.Columns.{holds_in, selected}
use Rattle.box_lanes.specs.Parts.{empty, set_boxes, joined, IsBlocks}
use Rattle.box_lanes.proofs.Lanes.{word_slots-mask_l}

-- ---- one block

pub length-set_boxes : (w : ℕ) (boxes : List Bounds) → length boxes ≡ 64 → length (set_boxes w boxes) ≡ 64
unfolding set_boxes
length-set_boxes w boxes long = length-zip2 _ (word_slots w) boxes (length-word_slots w ∙ sym long) ∙ length-word_slots w

zip2-set_on : (ss : List Bool) (boxes : List Bounds) (i : ℕ) (b : Bounds) → zip2 (λ on x. cond on (Some x) None) (set ss i true) (set boxes i b) ≡ set (zip2 (λ on x. cond on (Some x) None) ss boxes) i (Some b)
zip2-set_on [] boxes i b = refl
zip2-set_on (s ∷ ss) [] zero b = refl
zip2-set_on (s ∷ ss) [] (suc i) b = refl
zip2-set_on (s ∷ ss) (x ∷ boxes) zero b = refl
zip2-set_on (s ∷ ss) (x ∷ boxes) (suc i) b = ap (λ t. cond s (Some x) None ∷ t) (zip2-set_on ss boxes i b)

zip2-set_off : (ss : List Bool) (boxes : List Bounds) (i : ℕ) → zip2 (λ on x. cond on (Some x) None) (set ss i false) boxes ≡ set (zip2 (λ on x. cond on (Some x) None) ss boxes) i None
zip2-set_off [] boxes i = refl
zip2-set_off (s ∷ ss) [] zero = refl
zip2-set_off (s ∷ ss) [] (suc i) = refl
zip2-set_off (s ∷ ss) (x ∷ boxes) zero = refl
zip2-set_off (s ∷ ss) (x ∷ boxes) (suc i) = ap (λ t. cond s (Some x) None ∷ t) (zip2-set_off ss boxes i)

pub set_boxes-on : (w v : ℕ) (boxes : List Bounds) (i : ℕ) (b : Bounds) → word_slots v ≡ set (word_slots w) i true → set_boxes v (set boxes i b) ≡ set (set_boxes w boxes) i (Some b)
unfolding set_boxes
set_boxes-on w v boxes i b e = ap (λ ss. zip2 (λ on x. cond on (Some x) None) ss (set boxes i b)) e ∙ zip2-set_on (word_slots w) boxes i b

pub set_boxes-off : (w v : ℕ) (boxes : List Bounds) (i : ℕ) → word_slots v ≡ set (word_slots w) i false → set_boxes v boxes ≡ set (set_boxes w boxes) i None
unfolding set_boxes
set_boxes-off w v boxes i e = ap (λ ss. zip2 (λ on x. cond on (Some x) None) ss boxes) e ∙ zip2-set_off (word_slots w) boxes i

chosen : (rs ss : List Bool) (boxes : List Bounds) (g : Given) → both (both rs ss) (map (λ b. holds_all b g) boxes) ≡ selected (zip2 (λ on x. cond on (Some x) None) ss boxes) rs g
chosen [] [] boxes g = refl
chosen [] (s ∷ ss) [] g = refl
chosen [] (s ∷ ss) (b ∷ boxes) g = refl
chosen (r ∷ rs) [] boxes g = refl
chosen (r ∷ rs) (s ∷ ss) [] g = refl
chosen (r ∷ rs) (s ∷ ss) (b ∷ boxes) g = ap₂ (λ x t. x ∷ t) (one r s) (chosen rs ss boxes g)
  where
    one : (x y : Bool) → ((x && y) && holds_all b g) ≡ (x && holds_in (cond y (Some b) None) g)
    one true true = refl
    one true false = refl
    one false y = refl

-- the word of the slots that are read, are set and hold the record
pub word_chosen : (reads w : ℕ) (boxes : List Bounds) (g : Given) → w < 2 ^ 64 → reads < 2 ^ 64 → length boxes ≡ 64 → bit_and (bit_and reads w) (mask_l (map (λ b. holds_all b g) boxes)) ≡ mask_l (selected (set_boxes w boxes) (word_slots reads) g)
unfolding set_boxes
word_chosen reads w boxes g fits reads_fit long =
    let hs : List Bool = map (λ b. holds_all b g) boxes in
    let all : length hs ≡ 64 = length-map boxes (λ b. holds_all b g) ∙ long in
    let below : mask_l hs < 2 ^ 64 = let P : ℕ → Type 0 = λ n. mask_l hs < 2 ^ n in subst P all (mask_l-lt hs) in
    let word : ℕ = bit_and (bit_and reads w) (mask_l hs) in
    sym (mask_l-word_slots word (and_lt 64 (bit_and reads w) (mask_l hs) (and_lt 64 reads w reads_fit fits) below))
    ∙ ap mask_l (word_slots-bit_and (bit_and reads w) (mask_l hs)
    ∙ ap₂ both (word_slots-bit_and reads w) (word_slots-mask_l hs all)
    ∙ chosen (word_slots reads) (word_slots w) boxes g)

-- where no slot is both read and set, none is chosen
pub none_chosen : (reads w : ℕ) (boxes : List Bounds) (g : Given) → w < 2 ^ 64 → reads < 2 ^ 64 → length boxes ≡ 64 → bit_and reads w ≡ 0 → 0 ≡ mask_l (selected (set_boxes w boxes) (word_slots reads) g)
none_chosen reads w boxes g fits reads_fit long none =
    let hs : List Bool = map (λ b. holds_all b g) boxes in
    let nothing : bit_and 0 (mask_l hs) ≡ 0 = omega (arith, and_le_l 0 (mask_l hs)) in
    sym (ap (λ n. bit_and n (mask_l hs)) none ∙ nothing) ∙ word_chosen reads w boxes g fits reads_fit long

pub set_boxes-new : set_boxes 0 (replicate 64 empty) ≡ replicate 64 None
unfolding set_boxes
set_boxes-new =
    ap (λ ss. zip2 (λ on x. cond on (Some x) None) ss (replicate 64 empty))
    (word_slots_are 0 (replicate 64 false) (length-replicate 64 false) (λ i h. get_or-replicate 64 i false false h ∙ sym (ap (λ n. eqb n 1) (bit_at-zero i))))

none_set : (n : ℕ) (boxes : List Bounds) → length boxes ≡ n → zip2 (λ on x. cond on (Some x) None) (replicate n false) boxes ≡ replicate n None
none_set zero boxes e = refl
none_set (suc n) [] e = absurd (omega (arith, e))
none_set (suc n) (b ∷ boxes) e = ap (λ t. None ∷ t) (none_set n boxes (omega (arith, e)))

-- no slot is set
pub set_boxes-none : (boxes : List Bounds) → length boxes ≡ 64 → set_boxes 0 boxes ≡ replicate 64 None
unfolding set_boxes
set_boxes-none boxes long =
    ap (λ ss. zip2 (λ on x. cond on (Some x) None) ss boxes)
    (word_slots_are 0 (replicate 64 false) (length-replicate 64 false) (λ i h. get_or-replicate 64 i false false h ∙ sym (ap (λ n. eqb n 1) (bit_at-zero i))))
    ∙ none_set 64 boxes long

-- the bounds of a slot
pub get_or-set_boxes : (w : ℕ) (boxes : List Bounds) (i : ℕ) → length boxes ≡ 64 → i < 64 → get_or (set_boxes w boxes) i None ≡ cond (eqb (bit_at w i) 1) (Some (get_or boxes i empty)) None
unfolding set_boxes
get_or-set_boxes w boxes i long h =
    get_or-zip2 (λ (on : Bool) (x : Bounds). cond on (Some x) None) (word_slots w) boxes i false empty None (omega (arith, length-word_slots w)) (omega (arith, long))
    ∙ ap (λ on. cond on (Some (get_or boxes i empty)) None) (get_or-word_slots w i h)

-- ---- blocks one after another

pub length-joined : (blocks : List (List (Option Bounds))) → Each1 (λ block. length block ≡ 64) blocks → length (joined blocks) ≡ 64 * length blocks
unfolding joined
length-joined [] h = refl
length-joined (b ∷ blocks) h = length-append b (joined blocks) ∙ omega (arith, h.0, length-joined blocks h.1)

joined-set_at : (blocks : List (List (Option Bounds))) (k i : ℕ) (v : Option Bounds) → Each1 (λ block. length block ≡ 64) blocks → k < length blocks → i < 64 → joined (set blocks k (set (get_or blocks k []) i v)) ≡ set (joined blocks) (64 * k + i) v
unfolding joined
joined-set_at [] k i v each hk hi = absurd (omega arith)
joined-set_at (b ∷ blocks) zero i v each hk hi = sym (set-append_left b (joined blocks) i v (omega (arith, each.0))) ∙ ap (λ n. set (b ++ joined blocks) n v) (omega arith)
joined-set_at (b ∷ blocks) (suc k) i v each hk hi =
    ap (λ t. b ++ t) (joined-set_at blocks k i v each.1 (omega arith) hi)
    ∙ ap (λ n. b ++ set (joined blocks) n v) (omega arith)
    ∙ sym (set-append_right b (joined blocks) 64 (64 * suc k + i) v each.0 (omega arith))

Each1-set : {X : Type 0} (P : X → Type 0) (xs : List X) (k : ℕ) (v : X) → P v → Each1 P xs → Each1 P (set xs k v)
Each1-set P [] k v p h = tt
Each1-set P (x ∷ xs) zero v p h = (p, h.1)
Each1-set P (x ∷ xs) (suc k) v p h = (h.0, Each1-set P xs k v p h.1)

-- one slot of one block changes
pub joined-set : (blocks : List (List (Option Bounds))) (k s i : ℕ) (new : List (Option Bounds)) (v : Option Bounds) → IsBlocks blocks → s < 512 → k ≡ s / 64 → i ≡ s % 64 → new ≡ set (get_or blocks k []) i v → joined (set blocks k new) ≡ set (joined blocks) s v
joined-set blocks k s i new v is h place inside made =
    ap (λ t. joined (set blocks k t)) made
    ∙ joined-set_at blocks k i v is.each (omega (arith, is.eight)) (omega arith)
    ∙ ap (λ n. set (joined blocks) n v) (omega arith)

pub length-joined_eight : (blocks : List (List (Option Bounds))) → IsBlocks blocks → length (joined blocks) ≡ 512
length-joined_eight blocks is = length-joined blocks is.each ∙ ap (λ n. 64 * n) is.eight

get_or-joined_at : (blocks : List (List (Option Bounds))) (k i : ℕ) → Each1 (λ block. length block ≡ 64) blocks → k < length blocks → i < 64 → get_or (joined blocks) (64 * k + i) None ≡ get_or (get_or blocks k []) i None
unfolding joined
get_or-joined_at [] k i each hk hi = absurd (omega arith)
get_or-joined_at (b ∷ blocks) zero i each hk hi = ap (λ n. get_or (b ++ joined blocks) n None) (omega arith) ∙ get_or-append b (joined blocks) None i (omega (arith, each.0))
get_or-joined_at (b ∷ blocks) (suc k) i each hk hi =
    ap (λ n. get_or (b ++ joined blocks) n None) (omega (arith, each.0))
    ∙ get_or-append-add b (joined blocks) (64 * k + i) None
    ∙ get_or-joined_at blocks k i each.1 (omega arith) hi

-- the bounds of a slot
pub get_or-joined : (blocks : List (List (Option Bounds))) (s : ℕ) → IsBlocks blocks → s < 512 → get_or (joined blocks) s None ≡ get_or (get_or blocks (s / 64) []) (s % 64) None
get_or-joined blocks s is h =
    ap (λ n. get_or (joined blocks) n None) (omega arith)
    ∙ get_or-joined_at blocks (s / 64) (s % 64) is.each (omega (arith, is.eight)) (omega arith)

-- ---- eight new blocks

pub joined-new : joined (replicate 8 (replicate 64 None)) ≡ replicate 512 None
unfolding joined
joined-new = refl

-- eight blocks, in each of which no slot has bounds
pub joined-none : (blocks : List (List (Option Bounds))) → IsBlocks blocks → ((k : ℕ) → k < 8 → get_or blocks k [] ≡ replicate 64 None) → joined blocks ≡ replicate 512 None
joined-none blocks is none =
    let clear : List (Option Bounds) = replicate 64 None in
    let all : List (List (Option Bounds)) = replicate 8 clear in
    let long : length all ≡ 8 = length-replicate 8 clear in
    ap joined (ext_get_or [] blocks all (is.eight ∙ sym long) (λ k h.
    let low : k < 8 = omega (arith, is.eight) in
    none k low ∙ sym (get_or-replicate 8 k clear [] low)))
    ∙ joined-new

-- ---- the slots that are selected, block by block

zip2-append : {X Y Z : Type 0} (f : X → Y → Z) (us : List X) (vs : List Y) (cs : List X) (ds : List Y) → length us ≡ length vs → zip2 f (us ++ cs) (vs ++ ds) ≡ zip2 f us vs ++ zip2 f cs ds
zip2-append f [] [] cs ds e = refl
zip2-append f [] (v ∷ vs) cs ds e = absurd (omega arith)
zip2-append f (u ∷ us) [] cs ds e = absurd (omega arith)
zip2-append f (u ∷ us) (v ∷ vs) cs ds e = ap (λ t. f u v ∷ t) (zip2-append f us vs cs ds (omega arith))

-- the word of the slots of a block that are selected
abbrev pub word_selected : Given → List (Option Bounds) → ℕ → ℕ
word_selected g block reads = mask_l (selected block (word_slots reads) g)

pub slots_of-selected : (blocks : List (List (Option Bounds))) (words : List ℕ) (g : Given) → Each1 (λ block. length block ≡ 64) blocks → length blocks ≡ length words → slots_of (zip2 (word_selected g) blocks words) ≡ selected (joined blocks) (slots_of words) g
unfolding joined slots_of
slots_of-selected [] [] g each e = refl
slots_of-selected [] (w ∷ words) g each e = absurd (omega arith)
slots_of-selected (b ∷ blocks) [] g each e = absurd (omega arith)
slots_of-selected (b ∷ blocks) (w ∷ words) g each e =
    let same : length b ≡ length (word_slots w) = each.0 ∙ sym (length-word_slots w) in
    let f : Option Bounds → Bool → Bool = λ x read. read && holds_in x g in
    ap (λ t. t ++ slots_of (zip2 (word_selected g) blocks words)) (word_slots-mask_l (selected b (word_slots w) g) (length-zip2 f b (word_slots w) same ∙ each.0))
    ∙ ap (λ t. selected b (word_slots w) g ++ t) (slots_of-selected blocks words g each.1 (omega arith))
    ∙ sym (zip2-append f b (word_slots w) (joined blocks) (slots_of words) same)

-- ---- a list of words in which one more was computed, in place

pub zip_at : {X : Type 0} (f : X → ℕ → ℕ) (xs : List X) (ws : List ℕ) (k : ℕ) → k < length xs → k < length ws → get_or (zip2 f (take k xs) (take k ws) ++ drop k ws) k 0 ≡ get_or ws k 0
zip_at f [] ws k h i = absurd (omega arith)
zip_at f (x ∷ xs) [] k h i = absurd (omega arith)
zip_at f (x ∷ xs) (w ∷ ws) zero h i = refl
zip_at f (x ∷ xs) (w ∷ ws) (suc k) h i = zip_at f xs ws k (omega arith) (omega arith)

pub zip_set : {X : Type 0} (f : X → ℕ → ℕ) (xs : List X) (ws : List ℕ) (k : ℕ) (d : X) → k < length xs → k < length ws → set (zip2 f (take k xs) (take k ws) ++ drop k ws) k (f (get_or xs k d) (get_or ws k 0)) ≡ zip2 f (take (suc k) xs) (take (suc k) ws) ++ drop (suc k) ws
zip_set f [] ws k d h i = absurd (omega arith)
zip_set f (x ∷ xs) [] k d h i = absurd (omega arith)
zip_set f (x ∷ xs) (w ∷ ws) zero d h i = refl
zip_set f (x ∷ xs) (w ∷ ws) (suc k) d h i = ap (λ t. f x w ∷ t) (zip_set f xs ws k d (omega arith) (omega arith))

pub zip_all : {X : Type 0} (f : X → ℕ → ℕ) (xs : List X) (ws : List ℕ) (k : ℕ) → length xs ≡ k → length ws ≡ k → zip2 f (take k xs) (take k ws) ++ drop k ws ≡ zip2 f xs ws
zip_all f [] [] k h i = ap (λ n. zip2 f (take n []) (take n []) ++ drop n []) (sym h)
zip_all f [] (w ∷ ws) k h i = absurd (omega arith)
zip_all f (x ∷ xs) [] k h i = absurd (omega arith)
zip_all f (x ∷ xs) (w ∷ ws) zero h i = absurd (omega arith)
zip_all f (x ∷ xs) (w ∷ ws) (suc k) h i = ap (λ t. f x w ∷ t) (zip_all f xs ws k (omega arith) (omega arith))
