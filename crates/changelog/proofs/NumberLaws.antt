-- Climbing numbers: the last of them, and how many are not after a time.
use Rattle.std.proofs.Common.{◌≡◌, ℕ, zero, suc, ◌+◌, ◌-◌, ◌<◌, ◌≤◌, nat_le, cond, List, [], ◌∷◌, ◌++◌, length, get_or, take, drop, refl, sym, ap, subst, ◌∙◌, ⊎_elim, arith}
use Rattle.std.specs.List.{AllByRecursion}
use Rattle.std.proofs.lemmas.Bool.{le-leb, leb-true, false_from_ne_true, cases_lt}
use Rattle.std.proofs.lemmas.List.{length-append, length-take-le, get_or-append-add, drop_more, take_more, take-append-drop}
use Rattle.std.proofs.lemmas.List.Sums.{sum_by-append, sum_by-cons, sum_by-take-drop, count_by-le-length}
use Rattle.views.proofs.ListLaws.{All-push}
use Rattle.changelog.specs.Changes.{AreClimbing, last_or, until}

pub last_or-append : (before : ℕ) (ms ns : List ℕ) → last_or before (ms ++ ns) ≡ last_or (last_or before ms) ns
last_or-append before [] ns = refl
last_or-append before (m ∷ ms) ns = last_or-append m ms ns

pub All-at : (P : ℕ → Type 0) (ns : List ℕ) (i : ℕ) → AllByRecursion P ns → i < length ns → P (get_or ns i 0)
All-at P [] i h within = absurd (omega arith)
All-at P (n ∷ ns) zero h within = h.0
All-at P (n ∷ ns) (suc i) h within = All-at P ns i h.1 (omega arith)

-- the last is the greatest
first-le-last : (n : ℕ) (ns : List ℕ) → AreClimbing (n ∷ ns) → n ≤ last_or n ns
first-le-last n [] h = omega arith
first-le-last n (m ∷ ns) h = let a = first-le-last m ns h.1 in let b = h.0.0 in omega (arith, a, b)

last_or-le : (n : ℕ) (ns : List ℕ) → last_or 0 ns ≤ last_or n ns
last_or-le n [] = omega arith
last_or-le n (m ∷ ns) = omega arith

pub climbing-push : (ns : List ℕ) (n : ℕ) → AreClimbing ns → last_or 0 ns ≤ n → AreClimbing (ns ++ n ∷ [])
climbing-push [] n h most = (tt, tt)
climbing-push (m ∷ ns) n h most =
    let above : m ≤ n = omega (arith, first-le-last m ns h, most) in
    (All-push (λ k. m ≤ k) ns n h.0 above, climbing-push ns n h.1 (omega (arith, last_or-le m ns, most)))

pub one-more : (t n : ℕ) (ns : List ℕ) → n ≤ t → until t (n ∷ ns) ≡ suc (until t ns)
one-more t n ns h =
    let one : cond {A = ℕ} (nat_le n t) 1 0 ≡ 1 = ap (λ b. cond {A = ℕ} b 1 0) (le-leb n t h) in
    omega (arith, sum_by-cons (λ m. cond {A = ℕ} (nat_le m t) 1 0) n ns, one)

-- all up to one that is not after the time are not after it
until-front : (ns : List ℕ) (i t : ℕ) → AreClimbing ns → i < length ns → get_or ns i 0 ≤ t → i + 1 ≤ until t ns
until-front [] i t h within at = absurd (omega arith)
until-front (n ∷ ns) zero t h within at = omega (arith, one-more t n ns at)
until-front (n ∷ ns) (suc i) t h within at =
    let before : n ≤ get_or ns i 0 = All-at (λ k. n ≤ k) ns i h.0 (omega arith) in
    let rest = until-front ns i t h.1 (omega arith) at in
    omega (arith, one-more t n ns (omega (arith, before, at)), rest)

-- how many of all are not after the time, from those that are left of them
until-by : (trimmed times : List ℕ) (left t : ℕ) → AreClimbing (trimmed ++ times) → left ≤ length times → until t (drop left times) ≡ 0 → (0 < left → get_or times (left - 1) 0 ≤ t)
    → length trimmed ≤ until t (trimmed ++ times) → until t (trimmed ++ times) ≡ length trimmed + left
until-by trimmed times left t climbs within later earlier asked =
    let both = sum_by-append (λ m. cond {A = ℕ} (nat_le m t) 1 0) trimmed times in
    let split = sum_by-take-drop (λ m. cond {A = ℕ} (nat_le m t) 1 0) times left in
    let first = count_by-le-length (λ n. nat_le n t) trimmed in
    let second = count_by-le-length (λ n. nat_le n t) (take left times) in
    let long = length-take-le left times within in
    let all = length-append trimmed times in
    ⊎_elim
    (λ some. let at = until-front (trimmed ++ times) (length trimmed + (left - 1)) t climbs (omega (arith, all, some, within)) (subst (λ n. n ≤ t) (sym (get_or-append-add trimmed times (left - 1) 0)) (earlier some)) in
    omega (arith, both, split, first, second, long, later, at, some))
    (λ none. omega (arith, both, split, first, second, long, later, asked, none))
    (cases_lt 0 left)

pub until-is : (trimmed times all : List ℕ) (last left t : ℕ) → trimmed ++ times ≡ all → last ≡ length all → AreClimbing all → left ≤ length times → until t (drop left times) ≡ 0
    → (0 < left → get_or times (left - 1) 0 ≤ t) → last ≤ until t all + length times → last - (length times - left) ≡ until t all
until-is trimmed times all last left t is count climbs within later earlier asked =
    let long = length-append trimmed times in
    let lengths : length (trimmed ++ times) ≡ length all = ap length is in
    let same : until t (trimmed ++ times) ≡ until t all = ap (until t) is in
    let exact = until-by trimmed times left t (subst AreClimbing (sym is) climbs) within later earlier (omega (arith, long, lengths, same, count, asked)) in
    omega (arith, exact, same, long, lengths, count, within)

pub none-more : (t n : ℕ) (ns : List ℕ) → t < n → until t (n ∷ ns) ≡ until t ns
none-more t n ns h =
    let none : cond {A = ℕ} (nat_le n t) 1 0 ≡ 0 = ap (λ b. cond {A = ℕ} b 1 0) (false_from_ne_true _ (λ e. let l = leb-true n t e in omega (arith, l, h))) in
    omega (arith, sum_by-cons (λ m. cond {A = ℕ} (nat_le m t) 1 0) n ns, none)

-- one more of the later times
pub until-later : (ns : List ℕ) (i t : ℕ) → 0 < i → i ≤ length ns → t < get_or ns (i - 1) 0 → until t (drop i ns) ≡ 0 → until t (drop (i - 1) ns) ≡ 0
until-later ns i t some within late h =
    let next : i - 1 + 1 ≡ i = omega (arith, some) in
    ap (until t) (drop_more ns (i - 1) 0 (omega (arith, some, within))) ∙ none-more t (get_or ns (i - 1) 0) (drop (i - 1 + 1) ns) late ∙ ap (λ n. until t (drop n ns)) next ∙ h

-- the last of the first numbers
pub last_or-take : (before : ℕ) (ns : List ℕ) (k : ℕ) → 0 < k → k ≤ length ns → last_or before (take k ns) ≡ get_or ns (k - 1) 0
last_or-take before ns k some within =
    let next : k ≡ k - 1 + 1 = omega (arith, some) in
    ap (λ n. last_or before (take n ns)) next ∙ ap (last_or before) (take_more ns (k - 1) 0 (omega (arith, some, within))) ∙ last_or-append before (take (k - 1) ns) (get_or ns (k - 1) 0 ∷ [])

pub last_or-split : (before : ℕ) (ns : List ℕ) (k : ℕ) → last_or (last_or before (take k ns)) (drop k ns) ≡ last_or before ns
last_or-split before ns k = sym (last_or-append before (take k ns) (drop k ns)) ∙ ap (last_or before) (take-append-drop k ns)

-- the first of those that are left is after the time
pub until-first : (ns : List ℕ) (i t d : ℕ) → t < d → until t (drop i ns) ≡ 0 → t < get_or ns i d
until-first [] zero t d most h = most
until-first [] (suc i) t d most h = most
until-first (n ∷ ns) zero t d most h = ⊎_elim (λ l. l) (λ g. absurd (let one = one-more t n ns g in omega (arith, one, h))) (cases_lt t n)
until-first (n ∷ ns) (suc i) t d most h = until-first ns i t d most h

pub until-above : (n : ℕ) (ns : List ℕ) (u : ℕ) → AllByRecursion (λ m. n ≤ m) ns → u < n → until u ns ≡ 0
until-above n [] u h late = refl
until-above n (m ∷ ns) u h late = none-more u m ns (let a = h.0 in omega (arith, a, late)) ∙ until-above n ns u h.1 late

-- before the first of those that are left, none of them is over
pub until-none : (ns : List ℕ) (i u d : ℕ) → AreClimbing ns → u < get_or ns i d → until u (drop i ns) ≡ 0
until-none [] zero u d h late = refl
until-none [] (suc i) u d h late = refl
until-none (n ∷ ns) zero u d h late = none-more u n ns late ∙ until-above n ns u h.0 late
until-none (n ∷ ns) (suc i) u d h late = until-none ns i u d h.1 late

pub climbing-back : (ms ns : List ℕ) → AreClimbing (ms ++ ns) → AreClimbing ns
climbing-back [] ns h = h
climbing-back (m ∷ ms) ns h = climbing-back ms ns h.1

-- more are over at a later time
pub until-mono : (ns : List ℕ) (t u : ℕ) → t ≤ u → until t ns ≤ until u ns
until-mono [] t u le = omega arith
until-mono (n ∷ ns) t u le = ⊎_elim
    (λ late. let none = none-more t n ns late in let rest = until-mono ns t u le in let more = sum_by-cons (λ m. cond {A = ℕ} (nat_le m u) 1 0) n ns in omega (arith, none, rest, more))
    (λ early. let one = one-more t n ns early in let two = one-more u n ns (omega (arith, early, le)) in let rest = until-mono ns t u le in omega (arith, one, two, rest))
    (cases_lt t n)
