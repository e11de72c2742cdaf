-- The windows that hold some of the records, one after the other: the next one, and those up to a number.
use Rattle.std.proofs.Common.{◌≡◌, ℕ, ◌+◌, ◌-◌, ◌*◌, ◌/◌, ◌^◌, ◌≤◌, ◌<◌, max, nat_lt, nat_le, eqb, Bool, true, false, cond, true≢false, ◌&&◌, ◌||◌, Option, Some, None, List, [], ◌∷◌, ◌++◌, get_or, drop, slice_get, refl, sym, ap, ap₂, subst, ◌∙◌, append_assoc, append-nil, arith}
use Rattle.std.specs.List.{filter, flat_map, list_any, AllByRecursion}
use Rattle.std.proofs.lemmas.Bool.{and_parts, and_from, or_left, or_right, leb-true, leb-false, ltb-true, ltb-false, le-leb, lt-ltb, lt-leb, le-ltb, eqb-true, eq-eqb, false_from_ne_true}
use Rattle.std.proofs.lemmas.Grind.{flat_map-append}
use Rattle.std.proofs.lemmas.Nat.{le-div}
use Rattle.std.proofs.Math.Nat.{div-mul-le_self}
use Rattle.as_base.specs.declared.item.Given.{Given}
use Rattle.as_base.specs.declared.query.Plan.{Plan}
use Rattle.as_base.specs.declared.row.Row.{Row}
use Rattle.as_base.specs.declared.windows.WinSpec.{WinSpec}
use Rattle.as_base.specs.Windows.{fits, start_of, end_of, in_window, first_window}
use Rattle.as_base.proofs.WindowLaws.{moves_on, first-le-last, window-among, among-window}
use Rattle.views.specs.Passed.{windows_with}
use Rattle.views.specs.Rows.{rows_with}
use Rattle.views.proofs.ListLaws.{All-by, All-filter, All-passed, filter-same}
use Rattle.views.proofs.RisingLaws.{Rises}
use Rattle.views.proofs.WindowLaws.{Rises-windows, list_any-windows}
use Rattle.row_text.specs.RowText.{row_text}
use Rattle.plain_engine.specs.Walk.{AreByTime, next_from, is_between, rows_between, text_of_rows}
use Rattle.plain_engine.proofs.TimeLaws.{by_time-first, by_time-rest}

-- ---- the next of rising numbers

or_false : (a b : Bool) → (a || b) ≡ false → (a ≡ false) × (b ≡ false)
or_false true b h = absurd (true≢false h)
or_false false b h = (refl, h)

-- what holds of each number holds of one that is among them
All-any : (P : ℕ → Type 0) (ks : List ℕ) (m : ℕ) → AllByRecursion P ks → list_any (λ i. eqb i m) ks ≡ true → P m
All-any P [] m h is = absurd (true≢false (sym is))
All-any P (i ∷ ks) m h is = by_cases (All-any P ks m h.1) (eqb i m) refl is
  where
    by_cases : (list_any (λ i. eqb i m) ks ≡ true → P m) → (b : Bool) → eqb i m ≡ b → (b || list_any (λ i. eqb i m) ks) ≡ true → P m
    by_cases later true e is = subst P (eqb-true i m e) h.0
    by_cases later false e is = later is

next-none : (k : ℕ) (ks : List ℕ) → ((j : ℕ) → k ≤ j → list_any (λ i. eqb i j) ks ≡ false) → next_from k ks ≡ None
next-none k [] h = refl
next-none k (i ∷ ks) h = by_cases (next-none k ks (λ j low. (or_false (eqb i j) (list_any (λ i. eqb i j) ks) (h j low)).1)) (nat_le k i) refl
  where
    by_cases : next_from k ks ≡ None → (b : Bool) → nat_le k i ≡ b → cond b (Some i) (next_from k ks) ≡ None
    by_cases later true e = absurd (true≢false (sym (eq-eqb i i refl) ∙ (or_false (eqb i i) (list_any (λ j. eqb j i) ks) (h i (leb-true k i e))).0))
    by_cases later false e = later

next-some : (k m : ℕ) (ks : List ℕ) → Rises ks → list_any (λ i. eqb i m) ks ≡ true → k ≤ m → ((j : ℕ) → k ≤ j → j < m → list_any (λ i. eqb i j) ks ≡ false) → next_from k ks ≡ Some m
next-some k m [] rises is low h = absurd (true≢false (sym is))
next-some k m (i ∷ ks) rises is low h =
    by_cases (λ among. next-some k m ks rises.1 among low (λ j up before. (or_false (eqb i j) (list_any (λ i. eqb i j) ks) (h j up before)).1)) (nat_le k i) refl (eqb i m) refl is
  where
    by_cases : (list_any (λ i. eqb i m) ks ≡ true → next_from k ks ≡ Some m) → (b : Bool) → nat_le k i ≡ b → (same : Bool) → eqb i m ≡ same → (same || list_any (λ i. eqb i m) ks) ≡ true
        → cond b (Some i) (next_from k ks) ≡ Some m
    by_cases later true e true f is = ap (λ (n : ℕ). Some n) (eqb-true i m f)
    by_cases later true e false f is =
        let below = All-any (λ j. i < j) ks m rises.0 is in
        absurd (true≢false (sym (eq-eqb i i refl) ∙ (or_false (eqb i i) (list_any (λ j. eqb j i) ks) (h i (leb-true k i e) below)).0))
    by_cases later false e true f is = let a = leb-false k i e in let b = eqb-true i m f in absurd (omega (arith, a, b, low))
    by_cases later false e false f is = later is

-- ---- the next window

pub div_mono : (a b c : ℕ) → 0 < c → a ≤ b → a / c ≤ b / c
div_mono a b c some le = let d = div-mul-le_self a c in le-div (a / c) b c some (omega (arith, d, le))

pub first-mono : (w : WinSpec) (t u : ℕ) → 0 < w.slide → t ≤ u → first_window w t ≤ first_window w u
first-mono w t u some le = by_cases (nat_lt t w.size) refl (nat_lt u w.size) refl
  where
    by_cases : (a : Bool) → nat_lt t w.size ≡ a → (b : Bool) → nat_lt u w.size ≡ b → cond a 0 ((t - w.size) / w.slide + 1) ≤ cond b 0 ((u - w.size) / w.slide + 1)
    by_cases true e b f = omega arith
    by_cases false e true f = let x = ltb-false t w.size e in let y = ltb-true u w.size f in absurd (omega (arith, x, y, le))
    by_cases false e false f = let d = div_mono (t - w.size) (u - w.size) w.slide some (omega (arith, le)) in omega (arith, d)

mul_mono : (a b c : ℕ) → a ≤ b → a * c ≤ b * c
mul_mono a b c h = grind arith

-- a time before a window is not in it
before-window : (w : WinSpec) (j t : ℕ) → t < start_of w j → in_window w j t ≡ false
before-window w j t low = ap (λ b. b && nat_lt t (end_of w j)) (lt-leb (start_of w j) t low)

any-none : (q : Given → Bool) (gs : List Given) → AllByRecursion (λ g. q g ≡ false) gs → list_any q gs ≡ false
any-none q [] h = refl
any-none q (g ∷ gs) h = ap (λ b. b || list_any q gs) h.0 ∙ any-none q gs h.1

filter-empty : (p : Given → Bool) (gs : List Given) → filter p gs ≡ [] → AllByRecursion (λ g. p g ≡ false) gs
filter-empty p [] e = tt
filter-empty p (g ∷ gs) e = by_cases (filter-empty p gs) (p g) refl e
  where
    by_cases : (filter p gs ≡ [] → AllByRecursion (λ g. p g ≡ false) gs) → (b : Bool) → p g ≡ b → cond b (g ∷ filter p gs) (filter p gs) ≡ [] → AllByRecursion (λ g. p g ≡ false) (g ∷ gs)
    by_cases later true f e = cc
    by_cases later false f e = (f, later e)

-- no record is at or after the start of window k
pub window-none : (w : WinSpec) (k : ℕ) (gs : List Given) → fits w ≡ true → filter (λ (g : Given). nat_le (start_of w k) g.time) gs ≡ [] → next_from k (windows_with w gs) ≡ None
window-none w k gs fit none =
    next-none k (windows_with w gs)
    (λ j low.
    list_any-windows w gs j fit
    ∙ any-none (λ (g : Given). in_window w j g.time) gs
    (All-by (λ (g : Given). nat_le (start_of w k) g.time ≡ false) (λ (g : Given). in_window w j g.time ≡ false)
    (λ g e. let a = leb-false (start_of w k) g.time e in let b = mul_mono k j w.slide low in before-window w j g.time (omega (arith, a, b)))
    gs (filter-empty (λ (g : Given). nat_le (start_of w k) g.time) gs none)))

-- the first that passes a test
pub first-passes : (p : Given → Bool) (gs : List Given) (g : Given) (rest : List Given) → filter p gs ≡ g ∷ rest → p g ≡ true
first-passes p gs g rest e = (subst (AllByRecursion (λ g. p g ≡ true)) e (All-passed p gs)).0

first-any : (p q : Given → Bool) (gs : List Given) (g : Given) (rest : List Given) → filter p gs ≡ g ∷ rest → q g ≡ true → list_any q gs ≡ true
first-any p q [] g rest e is = cc
first-any p q (x ∷ xs) g rest e is = by_cases (λ f. first-any p q xs g rest f is) (p x) e
  where
    by_cases : (filter p xs ≡ g ∷ rest → list_any q xs ≡ true) → (b : Bool) → cond b (x ∷ filter p xs) (filter p xs) ≡ g ∷ rest → (q x || list_any q xs) ≡ true
    by_cases later true e = or_left (q x) (list_any q xs) (ap (λ l. q (get_or l 0 g)) e ∙ is)
    by_cases later false e = or_right (q x) (list_any q xs) (later e)

first-least : (p : Given → Bool) (gs : List Given) (g : Given) (rest : List Given) → AreByTime gs → filter p gs ≡ g ∷ rest → AllByRecursion (λ (x : Given). p x ≡ true → g.time ≤ x.time) gs
first-least p [] g rest h e = tt
first-least p (x ∷ xs) g rest h e = by_cases (first-least p xs g rest (by_time-rest x xs h)) (p x) refl e
  where
    by_cases : (filter p xs ≡ g ∷ rest → AllByRecursion (λ (x : Given). p x ≡ true → g.time ≤ x.time) xs) → (b : Bool) → p x ≡ b → cond b (x ∷ filter p xs) (filter p xs) ≡ g ∷ rest
        → AllByRecursion (λ (x : Given). p x ≡ true → g.time ≤ x.time) (x ∷ xs)
    by_cases later true f e =
        let same : x.time ≡ g.time = ap (λ (l : List Given). (get_or l 0 g).time) e in
        (λ is. omega (arith, same), All-by (λ (y : Given). x.time ≤ y.time) (λ (y : Given). p y ≡ true → g.time ≤ y.time) (λ y low is. omega (arith, same, low)) xs (by_time-first x xs h))
    by_cases later false f e = (λ is. absurd (true≢false (sym is ∙ f)), later e)

-- the window that is next holds the first record at or after the start of window k
next-holds : (w : WinSpec) (k t : ℕ) → fits w ≡ true → start_of w k ≤ t → in_window w (max (first_window w t) k) t ≡ true
next-holds w k t fit low =
    let a = first-le-last w t fit in
    let b = le-div k t w.slide (moves_on w fit) low in
    among-window w (max (first_window w t) k) t (moves_on w fit) (omega arith) (omega (arith, a, b))

pub window-some : (w : WinSpec) (k : ℕ) (gs : List Given) (g : Given) (rest : List Given) → fits w ≡ true → AreByTime gs → filter (λ (g : Given). nat_le (start_of w k) g.time) gs ≡ g ∷ rest
    → next_from k (windows_with w gs) ≡ Some (max (first_window w g.time) k)
window-some w k gs g rest fit order e =
    next-some k m (windows_with w gs) (Rises-windows w gs)
    (list_any-windows w gs m fit ∙ first-any from (λ (g : Given). in_window w m g.time) gs g rest e (next-holds w k g.time fit (leb-true (start_of w k) g.time (first-passes from gs g rest e))))
    (omega arith)
    (λ j low before.
    list_any-windows w gs j fit
    ∙ any-none (λ (g : Given). in_window w j g.time) gs
    (All-by (λ (x : Given). from x ≡ true → g.time ≤ x.time) (λ (x : Given). in_window w j x.time ≡ false) (λ x least. outside j low before x least) gs (first-least from gs g rest order e)))
  where
    m : ℕ
    m = max (first_window w g.time) k

    from : Given → Bool
    from x = nat_le (start_of w k) x.time

    outside : (j : ℕ) → k ≤ j → j < max (first_window w g.time) k → (x : Given) → (nat_le (start_of w k) x.time ≡ true → g.time ≤ x.time) → in_window w j x.time ≡ false
    outside j low before x least = by_cases (nat_le (start_of w k) x.time) refl
      where
        by_cases : (b : Bool) → nat_le (start_of w k) x.time ≡ b → in_window w j x.time ≡ false
        by_cases true f =
            false_from_ne_true (in_window w j x.time)
            (λ holds.
            let among = (window-among w j x.time (moves_on w fit) holds).0 in
            let up = first-mono w g.time x.time (moves_on w fit) (least f) in
            absurd (omega (arith, low, before, among, up)))
        by_cases false f = let a = leb-false (start_of w k) x.time f in let b = mul_mono k j w.slide low in before-window w j x.time (omega (arith, a, b))

-- where it begins
pub next-start : (w : WinSpec) (k t : ℕ) → fits w ≡ true → start_of w k ≤ t → start_of w (max (first_window w t) k) ≤ t
next-start w k t fit low =
    let m = max (first_window w t) k in
    leb-true (start_of w m) t (and_parts (nat_le (start_of w m) t) (nat_lt t (end_of w m)) (next-holds w k t fit low)).0

-- ---- the numbers from one on and before another

some_same : (i m : ℕ) → ◌≡◌ {A = Option ℕ} (Some i) (Some m) → i ≡ m
some_same i m e = cc

next-low : (k m : ℕ) (ks : List ℕ) → next_from k ks ≡ Some m → k ≤ m
next-low k m [] e = cc
next-low k m (i ∷ ks) e = by_cases (next-low k m ks) (nat_le k i) refl e
  where
    by_cases : (next_from k ks ≡ Some m → k ≤ m) → (b : Bool) → nat_le k i ≡ b → cond b (Some i) (next_from k ks) ≡ Some m → k ≤ m
    by_cases later true f e = let a = leb-true k i f in let b = some_same i m e in omega (arith, a, b)
    by_cases later false f e = later e

between-skip : (k u i : ℕ) (ks : List ℕ) → i < k → filter (is_between k u) (i ∷ ks) ≡ filter (is_between k u) ks
between-skip k u i ks low = ap (λ b. cond (b && nat_lt i u) (i ∷ filter (is_between k u) ks) (filter (is_between k u) ks)) (lt-leb k i low)

pub between-none : (k u : ℕ) (ks : List ℕ) → next_from k ks ≡ None → filter (is_between k u) ks ≡ []
between-none k u [] e = refl
between-none k u (i ∷ ks) e = by_cases (between-none k u ks) (nat_le k i) refl e
  where
    by_cases : (next_from k ks ≡ None → filter (is_between k u) ks ≡ []) → (b : Bool) → nat_le k i ≡ b → cond b (Some i) (next_from k ks) ≡ None → filter (is_between k u) (i ∷ ks) ≡ []
    by_cases later true f e = cc
    by_cases later false f e = between-skip k u i ks (leb-false k i f) ∙ later e

-- of numbers above another the bound below does not matter
between-above : (k l u : ℕ) (ks : List ℕ) → AllByRecursion (λ j. (k ≤ j) × (l ≤ j)) ks → filter (is_between k u) ks ≡ filter (is_between l u) ks
between-above k l u ks h =
    filter-same (is_between k u) (is_between l u) ks
    (All-by (λ j. (k ≤ j) × (l ≤ j)) (λ j. is_between k u j ≡ is_between l u j) (λ j low. ap (λ b. b && nat_lt j u) (le-leb k j low.0 ∙ sym (le-leb l j low.1))) ks h)

pub between-late : (k u m : ℕ) (ks : List ℕ) → Rises ks → next_from k ks ≡ Some m → u ≤ m → filter (is_between k u) ks ≡ []
between-late k u m [] rises e late = refl
between-late k u m (i ∷ ks) rises e late = by_cases (λ f. between-late k u m ks rises.1 f late) (nat_le k i) refl e
  where
    none : (js : List ℕ) → AllByRecursion (λ j. u ≤ j) js → filter (is_between k u) js ≡ []
    none [] h = refl
    none (j ∷ js) h = ap (λ b. cond b (j ∷ filter (is_between k u) js) (filter (is_between k u) js)) (and_no (nat_le k j) (nat_lt j u) (le-ltb j u h.0)) ∙ none js h.1
      where
        and_no : (a b : Bool) → b ≡ false → (a && b) ≡ false
        and_no true b h = h
        and_no false b h = refl

    by_cases : (next_from k ks ≡ Some m → filter (is_between k u) ks ≡ []) → (b : Bool) → nat_le k i ≡ b → cond b (Some i) (next_from k ks) ≡ Some m → filter (is_between k u) (i ∷ ks) ≡ []
    by_cases later true f e =
        let same = some_same i m e in
        none (i ∷ ks) (omega (arith, same, late), All-by (λ j. i < j) (λ j. u ≤ j) (λ j low. omega (arith, same, late, low)) ks rises.0)
    by_cases later false f e = between-skip k u i ks (leb-false k i f) ∙ later e

pub between-next : (k u m : ℕ) (ks : List ℕ) → Rises ks → next_from k ks ≡ Some m → m < u → filter (is_between k u) ks ≡ m ∷ filter (is_between (m + 1) u) ks
between-next k u m [] rises e early = cc
between-next k u m (i ∷ ks) rises e early = by_cases (λ f. between-next k u m ks rises.1 f early) (nat_le k i) refl e
  where
    by_cases : (next_from k ks ≡ Some m → filter (is_between k u) ks ≡ m ∷ filter (is_between (m + 1) u) ks) → (b : Bool) → nat_le k i ≡ b → cond b (Some i) (next_from k ks) ≡ Some m
        → filter (is_between k u) (i ∷ ks) ≡ m ∷ filter (is_between (m + 1) u) (i ∷ ks)
    by_cases later true f e =
        let same = some_same i m e in
        let low = leb-true k i f in
        ap (λ b. cond b (i ∷ filter (is_between k u) ks) (filter (is_between k u) ks)) (and_from (nat_le k i) (nat_lt i u) f (lt-ltb i u (omega (arith, same, early))))
        ∙ ap₂ (λ j l. j ∷ l) same
        (between-above k (m + 1) u ks (All-by (λ j. i < j) (λ j. (k ≤ j) × (m + 1 ≤ j)) (λ j up. (omega (arith, low, up), omega (arith, same, up))) ks rises.0)
        ∙ sym (between-skip (m + 1) u i ks (omega (arith, same))))
    by_cases later false f e =
        let a = leb-false k i f in
        let b = next-low k m ks e in
        between-skip k u i ks a ∙ later e ∙ ap (λ l. m ∷ l) (sym (between-skip (m + 1) u i ks (omega (arith, a, b))))

-- ---- the first of a slice

pub head-none : (l : List Given) → None ≡ slice_get l 0 → l ≡ []
head-none [] e = refl
head-none (g ∷ l) e = cc

pub head-some : (l : List Given) (g : Given) → Some g ≡ slice_get l 0 → l ≡ g ∷ drop 1 l
head-some [] g e = cc
head-some (x ∷ l) g e = ap (λ y. y ∷ l) (same x g e)
  where
    same : (x g : Given) → ◌≡◌ {A = Option Given} (Some g) (Some x) → x ≡ g
    same x g e = cc

-- what holds of each record holds of the first that passes a test
pub head-all : (P : Given → Type 0) (p : Given → Bool) (gs l : List Given) (g : Given) → l ≡ filter p gs → Some g ≡ slice_get l 0 → AllByRecursion P gs → P g
head-all P p gs l g e head h = (subst (AllByRecursion P) (sym e ∙ head-some l g head) (All-filter P p gs h)).0

-- ---- the rows of windows

text-append : (a b : List Row) → text_of_rows (a ++ b) ≡ text_of_rows a ++ text_of_rows b
text-append a b = flat_map-append row_text a b

-- the rows of the next window, and then those of the windows after it
pub rows-next : (p : Plan) (k until m : ℕ) (lefts rights : List Given) (out new : List ℕ) → next_from k (windows_with p.win lefts) ≡ Some m → m < until
    → new ≡ out ++ text_of_rows (rows_with p lefts rights m) → new ++ text_of_rows (rows_between p (m + 1) until lefts rights) ≡ out ++ text_of_rows (rows_between p k until lefts rights)
rows-next p k until m lefts rights out new next early is =
    let rest = text_of_rows (rows_between p (m + 1) until lefts rights) in
    ap (λ l. l ++ rest) is
    ∙ append_assoc out (text_of_rows (rows_with p lefts rights m)) rest
    ∙ ap (λ l. out ++ l)
    (sym (text-append (rows_with p lefts rights m) (rows_between p (m + 1) until lefts rights))
    ∙ ap (λ l. text_of_rows (flat_map (rows_with p lefts rights) l)) (sym (between-next k until m (windows_with p.win lefts) (Rises-windows p.win lefts) next early)))

-- no rows where the next window is not before the end, or there is none
pub rows-late : (p : Plan) (k until m : ℕ) (lefts rights : List Given) (out old : List ℕ) → next_from k (windows_with p.win lefts) ≡ Some m → until ≤ m
    → out ++ text_of_rows (rows_between p k until lefts rights) ≡ old → out ≡ old
rows-late p k until m lefts rights out old next late is =
    sym (append-nil out)
    ∙ ap (λ l. out ++ text_of_rows (flat_map (rows_with p lefts rights) l)) (sym (between-late k until m (windows_with p.win lefts) (Rises-windows p.win lefts) next late))
    ∙ is

pub rows-none : (p : Plan) (k until : ℕ) (lefts rights : List Given) (out old : List ℕ) → next_from k (windows_with p.win lefts) ≡ None
    → out ++ text_of_rows (rows_between p k until lefts rights) ≡ old → out ≡ old
rows-none p k until lefts rights out old next is =
    sym (append-nil out) ∙ ap (λ l. out ++ text_of_rows (flat_map (rows_with p lefts rights) l)) (sym (between-none k until (windows_with p.win lefts) next)) ∙ is

-- the next window begins where its number times the slide is in range
pub start-next : (w : WinSpec) (k : ℕ) → fits w ≡ true → start_of w k < 2 ^ 62 → start_of w (k + 1) < 2 ^ 63
start-next w k fit low =
    let a = and_parts (nat_le 1 w.slide && nat_le w.slide w.size && nat_le w.size 4294967296) (nat_le w.size (64 * w.slide)) fit in
    let b = and_parts (nat_le 1 w.slide && nat_le w.slide w.size) (nat_le w.size 4294967296) a.0 in
    let c = and_parts (nat_le 1 w.slide) (nat_le w.slide w.size) b.0 in
    let size = leb-true w.size 4294967296 b.1 in
    let slide = leb-true w.slide w.size c.1 in
    let more = one_more k w.slide in
    omega (arith, low, size, slide, more)
  where
    one_more : (a c : ℕ) → (a + 1) * c ≡ a * c + c
    one_more a c = grind arith

pub next-from-low : (k m : ℕ) (w : WinSpec) (gs : List Given) → next_from k (windows_with w gs) ≡ Some m → k ≤ m
next-from-low k m w gs e = next-low k m (windows_with w gs) e
