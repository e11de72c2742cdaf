-- The intervals of canonical conditions are the intervals that they were made of.
use Rattle.std.proofs.Common.{◌≡◌, ℕ, zero, suc, ◌<◌, ◌≤◌, ◌^◌, ◌==◌, Bool, true, false, if◌then◌else◌, ℤ, pos, negsuc, ◌+ℤ◌, ◌-ℤ◌, ◌≤ℤ◌, List, [], ◌∷◌, ◌++◌, length, get_or, refl, sym, ap, ap₂, ◌∙◌, arith, flat_map, ◌||◌, ◌*◌, ◌+◌, length-append, take, nat_lt}
use Rattle.std.specs.Int.{int_max, int_min}
use Rattle.std.specs.List.{AllByRecursion, list_any}
use Rattle.std.specs.Ordering.{int_eq}
use Rattle.std.proofs.lemmas.Bool.{cond_both, and_from, lt-ltb, eqb-true, eq-eqb, ne_eqb}
use Rattle.std.proofs.lemmas.List.{take_more}
use Rattle.std.proofs.lemmas.Bool.Decides.{Decides-int_eq, not_from_Decides}
use Rattle.std.proofs.lemmas.Int.{ints, clamps, by_lt_z}
use Rattle.as_base.specs.Query.{at}
use Rattle.as_base.specs.declared.query.Bounds.{Bounds}
use Rattle.query_text.specs.declared.ast.Op.{Op}
use Rattle.query_text.specs.declared.ast.Op.TheVariants.{Lt, Le, Eq, Ge, Gt}
use Rattle.query_text.specs.declared.ast.Cond.{Cond}
use Rattle.as_words.specs.Number.{IsSigned}
use Rattle.as_words.proofs.NumberLaws.{mag-signed}
use Rattle.query_text.specs.Spelling.{FitsConds}
use Rattle.query_text.specs.Names.{fields}
use Rattle.query_plan.specs.Limits.{low_by, high_by, low_of, high_of, bounds_of}
use Rattle.as_base.specs.Query.{lowest, highest}
use Rattle.as_base.specs.Canonical.{FitsBounds}
use Rattle.query_plan.specs.Text.{comparison, conds_of_interval, conds_of_ends, conds_of_high, conds_of}

-- the range of a field, as an order
pub above_lowest : (z : ℤ) → IsSigned z → lowest ≤ℤ z
above_lowest (pos n) h = omega (arith, ints)
above_lowest (negsuc n) h = omega (arith, ints, mag-signed (negsuc n) h)

pub below_highest : (z : ℤ) → IsSigned z → z ≤ℤ highest
below_highest (pos n) h = omega (arith, ints, mag-signed (pos n) h)
below_highest (negsuc n) h = omega (arith, ints)

pub in_range : (z : ℤ) → lowest ≤ℤ z → z ≤ℤ highest → IsSigned z
in_range (pos n) low high = and_from true (nat_lt n (2 ^ 63)) refl (lt-ltb n (2 ^ 63) (omega (arith, ints, high)))
in_range (negsuc n) low high = and_from (nat_lt n (2 ^ 63)) true (lt-ltb n (2 ^ 63) (omega (arith, ints, low))) refl

low_kept : (t : Bool) (told low : ℤ) → lowest ≤ℤ low → lowest ≤ℤ (if t then int_max told low else low)
low_kept true told low h = omega (arith, ints, clamps)
low_kept false told low h = h

high_kept : (t : Bool) (told high : ℤ) → high ≤ℤ highest → (if t then int_min told high else high) ≤ℤ highest
high_kept true told high h = omega (arith, ints, clamps)
high_kept false told high h = h

-- the ends stay within the numbers of a field
pub low_of-lowest : (f : ℕ) (cs : List Cond) → lowest ≤ℤ low_of f cs
low_of-lowest f [] = omega (arith, ints)
low_of-lowest f (c ∷ cs) = low_kept (c.field == f) (low_by c.op c.value) (low_of f cs) (low_of-lowest f cs)

pub high_of-highest : (f : ℕ) (cs : List Cond) → high_of f cs ≤ℤ highest
high_of-highest f [] = omega (arith, ints)
high_of-highest f (c ∷ cs) = high_kept (c.field == f) (high_by c.op c.value) (high_of f cs) (high_of-highest f cs)

low_append_by : (t : Bool) (told a b x : ℤ) → x ≡ int_max a b → (if t then int_max told x else x) ≡ int_max (if t then int_max told a else a) b
low_append_by true told a b x e = omega (arith, ints, clamps, e)
low_append_by false told a b x e = e

high_append_by : (t : Bool) (told a b x : ℤ) → x ≡ int_min a b → (if t then int_min told x else x) ≡ int_min (if t then int_min told a else a) b
high_append_by true told a b x e = omega (arith, ints, clamps, e)
high_append_by false told a b x e = e

-- the ends that two lists of conditions leave
pub low_of-append : (f : ℕ) (xs ys : List Cond) → low_of f (xs ++ ys) ≡ int_max (low_of f xs) (low_of f ys)
low_of-append f [] ys = omega (arith, ints, clamps, low_of-lowest f ys)
low_of-append f (c ∷ xs) ys =
    low_append_by (c.field == f) (low_by c.op c.value) (low_of f xs) (low_of f ys) (low_of f (xs ++ ys)) (low_of-append f xs ys)

pub high_of-append : (f : ℕ) (xs ys : List Cond) → high_of f (xs ++ ys) ≡ int_min (high_of f xs) (high_of f ys)
high_of-append f [] ys = omega (arith, ints, clamps, high_of-highest f ys)
high_of-append f (c ∷ xs) ys =
    high_append_by (c.field == f) (high_by c.op c.value) (high_of f xs) (high_of f ys) (high_of f (xs ++ ys)) (high_of-append f xs ys)

-- what the conditions of one field say of a field: its own ends, and of another field nothing
low_one : (t : Bool) (lo : ℤ) → lowest ≤ℤ lo → (if t then int_max lo lowest else lowest) ≡ (if t then lo else lowest)
low_one true lo h = omega (arith, ints, clamps)
low_one false lo h = refl

low_none : (t : Bool) (lo : ℤ) → lo ≡ lowest → (if t then int_max lowest lowest else lowest) ≡ (if t then lo else lowest)
low_none true lo e = omega (arith, ints, clamps, e)
low_none false lo e = refl

low_two : (t : Bool) (lo : ℤ) → lowest ≤ℤ lo
    → (if t then int_max lo (if t then int_max lowest lowest else lowest) else (if t then int_max lowest lowest else lowest)) ≡ (if t then lo else lowest)
low_two true lo h = omega (arith, ints, clamps)
low_two false lo h = refl

low_end : (t : Bool) (lo : ℤ) → lo ≡ lowest → lowest ≡ (if t then lo else lowest)
low_end true lo e = sym e
low_end false lo e = refl

pub low_of-interval : (f g : ℕ) (lo hi : ℤ) → lowest ≤ℤ lo → low_of f (conds_of_interval g lo hi) ≡ (if g == f then lo else lowest)
low_of-interval f g lo hi h =
    let Says : List Cond → Type 0 = λ cs. low_of f cs ≡ (if g == f then lo else lowest) in
    cond_both (int_eq lo hi) (comparison g Eq lo ∷ []) (conds_of_ends g lo hi) Says
    (λ e. low_one (g == f) lo h)
    (λ e. cond_both (int_eq hi highest) [] (comparison g Le hi ∷ []) (λ high. Says ((if int_eq lo lowest then [] else comparison g Ge lo ∷ []) ++ high))
    (λ k. cond_both (int_eq lo lowest) [] (comparison g Ge lo ∷ []) (λ low. Says (low ++ []))
    (λ m. low_end (g == f) lo ((Decides-int_eq lo lowest).0 m))
    (λ m. low_one (g == f) lo h))
    (λ k. cond_both (int_eq lo lowest) [] (comparison g Ge lo ∷ []) (λ low. Says (low ++ comparison g Le hi ∷ []))
    (λ m. low_none (g == f) lo ((Decides-int_eq lo lowest).0 m))
    (λ m. low_two (g == f) lo h)))

high_one : (t : Bool) (z hi : ℤ) → z ≡ hi → hi ≤ℤ highest → (if t then int_min z highest else highest) ≡ (if t then hi else highest)
high_one true z hi e h = omega (arith, ints, clamps, e)
high_one false z hi e h = refl

high_two : (t : Bool) (hi : ℤ) → hi ≤ℤ highest
    → (if t then int_min highest (if t then int_min hi highest else highest) else (if t then int_min hi highest else highest)) ≡ (if t then hi else highest)
high_two true hi h = omega (arith, ints, clamps)
high_two false hi h = refl

high_end : (t : Bool) (hi : ℤ) → hi ≡ highest → highest ≡ (if t then hi else highest)
high_end true hi e = sym e
high_end false hi e = refl

pub high_of-interval : (f g : ℕ) (lo hi : ℤ) → hi ≤ℤ highest → high_of f (conds_of_interval g lo hi) ≡ (if g == f then hi else highest)
high_of-interval f g lo hi h =
    let Says : List Cond → Type 0 = λ cs. high_of f cs ≡ (if g == f then hi else highest) in
    cond_both (int_eq lo hi) (comparison g Eq lo ∷ []) (conds_of_ends g lo hi) Says
    (λ e. high_one (g == f) lo hi ((Decides-int_eq lo hi).0 e) h)
    (λ e. cond_both (int_eq hi highest) [] (comparison g Le hi ∷ []) (λ high. Says ((if int_eq lo lowest then [] else comparison g Ge lo ∷ []) ++ high))
    (λ k. let top : hi ≡ highest = (Decides-int_eq hi highest).0 k in
    cond_both (int_eq lo lowest) [] (comparison g Ge lo ∷ []) (λ low. Says (low ++ []))
    (λ m. high_end (g == f) hi top)
    (λ m. high_one (g == f) highest hi (sym top) h))
    (λ k. cond_both (int_eq lo lowest) [] (comparison g Ge lo ∷ []) (λ low. Says (low ++ comparison g Le hi ∷ []))
    (λ m. high_one (g == f) hi hi refl h)
    (λ m. high_two (g == f) hi h)))

pub fits_at : (zs : List ℤ) (i : ℕ) → AllByRecursion IsSigned zs → IsSigned (at zs i)
fits_at [] i h = refl
fits_at (z ∷ zs) zero h = h.0
fits_at (z ∷ zs) (suc i) h = fits_at zs i h.1

low_either : (t any : Bool) (own lo : ℤ) → (t ≡ true → own ≡ lo) → lowest ≤ℤ lo → int_max (if t then own else lowest) (if any then lo else lowest) ≡ (if t || any then lo else lowest)
low_either true true own lo same h = omega (arith, ints, clamps, same refl)
low_either true false own lo same h = omega (arith, ints, clamps, same refl)
low_either false true own lo same h = omega (arith, ints, clamps)
low_either false false own lo same h = omega (arith, ints, clamps)

high_either : (t any : Bool) (own hi : ℤ) → (t ≡ true → own ≡ hi) → hi ≤ℤ highest → int_min (if t then own else highest) (if any then hi else highest) ≡ (if t || any then hi else highest)
high_either true true own hi same h = omega (arith, ints, clamps, same refl)
high_either true false own hi same h = omega (arith, ints, clamps, same refl)
high_either false true own hi same h = omega (arith, ints, clamps)
high_either false false own hi same h = omega (arith, ints, clamps)

abbrev in_field : Bounds → ℕ → List Cond
in_field b f = conds_of_interval f (at b.lo f) (at b.hi f)

-- the ends that the conditions of some fields leave of a field
low_fields : (b : Bounds) (f : ℕ) (gs : List ℕ) → FitsBounds b → low_of f (flat_map (in_field b) gs) ≡ (if list_any (λ g. g == f) gs then at b.lo f else lowest)
low_fields b f [] h = refl
low_fields b f (g ∷ gs) h =
    low_of-append f (in_field b g) (flat_map (in_field b) gs)
    ∙ ap₂ int_max (low_of-interval f g (at b.lo g) (at b.hi g) (above_lowest (at b.lo g) (fits_at b.lo g h.0.1))) (low_fields b f gs h)
    ∙ low_either (g == f) (list_any (λ g. g == f) gs) (at b.lo g) (at b.lo f) (λ e. ap (at b.lo) (eqb-true g f e)) (above_lowest (at b.lo f) (fits_at b.lo f h.0.1))

high_fields : (b : Bounds) (f : ℕ) (gs : List ℕ) → FitsBounds b → high_of f (flat_map (in_field b) gs) ≡ (if list_any (λ g. g == f) gs then at b.hi f else highest)
high_fields b f [] h = refl
high_fields b f (g ∷ gs) h =
    high_of-append f (in_field b g) (flat_map (in_field b) gs)
    ∙ ap₂ int_min (high_of-interval f g (at b.lo g) (at b.hi g) (below_highest (at b.hi g) (fits_at b.hi g h.1.1))) (high_fields b f gs h)
    ∙ high_either (g == f) (list_any (λ g. g == f) gs) (at b.hi g) (at b.hi f) (λ e. ap (at b.hi) (eqb-true g f e)) (below_highest (at b.hi f) (fits_at b.hi f h.1.1))

-- five numbers, by their places
five : (zs : List ℤ) → length zs ≡ 5 → at zs 0 ∷ at zs 1 ∷ at zs 2 ∷ at zs 3 ∷ at zs 4 ∷ [] ≡ zs
five (a ∷ b ∷ c ∷ d ∷ e ∷ []) l = refl
five [] l = absurd (omega (arith, l))
five (a ∷ []) l = absurd (omega (arith, l))
five (a ∷ b ∷ []) l = absurd (omega (arith, l))
five (a ∷ b ∷ c ∷ []) l = absurd (omega (arith, l))
five (a ∷ b ∷ c ∷ d ∷ []) l = absurd (omega (arith, l))
five (a ∷ b ∷ c ∷ d ∷ e ∷ f ∷ zs) l = absurd (omega (arith, l))

five_by : (g : ℕ → ℤ) (zs : List ℤ) → length zs ≡ 5 → g 0 ≡ at zs 0 → g 1 ≡ at zs 1 → g 2 ≡ at zs 2 → g 3 ≡ at zs 3 → g 4 ≡ at zs 4
    → g 0 ∷ g 1 ∷ g 2 ∷ g 3 ∷ g 4 ∷ [] ≡ zs
five_by g zs l e0 e1 e2 e3 e4 = rw (e0, e1, e2, e3, e4) (five zs l)

abbrev between : List ℤ → List ℤ → Bounds
between lo hi = record { lo = lo; hi = hi }

-- the canonical conditions leave the intervals that they were made of
pub bounds_of-conds_of : (b : Bounds) → FitsBounds b → bounds_of (conds_of b) ≡ b
bounds_of-conds_of b h =
    ap₂ between
    (five_by (λ f. low_of f (conds_of b)) b.lo h.0.0 (low_fields b 0 fields h) (low_fields b 1 fields h) (low_fields b 2 fields h) (low_fields b 3 fields h) (low_fields b 4 fields h))
    (five_by (λ f. high_of f (conds_of b)) b.hi h.1.0 (high_fields b 0 fields h) (high_fields b 1 fields h) (high_fields b 2 fields h) (high_fields b 3 fields h) (high_fields b 4 fields h))

-- what a condition in range tells is in range
low_by-highest : (op : Op) (z : ℤ) → z ≤ℤ highest → low_by op z ≤ℤ highest
low_by-highest Lt z h = cond_both (int_eq z lowest) highest lowest (λ x. x ≤ℤ highest) (λ e. omega (arith, ints)) (λ e. omega (arith, ints))
low_by-highest Le z h = omega (arith, ints)
low_by-highest Eq z h = h
low_by-highest Ge z h = h
low_by-highest Gt z h =
    cond_both (int_eq z highest) highest (z +ℤ pos 1) (λ x. x ≤ℤ highest) (λ e. omega (arith, ints))
    (λ e. let apart : z ≡ highest → ⊥ = not_from_Decides (int_eq z highest) (Decides-int_eq z highest) e in
    by_lt_z z highest (λ l. omega (arith, ints, l)) (λ l. absurd (apart (omega (arith, ints, l, h)))))

high_by-lowest : (op : Op) (z : ℤ) → lowest ≤ℤ z → lowest ≤ℤ high_by op z
high_by-lowest Lt z h =
    cond_both (int_eq z lowest) lowest (z -ℤ pos 1) (λ x. lowest ≤ℤ x) (λ e. omega (arith, ints))
    (λ e. let apart : z ≡ lowest → ⊥ = not_from_Decides (int_eq z lowest) (Decides-int_eq z lowest) e in
    by_lt_z lowest z (λ l. omega (arith, ints, l)) (λ l. absurd (apart (omega (arith, ints, l, h)))))
high_by-lowest Le z h = h
high_by-lowest Eq z h = h
high_by-lowest Ge z h = omega (arith, ints)
high_by-lowest Gt z h = cond_both (int_eq z highest) lowest highest (λ x. lowest ≤ℤ x) (λ e. omega (arith, ints)) (λ e. omega (arith, ints))

low_under : (t : Bool) (told low : ℤ) → told ≤ℤ highest → low ≤ℤ highest → (if t then int_max told low else low) ≤ℤ highest
low_under true told low h k = omega (arith, ints, clamps)
low_under false told low h k = k

high_over : (t : Bool) (told high : ℤ) → lowest ≤ℤ told → lowest ≤ℤ high → lowest ≤ℤ (if t then int_min told high else high)
high_over true told high h k = omega (arith, ints, clamps)
high_over false told high h k = k

low_of-fits : (f : ℕ) (cs : List Cond) → FitsConds cs → low_of f cs ≤ℤ highest
low_of-fits f [] h = omega (arith, ints)
low_of-fits f (c ∷ cs) h =
    low_under (c.field == f) (low_by c.op c.value) (low_of f cs) (low_by-highest c.op c.value (below_highest c.value h.0.1)) (low_of-fits f cs h.1)

high_of-fits : (f : ℕ) (cs : List Cond) → FitsConds cs → lowest ≤ℤ high_of f cs
high_of-fits f [] h = omega (arith, ints)
high_of-fits f (c ∷ cs) h =
    high_over (c.field == f) (high_by c.op c.value) (high_of f cs) (high_by-lowest c.op c.value (above_lowest c.value h.0.1)) (high_of-fits f cs h.1)

low_fits : (f : ℕ) (cs : List Cond) → FitsConds cs → IsSigned (low_of f cs)
low_fits f cs h = in_range (low_of f cs) (low_of-lowest f cs) (low_of-fits f cs h)

high_fits : (f : ℕ) (cs : List Cond) → FitsConds cs → IsSigned (high_of f cs)
high_fits f cs h = in_range (high_of f cs) (high_of-fits f cs h) (high_of-highest f cs)

-- the intervals that conditions in range leave are in range
pub bounds_of-fits : (cs : List Cond) → FitsConds cs → FitsBounds (bounds_of cs)
bounds_of-fits cs h = (
  (refl, (low_fits 0 cs h, (low_fits 1 cs h, (low_fits 2 cs h, (low_fits 3 cs h, (low_fits 4 cs h, tt)))))),
  (refl, (high_fits 0 cs h, (high_fits 1 cs h, (high_fits 2 cs h, (high_fits 3 cs h, (high_fits 4 cs h, tt)))))),
)

FitsConds-append : (xs ys : List Cond) → FitsConds xs → FitsConds ys → FitsConds (xs ++ ys)
FitsConds-append [] ys h k = k
FitsConds-append (c ∷ xs) ys h k = (h.0, FitsConds-append xs ys h.1 k)

interval_fits : (f : ℕ) (lo hi : ℤ) → f ≤ 4 → IsSigned lo → IsSigned hi → FitsConds (conds_of_interval f lo hi)
interval_fits f lo hi h low high =
    cond_both (int_eq lo hi) (comparison f Eq lo ∷ []) (conds_of_ends f lo hi) FitsConds
    (λ e. ((h, low), tt))
    (λ e. FitsConds-append (if int_eq lo lowest then [] else comparison f Ge lo ∷ []) (conds_of_high f hi)
    (cond_both (int_eq lo lowest) [] (comparison f Ge lo ∷ []) FitsConds (λ k. tt) (λ k. ((h, low), tt)))
    (cond_both (int_eq hi highest) [] (comparison f Le hi ∷ []) FitsConds (λ k. tt) (λ k. ((h, high), tt))))

fields_fit : (b : Bounds) (gs : List ℕ) → FitsBounds b → AllByRecursion (λ g. g ≤ 4) gs → FitsConds (flat_map (in_field b) gs)
fields_fit b [] h k = tt
fields_fit b (g ∷ gs) h k =
    FitsConds-append (in_field b g) (flat_map (in_field b) gs)
    (interval_fits g (at b.lo g) (at b.hi g) k.0 (fits_at b.lo g h.0.1) (fits_at b.hi g h.1.1)) (fields_fit b gs h k.1)

-- the canonical conditions are in range
pub conds_of-fits : (b : Bounds) → FitsBounds b → FitsConds (conds_of b)
conds_of-fits b h = fields_fit b fields h (omega arith, (omega arith, (omega arith, (omega arith, (omega arith, tt)))))

-- there are few of them
interval_few : (f : ℕ) (lo hi : ℤ) → length (conds_of_interval f lo hi) ≤ 2
interval_few f lo hi =
    cond_both (int_eq lo hi) (comparison f Eq lo ∷ []) (conds_of_ends f lo hi) (λ cs. length cs ≤ 2)
    (λ e. omega arith)
    (λ e. cond_both (int_eq hi highest) [] (comparison f Le hi ∷ []) (λ high. length ((if int_eq lo lowest then [] else comparison f Ge lo ∷ []) ++ high) ≤ 2)
    (λ k. cond_both (int_eq lo lowest) [] (comparison f Ge lo ∷ []) (λ low. length (low ++ []) ≤ 2) (λ m. omega arith) (λ m. omega arith))
    (λ k. cond_both (int_eq lo lowest) [] (comparison f Ge lo ∷ []) (λ low. length (low ++ comparison f Le hi ∷ []) ≤ 2) (λ m. omega arith) (λ m. omega arith)))

fields_few : (b : Bounds) (gs : List ℕ) → length (flat_map (in_field b) gs) ≤ 2 * length gs
fields_few b [] = omega arith
fields_few b (g ∷ gs) =
    omega (arith, length-append (in_field b g) (flat_map (in_field b) gs), interval_few g (at b.lo g) (at b.hi g), fields_few b gs)

pub conds_of-few : (b : Bounds) → length (conds_of b) ≤ 10
conds_of-few b = fields_few b fields

-- one condition more
abbrev pub no_cond : Cond
no_cond = record { field = 0; op = Lt; value = pos 0 }

low_with : (t : Bool) (told low : ℤ) → t ≡ true → lowest ≤ℤ low → int_max low told ≡ int_max low (if t then int_max told lowest else lowest)
low_with true told low e h = omega (arith, ints, clamps)
low_with false told low e h = cc e

low_without : (t : Bool) (told low : ℤ) → t ≡ false → lowest ≤ℤ low → low ≡ int_max low (if t then int_max told lowest else lowest)
low_without true told low e h = cc e
low_without false told low e h = omega (arith, ints, clamps)

high_with : (t : Bool) (told high : ℤ) → t ≡ true → high ≤ℤ highest → int_min high told ≡ int_min high (if t then int_min told highest else highest)
high_with true told high e h = omega (arith, ints, clamps)
high_with false told high e h = cc e

high_without : (t : Bool) (told high : ℤ) → t ≡ false → high ≤ℤ highest → high ≡ int_min high (if t then int_min told highest else highest)
high_without true told high e h = cc e
high_without false told high e h = omega (arith, ints, clamps)

low_push : (f i : ℕ) (cs : List Cond) → i < length cs → int_max (low_of f (take i cs)) (low_of f (get_or cs i no_cond ∷ [])) ≡ low_of f (take (i + 1) cs)
low_push f i cs h = sym (ap (low_of f) (take_more cs i no_cond h) ∙ low_of-append f (take i cs) (get_or cs i no_cond ∷ []))

high_push : (f i : ℕ) (cs : List Cond) → i < length cs → int_min (high_of f (take i cs)) (high_of f (get_or cs i no_cond ∷ [])) ≡ high_of f (take (i + 1) cs)
high_push f i cs h = sym (ap (high_of f) (take_more cs i no_cond h) ∙ high_of-append f (take i cs) (get_or cs i no_cond ∷ []))

pub low_of-more : (f i : ℕ) (cs : List Cond) (low told next : ℤ) → i < length cs → low ≡ low_of f (take i cs) → (get_or cs i no_cond).field ≡ f
    → told ≡ low_by (get_or cs i no_cond).op (get_or cs i no_cond).value → next ≡ int_max low told → next ≡ low_of f (take (i + 1) cs)
low_of-more f i cs low told next h e own given more =
    let c : Cond = get_or cs i no_cond in
    more ∙ ap₂ int_max e given
    ∙ low_with (c.field == f) (low_by c.op c.value) (low_of f (take i cs)) (eq-eqb c.field f own) (low_of-lowest f (take i cs))
    ∙ low_push f i cs h

pub low_of-kept : (f i : ℕ) (cs : List Cond) (low : ℤ) → i < length cs → low ≡ low_of f (take i cs) → ¬ ((get_or cs i no_cond).field ≡ f) → low ≡ low_of f (take (i + 1) cs)
low_of-kept f i cs low h e other =
    let c : Cond = get_or cs i no_cond in
    e ∙ low_without (c.field == f) (low_by c.op c.value) (low_of f (take i cs)) (ne_eqb c.field f other) (low_of-lowest f (take i cs)) ∙ low_push f i cs h

pub high_of-more : (f i : ℕ) (cs : List Cond) (high told next : ℤ) → i < length cs → high ≡ high_of f (take i cs) → (get_or cs i no_cond).field ≡ f
    → told ≡ high_by (get_or cs i no_cond).op (get_or cs i no_cond).value → next ≡ int_min high told → next ≡ high_of f (take (i + 1) cs)
high_of-more f i cs high told next h e own given more =
    let c : Cond = get_or cs i no_cond in
    more ∙ ap₂ int_min e given
    ∙ high_with (c.field == f) (high_by c.op c.value) (high_of f (take i cs)) (eq-eqb c.field f own) (high_of-highest f (take i cs))
    ∙ high_push f i cs h

pub high_of-kept : (f i : ℕ) (cs : List Cond) (high : ℤ) → i < length cs → high ≡ high_of f (take i cs) → ¬ ((get_or cs i no_cond).field ≡ f) → high ≡ high_of f (take (i + 1) cs)
high_of-kept f i cs high h e other =
    let c : Cond = get_or cs i no_cond in
    e ∙ high_without (c.field == f) (high_by c.op c.value) (high_of f (take i cs)) (ne_eqb c.field f other) (high_of-highest f (take i cs)) ∙ high_push f i cs h
