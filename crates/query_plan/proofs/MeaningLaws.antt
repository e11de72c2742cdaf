-- A record is within the intervals that conditions leave just where it meets the conditions.
use Rattle.std.proofs.Common.{◌≡◌, ℕ, zero, suc, ◌≤◌, ◌&&◌, Bool, true, false, if◌then◌else◌, ℤ, pos, ◌+ℤ◌, ◌-ℤ◌, ◌≤ℤ◌, ◌<ℤ◌, List, [], ◌∷◌, refl, sym, ap, ap₂, ◌∙◌, arith}
use Rattle.std.specs.Prelude.{int_lt, int_le}
use Rattle.std.specs.Int.{int_max, int_min}
use Rattle.std.specs.Ordering.{int_eq}
use Rattle.std.proofs.lemmas.Bool.{and_parts, and_from}
use Rattle.std.proofs.lemmas.Bool.Decides.{Decides-int_eq, same_from_decides}
use Rattle.std.proofs.lemmas.Int.{ints, clamps, by_lt_z}
use Rattle.as_base.specs.Query.{is_within, holds_all}
use Rattle.as_base.specs.declared.item.Given.{Given}
use Rattle.query_text.specs.declared.ast.Op.{Op}
use Rattle.query_text.specs.declared.ast.Op.TheVariants.{Lt, Le, Eq, Ge, Gt}
use Rattle.query_text.specs.declared.ast.Cond.{Cond}
use Rattle.as_words.specs.Number.{IsSigned}
use Rattle.query_text.specs.Spelling.{FitsConds}
use Rattle.query_plan.specs.Limits.{low_by, high_by, low_of, high_of, bounds_of}
use Rattle.as_base.specs.Query.{lowest, highest}
use Rattle.query_plan.specs.Meaning.{compares, field_value, meets_all, FitsGiven}
use Rattle.query_plan.proofs.LimitLaws.{above_lowest, below_highest, fits_at}

-- orders and their tests
at_most : (a b : ℤ) → a ≤ℤ b → int_le a b ≡ true
at_most a b h = grind (arith, ints)

above : (a b : ℤ) → b <ℤ a → int_le a b ≡ false
above a b h = grind (arith, ints)

under : (a b : ℤ) → a <ℤ b → int_lt a b ≡ true
under a b h = grind (arith, ints)

not_under : (a b : ℤ) → b ≤ℤ a → int_lt a b ≡ false
not_under a b h = grind (arith, ints)

both : (x y z : Bool) → x ≡ true → y ≡ z → (x && y) ≡ z
both true y z h e = e
both false y z h e = cc h

both_first : (x y : Bool) → y ≡ true → (x && y) ≡ x
both_first true y h = h
both_first false y h = refl

level : (a b : ℤ) → int_le b a ≡ true → int_le a b ≡ true → a ≡ b
level a b h k = grind (arith, ints)

neither : (x y : Bool) → x ≡ false → (x && y) ≡ false
neither false y h = refl
neither true y h = cc h

nor : (x y : Bool) → y ≡ false → (x && y) ≡ false
nor true y h = h
nor false y h = refl

-- the interval of a comparison
at_most-pred : (n z : ℤ) → int_le z (n -ℤ pos 1) ≡ int_lt z n
at_most-pred n z =
    by_lt_z z n
    (λ l. at_most z (n -ℤ pos 1) (omega (arith, ints, l)) ∙ sym (under z n l))
    (λ l. above z (n -ℤ pos 1) (omega (arith, ints, l)) ∙ sym (not_under z n l))

at_least-next : (n z : ℤ) → int_le (n +ℤ pos 1) z ≡ int_lt n z
at_least-next n z =
    by_lt_z n z
    (λ l. at_most (n +ℤ pos 1) z (omega (arith, ints, l)) ∙ sym (under n z l))
    (λ l. above (n +ℤ pos 1) z (omega (arith, ints, l)) ∙ sym (not_under n z l))

crossed : (z : ℤ) → (int_le highest z && int_le z lowest) ≡ false
crossed z =
    by_lt_z z highest
    (λ l. neither (int_le highest z) (int_le z lowest) (above highest z l))
    (λ l. nor (int_le highest z) (int_le z lowest) (above z lowest (omega (arith, ints, l))))

less_by : (t : Bool) (n z : ℤ) → (t ≡ true → n ≡ lowest) → lowest ≤ℤ z → is_within (if t then highest else lowest) z (if t then lowest else n -ℤ pos 1) ≡ int_lt z n
less_by true n z e low = crossed z ∙ sym (not_under z n (omega (arith, ints, e refl, low)))
less_by false n z e low = both (int_le lowest z) (int_le z (n -ℤ pos 1)) (int_lt z n) (at_most lowest z low) (at_most-pred n z)

more_by : (t : Bool) (n z : ℤ) → (t ≡ true → n ≡ highest) → z ≤ℤ highest → is_within (if t then highest else n +ℤ pos 1) z (if t then lowest else highest) ≡ int_lt n z
more_by true n z e high = crossed z ∙ sym (not_under n z (omega (arith, ints, e refl, high)))
more_by false n z e high = both_first (int_le (n +ℤ pos 1) z) (int_le z highest) (at_most z highest high) ∙ at_least-next n z

equal_within : (n z : ℤ) → (int_le n z && int_le z n) ≡ int_eq z n
equal_within n z =
    same_from_decides (int_le n z && int_le z n) (int_eq z n) (
      (λ h. let parts = and_parts (int_le n z) (int_le z n) h in level z n parts.0 parts.1),
      (λ e. and_from (int_le n z) (int_le z n) (at_most n z (omega (arith, ints, e))) (at_most z n (omega (arith, ints, e)))),
    )
    (Decides-int_eq z n)

told_within : (op : Op) (n z : ℤ) → lowest ≤ℤ z → z ≤ℤ highest → is_within (low_by op n) z (high_by op n) ≡ compares z op n
told_within Lt n z low high = less_by (int_eq n lowest) n z (Decides-int_eq n lowest).0 low
told_within Le n z low high = both (int_le lowest z) (int_le z n) (int_le z n) (at_most lowest z low) refl
told_within Eq n z low high = equal_within n z
told_within Ge n z low high = both_first (int_le n z) (int_le z highest) (at_most z highest high)
told_within Gt n z low high = more_by (int_eq n highest) n z (Decides-int_eq n highest).0 high

-- two intervals at once
above_both : (a b z : ℤ) → int_le (int_max a b) z ≡ (int_le a z && int_le b z)
above_both a b z =
    by_lt_z z a
    (λ l. above (int_max a b) z (omega (arith, ints, clamps, l)) ∙ sym (neither (int_le a z) (int_le b z) (above a z l)))
    (λ la. by_lt_z z b
    (λ l. above (int_max a b) z (omega (arith, ints, clamps, l)) ∙ sym (nor (int_le a z) (int_le b z) (above b z l)))
    (λ lb. at_most (int_max a b) z (omega (arith, ints, clamps, la, lb)) ∙ sym (and_from (int_le a z) (int_le b z) (at_most a z la) (at_most b z lb))))

below_both : (c d z : ℤ) → int_le z (int_min c d) ≡ (int_le z c && int_le z d)
below_both c d z =
    by_lt_z c z
    (λ l. above z (int_min c d) (omega (arith, ints, clamps, l)) ∙ sym (neither (int_le z c) (int_le z d) (above z c l)))
    (λ lc. by_lt_z d z
    (λ l. above z (int_min c d) (omega (arith, ints, clamps, l)) ∙ sym (nor (int_le z c) (int_le z d) (above z d l)))
    (λ ld. at_most z (int_min c d) (omega (arith, ints, clamps, lc, ld)) ∙ sym (and_from (int_le z c) (int_le z d) (at_most z c lc) (at_most z d ld))))

by_pairs : (p q r s : Bool) → ((p && q) && (r && s)) ≡ ((p && r) && (q && s))
by_pairs true true r s = refl
by_pairs true false true s = refl
by_pairs true false false s = refl
by_pairs false q r s = refl

within_both : (a b z c d : ℤ) → is_within (int_max a b) z (int_min c d) ≡ (is_within a z c && is_within b z d)
within_both a b z c d =
    ap₂ (λ x y. x && y) (above_both a b z) (below_both c d z) ∙ by_pairs (int_le a z) (int_le b z) (int_le z c) (int_le z d)

-- a test moved to the front
to_front-0 : (m a b c : Bool) → (((m && a) && b) && c) ≡ (m && ((a && b) && c))
to_front-0 true a b c = refl
to_front-0 false a b c = refl

to_front-1 : (m a b c d : Bool) → ((a && ((m && b) && c)) && d) ≡ (m && ((a && (b && c)) && d))
to_front-1 true a b c d = refl
to_front-1 false true b c d = refl
to_front-1 false false b c d = refl

to_front-2 : (m a b c d : Bool) → ((a && (b && (m && c))) && d) ≡ (m && ((a && (b && c)) && d))
to_front-2 true a b c d = refl
to_front-2 false true true c d = refl
to_front-2 false true false c d = refl
to_front-2 false false b c d = refl

to_front-3 : (m a b c : Bool) → (a && ((m && b) && c)) ≡ (m && (a && (b && c)))
to_front-3 true a b c = refl
to_front-3 false true b c = refl
to_front-3 false false b c = refl

to_front-4 : (m a b c : Bool) → (a && (b && (m && c))) ≡ (m && (a && (b && c)))
to_front-4 true a b c = refl
to_front-4 false true true c = refl
to_front-4 false true false c = refl
to_front-4 false false b c = refl

abbrev made : ℕ → Op → ℤ → Cond
made f op n = record { field = f; op = op; value = n }

-- the field is within the interval that the conditions leave of it
abbrev within : List Cond → Given → ℕ → Bool
within cs g f = is_within (low_of f cs) (field_value g f) (high_of f cs)

within_more : (f : ℕ) (op : Op) (n : ℤ) (cs : List Cond) (g : Given)
    → is_within (int_max (low_by op n) (low_of f cs)) (field_value g f) (int_min (high_by op n) (high_of f cs)) ≡ (is_within (low_by op n) (field_value g f) (high_by op n) && within cs g f)
within_more f op n cs g = within_both (low_by op n) (low_of f cs) (field_value g f) (high_by op n) (high_of f cs)

holds_more : (f : ℕ) (op : Op) (n : ℤ) (cs : List Cond) (g : Given) → f ≤ 4
    → holds_all (bounds_of (made f op n ∷ cs)) g ≡ (is_within (low_by op n) (field_value g f) (high_by op n) && holds_all (bounds_of cs) g)
holds_more zero op n cs g h =
    let W : ℕ → Bool = within cs g in
    ap (λ x. (x && (W 1 && W 2)) && (W 3 && W 4)) (within_more 0 op n cs g)
    ∙ to_front-0 (is_within (low_by op n) (field_value g 0) (high_by op n)) (W 0) (W 1 && W 2) (W 3 && W 4)
holds_more (suc zero) op n cs g h =
    let W : ℕ → Bool = within cs g in
    ap (λ x. (W 0 && (x && W 2)) && (W 3 && W 4)) (within_more 1 op n cs g)
    ∙ to_front-1 (is_within (low_by op n) (field_value g 1) (high_by op n)) (W 0) (W 1) (W 2) (W 3 && W 4)
holds_more (suc (suc zero)) op n cs g h =
    let W : ℕ → Bool = within cs g in
    ap (λ x. (W 0 && (W 1 && x)) && (W 3 && W 4)) (within_more 2 op n cs g)
    ∙ to_front-2 (is_within (low_by op n) (field_value g 2) (high_by op n)) (W 0) (W 1) (W 2) (W 3 && W 4)
holds_more (suc (suc (suc zero))) op n cs g h =
    let W : ℕ → Bool = within cs g in
    ap (λ x. (W 0 && (W 1 && W 2)) && (x && W 4)) (within_more 3 op n cs g)
    ∙ to_front-3 (is_within (low_by op n) (field_value g 3) (high_by op n)) (W 0 && (W 1 && W 2)) (W 3) (W 4)
holds_more (suc (suc (suc (suc zero)))) op n cs g h =
    let W : ℕ → Bool = within cs g in
    ap (λ x. (W 0 && (W 1 && W 2)) && (W 3 && x)) (within_more 4 op n cs g)
    ∙ to_front-4 (is_within (low_by op n) (field_value g 4) (high_by op n)) (W 0 && (W 1 && W 2)) (W 3) (W 4)
holds_more (suc (suc (suc (suc (suc f))))) op n cs g h = absurd (omega (arith, h))

in_all : (g : Given) (f : ℕ) → FitsGiven g → is_within lowest (field_value g f) highest ≡ true
in_all g f h =
    let fits : IsSigned (field_value g f) = fits_at (g.key ∷ g.v) f h in
    and_from (int_le lowest (field_value g f)) (int_le (field_value g f) highest) (at_most lowest (field_value g f) (above_lowest (field_value g f) fits)) (at_most (field_value g f) highest (below_highest (field_value g f) fits))

-- a record is within the intervals just where it meets each condition
pub holds_all-bounds_of : (cs : List Cond) (g : Given) → FitsConds cs → FitsGiven g → holds_all (bounds_of cs) g ≡ meets_all cs g
holds_all-bounds_of [] g h k =
    and_from _ _ (and_from _ _ (in_all g 0 k) (and_from _ _ (in_all g 1 k) (in_all g 2 k))) (and_from _ _ (in_all g 3 k) (in_all g 4 k))
holds_all-bounds_of (c ∷ cs) g h k =
    let fits : IsSigned (field_value g c.field) = fits_at (g.key ∷ g.v) c.field k in
    holds_more c.field c.op c.value cs g h.0.0
    ∙ ap₂ (λ x y. x && y) (told_within c.op c.value (field_value g c.field) (above_lowest (field_value g c.field) fits) (below_highest (field_value g c.field) fits)) (holds_all-bounds_of cs g h.1 k)
