-- Which windows hold some of the records, and what one more record changes of them.
use Rattle.std.proofs.Common.{◌≡◌, ℕ, ◌+◌, ◌-◌, ◌≤◌, ◌<◌, nat_lt, nat_le, eqb, Bool, true, false, true≢false, cond, ◌&&◌, List, [], ◌∷◌, ◌++◌, refl, sym, ap, ◌∙◌, zero, suc, append-nil, arith}
use Rattle.std.specs.List.{filter, flat_map, list_any, range_with_len, AllByRecursion}
use Rattle.std.proofs.lemmas.Bool.{and_parts, and_from, leb-true, ltb-true, le-leb, lt-ltb, false_from_ne_true}
use Rattle.std.proofs.lemmas.Grind.{flat_map-append}
use Rattle.std.proofs.lemmas.List.Elements.{filter-append}
use Rattle.as_base.specs.declared.item.Given.{Given}
use Rattle.as_base.specs.declared.windows.WinSpec.{WinSpec}
use Rattle.as_base.specs.Windows.{fits, in_window, first_window, last_window, windows_at}
use Rattle.as_base.proofs.WindowLaws.{moves_on, first-le-last, window-among, among-window}
use Rattle.views.specs.Passed.{rising_once, windows_with, within}
use Rattle.views.proofs.ListLaws.{All-by, All-every, filter-none, list_any-same, list_any-flat_map}
use Rattle.views.proofs.RisingLaws.{Rises, Rises-rising_once, list_any-rising_once, list_any-range, filter-rising_once}

pub Rises-windows : (w : WinSpec) (gs : List Given) → Rises (windows_with w gs)
Rises-windows w gs = Rises-rising_once (flat_map (λ (g : Given). windows_at w g.time) gs)

reaches : (a b k : ℕ) → a ≤ k → k ≤ b → k < a + (b - a + 1)
reaches a b k low high = omega arith

stays : (a b k : ℕ) → a ≤ b → k < a + (b - a + 1) → k ≤ b
stays a b k up within = omega arith

-- window k is among those at a time just where it holds the time
pub list_any-windows_at : (w : WinSpec) (t k : ℕ) → fits w ≡ true → list_any (λ j. eqb j k) (windows_at w t) ≡ in_window w k t
list_any-windows_at w t k h = list_any-range k (first_window w t) (last_window w t - first_window w t + 1) ∙ go (in_window w k t) refl
  where
    go : (b : Bool) → in_window w k t ≡ b → (nat_le (first_window w t) k && nat_lt k (first_window w t + (last_window w t - first_window w t + 1))) ≡ b
    go true e =
        let among = window-among w k t (moves_on w h) e in
        let low = among.0 in
        let high = among.1 in
        and_from (nat_le (first_window w t) k) (nat_lt k (first_window w t + (last_window w t - first_window w t + 1)))
        (le-leb (first_window w t) k low)
        (lt-ltb k (first_window w t + (last_window w t - first_window w t + 1)) (reaches (first_window w t) (last_window w t) k low high))
    go false e =
        false_from_ne_true (nat_le (first_window w t) k && nat_lt k (first_window w t + (last_window w t - first_window w t + 1)))
        (λ both.
        let parts = and_parts (nat_le (first_window w t) k) (nat_lt k (first_window w t + (last_window w t - first_window w t + 1))) both in
        let low = leb-true (first_window w t) k parts.0 in
        let high = ltb-true k (first_window w t + (last_window w t - first_window w t + 1)) parts.1 in
        true≢false (sym (among-window w k t (moves_on w h) low (stays (first_window w t) (last_window w t) k (first-le-last w t h) high)) ∙ e))

-- window k is among those that hold some of the records just where it holds one
pub list_any-windows : (w : WinSpec) (gs : List Given) (k : ℕ) → fits w ≡ true → list_any (λ j. eqb j k) (windows_with w gs) ≡ list_any (λ (g : Given). in_window w k g.time) gs
list_any-windows w gs k h =
    list_any-rising_once (λ j. eqb j k) (flat_map (λ (g : Given). windows_at w g.time) gs)
    ∙ list_any-flat_map (λ j. eqb j k) (λ (g : Given). windows_at w g.time) gs
    ∙ list_any-same (λ (g : Given). list_any (λ j. eqb j k) (windows_at w g.time)) (λ (g : Given). in_window w k g.time) gs
    (All-every (λ (g : Given). list_any (λ j. eqb j k) (windows_at w g.time) ≡ in_window w k g.time) (λ g. list_any-windows_at w g.time k h) gs)

All-range : (a n : ℕ) → AllByRecursion (λ k. (a ≤ k) × (k < a + n)) (range_with_len a n)
All-range a zero = tt
All-range a (suc n) = (
  (omega arith, omega arith),
  All-by (λ k. (a + 1 ≤ k) × (k < (a + 1) + n)) (λ k. (a ≤ k) × (k < a + suc n)) (λ k h. let low = h.0 in let high = h.1 in (omega (arith, low), omega (arith, high))) (range_with_len (a + 1) n) (All-range (a + 1) n),
)

-- each window at a time holds it
pub All-windows_at : (w : WinSpec) (t : ℕ) → fits w ≡ true → AllByRecursion (λ k. in_window w k t ≡ true) (windows_at w t)
All-windows_at w t h =
    All-by (λ k. (first_window w t ≤ k) × (k < first_window w t + (last_window w t - first_window w t + 1))) (λ k. in_window w k t ≡ true)
    (λ k among. among-window w k t (moves_on w h) among.0 (stays (first_window w t) (last_window w t) k (first-le-last w t h) among.1))
    (windows_at w t) (All-range (first_window w t) (last_window w t - first_window w t + 1))

-- Where a test passes none of the windows of one more record: it passes the same windows as before.
pub filter-windows-push : (p : ℕ → Bool) (w : WinSpec) (gs : List Given) (g : Given) (b : Bool) → fits w ≡ true → (b ≡ true → (k : ℕ) → in_window w k g.time ≡ true → p k ≡ false)
    → filter p (windows_with w (gs ++ cond b (g ∷ []) [])) ≡ filter p (windows_with w gs)
filter-windows-push p w gs g false fit none = ap (λ l. filter p (windows_with w l)) (append-nil gs)
filter-windows-push p w gs g true fit none =
    filter-rising_once p (flat_map (λ (g : Given). windows_at w g.time) (gs ++ g ∷ []))
    ∙ ap rising_once (ap (filter p) (flat_map-append (λ (g : Given). windows_at w g.time) gs (g ∷ []))
    ∙ filter-append p (flat_map (λ (g : Given). windows_at w g.time) gs) (windows_at w g.time ++ [])
    ∙ ap (λ l. filter p (flat_map (λ (g : Given). windows_at w g.time) gs) ++ l) (ap (filter p) (append-nil (windows_at w g.time))
    ∙ filter-none p (windows_at w g.time) (All-by (λ k. in_window w k g.time ≡ true) (λ k. p k ≡ false) (none refl) (windows_at w g.time) (All-windows_at w g.time fit)))
    ∙ append-nil (filter p (flat_map (λ (g : Given). windows_at w g.time) gs)))
    ∙ sym (filter-rising_once p (flat_map (λ (g : Given). windows_at w g.time) gs))

-- a window that does not hold one more record has the same records as before
pub within-push : (w : WinSpec) (k : ℕ) (gs : List Given) (g : Given) (b : Bool) → (b ≡ true → in_window w k g.time ≡ false) → within w k (gs ++ cond b (g ∷ []) []) ≡ within w k gs
within-push w k gs g false none = ap (within w k) (append-nil gs)
within-push w k gs g true none =
    filter-append (λ (g : Given). in_window w k g.time) gs (g ∷ [])
    ∙ ap (λ l. within w k gs ++ l) (filter-none (λ (g : Given). in_window w k g.time) (g ∷ []) (none refl, tt))
    ∙ append-nil (within w k gs)
