-- The plan of a canonical plan's query is this plan, and each plan of a query is canonical.
use Rattle.std.proofs.Common.{◌≡◌, ℕ, ◌≤◌, ◌*◌, ◌==◌, ◌&&◌, ◌||◌, true, false, List, [], ◌∷◌, Result, Ok, Err, get_or, refl, sym, ap, ◌∙◌, subst, arith, nat_le}
use Rattle.std.proofs.lemmas.Bool.{cond_both, cond-true, cond-false, and_parts, leb-true, eqb-true, eq-eqb, ne_eqb}
use Rattle.as_base.specs.Windows.{fits}
use Rattle.as_base.specs.Stream.{place_of}
use Rattle.as_base.specs.declared.stream.StreamId.{StreamId}
use Rattle.as_base.specs.declared.stream.StreamId.TheVariants.{A, B, C, D}
use Rattle.as_base.specs.declared.query.Bounds.{Bounds}
use Rattle.as_base.specs.declared.query.Group.{Group}
use Rattle.as_base.specs.declared.query.Kind.{Kind}
use Rattle.as_base.specs.declared.query.Plan.{Plan}
use Rattle.as_base.specs.declared.windows.WinSpec.{WinSpec}
use Rattle.query_text.specs.declared.ast.Ast.{Ast}
use Rattle.query_text.specs.declared.ast.Cond.{Cond}
use Rattle.query_text.specs.declared.tree.Measure.{Measure}
use Rattle.query_text.specs.declared.tree.Window.{Window}
use Rattle.query_text.specs.declared.tree.Stem.{Stem}
use Rattle.query_text.specs.declared.tree.Head.{Head}
use Rattle.query_text.specs.Spelling.{WrittenQuery, FitsWindow, FitsConds, FitsRight, FitsText, size_and_slide, kind_of, tree, tree_of}
use Rattle.query_plan.specs.declared.planning.Misfit.{Misfit}
use Rattle.query_plan.specs.Limits.{bounds_of}
use Rattle.as_base.specs.Query.{unlimited}
use Rattle.query_plan.specs.Planning.{IsTree, is_stranger, names_stranger, names_twin, windows_of, window_of, plan_unchecked, plan}
use Rattle.as_base.specs.Canonical.{HasOneSide, IsCanonicalAs, IsCanonical, FitsBounds, FitsStreams, FitsPlan}
use Rattle.query_plan.specs.Text.{conds_of, written_window, head_as, right_conds_as, written_query}
use Rattle.query_plan.proofs.LimitLaws.{bounds_of-conds_of, bounds_of-fits, conds_of-fits}

-- what the limits of windows say
sizes_fit : (w : WinSpec) → fits w ≡ true → (w.slide ≤ w.size) × (w.size ≤ 4294967296)
sizes_fit w h =
    let three = and_parts (nat_le 1 w.slide && nat_le w.slide w.size && nat_le w.size 4294967296) (nat_le w.size (64 * w.slide)) h in
    let two = and_parts (nat_le 1 w.slide && nat_le w.slide w.size) (nat_le w.size 4294967296) three.0 in
    (leb-true w.slide w.size (and_parts (nat_le 1 w.slide) (nat_le w.slide w.size) two.0).1, leb-true w.size 4294967296 two.1)

-- all four streams are known where four are
known : (s : StreamId) → is_stranger 4 s ≡ false
known A = refl
known B = refl
known C = refl
known D = refl

both_known : (s t : StreamId) → (is_stranger 4 s || is_stranger 4 t) ≡ false
both_known A t = known t
both_known B t = known t
both_known C t = known t
both_known D t = known t

-- streams by their places
stream_at : ℕ → StreamId
stream_at n = get_or (A ∷ B ∷ C ∷ D ∷ []) n A

stream_at-place : (s : StreamId) → stream_at (place_of s) ≡ s
unfolding stream_at
stream_at-place A = refl
stream_at-place B = refl
stream_at-place C = refl
stream_at-place D = refl

pub place_injective : (s t : StreamId) → place_of s ≡ place_of t → s ≡ t
place_injective s t e = sym (stream_at-place s) ∙ ap stream_at e ∙ stream_at-place t

apart : (s t : StreamId) → ¬ (s ≡ t) → (place_of t == place_of s) ≡ false
apart s t h = ne_eqb (place_of t) (place_of s) (λ e. h (sym (place_injective t s e)))

-- a tree with nothing amiss
planned_ok : (ast : Ast) → names_stranger 4 ast ≡ false → names_twin ast ≡ false → fits (window_of ast) ≡ true → plan 4 ast ≡ Ok (plan_unchecked ast)
planned_ok ast s t f =
    cond-false (names_stranger 4 ast) (Err Misfit.Stranger) _ s
    ∙ cond-false (names_twin ast) (Err Misfit.Twin) _ t
    ∙ cond-true (fits (window_of ast)) (Ok (plan_unchecked ast)) (Err Misfit.Window) f

-- the windows that were written are read back
windows_of-written_window : (w : WinSpec) → windows_of (size_and_slide (written_window w)) ≡ w
windows_of-written_window w =
    cond_both (w.size == w.slide) (Window.Tumble w.size) (Window.Slide w.size w.slide) (λ x. windows_of (size_and_slide x) ≡ w)
    (λ h. ap (λ n. windows_of (w.size, n)) (eqb-true w.size w.slide h))
    (λ h. refl)

window_fits : (w : WinSpec) → fits w ≡ true → FitsWindow (written_window w)
window_fits w h =
    cond_both (w.size == w.slide) (Window.Tumble w.size) (Window.Slide w.size w.slide) FitsWindow
    (λ e. omega (arith, sizes_fit w h))
    (λ e. (omega (arith, sizes_fit w h), omega (arith, sizes_fit w h)))

-- the query of a plan, as one of this kind
abbrev pub query_as : Kind → Plan → WrittenQuery
query_as k p = record { head = head_as k p; left = conds_of p.left_bounds; right = right_conds_as k p }

text_fits : (k : Kind) (p : Plan) → fits p.win ≡ true → FitsBounds p.left_bounds → FitsBounds p.right_bounds → FitsText (query_as k p)
text_fits Kind.Select p w l r = (tt, conds_of-fits p.left_bounds l, refl)
text_fits (Kind.Sum c) p w l r = (window_fits p.win w, conds_of-fits p.left_bounds l, refl)
text_fits Kind.Count p w l r = (window_fits p.win w, conds_of-fits p.left_bounds l, refl)
text_fits Kind.Join p w l r = (window_fits p.win w, conds_of-fits p.left_bounds l, conds_of-fits p.right_bounds r)

-- the query of a plan in range is one of a text
pub written_query-fits : (p : Plan) → FitsPlan p → FitsText (written_query p)
written_query-fits p h = text_fits p.kind p h.0 h.2 h.3

abbrev made : Kind → Group → StreamId → StreamId → Bounds → Bounds → WinSpec → Plan
made k g s t l r w = record { kind = k; group = g; left = s; right = t; left_bounds = l; right_bounds = r; win = w }

same_plan : (k : Kind) (g g' : Group) (s t t' : StreamId) (l l' r r' : Bounds) (w w' : WinSpec) → g ≡ g' → t ≡ t' → l ≡ l' → r ≡ r' → w ≡ w'
    → made k g s t l r w ≡ made k g' s t' l' r' w'
same_plan k g g' s t t' l l' r r' w w' eg et el er ew =
    ap (λ x. made k x s t l r w) eg ∙ ap (λ x. made k g' s x l r w) et ∙ ap (λ x. made k g' s t' x r w) el ∙ ap (λ x. made k g' s t' l' x w) er ∙ ap (λ x. made k g' s t' l' r' x) ew

abbrev as_kind : Kind → Plan → Plan
as_kind k p = made k p.group p.left p.right p.left_bounds p.right_bounds p.win

back_grouped : (m : Measure) (p : Plan) → HasOneSide p → fits p.win ≡ true → FitsBounds p.left_bounds
    → plan 4 (tree (Head.Windowed (Stem.Grouped m p.group p.left) (written_window p.win)) (conds_of p.left_bounds) []) ≡ Ok (as_kind (kind_of m) p)
back_grouped m p one w l =
    let ast : Ast = tree (Head.Windowed (Stem.Grouped m p.group p.left) (written_window p.win)) (conds_of p.left_bounds) [] in
    planned_ok ast (both_known p.left p.left) refl (ap fits (windows_of-written_window p.win) ∙ w)
    ∙ ap (λ x. Ok x) (same_plan (kind_of m) p.group p.group p.left p.left p.right (bounds_of (conds_of p.left_bounds)) p.left_bounds unlimited p.right_bounds
    (windows_of (size_and_slide (written_window p.win))) p.win refl (sym one.0) (bounds_of-conds_of p.left_bounds l) (sym one.1) (windows_of-written_window p.win))

back : (k : Kind) (p : Plan) → IsCanonicalAs k p → fits p.win ≡ true → FitsStreams k p → FitsBounds p.left_bounds → FitsBounds p.right_bounds
    → plan 4 (tree_of (query_as k p)) ≡ Ok (as_kind k p)
back Kind.Select p c w s l r =
    planned_ok (tree (Head.Select p.left) (conds_of p.left_bounds) []) (both_known p.left p.left) refl refl
    ∙ ap (λ x. Ok x) (same_plan Kind.Select Group.All p.group p.left p.left p.right (bounds_of (conds_of p.left_bounds)) p.left_bounds unlimited p.right_bounds
    (windows_of (1, 1)) p.win (sym c.1) (sym c.0.0) (bounds_of-conds_of p.left_bounds l) (sym c.0.1) (sym c.2))
back (Kind.Sum col) p c w s l r = back_grouped (Measure.Sum col) p c w l
back Kind.Count p c w s l r = back_grouped Measure.Count p c w l
back Kind.Join p c w s l r =
    let ast : Ast = tree (Head.Windowed (Stem.Joined p.left p.right) (written_window p.win)) (conds_of p.left_bounds) (conds_of p.right_bounds) in
    planned_ok ast (both_known p.left p.right) (apart p.left p.right s) (ap fits (windows_of-written_window p.win) ∙ w)
    ∙ ap (λ x. Ok x) (same_plan Kind.Join Group.All p.group p.left p.right p.right (bounds_of (conds_of p.left_bounds)) p.left_bounds (bounds_of (conds_of p.right_bounds)) p.right_bounds
    (windows_of (size_and_slide (written_window p.win))) p.win (sym c) refl (bounds_of-conds_of p.left_bounds l) (bounds_of-conds_of p.right_bounds r) (windows_of-written_window p.win))

-- the query of a canonical plan in range is planned as this plan
pub plan-written_query : (p : Plan) → IsCanonical p → FitsPlan p → plan 4 (tree_of (written_query p)) ≡ Ok p
plan-written_query p c h = back p.kind p c h.0 h.1 h.2 h.3

-- what a plan tells of its tree
planned_tells : (n : ℕ) (ast : Ast) (p : Plan) → plan n ast ≡ Ok p → (names_twin ast ≡ false) × (fits (window_of ast) ≡ true) × (plan_unchecked ast ≡ p)
planned_tells n ast p =
    let Tells : Result Plan Misfit → Type 0 = λ r. r ≡ Ok p → (names_twin ast ≡ false) × (fits (window_of ast) ≡ true) × (plan_unchecked ast ≡ p) in
    cond_both (names_stranger n ast) (Err Misfit.Stranger) _ Tells
    (λ s e. cc e)
    (λ s. cond_both (names_twin ast) (Err Misfit.Twin) _ Tells
    (λ t e. cc e)
    (λ t. cond_both (fits (window_of ast)) (Ok (plan_unchecked ast)) (Err Misfit.Window) Tells
    (λ f e. (t, f, cc e))
    (λ f e. cc e)))

none_fit : (cs : List Cond) → cs ≡ [] → FitsConds cs
none_fit [] e = tt
none_fit (c ∷ cs) e = cc e

abbrev IsGood : Plan → Type 0
IsGood p = IsCanonical p × FitsPlan p

twins : (s t : StreamId) → (place_of t == place_of s) ≡ false → s ≡ t → ⊥
twins s t h e = cc (h, eq-eqb (place_of t) (place_of s) (ap place_of (sym e)))

good : (head : Head) (left right : List Cond) → FitsConds left → FitsRight head right → names_twin (tree head left right) ≡ false → fits (window_of (tree head left right)) ≡ true
    → IsGood (plan_unchecked (tree head left right))
good (Head.Select s) left right l r t f =
    (((refl, ap bounds_of r), refl, refl), (f, tt, bounds_of-fits left l, bounds_of-fits right (none_fit right r)))
good (Head.Windowed (Stem.Grouped (Measure.Sum c) g s) w) left right l r t f =
    ((refl, ap bounds_of r), (f, tt, bounds_of-fits left l, bounds_of-fits right (none_fit right r)))
good (Head.Windowed (Stem.Grouped Measure.Count g s) w) left right l r t f =
    ((refl, ap bounds_of r), (f, tt, bounds_of-fits left l, bounds_of-fits right (none_fit right r)))
good (Head.Windowed (Stem.Joined s u) w) left right l r t f =
    (refl, (f, twins s u t, bounds_of-fits left l, bounds_of-fits right r))

good_tree : (n : ℕ) (q : WrittenQuery) (p : Plan) → FitsText q → plan n (tree_of q) ≡ Ok p → IsCanonical p × FitsPlan p
good_tree n q p h e =
    let tells = planned_tells n (tree_of q) p e in
    subst IsGood tells.2 (good q.head q.left q.right h.1 h.2 tells.0 tells.1)

-- each plan of a tree of a text is canonical and in range
pub plans_are_canonical : (n : ℕ) (ast : Ast) (p : Plan) → IsTree ast → plan n ast ≡ Ok p → IsCanonical p × FitsPlan p
plans_are_canonical n ast p h e = good_tree n h.0 p h.1 (ap (plan n) (sym h.2) ∙ e)
