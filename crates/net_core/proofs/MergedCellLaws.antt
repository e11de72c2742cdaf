-- The cells and the couples that the parts have of a window, merged, are those of the whole window.
use Rattle.std.proofs.Common.{◌≡◌, ℕ, ℤ, eqb, Bool, cond, true, false, true≢false, List, [], ◌∷◌, ◌++◌, refl, sym, ap, ap₂, ◌∙◌}
use Rattle.std.specs.Cmp.Lexicographic.{slice_cmp}
use Rattle.std.specs.List.{fold, filter, flat_map, AllByRecursion}
use Rattle.std.specs.Ordering.{int_eq, int_cmp, nat_cmp, is_lt, is_gt, ordering_then, ordering_reverse}
use Rattle.std.specs.declared.cmp.Ordering.{Ordering}
use Rattle.std.specs.declared.cmp.Ordering.TheVariants.{Less, Equal, Greater}
use Rattle.std.proofs.lemmas.Bool.{and_parts}
use Rattle.std.proofs.lemmas.Bool.Decides.{Decides-int_eq}
use Rattle.std.proofs.lemmas.Map.Lookups.{exact_unsigned, exact_signed}
use Rattle.as_base.specs.declared.fragment.Couple.{Couple}
use Rattle.as_base.specs.declared.item.Record.{Record}
use Rattle.as_base.specs.declared.stream.StreamId.{StreamId}
use Rattle.as_base.specs.Windows.{in_window}
use Rattle.group_table.specs.Cells.{add_in, sums}
use Rattle.group_table.proofs.CellLaws.{add_free, merge}
use Rattle.views.specs.Pairs.{couple, compare, put_couple, by_numbers}
use Rattle.views.specs.Query.{Query}
use Rattle.views.specs.View.{is_mine}
use Rattle.views.proofs.ListLaws.{All-by, All-every, All-filter, All-passed, flat_map-same}
use Rattle.views.proofs.PairLaws.{below, compare_total, below_weak}
use Rattle.contents.specs.Cells.{share, is_in_window, window_sums}
use Rattle.contents.specs.Free.{Free, Same, Once}
use Rattle.contents.specs.Pairs.{match_of, window_couples}
use Rattle.contents.proofs.CellLaws.{stream-is, mine-parts}
use Rattle.contents.proofs.FreeLaws.{equal, then, every_same, fold_last}
use Rattle.net_core.proofs.PartedLaws.{All-flat_map, those, GoTo, all-parted}

-- ---- cells

-- the cells of the parts add up to those of the window
pub merged-sums : (q : Query) (k : ℕ) (part : Record → ℕ) (ns : List ℕ) (rs : List Record) → Once ns → GoTo part ns rs → sums (flat_map (λ n. window_sums q k (those part rs n)) ns) ≡ window_sums q k rs
merged-sums q k part ns rs once all =
    let each : ℕ → List _ = λ n. flat_map (share q.plan) (filter (is_in_window q.plan.left q k) (those part rs n)) in
    let same : Same add_in (flat_map (λ n. window_sums q k (those part rs n)) ns) (flat_map (share q.plan) (filter (is_in_window q.plan.left q k) rs)) =
    then (every_same (λ n. window_sums q k (those part rs n)) each ns (λ n. record { same = λ b. merge b (each n) }))
    (all-parted add_in add_free (share q.plan) (is_in_window q.plan.left q k) part ns rs once all) in
    same.same []

-- ---- couples that tie are one, of one query

tied-Equal : (c d : Couple) → below c d ≡ false → below d c ≡ false → compare c d ≡ Equal
tied-Equal c d e f = go (compare c d) (compare d c) e f (compare_total.antisymm c d)
  where
    go : (r s : Ordering) → is_lt r ≡ false → is_lt s ≡ false → r ≡ ordering_reverse s → r ≡ Equal
    go Less s e f h = absurd (true≢false e)
    go Equal s e f h = refl
    go Greater Less e f h = absurd (true≢false f)
    go Greater Equal e f h = h
    go Greater Greater e f h = absurd (true≢false (ap is_gt h))

then-parts : (a b : Ordering) → ordering_then a b ≡ Equal → (a ≡ Equal) × (b ≡ Equal)
then-parts Less b e = absurd (true≢false (ap is_lt e))
then-parts Equal b e = (refl, e)
then-parts Greater b e = absurd (true≢false (ap is_gt e))

exact-lists : (xs ys : List ℤ) → slice_cmp int_cmp xs ys ≡ Equal → xs ≡ ys
exact-lists [] [] e = refl
exact-lists [] (y ∷ ys) e = absurd (true≢false (ap is_lt e))
exact-lists (x ∷ xs) [] e = absurd (true≢false (ap is_gt e))
exact-lists (x ∷ xs) (y ∷ ys) e = let p = then-parts (int_cmp x y) (slice_cmp int_cmp xs ys) e in ap₂ (λ z zs. z ∷ zs) (exact_signed x y p.0) (exact-lists xs ys p.1)

-- what the numbers of a couple's row are
record SameNumbers (c d : Couple) : Type 0 where
  pub key : c.left.key ≡ d.left.key
  pub left_time : c.left.time ≡ d.left.time
  pub left_values : c.left.v ≡ d.left.v
  pub right_time : c.right.time ≡ d.right.time
  pub right_values : c.right.v ≡ d.right.v

same-numbers : (c d : Couple) → compare c d ≡ Equal → SameNumbers c d
same-numbers c d e =
    let k = int_cmp c.left.key d.left.key in
    let t = nat_cmp c.left.time d.left.time in
    let v = slice_cmp int_cmp c.left.v d.left.v in
    let u = nat_cmp c.right.time d.right.time in
    let w = slice_cmp int_cmp c.right.v d.right.v in
    let a = then-parts (ordering_then (ordering_then (ordering_then k t) v) u) w e in
    let b = then-parts (ordering_then (ordering_then k t) v) u a.0 in
    let f = then-parts (ordering_then k t) v b.0 in
    let g = then-parts k t f.0 in
    record {
      key = exact_signed c.left.key d.left.key g.0;
      left_time = exact_unsigned c.left.time d.left.time g.1;
      left_values = exact-lists c.left.v d.left.v f.1;
      right_time = exact_unsigned c.right.time d.right.time b.1;
      right_values = exact-lists c.right.v d.right.v a.1;
    }

-- ---- put among others

lower : (x y z : Couple) → below z x ≡ true → below x y ≡ true → below z y ≡ true
lower x y z a b = go (below z y) refl
  where
    go : (t : Bool) → below z y ≡ t → t ≡ true
    go true e = refl
    go false e = absurd (true≢false (sym a ∙ below_weak.chain z y x e (below_weak.one_way x y b)))

put-past : (c d : Couple) (ds : List Couple) → below d c ≡ true → put_couple c (d ∷ ds) ≡ d ∷ put_couple c ds
put-past c d ds e = ap (λ b. cond b (d ∷ put_couple c ds) (c ∷ d ∷ ds)) e

put-here : (c d : Couple) (ds : List Couple) → below d c ≡ false → put_couple c (d ∷ ds) ≡ c ∷ d ∷ ds
put-here c d ds e = ap (λ b. cond b (d ∷ put_couple c ds) (c ∷ d ∷ ds)) e

-- a couple and a higher one may be put in either order
put-turn : (x y : Couple) → below x y ≡ true → (ds : List Couple) → put_couple y (put_couple x ds) ≡ put_couple x (put_couple y ds)
put-turn x y h [] = put-past y x [] h ∙ sym (put-here x y [] (below_weak.one_way x y h))
put-turn x y h (z ∷ ds) = go (below z x) (below z y) refl refl (put-turn x y h ds)
  where
    go : (a b : Bool) → below z x ≡ a → below z y ≡ b → put_couple y (put_couple x ds) ≡ put_couple x (put_couple y ds) → put_couple y (put_couple x (z ∷ ds)) ≡ put_couple x (put_couple y (z ∷ ds))
    go true true e f rest =
        ap (put_couple y) (put-past x z ds e) ∙ put-past y z (put_couple x ds) f ∙ ap (λ l. z ∷ l) rest
        ∙ sym (ap (put_couple x) (put-past y z ds f) ∙ put-past x z (put_couple y ds) e)
    go true false e f rest = absurd (true≢false (sym (lower x y z e h) ∙ f))
    go false true e f rest =
        ap (put_couple y) (put-here x z ds e) ∙ put-past y x (z ∷ ds) h ∙ ap (λ l. x ∷ l) (put-past y z ds f)
        ∙ sym (ap (put_couple x) (put-past y z ds f) ∙ put-here x z (put_couple y ds) e)
    go false false e f rest =
        ap (put_couple y) (put-here x z ds e) ∙ put-past y x (z ∷ ds) h ∙ ap (λ l. x ∷ l) (put-here y z ds f)
        ∙ sym (ap (put_couple x) (put-here y z ds f) ∙ put-here x y (z ∷ ds) (below_weak.one_way x y h))

-- couples of which those that tie are one may be put in any order
put-free : (x y : Couple) → (compare x y ≡ Equal → x ≡ y) → (ds : List Couple) → put_couple y (put_couple x ds) ≡ put_couple x (put_couple y ds)
put-free x y same ds = go (below x y) (below y x) refl refl
  where
    go : (a b : Bool) → below x y ≡ a → below y x ≡ b → put_couple y (put_couple x ds) ≡ put_couple x (put_couple y ds)
    go true b e f = put-turn x y e ds
    go false true e f = sym (put-turn y x f ds)
    go false false e f = let is = same (tied-Equal x y e f) in ap₂ (λ c d. put_couple c (put_couple d ds)) (sym is) is

-- ---- couples of two streams

All-put : (P : Couple → Type 0) (c : Couple) (ds : List Couple) → P c → AllByRecursion P ds → AllByRecursion P (put_couple c ds)
All-put P c [] here h = (here, tt)
All-put P c (d ∷ ds) here h = go (below d c) (All-put P c ds here h.1)
  where
    go : (b : Bool) → AllByRecursion P (put_couple c ds) → AllByRecursion P (cond b (d ∷ put_couple c ds) (c ∷ d ∷ ds))
    go true rest = (h.0, rest)
    go false rest = (here, h)

All-numbers : (P : Couple → Type 0) (cs : List Couple) → AllByRecursion P cs → AllByRecursion P (by_numbers cs)
All-numbers P [] h = tt
All-numbers P (c ∷ cs) h = All-put P c (by_numbers cs) h.0 (All-numbers P cs h.1)

module _ (left right : StreamId) where
  abbrev built : ℕ → ℤ → List ℤ → ℕ → ℤ → List ℤ → Couple
  built t k v u l w = couple (record { stream = left; time = t; key = k; v = v }) (record { stream = right; time = u; key = l; v = w })

  -- the couple as one of records of these streams, with one key
  abbrev proper : Couple → Couple
  proper c = built c.left.time c.left.key c.left.v c.right.time c.left.key c.right.v

  abbrev put : List Couple → Couple → List Couple
  put ds c = put_couple (proper c) ds

  proper-same : (c d : Couple) → compare (proper c) (proper d) ≡ Equal → proper c ≡ proper d
  proper-same c d e = let s = same-numbers (proper c) (proper d) e in λ i. built (s.left_time i) (s.key i) (s.left_values i) (s.right_time i) (s.key i) (s.right_values i)

  free : Free put
  free ds x y = put-free (proper x) (proper y) (proper-same x y) ds

  abbrev AreProper : List Couple → Type 0
  AreProper cs = AllByRecursion (λ c. proper c ≡ c) cs

  numbers-fold : (cs : List Couple) → AreProper cs → by_numbers cs ≡ fold put [] cs
  numbers-fold [] h = refl
  numbers-fold (c ∷ cs) h = ap (λ l. put_couple c l) (numbers-fold cs h.1) ∙ ap (λ d. put_couple d (fold put [] cs)) (sym h.0) ∙ sym (fold_last put free [] c cs)

  put-fold : (b : List Couple) (c : Couple) (ds : List Couple) → fold put b (put_couple c ds) ≡ fold put b (c ∷ ds)
  put-fold b c [] = refl
  put-fold b c (d ∷ ds) = go (below d c) (put-fold (put b d) c ds)
    where
      go : (t : Bool) → fold put (put b d) (put_couple c ds) ≡ fold put (put b d) (c ∷ ds) → fold put b (cond t (d ∷ put_couple c ds) (c ∷ d ∷ ds)) ≡ fold put b (c ∷ d ∷ ds)
      go true rest = rest ∙ ap (λ l. fold put l ds) (free b d c)
      go false rest = refl

  -- steps that may change places make the same of couples and of the same by their numbers
  numbers-same : (cs : List Couple) → Same put (by_numbers cs) cs
  numbers-same cs = record { same = λ b. go b cs }
    where
      go : (b : List Couple) (cs : List Couple) → fold put b (by_numbers cs) ≡ fold put b cs
      go b [] = refl
      go b (c ∷ cs) = put-fold b c (by_numbers cs) ∙ go (put b c) cs

  proper-match : (r s : Record) → r.given.stream ≡ left → s.given.stream ≡ right → AreProper (match_of r s)
  proper-match r s e f = go (int_eq r.given.key s.given.key) refl
    where
      go : (b : Bool) → int_eq r.given.key s.given.key ≡ b → AreProper (cond b (couple r.given s.given ∷ []) [])
      go false h = tt
      go true h =
          let k : r.given.key ≡ s.given.key = (Decides-int_eq r.given.key s.given.key).0 h in
          (λ i. couple (record { stream = sym e i; time = r.given.time; key = r.given.key; v = r.given.v }) (record { stream = sym f i; time = s.given.time; key = k i; v = s.given.v }), tt)

-- ---- couples of a window

module _ (q : Query) (k : ℕ) where
  of-stream : (s : StreamId) (rs : List Record) → AllByRecursion (λ (r : Record). r.given.stream ≡ s) (filter (is_in_window s q k) rs)
  of-stream s rs =
      All-by (λ r. is_in_window s q k r ≡ true) (λ (r : Record). r.given.stream ≡ s)
      (λ r e. stream-is s r (mine-parts q s r (and_parts (is_mine q s r) (in_window q.plan.win k r.given.time) e).0).of_it)
      (filter (is_in_window s q k) rs) (All-passed (is_in_window s q k) rs)

  proper-window : (rs : List Record) → AreProper q.plan.left q.plan.right (window_couples q k rs)
  proper-window rs =
      let P : Couple → Type 0 = λ c. proper q.plan.left q.plan.right c ≡ c in
      All-flat_map P (λ r. flat_map (match_of r) (filter (is_in_window q.plan.right q k) rs)) (filter (is_in_window q.plan.left q k) rs)
      (All-by (λ (r : Record). r.given.stream ≡ q.plan.left) (λ r. AllByRecursion P (flat_map (match_of r) (filter (is_in_window q.plan.right q k) rs)))
      (λ r e. All-flat_map P (match_of r) (filter (is_in_window q.plan.right q k) rs)
      (All-by (λ (s : Record). s.given.stream ≡ q.plan.right) (λ s. AllByRecursion P (match_of r s)) (λ s f. proper-match q.plan.left q.plan.right r s e f) (filter (is_in_window q.plan.right q k) rs) (of-stream q.plan.right rs)))
      (filter (is_in_window q.plan.left q k) rs) (of-stream q.plan.left rs))

-- what passes a test alone gives something
passing-alone : {X Y : Type 0} (f : X → List Y) (p test : X → Bool) (xs : List X) → ((x : X) → test x ≡ false → f x ≡ []) → flat_map f (filter p (filter test xs)) ≡ flat_map f (filter p xs)
passing-alone f p test [] none = refl
passing-alone f p test (x ∷ xs) none = go (test x) refl (passing-alone f p test xs none)
  where
    skip : (b : Bool) → f x ≡ [] → flat_map f (filter p xs) ≡ flat_map f (cond b (x ∷ filter p xs) (filter p xs))
    skip true e = sym (ap (λ l. l ++ flat_map f (filter p xs)) e)
    skip false e = refl

    keep : (b : Bool) → flat_map f (filter p (filter test xs)) ≡ flat_map f (filter p xs) → flat_map f (cond b (x ∷ filter p (filter test xs)) (filter p (filter test xs))) ≡ flat_map f (cond b (x ∷ filter p xs) (filter p xs))
    keep true rest = ap (λ l. f x ++ l) rest
    keep false rest = rest

    go : (b : Bool) → test x ≡ b → flat_map f (filter p (filter test xs)) ≡ flat_map f (filter p xs) → flat_map f (filter p (cond b (x ∷ filter test xs) (filter test xs))) ≡ flat_map f (cond (p x) (x ∷ filter p xs) (filter p xs))
    go true e rest = keep (p x) rest
    go false e rest = rest ∙ skip (p x) (none x e)

-- records with one key go to one part
abbrev pub ByKey : (Record → ℕ) → Type 0
ByKey part = (r s : Record) → r.given.key ≡ s.given.key → part r ≡ part s

module _ (q : Query) (k : ℕ) (part : Record → ℕ) (by_key : ByKey part) where
  -- a record of a part has no match in others
  own-matches : (n : ℕ) (r : Record) (rs : List Record) → eqb (part r) n ≡ true → flat_map (match_of r) (filter (is_in_window q.plan.right q k) (those part rs n)) ≡ flat_map (match_of r) (filter (is_in_window q.plan.right q k) rs)
  own-matches n r rs e = passing-alone (match_of r) (is_in_window q.plan.right q k) (λ s. eqb (part s) n) rs elsewhere
    where
      elsewhere : (s : Record) → eqb (part s) n ≡ false → match_of r s ≡ []
      elsewhere s f = go (int_eq r.given.key s.given.key) refl
        where
          go : (b : Bool) → int_eq r.given.key s.given.key ≡ b → cond b (couple r.given s.given ∷ []) [] ≡ []
          go false h = refl
          go true h =
              let same : part r ≡ part s = by_key r s ((Decides-int_eq r.given.key s.given.key).0 h) in
              absurd (true≢false (sym e ∙ ap (λ m. eqb m n) same ∙ f))

  own-couples : (n : ℕ) (rs : List Record) → window_couples q k (those part rs n) ≡ flat_map (λ r. flat_map (match_of r) (filter (is_in_window q.plan.right q k) rs)) (filter (is_in_window q.plan.left q k) (those part rs n))
  own-couples n rs =
      flat_map-same (λ r. flat_map (match_of r) (filter (is_in_window q.plan.right q k) (those part rs n))) (λ r. flat_map (match_of r) (filter (is_in_window q.plan.right q k) rs))
      (filter (is_in_window q.plan.left q k) (those part rs n))
      (All-filter (λ r. flat_map (match_of r) (filter (is_in_window q.plan.right q k) (those part rs n)) ≡ flat_map (match_of r) (filter (is_in_window q.plan.right q k) rs)) (is_in_window q.plan.left q k) (those part rs n)
      (All-by (λ r. eqb (part r) n ≡ true) (λ r. flat_map (match_of r) (filter (is_in_window q.plan.right q k) (those part rs n)) ≡ flat_map (match_of r) (filter (is_in_window q.plan.right q k) rs))
      (λ r e. own-matches n r rs e) (those part rs n) (All-passed (λ r. eqb (part r) n) rs)))

  -- the couples of the parts, by their numbers, are those of the window
  pub merged-couples : (ns : List ℕ) (rs : List Record) → Once ns → GoTo part ns rs → by_numbers (flat_map (λ n. by_numbers (window_couples q k (those part rs n))) ns) ≡ by_numbers (window_couples q k rs)
  merged-couples ns rs once all =
      let l : StreamId = q.plan.left in
      let r : StreamId = q.plan.right in
      let matches : Record → List Couple = λ x. flat_map (match_of x) (filter (is_in_window q.plan.right q k) rs) in
      let all_parts : List Couple = flat_map (λ n. by_numbers (window_couples q k (those part rs n))) ns in
      let same : Same (put l r) all_parts (window_couples q k rs) =
      then (every_same (λ n. by_numbers (window_couples q k (those part rs n))) (λ n. flat_map matches (filter (is_in_window q.plan.left q k) (those part rs n))) ns
      (λ n. then (numbers-same l r (window_couples q k (those part rs n))) (equal (own-couples n rs))))
      (all-parted (put l r) (free l r) matches (is_in_window q.plan.left q k) part ns rs once all) in
      numbers-fold l r all_parts
      (All-flat_map (λ c. proper l r c ≡ c) (λ n. by_numbers (window_couples q k (those part rs n))) ns
      (All-every (λ n. AreProper l r (by_numbers (window_couples q k (those part rs n)))) (λ n. All-numbers (λ c. proper l r c ≡ c) (window_couples q k (those part rs n)) (proper-window q k (those part rs n))) ns))
      ∙ same.same []
      ∙ sym (numbers-fold l r (window_couples q k rs) (proper-window q k rs))
