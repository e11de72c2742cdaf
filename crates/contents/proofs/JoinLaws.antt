-- The couples of a window's slices are those of its records.
use Rattle.std.proofs.Common.{◌≡◌, inl, inr, ℕ, ◌+◌, ◌≤◌, ◌<◌, ◌&&◌, nat_le, nat_lt, max, min, Bool, cond, true, false, Some, List, [], ◌∷◌, ◌++◌, map, refl, sym, ap, ap₂, ◌∙◌, arith}
use Rattle.std.proofs.lemmas.Bool.{le-leb, lt-ltb, leb-true, ltb-true, cases_Bool, and_parts, and_from, and_left, both_ways, false_from_ne_true}
use Rattle.std.specs.List.{filter, flat_map, fold, count_by, AllByRecursion}
use Rattle.std.proofs.lemmas.List.Sums.{sum_by-cons}
use Rattle.std.specs.Ordering.{int_eq}
use Rattle.as_base.specs.declared.fragment.Couple.{Couple}
use Rattle.as_base.specs.declared.item.Given.{Given}
use Rattle.as_base.specs.declared.item.Record.{Record}
use Rattle.as_base.specs.declared.query.Kind.{Kind}
use Rattle.as_base.specs.declared.query.Kind.TheVariants.{Select, Sum, Count, Join}
use Rattle.as_base.specs.declared.stream.StreamId.{StreamId}
use Rattle.as_base.specs.Windows.{start_of, end_of, in_window}
use Rattle.shared_agg.specs.Slices.{is_between}
use Rattle.views.specs.IsHolder.{IsAmong}
use Rattle.views.specs.Pairs.{couple, couples_with, couples}
use Rattle.views.specs.Passed.{given_to, within}
use Rattle.views.specs.Query.{Query}
use Rattle.views.specs.Slots.{Holder, has_windows, lives_at, owner, has_mine, cut, cut_of}
use Rattle.views.specs.View.{is_of, is_mine}
use Rattle.views.proofs.CutLaws.{windows-by_cut}
use Rattle.views.proofs.ListLaws.{filter-map, filter-filter}
use Rattle.contents.specs.Cells.{is_in_window}
use Rattle.contents.specs.Free.{Free, Same, member, Once}
use Rattle.contents.specs.IsPast.{LiveApart}
use Rattle.contents.specs.Kept.{is_open_window, is_open, slice_at, wants, needs, is_needed}
use Rattle.contents.specs.Pairs.{is_quiet, is_paired, is_join, match_of, shown_to, couples_at, couples_between, window_couples, AreIn}
use Rattle.contents.specs.Past.{Past, view_of}
use Rattle.contents.proofs.CellLaws.{stream-is, mine-parts, member-filter, once-filter, open-last}
use Rattle.contents.proofs.FreeLaws.{equal, then, each_same, every_same, where_same, swap, by_keys}
use Rattle.contents.proofs.KeptLaws.{within-stronger}
use Rattle.contents.proofs.PairLaws.{IsForward, quiet-in, any-among}
use Rattle.contents.proofs.SoleLaws.{sole, lives-by_cut}

flat-none : {X Y : Type 0} (f : X → List Y) (xs : List X) → ((x : X) → f x ≡ []) → flat_map f xs ≡ []
flat-none f [] h = refl
flat-none f (x ∷ xs) h = ap (λ l. l ++ flat_map f xs) (h x) ∙ flat-none f xs h

-- ---- a window of a query and its slices

module _ (hs : List Holder) (h : Holder) (k : ℕ) (among : IsAmong h hs) (apart : LiveApart hs) (forward : AllByRecursion IsForward hs) (slide : 0 < h.query.plan.win.slide) (windowed : has_windows h.query.plan.kind ≡ true) where
  abbrev lo : ℕ
  lo = max (start_of h.query.plan.win k) h.query.from

  abbrev hi : ℕ
  hi = min (end_of h.query.plan.win k) h.query.to

  -- the record's slice begins in the window, within the query's life
  abbrev inside : Record → Bool
  inside r = is_between lo hi (cut_of hs r)

  range : (r : Record) → inside r ≡ true → (lo ≤ cut_of hs r) × (cut_of hs r < hi)
  range r e = let w = and_parts (nat_le lo (cut_of hs r)) (nat_lt (cut_of hs r) hi) e in (leb-true lo (cut_of hs r) w.0, ltb-true (cut_of hs r) hi w.1)

  begins : (r : Record) → inside r ≡ true → lives_at h.query (cut_of hs r) ≡ true
  begins r e =
      let w = range r e in
      and_from (nat_le h.query.from (cut_of hs r)) (nat_lt (cut_of hs r) h.query.to)
      (le-leb h.query.from (cut_of hs r) (let l = w.0 in omega (arith, l))) (lt-ltb (cut_of hs r) h.query.to (let l = w.1 in omega (arith, l)))

  lives : (r : Record) → inside r ≡ true → lives_at h.query r.given.time ≡ true
  lives r e = lives-by_cut hs h r.given.stream r.given.time among ∙ begins r e

  owned : (r : Record) → inside r ≡ true → owner hs r.given.time h.slot ≡ Some h
  owned r e = sole hs h r.given.time among apart (lives r e)

  -- the query's records of these slices are those of the window
  row-mine : (r : Record) → inside r ≡ true → (is_mine h.query r.given.stream r && in_window h.query.plan.win k r.given.time) ≡ is_mine h.query r.given.stream r
  row-mine r e = elim (cases_Bool (is_mine h.query r.given.stream r)) [
    | inl m ↦ (let t : ℕ = r.given.time in
        let here = and_parts (nat_le lo t) (nat_lt t hi) (windows-by_cut hs h r.given.stream t k among windowed slide (lives r e) (mine-parts h.query r.given.stream r m).reads_it ∙ e) in
        let a = leb-true lo t here.0 in
        let b = ltb-true t hi here.1 in
        and_from (is_mine h.query r.given.stream r) (in_window h.query.plan.win k t) m (and_from (nat_le (start_of h.query.plan.win k) t) (nat_lt t (end_of h.query.plan.win k))
        (le-leb (start_of h.query.plan.win k) t (omega (arith, a))) (lt-ltb t (end_of h.query.plan.win k) (omega (arith, b)))) ∙ sym m)
    | inr m ↦ and_left (is_mine h.query r.given.stream r) (in_window h.query.plan.win k r.given.time) m ∙ sym m
  ]

  row-inside : (s : StreamId) (r : Record) → is_in_window s h.query k r ≡ true → inside r ≡ true
  row-inside s r e =
      let q : Query = h.query in
      let t : ℕ = r.given.time in
      let p = and_parts (is_mine q s r) (in_window q.plan.win k t) e in
      let m = mine-parts q s r p.0 in
      let w = and_parts (nat_le (start_of q.plan.win k) t) (nat_lt t (end_of q.plan.win k)) p.1 in
      let l = and_parts (nat_le q.from t) (nat_lt t q.to) m.lives in
      let a = leb-true (start_of q.plan.win k) t w.0 in
      let b = ltb-true t (end_of q.plan.win k) w.1 in
      let c = leb-true q.from t l.0 in
      let d = ltb-true t q.to l.1 in
      let same = windows-by_cut hs h s t k among windowed slide m.lives m.reads_it in
      ap (λ x. is_between lo hi (cut hs x t)) (stream-is s r m.of_it)
      ∙ sym same ∙ and_from (nat_le lo t) (nat_lt t hi) (le-leb lo t (omega (arith, a, c))) (lt-ltb t hi (omega (arith, b, d)))

  outside : (s : StreamId) (r : Record) → inside r ≡ false → is_in_window s h.query k r ≡ false
  outside s r e = false_from_ne_true (is_in_window s h.query k r) (λ t. both_ways (inside r) e (row-inside s r t))

  -- of a stream that is not its own no record is in a window
  foreign : (s : StreamId) (r : Record) → is_of s r ≡ false → is_in_window s h.query k r ≡ false
  foreign s r e = false_from_ne_true (is_in_window s h.query k r) (λ t.
      both_ways (is_of s r) e (mine-parts h.query s r (and_parts (is_mine h.query s r) (in_window h.query.plan.win k r.given.time) t).0).of_it)

  own : (s : StreamId) (r : Record) → is_of s r ≡ true → inside r ≡ true → is_in_window s h.query k r ≡ is_mine h.query r.given.stream r
  own s r e f = ap (λ x. is_mine h.query x r && in_window h.query.plan.win k r.given.time) (sym (stream-is s r e)) ∙ row-mine r f

  and-end : (a b c : Bool) → c ≡ true → (a && b && c) ≡ (a && b)
  and-end a b c e = ap (λ x. a && b && x) e ∙ (elim (a && b) as (λ x. (x && true) ≡ x) [ true ↦ refl | false ↦ refl ])

  -- within the window's slices a pair has the slot where the query has both records
  pair-inside : (r s : Record) → inside r ≡ true → inside s ≡ true → is_paired hs h.slot r s ≡ (is_mine h.query r.given.stream r && is_mine h.query s.given.stream s)
  pair-inside r s e f =
      ap (λ o. has_mine r o && has_mine s (owner hs s.given.time h.slot) && is_quiet hs h.slot (cut_of hs r) (cut_of hs s)) (owned r e)
      ∙ ap (λ o. is_mine h.query r.given.stream r && has_mine s o && is_quiet hs h.slot (cut_of hs r) (cut_of hs s)) (owned s f)
      ∙ and-end (is_mine h.query r.given.stream r) (is_mine h.query s.given.stream s) (is_quiet hs h.slot (cut_of hs r) (cut_of hs s)) (quiet-in hs h (cut_of hs r) (cut_of hs s) among apart forward (begins r e) (begins s f))

  pair-not : (r s : Record) → inside r ≡ true → is_mine h.query r.given.stream r ≡ false → is_paired hs h.slot r s ≡ false
  pair-not r s e m =
      ap (λ o. has_mine r o && has_mine s (owner hs s.given.time h.slot) && is_quiet hs h.slot (cut_of hs r) (cut_of hs s)) (owned r e)
      ∙ ap (λ b. b && has_mine s (owner hs s.given.time h.slot) && is_quiet hs h.slot (cut_of hs r) (cut_of hs s)) m

  -- ---- the other record

  other-case : (b : StreamId) (r s : Record) (mem x y : Bool) → is_of b s ≡ x → inside s ≡ y → inside r ≡ true → is_mine h.query r.given.stream r ≡ true → (x ≡ true → mem ≡ true)
      → cond (x && (y && mem)) (shown_to hs h.slot r s) [] ≡ cond (is_in_window b h.query k s) (match_of r s) []
  other-case b r s mem true true e f i m c =
      ap (λ z. cond z (shown_to hs h.slot r s) []) (c refl)
      ∙ ap (λ z. cond z (match_of r s) []) (pair-inside r s i f ∙ ap (λ z. z && is_mine h.query s.given.stream s) m ∙ sym (own b s e f))
  other-case b r s mem true false e f i m c = sym (ap (λ z. cond z (match_of r s) []) (outside b s f))
  other-case b r s mem false y e f i m c = sym (ap (λ z. cond z (match_of r s) []) (foreign b s e))

  module _ (a b : StreamId) (ds : List ℕ) where
    abbrev others : List Record → Record → List Couple
    others stored r = flat_map (λ s. cond (is_of b s && member (cut_of hs s) (filter (is_between lo hi) ds)) (shown_to hs h.slot r s) []) stored

    all-others : (rs : List Record) → AreIn hs b ds rs → (r : Record) → inside r ≡ true → is_mine h.query r.given.stream r ≡ true → others rs r ≡ flat_map (λ s. cond (is_in_window b h.query k s) (match_of r s) []) rs
    all-others [] i r e m = refl
    all-others (s ∷ rs) i r e m =
        ap (λ l. l ++ others rs r) (ap (λ z. cond (is_of b s && z) (shown_to hs h.slot r s) []) (member-filter (is_between lo hi) (cut_of hs s) ds)
        ∙ other-case b r s (member (cut_of hs s) ds) (is_of b s) (inside s) refl refl e m i.0)
        ∙ ap (λ l. cond (is_in_window b h.query k s) (match_of r s) [] ++ l) (all-others rs i.1 r e m)

    none-case : (x : Bool) (l : List Couple) (y : Bool) → y ≡ false → cond x (cond y l []) [] ≡ []
    none-case true l y e = ap (λ z. cond z l []) e
    none-case false l y e = refl

    no-others : (rs : List Record) (r : Record) → inside r ≡ true → is_mine h.query r.given.stream r ≡ false → others rs r ≡ []
    no-others rs r e m = flat-none (λ s. cond (is_of b s && member (cut_of hs s) (filter (is_between lo hi) ds)) (shown_to hs h.slot r s) []) rs
        (λ s. none-case (is_of b s && member (cut_of hs s) (filter (is_between lo hi) ds)) (match_of r s) (is_paired hs h.slot r s) (pair-not r s e m))

    one-case : (rs : List Record) → AreIn hs b ds rs → (r : Record) (mem x y m : Bool) → is_of a r ≡ x → inside r ≡ y → is_mine h.query r.given.stream r ≡ m → (x ≡ true → mem ≡ true)
        → cond (x && (y && mem)) (others rs r) [] ≡ cond (is_in_window a h.query k r) (flat_map (match_of r) (filter (is_in_window b h.query k) rs)) []
    one-case rs i r mem true true true e f m c =
        ap (λ z. cond z (others rs r) []) (c refl) ∙ all-others rs i r f m ∙ sym (where_same (match_of r) (is_in_window b h.query k) rs)
        ∙ sym (ap (λ z. cond z (flat_map (match_of r) (filter (is_in_window b h.query k) rs)) []) (own a r e f ∙ m))
    one-case rs i r mem true true false e f m c =
        ap (λ z. cond z (others rs r) []) (c refl) ∙ no-others rs r f m ∙ sym (ap (λ z. cond z (flat_map (match_of r) (filter (is_in_window b h.query k) rs)) []) (own a r e f ∙ m))
    one-case rs i r mem true false m e f g c = sym (ap (λ z. cond z (flat_map (match_of r) (filter (is_in_window b h.query k) rs)) []) (outside a r f))
    one-case rs i r mem false y m e f g c = sym (ap (λ z. cond z (flat_map (match_of r) (filter (is_in_window b h.query k) rs)) []) (foreign a r e))

    module _ {B : Type 0} (step : B → Couple → B) (free : Free step) where
      each-one : (cs : List ℕ) (stored : List Record) → AreIn hs b ds stored → (rs : List Record) → AreIn hs a cs rs
          → AllByRecursion (λ r. Same step (cond (is_of a r && member (cut_of hs r) (filter (is_between lo hi) cs)) (others stored r) []) (cond (is_in_window a h.query k r) (flat_map (match_of r) (filter (is_in_window b h.query k) stored)) [])) rs
      each-one cs stored i [] j = tt
      each-one cs stored i (r ∷ rs) j = (
        equal (ap (λ z. cond (is_of a r && z) (others stored r) []) (member-filter (is_between lo hi) (cut_of hs r) cs)
            ∙ one-case stored i r (member (cut_of hs r) cs) (is_of a r) (inside r) (is_mine h.query r.given.stream r) refl refl refl j.0),
        each-one cs stored i rs j.1,
      )

      -- the couples between the slices of a window are those of its records
      pub couples-of-stored : (cs : List ℕ) (stored : List Record) → Once cs → Once ds → AreIn hs a cs stored → AreIn hs b ds stored
          → Same step (couples_between hs stored h.slot a b cs ds lo hi) (flat_map (λ r. flat_map (match_of r) (filter (is_in_window b h.query k) stored)) (filter (is_in_window a h.query k) stored))
      couples-of-stored cs stored o o' i j =
          let cs' : List ℕ = filter (is_between lo hi) cs in
          let ds' : List ℕ = filter (is_between lo hi) ds in
          then (every_same (λ c. flat_map (couples_at hs stored h.slot a b c) ds') (λ c. flat_map (others stored) (slice_at hs a c stored)) cs'
          (λ c. then (swap step free (λ d r. flat_map (shown_to hs h.slot r) (slice_at hs b d stored)) ds' (slice_at hs a c stored))
          (every_same (λ r. flat_map (λ d. flat_map (shown_to hs h.slot r) (slice_at hs b d stored)) ds') (others stored) (slice_at hs a c stored)
          (λ r. by_keys step free (shown_to hs h.slot r) (is_of b) (cut_of hs) ds' stored (once-filter (is_between lo hi) ds o')))))
          (then (by_keys step free (others stored) (is_of a) (cut_of hs) cs' stored (once-filter (is_between lo hi) cs o))
          (then (each_same (λ r. cond (is_of a r && member (cut_of hs r) cs') (others stored r) []) (λ r. cond (is_in_window a h.query k r) (flat_map (match_of r) (filter (is_in_window b h.query k) stored)) []) stored (each-one cs stored j stored i))
          (equal (sym (where_same (λ r. flat_map (match_of r) (filter (is_in_window b h.query k) stored)) (is_in_window a h.query k) stored)))))

-- ---- kept records suffice

-- a join's record in a window that is not passed is needed
row-needed : (p : Past) (h : Holder) (k : ℕ) → IsAmong h p.holders → 0 < h.query.plan.win.slide → is_join h.query.plan.kind ≡ true → is_open_window p.marks h.query k ≡ true → (s : StreamId) (r : Record) → is_in_window s h.query k r ≡ true → is_needed p r ≡ true
row-needed p h k among slide kind o s r e =
    let q : Query = h.query in
    let t : ℕ = r.given.time in
    let parts = and_parts (is_mine q s r) (in_window q.plan.win k t) e in
    let start = leb-true (start_of q.plan.win k) t (and_parts (nat_le (start_of q.plan.win k) t) (nat_lt t (end_of q.plan.win k)) parts.1).0 in
    let opened : is_open p.marks q t ≡ true = open-last p.marks q k t slide o start in
    any-among (λ (g : Holder). needs p.marks r g.query) p.holders h among
    (and_from (is_mine q r.given.stream r) (wants q.plan.kind p.marks q t)
    (ap (λ x. is_mine q x r) (stream-is s r (mine-parts q s r parts.0).of_it) ∙ parts.0) (wanted q.plan.kind kind opened))
  where
    wanted : (kind : Kind) → is_join kind ≡ true → is_open p.marks h.query r.given.time ≡ true → wants kind p.marks h.query r.given.time ≡ true
    wanted Join e o = o
    wanted Select e o = absurd (both_ways false refl e)
    wanted (Sum c) e o = absurd (both_ways false refl e)
    wanted Count e o = absurd (both_ways false refl e)

every : {X : Type 0} (P : X → Type 0) → ((x : X) → P x) → (xs : List X) → AllByRecursion P xs
every P f [] = tt
every P f (x ∷ xs) = (f x, every P f xs)

kept-side : (p : Past) (h : Holder) (k : ℕ) → IsAmong h p.holders → 0 < h.query.plan.win.slide → is_join h.query.plan.kind ≡ true → is_open_window p.marks h.query k ≡ true → (s : StreamId) (stored : List Record) → filter (is_needed p) stored ≡ filter (is_needed p) p.records
    → filter (is_in_window s h.query k) stored ≡ filter (is_in_window s h.query k) p.records
kept-side p h k among slide kind o s stored e =
    sym (within-stronger (is_in_window s h.query k) (is_needed p) stored (every (λ r. is_in_window s h.query k r ≡ true → is_needed p r ≡ true) (row-needed p h k among slide kind o s) stored))
    ∙ ap (filter (is_in_window s h.query k)) e
    ∙ within-stronger (is_in_window s h.query k) (is_needed p) p.records (every (λ r. is_in_window s h.query k r ≡ true → is_needed p r ≡ true) (row-needed p h k among slide kind o s) p.records)

join-windowed : (kind : Kind) → is_join kind ≡ true → has_windows kind ≡ true
join-windowed Join e = refl
join-windowed Select e = e
join-windowed (Sum c) e = refl
join-windowed Count e = refl

-- the couples between the kept records of a window's slices are those of all records of the window
pub couples-are-those : {B : Type 0} (step : B → Couple → B) → Free step → (p : Past) (stored : List Record) (h : Holder) (k : ℕ) (cs ds : List ℕ) → IsAmong h p.holders → LiveApart p.holders → AllByRecursion IsForward p.holders
    → 0 < h.query.plan.win.slide → is_join h.query.plan.kind ≡ true → is_open_window p.marks h.query k ≡ true → filter (is_needed p) stored ≡ filter (is_needed p) p.records
    → Once cs → Once ds → AreIn p.holders h.query.plan.left cs stored → AreIn p.holders h.query.plan.right ds stored
    → Same step (couples_between p.holders stored h.slot h.query.plan.left h.query.plan.right cs ds (max (start_of h.query.plan.win k) h.query.from) (min (end_of h.query.plan.win k) h.query.to)) (window_couples h.query k p.records)
couples-are-those step free p stored h k cs ds among apart forward slide kind o kept oc od i j =
    then (couples-of-stored p.holders h k among apart forward slide (join-windowed h.query.plan.kind kind) h.query.plan.left h.query.plan.right ds step free cs stored oc od i j)
    (equal (ap (λ l. flat_map (λ r. flat_map (match_of r) (filter (is_in_window h.query.plan.right h.query k) stored)) l) (kept-side p h k among slide kind o h.query.plan.left stored kept)
    ∙ ap (λ l. flat_map (λ r. flat_map (match_of r) l) (filter (is_in_window h.query.plan.left h.query k) p.records)) (kept-side p h k among slide kind o h.query.plan.right stored kept)))

-- ---- as given

given-side : (s : StreamId) (q : Query) (k : ℕ) (records : List Record) → within q.plan.win k (map (λ (r : Record). r.given) (filter (is_mine q s) records)) ≡ map (λ (r : Record). r.given) (filter (is_in_window s q k) records)
given-side s q k records =
    filter-map (λ (g : Given). in_window q.plan.win k g.time) (λ (r : Record). r.given) (filter (is_mine q s) records)
    ∙ ap (map (λ (r : Record). r.given)) (filter-filter (λ (r : Record). in_window q.plan.win k r.given.time) (is_mine q s) records)

one-left : (r : Record) (rights : List Record) → flat_map (match_of r) rights ≡ couples_with (map (λ (s : Record). s.given) rights) r.given
one-left r [] = refl
one-left r (s ∷ rights) = go (int_eq r.given.key s.given.key) (one-left r rights)
  where
    go : (b : Bool) → flat_map (match_of r) rights ≡ couples_with (map (λ (s : Record). s.given) rights) r.given
        → cond b (couple r.given s.given ∷ []) [] ++ flat_map (match_of r) rights ≡ map (couple r.given) (cond b (s.given ∷ filter (λ (g : Given). int_eq r.given.key g.key) (map (λ (s : Record). s.given) rights)) (filter (λ (g : Given). int_eq r.given.key g.key) (map (λ (s : Record). s.given) rights)))
    go true e = ap (λ l. couple r.given s.given ∷ l) e
    go false e = e

all-lefts : (lefts rights : List Record) → flat_map (λ r. flat_map (match_of r) rights) lefts ≡ couples (map (λ (r : Record). r.given) lefts) (map (λ (r : Record). r.given) rights)
all-lefts [] rights = refl
all-lefts (r ∷ lefts) rights = ap₂ (λ a b. a ++ b) (one-left r rights) (all-lefts lefts rights)

-- the couples of a window's records are those of the records as they were given
pub couples-as-given : (p : Past) (q : Query) (k : ℕ) → window_couples q k p.records ≡ couples (within q.plan.win k (given_to (view_of p) q q.plan.left)) (within q.plan.win k (given_to (view_of p) q q.plan.right))
couples-as-given p q k =
    all-lefts (filter (is_in_window q.plan.left q k) p.records) (filter (is_in_window q.plan.right q k) p.records)
    ∙ ap₂ couples (sym (given-side q.plan.left q k p.records)) (sym (given-side q.plan.right q k p.records))

-- ---- counted

abbrev counting : (Couple → Bool) → ℕ → Couple → ℕ
counting test n c = n + cond (test c) 1 0

count-from : (test : Couple → Bool) (n : ℕ) (xs : List Couple) → fold (counting test) n xs ≡ n + count_by test xs
count-from test n [] = omega arith
count-from test n (x ∷ xs) =
    let rest = count-from test (n + cond (test x) 1 0) xs in
    omega (arith, rest, sum_by-cons (λ c. cond {A = ℕ} (test c) 1 0) x xs)

-- lists that are the same for every free step have as many of each sort
same-counts : (test : Couple → Bool) (xs ys : List Couple) → Same (counting test) xs ys → count_by test xs ≡ count_by test ys
same-counts test xs ys s =
    let e = s.same 0 in
    let f = count-from test 0 xs in
    let g = count-from test 0 ys in
    omega (arith, e, f, g)

pub couples-counted : (test : Couple → Bool) (p : Past) (stored : List Record) (h : Holder) (k : ℕ) (cs ds : List ℕ) → IsAmong h p.holders → LiveApart p.holders → AllByRecursion IsForward p.holders
    → 0 < h.query.plan.win.slide → is_join h.query.plan.kind ≡ true → is_open_window p.marks h.query k ≡ true → filter (is_needed p) stored ≡ filter (is_needed p) p.records
    → Once cs → Once ds → AreIn p.holders h.query.plan.left cs stored → AreIn p.holders h.query.plan.right ds stored
    → count_by test (couples_between p.holders stored h.slot h.query.plan.left h.query.plan.right cs ds (max (start_of h.query.plan.win k) h.query.from) (min (end_of h.query.plan.win k) h.query.to)) ≡ count_by test (window_couples h.query k p.records)
couples-counted test p stored h k cs ds among apart forward slide kind o kept oc od i j =
    same-counts test (couples_between p.holders stored h.slot h.query.plan.left h.query.plan.right cs ds (max (start_of h.query.plan.win k) h.query.from) (min (end_of h.query.plan.win k) h.query.to)) (window_couples h.query k p.records)
    (couples-are-those (counting test) (λ n x y. omega arith) p stored h k cs ds among apart forward slide kind o kept oc od i j)
