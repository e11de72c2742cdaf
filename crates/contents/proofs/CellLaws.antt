-- The cells of a window's slices add up to what its records add up to.
use Rattle.std.proofs.Common.{◌≡◌, inl, inr, ℕ, ◌*◌, ◌/◌, ◌≤◌, ◌<◌, ◌&&◌, ◌||◌, nat_le, nat_lt, max, min, eqb, Bool, cond, true, false, List, [], ◌∷◌, length, suc, refl, sym, ap, ◌∙◌, arith}
use Rattle.std.proofs.lemmas.Bool.{le-leb, lt-ltb, leb-true, ltb-true, cases_Bool, and_parts, and_from, and_left, and_right, or_left, eqb-true, eq-eqb, both_ways}
use Rattle.std.proofs.lemmas.Nat.{le-div}
use Rattle.std.specs.List.{filter, flat_map, AllByRecursion}
use Rattle.as_base.specs.declared.item.Record.{Record}
use Rattle.as_base.specs.declared.query.Kind.{Kind}
use Rattle.as_base.specs.declared.query.Kind.TheVariants.{Select, Sum, Count, Join}
use Rattle.as_base.specs.declared.stream.StreamId.{StreamId}
use Rattle.as_base.specs.declared.stream.StreamId.TheVariants.{A, B, C, D}
use Rattle.as_base.specs.Query.{holds_all}
use Rattle.as_base.specs.Stream.{place_of}
use Rattle.as_base.specs.Windows.{start_of, end_of, last_window, in_window}
use Rattle.group_table.specs.Cells.{add_in}
use Rattle.group_table.proofs.CellLaws.{add_free, merge}
use Rattle.shared_agg.specs.Slices.{is_between}
use Rattle.views.specs.IsHolder.{IsAmong}
use Rattle.views.specs.Query.{Query}
use Rattle.views.specs.Slots.{Holder, has_windows, lives_at, cut_of}
use Rattle.views.specs.View.{reads, bounds_for, is_of, is_mine}
use Rattle.views.proofs.CutLaws.{windows-by_cut}
use Rattle.contents.specs.Cells.{adds_up, share, whole_share, share_for, share_at, cells_at, cells_between, is_in_window, window_sums}
use Rattle.contents.specs.Free.{Same, member, Once}
use Rattle.contents.specs.IsPast.{LiveApart}
use Rattle.contents.specs.Kept.{is_open_window, is_open, slice_at}
use Rattle.contents.specs.Past.{Past, mark_for}
use Rattle.contents.proofs.FreeLaws.{equal, then, each_same, every_same, where_same, by_keys}
use Rattle.contents.proofs.SoleLaws.{sole, lives-by_cut}

-- ---- streams

-- streams of one place are one
pub same-stream : (a b : StreamId) → place_of a ≡ place_of b → a ≡ b
same-stream A A e = refl
same-stream B B e = refl
same-stream C C e = refl
same-stream D D e = refl
same-stream A B e = absurd (omega (arith, e))
same-stream A C e = absurd (omega (arith, e))
same-stream A D e = absurd (omega (arith, e))
same-stream B A e = absurd (omega (arith, e))
same-stream B C e = absurd (omega (arith, e))
same-stream B D e = absurd (omega (arith, e))
same-stream C A e = absurd (omega (arith, e))
same-stream C B e = absurd (omega (arith, e))
same-stream C D e = absurd (omega (arith, e))
same-stream D A e = absurd (omega (arith, e))
same-stream D B e = absurd (omega (arith, e))
same-stream D C e = absurd (omega (arith, e))

pub stream-is : (s : StreamId) (r : Record) → is_of s r ≡ true → r.given.stream ≡ s
stream-is s r e = same-stream r.given.stream s (eqb-true (place_of r.given.stream) (place_of s) e)

-- what is known of a record that belongs to a query
pub record Mine (q : Query) (s : StreamId) (r : Record) : Type 0 where
  pub reads_it : reads q.plan s ≡ true
  pub of_it : is_of s r ≡ true
  pub lives : lives_at q r.given.time ≡ true
  pub within : holds_all (bounds_for q.plan s) r.given ≡ true

pub mine-parts : (q : Query) (s : StreamId) (r : Record) → is_mine q s r ≡ true → Mine q s r
mine-parts q s r e = go (reads q.plan s) (is_of s r) (nat_le q.from r.given.time) (nat_lt r.given.time q.to) (holds_all (bounds_for q.plan s) r.given) refl refl refl refl refl e
  where
    go : (a b c d f : Bool) → reads q.plan s ≡ a → is_of s r ≡ b → nat_le q.from r.given.time ≡ c → nat_lt r.given.time q.to ≡ d → holds_all (bounds_for q.plan s) r.given ≡ f
        → (a && b && c && d && f) ≡ true → Mine q s r
    go true true true true true x y z w v e = record {
      reads_it = x;
      of_it = y;
      lives = and_from (nat_le q.from r.given.time) (nat_lt r.given.time q.to) z w;
      within = v;
    }
    go false b c d f x y z w v e = absurd (both_ways false refl e)
    go true false c d f x y z w v e = absurd (both_ways false refl e)
    go true true false d f x y z w v e = absurd (both_ways false refl e)
    go true true true false f x y z w v e = absurd (both_ways false refl e)
    go true true true true false x y z w v e = absurd (both_ways false refl e)

and-true : (b : Bool) → (b && true) ≡ b
and-true true = refl
and-true false = refl

-- ---- slices by their starts

member-step : (p : ℕ → Bool) (c d : ℕ) (cs : List ℕ) (b : Bool) → p d ≡ b → member c (filter p cs) ≡ (p c && member c cs) → member c (cond b (d ∷ filter p cs) (filter p cs)) ≡ (p c && (eqb d c || member c cs))
member-step p c d cs true e h = elim (cases_Bool (eqb d c)) [
  | inl f ↦ ap (λ x. x || member c (filter p cs)) f ∙ sym (and_from (p c) (eqb d c || member c cs) (ap p (sym (eqb-true d c f)) ∙ e) (or_left (eqb d c) (member c cs) f))
  | inr f ↦ ap (λ x. x || member c (filter p cs)) f ∙ h ∙ sym (ap (λ x. p c && (x || member c cs)) f)
]
member-step p c d cs false e h = elim (cases_Bool (eqb d c)) [
  | inl f ↦ (let q : p c ≡ false = ap p (sym (eqb-true d c f)) ∙ e in h ∙ and_left (p c) (member c cs) q ∙ sym (and_left (p c) (eqb d c || member c cs) q))
  | inr f ↦ h ∙ sym (ap (λ x. p c && (x || member c cs)) f)
]

pub member-filter : (p : ℕ → Bool) (c : ℕ) (cs : List ℕ) → member c (filter p cs) ≡ (p c && member c cs)
member-filter p c [] = sym (and_right (p c) false refl)
member-filter p c (d ∷ cs) = member-step p c d cs (p d) refl (member-filter p c cs)

pub once-filter : (p : ℕ → Bool) (cs : List ℕ) → Once cs → Once (filter p cs)
once-filter p [] o = tt
once-filter p (c ∷ cs) o = elim (p c) as (λ b. Once (cond b (c ∷ filter p cs) (filter p cs))) [
  | true ↦ (member-filter p c cs ∙ and_right (p c) (member c cs) o.0, once-filter p cs o.1)
  | false ↦ once-filter p cs o.1
]

-- ---- windows

mul-mono : (a b c : ℕ) → a ≤ b → a * c ≤ b * c
mul-mono a b c h = grind arith

-- where a window that holds the time is not passed, the last one is not
pub open-last : (marks : List ℕ) (q : Query) (k t : ℕ) → 0 < q.plan.win.slide → is_open_window marks q k ≡ true → start_of q.plan.win k ≤ t → is_open marks q t ≡ true
open-last marks q k t s o h =
    let l = ltb-true (mark_for marks q) (min (end_of q.plan.win k) q.to) o in
    let m = mul-mono k (t / q.plan.win.slide) q.plan.win.slide (le-div k t q.plan.win.slide s h) in
    lt-ltb (mark_for marks q) (min (end_of q.plan.win (last_window q.plan.win t)) q.to) (omega (arith, l, m))

pub adds-windowed : (kind : Kind) → adds_up kind ≡ true → has_windows kind ≡ true
adds-windowed (Sum c) e = refl
adds-windowed Count e = refl
adds-windowed Select e = e
adds-windowed Join e = refl

empty : {X : Type 0} (l : List X) → ((l ≡ [] → ⊥) → ⊥) → l ≡ []
empty [] n = refl
empty (x ∷ l) n = absurd (n (λ e. (let z : suc (length l) ≡ 0 = ap length e in omega (arith, z))))

-- a record of the query's stream in one of the slices, by what it adds and whether it lies in the window
one-record : {X : Type 0} (a st mem row : Bool) (got xs : List X) → (row ≡ true → (a ≡ true) × (st ≡ true)) → (a ≡ true → st ≡ true → got ≡ cond row xs []) → (a ≡ true → (got ≡ [] → ⊥) → mem ≡ true)
    → cond (a && (st && mem)) got [] ≡ cond row xs []
one-record true true true row got xs f g h = g refl refl
one-record true true false row got xs f g h = sym (empty got (λ n. both_ways false refl (h refl n))) ∙ g refl refl
one-record true false mem true got xs f g h = absurd (both_ways false refl (f refl).1)
one-record true false mem false got xs f g h = refl
one-record false st mem true got xs f g h = absurd (both_ways false refl (f refl).0)
one-record false st mem false got xs f g h = refl

module _ (p : Past) (h : Holder) (k : ℕ) (among : IsAmong h p.holders) (apart : LiveApart p.holders) (slide : 0 < h.query.plan.win.slide) (kind : adds_up h.query.plan.kind ≡ true) (unpassed : is_open_window p.marks h.query k ≡ true) where
  -- from where on and up to where the window lies in the query's life
  abbrev lo : ℕ
  lo = max (start_of h.query.plan.win k) h.query.from

  abbrev hi : ℕ
  hi = min (end_of h.query.plan.win k) h.query.to

  -- a record of the query's stream in the query's life is in the part of the window just where its slice begins there
  by-slice : (r : Record) → is_of h.query.plan.left r ≡ true → lives_at h.query r.given.time ≡ true → is_between lo hi r.given.time ≡ is_between lo hi (cut_of p.holders r)
  by-slice r a lives =
      let reading : reads h.query.plan r.given.stream ≡ true = or_left (eqb (place_of h.query.plan.left) (place_of r.given.stream)) _ (eq-eqb (place_of h.query.plan.left) (place_of r.given.stream) (sym (eqb-true (place_of r.given.stream) (place_of h.query.plan.left) a))) in
      windows-by_cut p.holders h r.given.stream r.given.time k among (adds-windowed h.query.plan.kind kind) slide lives reading

  in-slices : (r : Record) → is_in_window h.query.plan.left h.query k r ≡ true → (is_of h.query.plan.left r ≡ true) × (is_between lo hi (cut_of p.holders r) ≡ true)
  in-slices r e =
      let q : Query = h.query in
      let t : ℕ = r.given.time in
      let parts = and_parts (is_mine q q.plan.left r) (in_window q.plan.win k t) e in
      let m = mine-parts q q.plan.left r parts.0 in
      let w = and_parts (nat_le (start_of q.plan.win k) t) (nat_lt t (end_of q.plan.win k)) parts.1 in
      let l = and_parts (nat_le q.from t) (nat_lt t q.to) m.lives in
      let a = leb-true (start_of q.plan.win k) t w.0 in
      let b = ltb-true t (end_of q.plan.win k) w.1 in
      let c = leb-true q.from t l.0 in
      let d = ltb-true t q.to l.1 in
      (m.of_it, sym (by-slice r m.of_it m.lives) ∙ and_from (nat_le lo t) (nat_lt t hi) (le-leb lo t (omega (arith, a, c))) (lt-ltb t hi (omega (arith, b, d))))

  gives : (r : Record) → is_of h.query.plan.left r ≡ true → is_between lo hi (cut_of p.holders r) ≡ true → share_at p h.slot r ≡ cond (is_in_window h.query.plan.left h.query k r) (share h.query.plan r) []
  gives r a st =
      let q : Query = h.query in
      let t : ℕ = r.given.time in
      let c : ℕ = cut_of p.holders r in
      let w = and_parts (nat_le lo c) (nat_lt c hi) st in
      let l : lo ≤ c = leb-true lo c w.0 in
      let u : c < hi = ltb-true c hi w.1 in
      let lives : lives_at q t ≡ true = lives-by_cut p.holders h r.given.stream t among ∙ and_from (nat_le q.from c) (nat_lt c q.to) (le-leb q.from c (omega (arith, l))) (lt-ltb c q.to (omega (arith, u))) in
      let here : is_between lo hi t ≡ true = by-slice r a lives ∙ st in
      let v = and_parts (nat_le lo t) (nat_lt t hi) here in
      let x : lo ≤ t = leb-true lo t v.0 in
      let y : t < hi = ltb-true t hi v.1 in
      let inside : in_window q.plan.win k t ≡ true = and_from (nat_le (start_of q.plan.win k) t) (nat_lt t (end_of q.plan.win k)) (le-leb (start_of q.plan.win k) t (omega (arith, x))) (lt-ltb t (end_of q.plan.win k) (omega (arith, y))) in
      ap (share_for p.marks r) (sole p.holders h t among apart lives)
      ∙ ap (λ b. cond b (whole_share q r) []) (open-last p.marks q k t slide unpassed (omega (arith, x)))
      ∙ ap (λ s. cond (is_mine q s r) (share q.plan r) []) (stream-is q.plan.left r a)
      ∙ sym (ap (λ b. cond b (share q.plan r) []) (ap (λ b. is_mine q q.plan.left r && b) inside ∙ and-true (is_mine q q.plan.left r)))

  each-record : (starts : List ℕ) (rs : List Record) → AllByRecursion (λ r. is_of h.query.plan.left r ≡ true → (share_at p h.slot r ≡ [] → ⊥) → member (cut_of p.holders r) starts ≡ true) rs
      → AllByRecursion (λ r. Same add_in (cond (is_of h.query.plan.left r && member (cut_of p.holders r) (filter (is_between lo hi) starts)) (share_at p h.slot r) []) (cond (is_in_window h.query.plan.left h.query k r) (share h.query.plan r) [])) rs
  each-record starts [] cov = tt
  each-record starts (r ∷ rs) cov = (
    equal (ap (λ b. cond (is_of h.query.plan.left r && b) (share_at p h.slot r) []) (member-filter (is_between lo hi) (cut_of p.holders r) starts)
        ∙ one-record (is_of h.query.plan.left r) (is_between lo hi (cut_of p.holders r)) (member (cut_of p.holders r) starts) (is_in_window h.query.plan.left h.query k r) (share_at p h.slot r) (share h.query.plan r) (in-slices r) (gives r) cov.0),
    each-record starts rs cov.1,
  )

  -- the cells of a window's slices add up to what its records add up to
  pub window-cells : (starts : List ℕ) → Once starts → AllByRecursion (λ r. is_of h.query.plan.left r ≡ true → (share_at p h.slot r ≡ [] → ⊥) → member (cut_of p.holders r) starts ≡ true) p.records
      → cells_between p h.query.plan.left h.slot starts (max (start_of h.query.plan.win k) h.query.from) (min (end_of h.query.plan.win k) h.query.to) ≡ window_sums h.query k p.records
  window-cells starts o cov =
      let s : StreamId = h.query.plan.left in
      let cs : List ℕ = filter (is_between lo hi) starts in
      let all : Same add_in (flat_map (cells_at p s h.slot) cs) (flat_map (share h.query.plan) (filter (is_in_window h.query.plan.left h.query k) p.records)) =
      then (every_same (cells_at p s h.slot) (λ c. flat_map (share_at p h.slot) (slice_at p.holders s c p.records)) cs (λ c. record { same = λ b. merge b (flat_map (share_at p h.slot) (slice_at p.holders s c p.records)) }))
      (then (by_keys add_in add_free (share_at p h.slot) (is_of s) (cut_of p.holders) cs p.records (once-filter (is_between lo hi) starts o))
      (then (each_same (λ r. cond (is_of s r && member (cut_of p.holders r) cs) (share_at p h.slot r) []) (λ r. cond (is_in_window h.query.plan.left h.query k r) (share h.query.plan r) []) p.records (each-record starts p.records cov))
      (equal (sym (where_same (share h.query.plan) (is_in_window h.query.plan.left h.query k) p.records))))) in
      all.same []
