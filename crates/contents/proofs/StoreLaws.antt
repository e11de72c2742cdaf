-- What one message more makes of the cells.
use Rattle.std.proofs.Common.{◌≡◌, ◌⊎◌, inl, inr, ℕ, ◌+◌, ◌*◌, ◌/◌, ◌^◌, ◌≤◌, ◌<◌, ◌&&◌, nat_le, nat_lt, min, max, eqb, int_lt, Bool, cond, true, false, Option, Some, None, List, [], ◌∷◌, ◌++◌, length, suc, map, refl, sym, ap, ◌∙◌, append-nil, append_assoc, arith}
use Rattle.std.proofs.lemmas.Bool.{lt-ltb, le-ltb, lt-leb, ltb-true, le-leb, leb-true, eqb-true, eq-eqb, cases_lt, and_parts, and_from, and_left, and_right, both_ways}
use Rattle.std.proofs.lemmas.Nat.{le-div}
use Rattle.std.proofs.Math.Nat.{lt-div-mul-add, div-mul-le_self}
use Rattle.std.proofs.lemmas.List.Sums.{fold-append}
use Rattle.std.proofs.lemmas.Grind.{flat_map-append}
use Rattle.std.specs.List.{fold, filter, flat_map, AllByRecursion}
use Rattle.as_base.specs.declared.fragment.Cell.{Cell}
use Rattle.as_base.specs.declared.item.Given.{Given}
use Rattle.as_base.specs.declared.item.Record.{Record}
use Rattle.as_base.specs.declared.query.Group.{Group}
use Rattle.shared_agg.specs.Shares.{share_of}
use Rattle.as_base.specs.declared.message.Change.{Change}
use Rattle.as_base.specs.declared.message.Change.TheVariants.{Opened, Closed}
use Rattle.as_base.specs.declared.message.Msg.TheVariants as msg
use Rattle.as_base.specs.declared.query.Kind.{Kind}
use Rattle.as_base.specs.declared.query.Kind.TheVariants.{Select, Sum, Count, Join}
use Rattle.as_base.specs.declared.query.Plan.{Plan}
use Rattle.as_base.specs.declared.stream.StreamId.{StreamId}
use Rattle.as_base.specs.declared.windows.WinSpec.{WinSpec}
use Rattle.as_base.specs.Windows.{start_of, end_of, last_window}
use Rattle.group_table.specs.Cells.{plus, add_in, sums}
use Rattle.views.specs.IsHolder.{time_of, IsUnended, IsAmong}
use Rattle.views.specs.Query.{Query, closed}
use Rattle.views.specs.Slots.{Holder, opened_holder, closed_holder, held, has_windows, lives_at, holds_in_life, has_slot, owner, has_mine, cut, cut_of}
use Rattle.views.specs.View.{reads, is_of, is_mine}
use Rattle.views.proofs.CutLaws.{cut-held, cut-le, windows-by_cut}
use Rattle.views.proofs.NumberLaws.{ended}
use Rattle.views.proofs.SlotLaws.{closed-by, lives-closed}
use Rattle.contents.specs.Cells.{share, whole_share, share_for, share_at, cells_at, is_open_for, is_open_at, HaveCells}
use Rattle.contents.specs.Free.{member}
use Rattle.contents.specs.IsPast.{LiveApart}
use Rattle.contents.specs.Kept.{is_open_window, is_open, is_in, slice_at}
use Rattle.contents.specs.Past.{Past, followed, mark_of, mark_for}
use Rattle.contents.proofs.CellLaws.{mine-parts}
use Rattle.contents.proofs.FreeLaws.{where_same}
use Rattle.contents.proofs.KeptLaws.{filter-append}
use Rattle.contents.proofs.NeedLaws.{mark_for-up, mine-closed, lt_weaker}
use Rattle.contents.proofs.SoleLaws.{owner-by_cut, owner-found, owner-is}

one-given : (f : Record → List Cell) (r : Record) (b : Bool) → flat_map f (cond b (r ∷ []) []) ≡ cond b (f r) []
one-given f r true = append-nil (f r)
one-given f r false = refl

-- a record adds its share to the cells of its slice
pub cells-with_record : (p : Past) (r : Record) (s : StreamId) (slot c : ℕ)
    → cells_at (followed p (msg.Rec r)) s slot c ≡ fold add_in (cells_at p s slot c) (cond (is_in p.holders s c r) (share_at p slot r) [])
cells-with_record p r s slot c =
    ap (λ l. sums (flat_map (share_at p slot) l)) (filter-append (is_in p.holders s c) p.records (r ∷ []))
    ∙ ap sums (flat_map-append (share_at p slot) (slice_at p.holders s c p.records) (slice_at p.holders s c (r ∷ [])))
    ∙ fold-append add_in [] (flat_map (share_at p slot) (slice_at p.holders s c p.records)) (flat_map (share_at p slot) (slice_at p.holders s c (r ∷ [])))
    ∙ ap (fold add_in (cells_at p s slot c)) (one-given (share_at p slot) r (is_in p.holders s c r))

-- ---- whether windows are passed goes by slices

last-same : (w : WinSpec) (t c : ℕ) → 0 < w.slide → c ≤ t → start_of w (last_window w t) ≤ c → last_window w t ≡ last_window w c
last-same w t c s l e =
    let a : t / w.slide ≤ c / w.slide = le-div (t / w.slide) c w.slide s e in
    let d : (c / w.slide) * w.slide ≤ c = div-mul-le_self c w.slide in
    let b : c / w.slide ≤ t / w.slide = le-div (c / w.slide) t w.slide s (omega (arith, d, l)) in
    omega (arith, a, b)

-- the last window that holds a time is the last one that holds the beginning of its slice
pub last-by_cut : (hs : List Holder) (h : Holder) (s : StreamId) (t : ℕ) → IsAmong h hs → 0 < h.query.plan.win.slide → h.query.plan.win.slide ≤ h.query.plan.win.size
    → lives_at h.query t ≡ true → has_windows h.query.plan.kind ≡ true → reads h.query.plan s ≡ true → last_window h.query.plan.win t ≡ last_window h.query.plan.win (cut hs s t)
last-by_cut hs h s t among slide size lives windowed reading =
    let q : Query = h.query in
    let k : ℕ = last_window q.plan.win t in
    let c : ℕ = cut hs s t in
    let a : t < t / q.plan.win.slide * q.plan.win.slide + q.plan.win.slide = lt-div-mul-add slide in
    let d : (t / q.plan.win.slide) * q.plan.win.slide ≤ t = div-mul-le_self t q.plan.win.slide in
    let l = and_parts (nat_le q.from t) (nat_lt t q.to) lives in
    let from = leb-true q.from t l.0 in
    let to = ltb-true t q.to l.1 in
    let x : start_of q.plan.win k + q.plan.win.size ≡ end_of q.plan.win k = refl in
    let here : holds_in_life q k t ≡ true = and_from (nat_le (max (start_of q.plan.win k) q.from) t) (nat_lt t (min (end_of q.plan.win k) q.to))
    (le-leb (max (start_of q.plan.win k) q.from) t (omega (arith, d, from))) (lt-ltb t (min (end_of q.plan.win k) q.to) (omega (arith, a, size, to))) in
    let there = and_parts (nat_le (max (start_of q.plan.win k) q.from) c) (nat_lt c (min (end_of q.plan.win k) q.to)) (sym (windows-by_cut hs h s t k among windowed slide lives reading) ∙ here) in
    let low = leb-true (max (start_of q.plan.win k) q.from) c there.0 in
    last-same q.plan.win t c slide (cut-le hs s t) (omega (arith, low))

-- ---- an advance

abbrev pub no-cells : Record → List Cell
no-cells r = []

pub same-walk : {Y X : Type 0} (f g : Y → List X) (p q : Y → Bool) (ys : List Y) → AllByRecursion (λ y. cond (p y) (f y) [] ≡ cond (q y) (g y) []) ys → flat_map f (filter p ys) ≡ flat_map g (filter q ys)
same-walk {Y = Y} f g p q ys a = where_same f p ys ∙ walk ys a ∙ sym (where_same g q ys)
  where
    walk : (zs : List Y) → AllByRecursion (λ y. cond (p y) (f y) [] ≡ cond (q y) (g y) []) zs → flat_map (λ y. cond (p y) (f y) []) zs ≡ flat_map (λ y. cond (q y) (g y) []) zs
    walk [] a = refl
    walk (y ∷ zs) a = ap (λ l. l ++ flat_map (λ y. cond (p y) (f y) []) zs) a.0 ∙ ap (λ l. cond (q y) (g y) [] ++ l) (walk zs a.1)

pub every-one : {Y : Type 0} (P : Y → Type 0) (ys : List Y) → ((y : Y) → P y) → AllByRecursion P ys
every-one P [] h = tt
every-one P (y ∷ ys) h = (h y, every-one P ys h)

pub none-of : (b : Bool) → cond {A = List Cell} b [] [] ≡ []
none-of true = refl
none-of false = refl

-- a record that does not belong to the owner adds nothing
pub no-share : (marks : List ℕ) (r : Record) (o : Option Holder) → has_mine r o ≡ false → share_for marks r o ≡ []
no-share marks r None e = refl
no-share marks r (Some h) e = ap (λ b. cond (is_open marks h.query r.given.time) (cond b (share h.query.plan r) []) []) e ∙ none-of (is_open marks h.query r.given.time)

open-before : (marks wm : List ℕ) (q : Query) (k : ℕ) → ((s : StreamId) → mark_of marks s ≤ mark_of wm s) → is_open_window wm q k ≡ true → is_open_window marks q k ≡ true
open-before marks wm q k up e =
    let end : ℕ = min (end_of q.plan.win k) q.to in
    lt_weaker (mark_for marks q) (mark_for wm q) end end (mark_for-up marks wm q up) (omega arith) e

three : {X : Type 0} (o o' w : Bool) (l : List X) → o' ≡ w → (o' ≡ true → o ≡ true) → cond o' l [] ≡ cond w (cond o l []) []
three o true true l f g = sym (ap (λ b. cond b l []) (g refl))
three o true false l f g = absurd (both_ways false refl (sym f))
three o false true l f g = absurd (both_ways false refl f)
three o false false l f g = refl

-- what a query without windows adds is nothing
pub no-windows : (kind : Kind) (by : Group) (g : Given) → has_windows kind ≡ false → share_of by kind g ≡ []
no-windows Select by g e = refl
no-windows (Sum c) by g e = absurd (both_ways false refl (sym e))
no-windows Count by g e = absurd (both_ways false refl (sym e))
no-windows Join by g e = refl

-- windows move on and leave no gap
abbrev pub Moves : Holder → Type 0
Moves h = (0 < h.query.plan.win.slide) × (h.query.plan.win.slide ≤ h.query.plan.win.size)

module _ (p : Past) (wm : List ℕ) (slot : ℕ) (apart : LiveApart p.holders) (moves : (h : Holder) → IsAmong h p.holders → Moves h) (up : (s : StreamId) → mark_of p.marks s ≤ mark_of wm s) where
  later-known : (c : ℕ) (r : Record) (h : Holder) → IsAmong h p.holders → c ≡ cut_of p.holders r → lives_at h.query r.given.time ≡ true → is_mine h.query r.given.stream r ≡ true
      → (b : Bool) → has_windows h.query.plan.kind ≡ b
      → share_for wm r (Some h) ≡ cond (is_open_window wm h.query (last_window h.query.plan.win c)) (share_for p.marks r (Some h)) []
  later-known c r h among e lives mine true w =
      let q : Query = h.query in
      let k : ℕ = last_window q.plan.win r.given.time in
      three (is_open p.marks q r.given.time) (is_open wm q r.given.time) (is_open_window wm q (last_window q.plan.win c)) (whole_share q r)
      (ap (is_open_window wm q) (last-by_cut p.holders h r.given.stream r.given.time among (moves h among).0 (moves h among).1 lives w (mine-parts q r.given.stream r mine).reads_it ∙ ap (last_window q.plan.win) (sym e)))
      (λ f. open-before p.marks wm q k up f)
  later-known c r h among e lives mine false w =
      let q : Query = h.query in
      let nothing : whole_share q r ≡ [] = ap (λ l. cond (is_mine q r.given.stream r) l []) (no-windows q.plan.kind q.plan.group r.given w) ∙ none-of (is_mine q r.given.stream r) in
      ap (λ l. cond (is_open wm q r.given.time) l []) nothing ∙ none-of (is_open wm q r.given.time)
      ∙ sym (ap (λ l. cond (is_open_window wm q (last_window q.plan.win c)) (cond (is_open p.marks q r.given.time) l []) []) nothing
      ∙ ap (λ l. cond (is_open_window wm q (last_window q.plan.win c)) l []) (none-of (is_open p.marks q r.given.time)) ∙ none-of (is_open_window wm q (last_window q.plan.win c)))

  share-later : (c : ℕ) (r : Record) → c ≡ cut_of p.holders r → (b : Bool) → has_mine r (owner p.holders r.given.time slot) ≡ b
      → share_for wm r (owner p.holders r.given.time slot) ≡ cond (is_open_at wm p.holders slot c) (share_for p.marks r (owner p.holders r.given.time slot)) []
  share-later c r e false m =
      no-share wm r (owner p.holders r.given.time slot) m
      ∙ sym (ap (λ l. cond (is_open_at wm p.holders slot c) l []) (no-share p.marks r (owner p.holders r.given.time slot) m) ∙ none-of (is_open_at wm p.holders slot c))
  share-later c r e true m =
      let x = owner-found p.holders r.given.time slot r m in
      let h : Holder = x.0 in
      let o = and_parts (eqb h.slot slot) (lives_at h.query r.given.time) x.2 in
      let at_time = owner-is p.holders h r.given.time slot x.1 apart (eqb-true h.slot slot o.0) o.1 in
      let at_cut : owner p.holders c slot ≡ Some h = ap (λ n. owner p.holders n slot) e ∙ sym (owner-by_cut p.holders r.given.stream r.given.time slot) ∙ at_time in
      ap (share_for wm r) at_time
      ∙ later-known c r h x.1 e o.1 x.3 (has_windows h.query.plan.kind) refl
      ∙ sym (ap (λ w. cond (is_open_for wm c w) (share_for p.marks r (owner p.holders r.given.time slot)) []) at_cut
      ∙ ap (λ w. cond (is_open_window wm h.query (last_window h.query.plan.win c)) (share_for p.marks r w) []) at_time)

  -- an advance leaves the cells of a slice, or takes them out where the owner's last window there is passed
  pub cells-with_advance : (s : StreamId) (c : ℕ) → cells_at (followed p (msg.Advance wm)) s slot c ≡ cond (is_open_at wm p.holders slot c) (cells_at p s slot c) []
  cells-with_advance s c =
      ap sums (same-walk (share_at (followed p (msg.Advance wm)) slot) (λ r. cond (is_open_at wm p.holders slot c) (share_at p slot r) []) (is_in p.holders s c) (is_in p.holders s c) p.records
      (every-one (λ r. cond (is_in p.holders s c r) (share_at (followed p (msg.Advance wm)) slot r) [] ≡ cond (is_in p.holders s c r) (cond (is_open_at wm p.holders slot c) (share_at p slot r) []) []) p.records
      (λ r. when (is_in p.holders s c r) (share_at (followed p (msg.Advance wm)) slot r) (cond (is_open_at wm p.holders slot c) (share_at p slot r) [])
      (λ e. share-later c r (eqb-true c (cut_of p.holders r) (and_parts (is_of s r) (eqb c (cut_of p.holders r)) e).1) (has_mine r (owner p.holders r.given.time slot)) refl))))
      ∙ out (is_open_at wm p.holders slot c) (slice_at p.holders s c p.records)
    where
      when : (b : Bool) (k l : List Cell) → (b ≡ true → k ≡ l) → cond b k [] ≡ cond b l []
      when true k l e = e refl
      when false k l e = refl

      nothing : (rs : List Record) → flat_map no-cells rs ≡ []
      nothing [] = refl
      nothing (r ∷ rs) = nothing rs

      out : (b : Bool) (rs : List Record) → sums (flat_map (λ r. cond b (share_at p slot r) []) rs) ≡ cond b (sums (flat_map (share_at p slot) rs)) []
      out true rs = refl
      out false rs = ap sums (nothing rs)

-- ---- a change

mark-case : (m at : ℕ) → (0 < m → m < 2 ^ 62 → m < at) → 0 < at → (2 ^ 62 ≤ m) ⊎ (m < at)
mark-case m at h p = elim (cases_lt m (2 ^ 62)) [
  | inl l ↦ elim (cases_lt 0 m) [ inl z ↦ inr (h z l) | inr z ↦ inr (omega (arith, z, p)) ]
  | inr l ↦ inl l
]

least-case : (a b at : ℕ) → (2 ^ 62 ≤ a) ⊎ (a < at) → (2 ^ 62 ≤ b) ⊎ (b < at) → (2 ^ 62 ≤ min a b) ⊎ (min a b < at)
least-case a b at (inl x) (inl y) = inl (omega (arith, x, y))
least-case a b at (inl x) (inr y) = inr (omega (arith, y))
least-case a b at (inr x) y = inr (omega (arith, x))

-- a change comes after every watermark but those of streams without one and of ended streams
abbrev pub IsClear : List ℕ → ℕ → Type 0
IsClear marks at = (s : StreamId) → 0 < mark_of marks s → mark_of marks s < 2 ^ 62 → mark_of marks s < at

pub end-case : (m e at : ℕ) → at ≤ 2 ^ 62 → (2 ^ 62 ≤ m) ⊎ (m < at) → nat_lt m (min e at) ≡ nat_lt m (min e (2 ^ 62))
end-case m e at l (inl x) = le-ltb m (min e at) (omega (arith, l, x)) ∙ sym (le-ltb m (min e (2 ^ 62)) (omega (arith, x)))
end-case m e at l (inr x) = elim (cases_lt m e) [
  | inl y ↦ lt-ltb m (min e at) (omega (arith, x, y)) ∙ sym (lt-ltb m (min e (2 ^ 62)) (omega (arith, x, y, l)))
  | inr y ↦ le-ltb m (min e at) (omega (arith, y)) ∙ sym (le-ltb m (min e (2 ^ 62)) (omega (arith, y)))
]

-- a closing leaves which windows are passed
pub open-ended : (marks : List ℕ) (q : Query) (at k : ℕ) → IsClear marks at → 0 < at → at ≤ 2 ^ 62 → q.to ≡ 2 ^ 62 → is_open_window marks (ended at q) k ≡ is_open_window marks q k
open-ended marks q at k c some l e =
    end-case (mark_for marks q) (end_of q.plan.win k) at l
    (least-case (mark_of marks q.plan.left) (mark_of marks q.plan.right) at (mark-case (mark_of marks q.plan.left) at (c q.plan.left) some) (mark-case (mark_of marks q.plan.right) at (c q.plan.right) some))
    ∙ ap (λ x. nat_lt (mark_for marks q) (min (end_of q.plan.win k) x)) (sym e)

open-closed : (marks : List ℕ) (n at k : ℕ) (h : Holder) → IsUnended h → IsClear marks at → 0 < at → at ≤ 2 ^ 62 → is_open_window marks (closed n at h.query) k ≡ is_open_window marks h.query k
open-closed marks n at k h u c some l = closed-by (λ q. is_open_window marks q k ≡ is_open_window marks h.query k) n at h.query
    (λ live. open-ended marks h.query at k c some l (u.lasts (and_parts (eqb h.query.n n) h.query.live live).1)) refl

plan-closed : (n at : ℕ) (q : Query) → (closed n at q).plan ≡ q.plan
plan-closed n at q = closed-by (λ r. r.plan ≡ q.plan) n at q (λ live. refl) refl

share-closed : (marks : List ℕ) (r : Record) (n at : ℕ) (h : Holder) → IsUnended h → IsClear marks at → r.given.time < at → at ≤ 2 ^ 62 → r.given.time < 2 ^ 62
    → share_for marks r (Some (closed_holder n at h)) ≡ share_for marks r (Some h)
share-closed marks r n at h u c early l low =
    let q : Query = closed n at h.query in
    let a : is_open marks q r.given.time ≡ is_open marks h.query r.given.time =
    ap (λ w. is_open_window marks q (last_window w r.given.time)) (ap (λ (plan : Plan). plan.win) (plan-closed n at h.query)) ∙ open-closed marks n at (last_window h.query.plan.win r.given.time) h u c (omega (arith, early)) l in
    let b : is_mine q r.given.stream r ≡ is_mine h.query r.given.stream r = mine-closed n at r h u early low in
    ap (λ x. cond x (whole_share q r) []) a
    ∙ ap (λ x. cond (is_open marks h.query r.given.time) (cond x (share q.plan r) []) []) b
    ∙ ap (λ (plan : Plan). cond (is_open marks h.query r.given.time) (cond (is_mine h.query r.given.stream r) (share plan r) []) []) (plan-closed n at h.query)

owner-closed : (marks : List ℕ) (r : Record) (n at slot : ℕ) (hs : List Holder) → AllByRecursion IsUnended hs → IsClear marks at → r.given.time < at → at ≤ 2 ^ 62 → r.given.time < 2 ^ 62
    → share_for marks r (owner (map (closed_holder n at) hs) r.given.time slot) ≡ share_for marks r (owner hs r.given.time slot)
owner-closed marks r n at slot [] u c early l low = refl
owner-closed marks r n at slot (h ∷ hs) u c early l low =
    ap (λ b. share_for marks r (cond (eqb h.slot slot && b) (Some (closed_holder n at h)) (owner (map (closed_holder n at) hs) r.given.time slot))) (lives-closed n at r.given.time h u.0 early low)
    ∙ either (eqb h.slot slot && lives_at h.query r.given.time) (owner-closed marks r n at slot hs u.1 c early l low)
  where
    either : (b : Bool) → share_for marks r (owner (map (closed_holder n at) hs) r.given.time slot) ≡ share_for marks r (owner hs r.given.time slot)
        → share_for marks r (cond b (Some (closed_holder n at h)) (owner (map (closed_holder n at) hs) r.given.time slot)) ≡ share_for marks r (cond b (Some h) (owner hs r.given.time slot))
    either true rest = share-closed marks r n at h u.0 c early l low
    either false rest = rest

owner-opened : (hs : List Holder) (g : Holder) (t slot : ℕ) → t < g.query.from → owner (hs ++ g ∷ []) t slot ≡ owner hs t slot
owner-opened [] g t slot early = ap (λ b. cond b (Some g) None) (and_right (eqb g.slot slot) (lives_at g.query t) (and_left (nat_le g.query.from t) (nat_lt t g.query.to) (lt-leb g.query.from t early)))
owner-opened (h ∷ hs) g t slot early = ap (λ o. cond (has_slot t slot h) (Some h) o) (owner-opened hs g t slot early)

share-changed : (p : Past) (c : Change) (slot : ℕ) (r : Record) → AllByRecursion IsUnended p.holders → IsClear p.marks (time_of c) → r.given.time < time_of c → time_of c ≤ 2 ^ 62
    → share_at (followed p (msg.Change c)) slot r ≡ share_at p slot r
share-changed p (Opened n k at plan) slot r u c early l = ap (share_for p.marks r) (owner-opened p.holders (opened_holder n k at plan) r.given.time slot early)
share-changed p (Closed n k at) slot r u c early l = owner-closed p.marks r n at slot p.holders u c early l (omega (arith, early, l))

each-changed : (p : Past) (c : Change) (s : StreamId) (slot d : ℕ) (rs : List Record) → AllByRecursion IsUnended p.holders → IsClear p.marks (time_of c) → time_of c ≤ 2 ^ 62 → AllByRecursion (λ (r : Record). r.given.time < time_of c) rs
    → AllByRecursion (λ r. cond (is_in (held p.holders c) s d r) (share_at (followed p (msg.Change c)) slot r) [] ≡ cond (is_in p.holders s d r) (share_at p slot r) []) rs
each-changed p c s slot d [] u k f a = tt
each-changed p c s slot d (r ∷ rs) u k f a = (
  ap (λ n. cond (is_of s r && eqb d n) (share_at (followed p (msg.Change c)) slot r) []) (cut-held p.holders c r.given.stream r.given.time u a.0 (let l = a.0 in omega (arith, l, f)))
      ∙ ap (λ x. cond (is_in p.holders s d r) x []) (share-changed p c slot r u k a.0 f),
  each-changed p c s slot d rs u k f a.1,
)

-- a change leaves all cells
pub cells-with_change : (p : Past) (c : Change) (s : StreamId) (slot d : ℕ) → AllByRecursion IsUnended p.holders → IsClear p.marks (time_of c) → time_of c ≤ 2 ^ 62 → AllByRecursion (λ (r : Record). r.given.time < time_of c) p.records
    → cells_at (followed p (msg.Change c)) s slot d ≡ cells_at p s slot d
cells-with_change p c s slot d u k f a =
    ap sums (same-walk (share_at (followed p (msg.Change c)) slot) (share_at p slot) (is_in (held p.holders c) s d) (is_in p.holders s d) p.records (each-changed p c s slot d p.records u k f a))

-- ---- the slices that have cells cover the records

not-nil : {X : Type 0} (x : X) (xs : List X) → x ∷ xs ≡ [] → ⊥
not-nil x xs e = let z : suc (length xs) ≡ 0 = ap length e in omega (arith, z)

add-some : (l : List Cell) (c : Cell) → add_in l c ≡ [] → ⊥
add-some [] c e = not-nil c [] e
add-some (d ∷ ds) c e = go (int_lt d.group c.group) (int_lt c.group d.group) e
  where
    go : (a b : Bool) → cond a (d ∷ add_in ds c) (cond b (c ∷ d ∷ ds) (plus d c ∷ ds)) ≡ [] → ⊥
    go true b e = not-nil d (add_in ds c) e
    go false true e = not-nil c (d ∷ ds) e
    go false false e = not-nil (plus d c) ds e

fold-some : (cs l : List Cell) → (l ≡ [] → ⊥) → fold add_in l cs ≡ [] → ⊥
fold-some [] l n e = n e
fold-some (c ∷ cs) l n e = fold-some cs (add_in l c) (add-some l c) e

pub sums-some : (cs : List Cell) → (cs ≡ [] → ⊥) → sums cs ≡ [] → ⊥
sums-some [] n e = n refl
sums-some (c ∷ cs) n e = fold-some cs (c ∷ []) (not-nil c []) e

append-some : {X : Type 0} (xs ys : List X) → xs ++ ys ≡ [] → (xs ≡ []) × (ys ≡ [])
append-some [] ys e = (refl, e)
append-some (x ∷ xs) ys e = absurd (not-nil x (xs ++ ys) e)

walk-some : (f : Record → List Cell) (q : Record → Bool) (front : List Record) (r : Record) (back : List Record) → q r ≡ true → (f r ≡ [] → ⊥) → flat_map f (filter q (front ++ r ∷ back)) ≡ [] → ⊥
walk-some f q front r back e n z = at front (sym (where_same f q (front ++ r ∷ back)) ∙ z)
  where
    at : (front : List Record) → flat_map (λ y. cond (q y) (f y) []) (front ++ r ∷ back) ≡ [] → ⊥
    at [] z = n (sym (ap (λ b. cond b (f r) []) e) ∙ (append-some (cond (q r) (f r) []) (flat_map (λ y. cond (q y) (f y) []) back) z).0)
    at (x ∷ front) z = at front (append-some (cond (q x) (f x) []) (flat_map (λ y. cond (q y) (f y) []) (front ++ r ∷ back)) z).1

-- where the slices in which the slot has a cell are among these, each record of the stream that adds something is in one
pub covered : (p : Past) (s : StreamId) (slot : ℕ) (starts : List ℕ) → HaveCells p s slot starts
    → AllByRecursion (λ r. is_of s r ≡ true → (share_at p slot r ≡ [] → ⊥) → member (cut_of p.holders r) starts ≡ true) p.records
covered p s slot starts have = each [] p.records refl
  where
    each : (front rs : List Record) → p.records ≡ front ++ rs → AllByRecursion (λ r. is_of s r ≡ true → (share_at p slot r ≡ [] → ⊥) → member (cut_of p.holders r) starts ≡ true) rs
    each front [] e = tt
    each front (r ∷ rs) e = (
      (λ a n. have (cut_of p.holders r) (sums-some (flat_map (share_at p slot) (slice_at p.holders s (cut_of p.holders r) p.records))
          (λ z. walk-some (share_at p slot) (is_in p.holders s (cut_of p.holders r)) front r rs (and_from (is_of s r) (eqb (cut_of p.holders r) (cut_of p.holders r)) a (eq-eqb (cut_of p.holders r) (cut_of p.holders r) refl)) n
          (ap (λ l. flat_map (share_at p slot) (slice_at p.holders s (cut_of p.holders r) l)) (sym e) ∙ z)))),
      each (front ++ r ∷ []) rs (e ∙ sym (append_assoc front (r ∷ []) rs)),
    )
