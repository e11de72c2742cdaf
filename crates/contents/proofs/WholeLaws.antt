-- The cells that are there are whole, and a record that is not late adds the whole of its share.
use Rattle.std.proofs.Common.{◌≡◌, inl, inr, ℕ, ◌+◌, ◌*◌, ◌/◌, ◌≤◌, ◌<◌, ◌&&◌, nat_le, nat_lt, min, eqb, Bool, cond, true, false, Option, Some, None, List, [], ◌∷◌, get_or, refl, sym, ap, ◌∙◌, arith}
use Rattle.std.proofs.lemmas.Bool.{lt-ltb, ltb-true, leb-true, eqb-true, and_parts, or_cases}
use Rattle.std.proofs.Math.Nat.{lt-div-mul-add}
use Rattle.std.specs.List.{flat_map, AllByRecursion}
use Rattle.as_base.specs.declared.fragment.Cell.{Cell}
use Rattle.as_base.specs.declared.item.Record.{Record}
use Rattle.as_base.specs.declared.stream.StreamId.{StreamId}
use Rattle.as_base.specs.Stream.{place_of}
use Rattle.as_base.specs.Windows.{end_of, last_window}
use Rattle.group_table.specs.Cells.{sums}
use Rattle.views.specs.IsHolder.{IsAmong}
use Rattle.views.specs.Query.{Query}
use Rattle.views.specs.Slots.{Holder, has_windows, lives_at, owner, has_mine, cut_of}
use Rattle.views.specs.View.{reads, is_of, is_mine}
use Rattle.contents.specs.Cells.{share, whole_share, whole_for, share_for, share_at, cells_at, is_open_for, is_open_at, whole_at}
use Rattle.as_base.specs.Canonical.{FitsPlan}
use Rattle.contents.specs.IsPast.{LiveApart, IsHolder}
use Rattle.contents.specs.Kept.{is_open_window, is_open, is_in, slice_at}
use Rattle.contents.specs.Past.{Past, mark_of, mark_for}
use Rattle.contents.proofs.CellLaws.{mine-parts}
use Rattle.contents.proofs.SoleLaws.{All-among, owner-by_cut, owner-found, owner-is}
use Rattle.contents.proofs.StoreLaws.{Moves, no-cells, none-of, no-share, no-windows, last-by_cut, same-walk, every-one}

no-whole : (r : Record) (o : Option Holder) → has_mine r o ≡ false → whole_for r o ≡ []
no-whole r None e = refl
no-whole r (Some h) e = ap (λ b. cond b (share h.query.plan r) []) e

module _ (p : Past) (slot : ℕ) (apart : LiveApart p.holders) (moves : (h : Holder) → IsAmong h p.holders → Moves h) where
  -- whether a record adds its share is whether the owner's last window is open where its slice begins
  known : (c : ℕ) (r : Record) (h : Holder) → IsAmong h p.holders → c ≡ cut_of p.holders r → lives_at h.query r.given.time ≡ true → is_mine h.query r.given.stream r ≡ true
      → (b : Bool) → has_windows h.query.plan.kind ≡ b
      → share_for p.marks r (Some h) ≡ cond (is_open_window p.marks h.query (last_window h.query.plan.win c)) (whole_share h.query r) []
  known c r h among e lives mine true w =
      let q : Query = h.query in
      ap (λ k. cond (is_open_window p.marks q k) (whole_share q r) [])
      (last-by_cut p.holders h r.given.stream r.given.time among (moves h among).0 (moves h among).1 lives w (mine-parts q r.given.stream r mine).reads_it ∙ ap (last_window q.plan.win) (sym e))
  known c r h among e lives mine false w =
      let q : Query = h.query in
      let nothing : whole_share q r ≡ [] = ap (λ l. cond (is_mine q r.given.stream r) l []) (no-windows q.plan.kind q.plan.group r.given w) ∙ none-of (is_mine q r.given.stream r) in
      ap (λ l. cond (is_open p.marks q r.given.time) l []) nothing ∙ none-of (is_open p.marks q r.given.time)
      ∙ sym (ap (λ l. cond (is_open_window p.marks q (last_window q.plan.win c)) l []) nothing ∙ none-of (is_open_window p.marks q (last_window q.plan.win c)))

  one : (c : ℕ) (r : Record) → c ≡ cut_of p.holders r → (b : Bool) → has_mine r (owner p.holders r.given.time slot) ≡ b
      → share_at p slot r ≡ cond (is_open_at p.marks p.holders slot c) (whole_for r (owner p.holders r.given.time slot)) []
  one c r e false m =
      no-share p.marks r (owner p.holders r.given.time slot) m
      ∙ sym (ap (λ l. cond (is_open_at p.marks p.holders slot c) l []) (no-whole r (owner p.holders r.given.time slot) m) ∙ none-of (is_open_at p.marks p.holders slot c))
  one c r e true m =
      let x = owner-found p.holders r.given.time slot r m in
      let h : Holder = x.0 in
      let o = and_parts (eqb h.slot slot) (lives_at h.query r.given.time) x.2 in
      let at_time = owner-is p.holders h r.given.time slot x.1 apart (eqb-true h.slot slot o.0) o.1 in
      let at_cut : owner p.holders c slot ≡ Some h = ap (λ n. owner p.holders n slot) e ∙ sym (owner-by_cut p.holders r.given.stream r.given.time slot) ∙ at_time in
      ap (share_for p.marks r) at_time
      ∙ known c r h x.1 e o.1 x.3 (has_windows h.query.plan.kind) refl
      ∙ sym (ap (λ w. cond (is_open_for p.marks c w) (whole_for r (owner p.holders r.given.time slot)) []) at_cut
      ∙ ap (λ w. cond (is_open_window p.marks h.query (last_window h.query.plan.win c)) (whole_for r w) []) at_time)

  -- the cells of a slice are those of all its records, or there are none
  pub cells-are_whole : (s : StreamId) (c : ℕ) → cells_at p s slot c ≡ cond (is_open_at p.marks p.holders slot c) (whole_at p s slot c) []
  cells-are_whole s c =
      ap sums (same-walk (share_at p slot) (λ r. cond (is_open_at p.marks p.holders slot c) (whole_for r (owner p.holders r.given.time slot)) []) (is_in p.holders s c) (is_in p.holders s c) p.records
      (every-one (λ r. cond (is_in p.holders s c r) (share_at p slot r) [] ≡ cond (is_in p.holders s c r) (cond (is_open_at p.marks p.holders slot c) (whole_for r (owner p.holders r.given.time slot)) []) []) p.records
      (λ r. when (is_in p.holders s c r) (share_at p slot r) (cond (is_open_at p.marks p.holders slot c) (whole_for r (owner p.holders r.given.time slot)) [])
      (λ e. one c r (eqb-true c (cut_of p.holders r) (and_parts (is_of s r) (eqb c (cut_of p.holders r)) e).1) (has_mine r (owner p.holders r.given.time slot)) refl))))
      ∙ out (is_open_at p.marks p.holders slot c) (slice_at p.holders s c p.records)
    where
      when : (b : Bool) (k l : List Cell) → (b ≡ true → k ≡ l) → cond b k [] ≡ cond b l []
      when true k l e = e refl
      when false k l e = refl

      nothing : (rs : List Record) → flat_map no-cells rs ≡ []
      nothing [] = refl
      nothing (r ∷ rs) = nothing rs

      out : (b : Bool) (rs : List Record) → sums (flat_map (λ r. cond b (whole_for r (owner p.holders r.given.time slot)) []) rs) ≡ cond b (sums (flat_map (λ (r : Record). whole_for r (owner p.holders r.given.time slot)) rs)) []
      out true rs = refl
      out false rs = ap sums (nothing rs)

  -- ---- a record that comes

  mark-low : (marks : List ℕ) (q : Query) (s : StreamId) → reads q.plan s ≡ true → mark_for marks q ≤ mark_of marks s
  mark-low marks q s e = elim (or_cases (eqb (place_of q.plan.left) (place_of s)) (eqb (place_of q.plan.right) (place_of s)) e) [
    | inl f ↦ (let same : mark_of marks q.plan.left ≡ mark_of marks s = ap (λ n. get_or marks n 0) (eqb-true (place_of q.plan.left) (place_of s) f) in omega (arith, same))
    | inr f ↦ (let same : mark_of marks q.plan.right ≡ mark_of marks s = ap (λ n. get_or marks n 0) (eqb-true (place_of q.plan.right) (place_of s) f) in omega (arith, same))
  ]

  -- the last window of a record that is not late is not passed
  open-fresh : (h : Holder) (r : Record) → Moves h → lives_at h.query r.given.time ≡ true → reads h.query.plan r.given.stream ≡ true → mark_of p.marks r.given.stream ≤ r.given.time → is_open p.marks h.query r.given.time ≡ true
  open-fresh h r m lives reading late =
      let q : Query = h.query in
      let slide = m.0 in
      let size = m.1 in
      let a : r.given.time < r.given.time / q.plan.win.slide * q.plan.win.slide + q.plan.win.slide = lt-div-mul-add slide in
      let b = ltb-true r.given.time q.to (and_parts (nat_le q.from r.given.time) (nat_lt r.given.time q.to) lives).1 in
      let c = mark-low p.marks q r.given.stream reading in
      lt-ltb (mark_for p.marks q) (min (end_of q.plan.win (last_window q.plan.win r.given.time)) q.to) (omega (arith, a, b, c, late, size))

  fresh : (r : Record) → mark_of p.marks r.given.stream ≤ r.given.time → (b : Bool) → has_mine r (owner p.holders r.given.time slot) ≡ b → share_at p slot r ≡ whole_for r (owner p.holders r.given.time slot)
  fresh r late false m = no-share p.marks r (owner p.holders r.given.time slot) m ∙ sym (no-whole r (owner p.holders r.given.time slot) m)
  fresh r late true m =
      let x = owner-found p.holders r.given.time slot r m in
      let h : Holder = x.0 in
      let o = and_parts (eqb h.slot slot) (lives_at h.query r.given.time) x.2 in
      let at_time = owner-is p.holders h r.given.time slot x.1 apart (eqb-true h.slot slot o.0) o.1 in
      ap (share_for p.marks r) at_time
      ∙ ap (λ b. cond b (whole_share h.query r) []) (open-fresh h r (moves h x.1) o.1 (mine-parts h.query r.given.stream r x.3).reads_it late)
      ∙ sym (ap (whole_for r) at_time)

  -- a record that is not late adds the whole of its share
  pub share-fresh : (r : Record) → mark_of p.marks r.given.stream ≤ r.given.time → share_at p slot r ≡ whole_for r (owner p.holders r.given.time slot)
  share-fresh r late = fresh r late (has_mine r (owner p.holders r.given.time slot)) refl

-- the windows of sound holders move on and leave no gap
pub moves-all : (p : Past) → AllByRecursion IsHolder p.holders → (h : Holder) → IsAmong h p.holders → Moves h
moves-all p sound h among = fits-moves h (All-among IsHolder p.holders h among sound).fits
  where
    fits-moves : (h : Holder) → FitsPlan h.query.plan → Moves h
    fits-moves h f =
        let w = h.query.plan.win in
        let a = and_parts (nat_le 1 w.slide && nat_le w.slide w.size && nat_le w.size 4294967296) (nat_le w.size (64 * w.slide)) f.0 in
        let b = and_parts (nat_le 1 w.slide && nat_le w.slide w.size) (nat_le w.size 4294967296) a.0 in
        let c = and_parts (nat_le 1 w.slide) (nat_le w.slide w.size) b.0 in
        (leb-true 1 w.slide c.0, leb-true w.slide w.size c.1)
