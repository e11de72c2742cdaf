-- The cells that are dropped at an advance are those of which all windows are passed.
use Rattle.std.proofs.Common.{◌≡◌, ◌⊎◌, inl, inr, ℕ, ◌+◌, ◌*◌, ◌/◌, ◌≤◌, ◌<◌, ◌^◌, ◌&&◌, ◌||◌, not, nat_lt, min, eqb, Bool, cond, true, false, Option, Some, None, List, [], ◌∷◌, ◌++◌, map, length, replicate, get_or, refl, sym, ap, ap₂, subst, ◌∙◌, arith}
use Rattle.std.proofs.lemmas.Bool.{lt-leb, lt-ltb, le-ltb, ltb-true, eqb-true, eq-eqb, cases_lt, cases_Bool, and_parts, and_from, or_cases, both_ways}
use Rattle.std.proofs.lemmas.List.FromFn.{get_or-map-range_with_len}
use Rattle.std.proofs.Math.Nat.{lt-div-mul-add}
use Rattle.std.specs.List.{filter, flat_map, list_any, range_with_len}
use Rattle.as_base.specs.declared.fragment.Cell.{Cell}
use Rattle.as_base.specs.declared.item.Given.{Given}
use Rattle.as_base.specs.declared.item.Record.{Record}
use Rattle.as_base.specs.declared.message.Msg.TheVariants as msg
use Rattle.as_base.specs.declared.query.Group.{Group}
use Rattle.as_base.specs.declared.query.Kind.{Kind}
use Rattle.as_base.specs.declared.query.Kind.TheVariants.{Select, Sum, Count, Join}
use Rattle.as_base.specs.declared.stream.StreamId.{StreamId}
use Rattle.as_base.specs.Stream.{place_of}
use Rattle.as_base.specs.Windows.{end_of, last_window}
use Rattle.group_table.specs.Cells.{sums}
use Rattle.shared_agg.specs.Fill.{has}
use Rattle.shared_agg.specs.Shares.{share_of}
use Rattle.views.specs.IsHolder.{IsAmong}
use Rattle.views.specs.Query.{Query}
use Rattle.views.specs.Slots.{Holder, lives_at, owner, has_mine, cut_of}
use Rattle.views.specs.View.{reads, is_of, is_mine}
use Rattle.contents.specs.Cells.{share, whole_share, share_for, share_at, adds_up, cells_at, is_open_for, is_open_at}
use Rattle.contents.specs.IsPast.{IsPast}
use Rattle.contents.specs.Kept.{is_open_window, is_open, is_in}
use Rattle.contents.specs.Past.{Past, followed, mark_of, mark_for}
use Rattle.contents.proofs.CellLaws.{stream-is, mine-parts}
use Rattle.contents.proofs.SoleLaws.{life, owner-found, owner-is, lives-by_cut}
use Rattle.contents.proofs.StoreLaws.{cells-with_advance}
use Rattle.contents.proofs.WholeLaws.{moves-all}
use Rattle.part_state.specs.declared.waiting.Wait.TheVariants.{Passed}
use Rattle.part_state.specs.Entries.{is_running, running}
use Rattle.part_state.specs.Waiting.{has_open, suits, waits, slots_of, waiting}
use Rattle.part_state.proofs.AwaitLaws.{found-run, any-run}
use Rattle.part_state.proofs.ReaderLaws.{some-same}

-- ---- a slice with cells has a record that adds some

record Adds (f : Record → List Cell) (q : Record → Bool) : Type 0 where
  which : Record
  passes : q which ≡ true
  some : f which ≡ [] → ⊥

cons-not : {X : Type 0} (x : X) (xs : List X) → x ∷ xs ≡ [] → ⊥
cons-not x xs e = (let l = ap length e in omega (arith, l))

add-found : (f : Record → List Cell) (q : Record → Bool) (rs : List Record) → (flat_map f (filter q rs) ≡ []) ⊎ Adds f q
add-found f q [] = inl refl
add-found f q (r ∷ rs) = go (q r) refl (f r) refl (add-found f q rs)
  where
    go : (b : Bool) → q r ≡ b → (l : List Cell) → f r ≡ l → (flat_map f (filter q rs) ≡ []) ⊎ Adds f q → (flat_map f (cond b (r ∷ filter q rs) (filter q rs)) ≡ []) ⊎ Adds f q
    go false e l k rest = rest
    go true e (x ∷ l) k rest = inr (record { which = r; passes = e; some = λ n. cons-not x l (sym k ∙ n) })
    go true e [] k (inr a) = inr a
    go true e [] k (inl none) = inl (ap (λ l. l ++ flat_map f (filter q rs)) k ∙ none)

-- who adds some
record Owns (marks : List ℕ) (r : Record) (o : Option Holder) : Type 0 where
  holder : Holder
  is : o ≡ Some holder
  waits : is_open marks holder.query r.given.time ≡ true
  mine : is_mine holder.query r.given.stream r ≡ true
  adds : adds_up holder.query.plan.kind ≡ true

owns-of : (marks : List ℕ) (r : Record) (o : Option Holder) → (share_for marks r o ≡ [] → ⊥) → Owns marks r o
owns-of marks r None some = absurd (some refl)
owns-of marks r (Some h) some = go (is_open marks h.query r.given.time) refl (is_mine h.query r.given.stream r) refl
  where
    none-kind : (kind : Kind) → adds_up kind ≡ false → (g : Given) (by : Group) → share_of by kind g ≡ []
    none-kind Select e g by = refl
    none-kind Join e g by = refl
    none-kind (Sum c) e g by = absurd (both_ways true e refl)
    none-kind Count e g by = absurd (both_ways true e refl)

    kinds : (b : Bool) → adds_up h.query.plan.kind ≡ b → is_open marks h.query r.given.time ≡ true → is_mine h.query r.given.stream r ≡ true → Owns marks r (Some h)
    kinds true a e m = record { holder = h; is = refl; waits = e; mine = m; adds = a }
    kinds false a e m = absurd (some (ap₂ (λ x y. cond x (cond y (share h.query.plan r) []) []) e m ∙ none-kind h.query.plan.kind a r.given h.query.plan.group))

    go : (b : Bool) → is_open marks h.query r.given.time ≡ b → (m : Bool) → is_mine h.query r.given.stream r ≡ m → Owns marks r (Some h)
    go false e m f = absurd (some (ap (λ x. cond x (whole_share h.query r) []) e))
    go true e false f = absurd (some (ap₂ (λ x y. cond x (cond y (share h.query.plan r) []) []) e f))
    go true e true f = kinds (adds_up h.query.plan.kind) refl e f

-- ---- the set of the slots whose windows are passed

has-passed : (wm : List ℕ) (c slot : ℕ) (es : List Holder) → slot < 512 → c < 2 ^ 62
    → has (waiting Passed wm c es) slot ≡ list_any (λ (g : Holder). eqb g.slot slot && waits Passed wm c g) es
unfolding slots_of
has-passed wm c slot es l early =
    ap (λ b. has (cond b (replicate 512 false) (map (λ n. list_any (λ (g : Holder). eqb g.slot n && waits Passed wm c g) es) (range_with_len 0 512))) slot) (lt-leb (2 ^ 62) c early)
    ∙ get_or-map-range_with_len (λ n. list_any (λ (g : Holder). eqb g.slot n && waits Passed wm c g) es) 0 512 slot slot false l (omega arith)

module _ (p : Past) (wm : List ℕ) (past : IsPast p) (up : (s : StreamId) → mark_of p.marks s ≤ mark_of wm s) (most : (s : StreamId) → mark_of wm s ≤ 2 ^ 62) (s : StreamId) (slot c : ℕ) (low : slot < 512) where
  abbrev hs : List Holder
  hs = p.holders

  abbrev there : Holder → Bool
  there g = eqb g.slot slot && waits Passed wm c g

  abbrev shut : Bool
  shut = nat_lt c (mark_of wm s) && has (waiting Passed wm c (running p.marks p.holders)) slot

  -- the owner of the slot at the beginning of the slice, whose query adds some of its records
  module _ (h : Holder) (among : IsAmong h p.holders) (same : h.slot ≡ slot) (lives : lives_at h.query c ≡ true) (runs : is_running p.marks h ≡ true) (adds : adds_up h.query.plan.kind ≡ true)
      (reading : reads h.query.plan s ≡ true) where
    owner-there : owner p.holders c slot ≡ Some h
    owner-there = owner-is p.holders h c slot among past.apart same lives

    open-none : has_open wm c h ≡ true → list_any there (running p.marks p.holders) ≡ false
    open-none o = elim (cases_Bool (list_any there (running p.marks p.holders))) [
      | inr e ↦ e
      | inl e ↦ absurd (
          let g = found-run (is_running p.marks) there p.holders e in
          let own = and_parts (eqb g.0.slot slot) (waits Passed wm c g.0) g.3 in
          let w = and_parts (lives_at g.0.query c) (suits Passed wm c g.0) own.1 in
          let closed = and_parts (adds_up g.0.query.plan.kind) (not (has_open wm c g.0)) w.1 in
          let is : Some h ≡ Some g.0 = sym owner-there ∙ owner-is p.holders g.0 c slot g.1 past.apart (eqb-true g.0.slot slot own.0) w.0 in
          both_ways (not (has_open wm c g.0)) (ap (λ (k : Holder). not (has_open wm c k)) (sym (some-same h g.0 is)) ∙ ap not o) closed.1)
    ]

    least-reads : mark_for wm h.query ≤ mark_of wm s
    least-reads = elim (or_cases (eqb (place_of h.query.plan.left) (place_of s)) (eqb (place_of h.query.plan.right) (place_of s)) reading) [
      | inl e ↦ (let a : mark_of wm h.query.plan.left ≡ mark_of wm s = ap (λ n. get_or wm n 0) (eqb-true (place_of h.query.plan.left) (place_of s) e) in omega (arith, a))
      | inr e ↦ (let a : mark_of wm h.query.plan.right ≡ mark_of wm s = ap (λ n. get_or wm n 0) (eqb-true (place_of h.query.plan.right) (place_of s) e) in omega (arith, a))
    ]

    closed-before : has_open wm c h ≡ false → c < mark_of wm s
    closed-before o =
        let q : Query = h.query in
        let moves = moves-all p past.holders h among in
        let end : c < c / q.plan.win.slide * q.plan.win.slide + q.plan.win.slide = lt-div-mul-add moves.0 in
        let size = moves.1 in
        let to = (life q c lives).1 in
        let least = least-reads in
        elim (cases_lt (mark_for wm q) (min (end_of q.plan.win (last_window q.plan.win c)) q.to)) [
          | inl e ↦ absurd (both_ways (has_open wm c h) o (lt-ltb (mark_for wm q) (min (end_of q.plan.win (last_window q.plan.win c)) q.to) e))
          | inr e ↦ omega (arith, e, end, size, to, least)
        ]

    early : c < mark_of wm s → c < 2 ^ 62
    early l = let m = most s in omega (arith, l, m)

    shut-is : shut ≡ not (has_open wm c h)
    shut-is = elim (cases_Bool (has_open wm c h)) [
      | inl o ↦ elim (cases_lt c (mark_of wm s)) [
        | inl l ↦ ap (λ b. nat_lt c (mark_of wm s) && b) (has-passed wm c slot (running p.marks p.holders) low (early l) ∙ open-none o) ∙ and-false (nat_lt c (mark_of wm s)) ∙ sym (ap not o)
        | inr l ↦ ap (λ b. b && has (waiting Passed wm c (running p.marks p.holders)) slot) (le-ltb c (mark_of wm s) l) ∙ sym (ap not o)
      ]
      | inr o ↦ (
          let l = closed-before o in
          let here : there h ≡ true = and_from (eqb h.slot slot) (waits Passed wm c h) (eq-eqb h.slot slot same)
          (and_from (lives_at h.query c) (suits Passed wm c h) lives (and_from (adds_up h.query.plan.kind) (not (has_open wm c h)) adds (ap not o))) in
          let any : list_any there (running p.marks p.holders) ≡ true =
          subst (λ (k : List Holder). list_any there (running p.marks k) ≡ true) (sym among.2) (any-run (is_running p.marks) there among.0 h among.1 runs here) in
          ap₂ (λ a b. a && b) (lt-ltb c (mark_of wm s) l) (has-passed wm c slot (running p.marks p.holders) low (early l) ∙ any) ∙ sym (ap not o))
    ]
      where
        and-false : (b : Bool) → (b && false) ≡ false
        and-false true = refl
        and-false false = refl

    cells-same : (x : List Cell) → cond (is_open_at wm p.holders slot c) x [] ≡ cond shut [] x
    cells-same x =
        ap (λ o. cond (is_open_for wm c o) x []) owner-there
        ∙ turn (has_open wm c h) x
        ∙ ap (λ b. cond b [] x) (sym shut-is)
      where
        turn : (b : Bool) (x : List Cell) → cond b x [] ≡ cond (not b) [] x
        turn true x = refl
        turn false x = refl

  both-none : (a b : Bool) (x : List Cell) → x ≡ [] → cond a x [] ≡ cond b [] x
  both-none true true x e = e
  both-none true false x e = refl
  both-none false true x e = refl
  both-none false false x e = sym e

  by-record : Adds (share_at p slot) (is_in p.holders s c) → (x : List Cell) → cond (is_open_at wm p.holders slot c) x [] ≡ cond shut [] x
  by-record a x =
      let r : Record = a.which in
      let t : ℕ = r.given.time in
      let parts = and_parts (is_of s r) (eqb c (cut_of p.holders r)) a.passes in
      let at : c ≡ cut_of p.holders r = eqb-true c (cut_of p.holders r) parts.1 in
      let of : r.given.stream ≡ s = stream-is s r parts.0 in
      let o = owns-of p.marks r (owner p.holders t slot) a.some in
      let f = owner-found p.holders t slot r (ap (has_mine r) o.is ∙ o.mine) in
      let own = and_parts (eqb f.0.slot slot) (lives_at f.0.query t) f.2 in
      let same : f.0 ≡ o.holder = some-same f.0 o.holder (sym (owner-is p.holders f.0 t slot f.1 past.apart (eqb-true f.0.slot slot own.0) own.1) ∙ o.is) in
      let h : Holder = f.0 in
      let lives : lives_at h.query c ≡ true = ap (lives_at h.query) at ∙ sym (lives-by_cut p.holders h r.given.stream t f.1) ∙ own.1 in
      let waits : is_open p.marks h.query t ≡ true = ap (λ (k : Holder). is_open p.marks k.query t) same ∙ o.waits in
      let runs : is_running p.marks h ≡ true = runs-open h (last_window h.query.plan.win t) waits in
      let m = mine-parts h.query r.given.stream r f.3 in
      cells-same h f.1 (eqb-true f.0.slot slot own.0) lives runs (ap (λ (k : Holder). adds_up k.query.plan.kind) same ∙ o.adds) (ap (reads h.query.plan) (sym of) ∙ m.reads_it) x
    where
      runs-open : (h : Holder) (k : ℕ) → is_open_window p.marks h.query k ≡ true → is_running p.marks h ≡ true
      runs-open h k e =
          ap (λ b. h.query.live || b) (lt-ltb (mark_for p.marks h.query) h.query.to (let l = ltb-true (mark_for p.marks h.query) (min (end_of h.query.plan.win k) h.query.to) e in omega (arith, l))) ∙ or-end h.query.live
        where
          or-end : (b : Bool) → (b || true) ≡ true
          or-end true = refl
          or-end false = refl

  -- What an advance leaves of the cells of a slot in a slice.
  pub cells-left : cells_at (followed p (msg.Advance wm)) s slot c ≡ cond shut [] (cells_at p s slot c)
  cells-left =
      cells-with_advance p wm slot past.apart (moves-all p past.holders) up s c
      ∙ elim (add-found (share_at p slot) (is_in p.holders s c) p.records) [
        | inl none ↦ both-none (is_open_at wm p.holders slot c) shut (cells_at p s slot c) (ap sums none)
        | inr a ↦ by-record a (cells_at p s slot c)
      ]
