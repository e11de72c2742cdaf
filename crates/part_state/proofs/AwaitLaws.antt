-- A slice goes just where no query needs a record of it.
use Rattle.std.proofs.Common.{◌≡◌, inl, inr, ℕ, ◌+◌, ◌≤◌, ◌<◌, ◌&&◌, ◌||◌, nat_le, nat_lt, eqb, Bool, cond, true, false, Some, List, [], ◌∷◌, ◌++◌, refl, sym, ap, ap₂, subst, get_or, ◌∙◌, arith}
use Rattle.std.proofs.lemmas.Bool.{le-leb, lt-ltb, le-ltb, lt-leb, ltb-true, eqb-true, eq-eqb, cases_lt, cases_Bool, and_parts, and_from, or_cases, both_ways}
use Rattle.std.specs.List.{filter, list_any, range_with_len, AllByRecursion}
use Rattle.as_base.specs.declared.item.Record.{Record}
use Rattle.as_base.specs.declared.query.Kind.{Kind}
use Rattle.as_base.specs.declared.query.Kind.TheVariants.{Select, Sum, Count, Join}
use Rattle.as_base.specs.declared.query.Plan.{Plan}
use Rattle.as_base.specs.declared.stream.StreamId.{StreamId}
use Rattle.as_base.specs.Canonical.{IsCanonicalAs}
use Rattle.as_base.specs.Stream.{place_of}
use Rattle.as_base.specs.Windows.{last_window}
use Rattle.queryset_lanes.specs.Slots.{meets}
use Rattle.slice_store.specs.Placed.{is_awaited}
use Rattle.views.specs.IsHolder.{IsAmong}
use Rattle.views.specs.Query.{Query}
use Rattle.views.specs.Slots.{Holder, lives_at, has_windows, owner, has_mine, set_of, cut_of}
use Rattle.views.specs.View.{reads, is_mine}
use Rattle.views.proofs.ListLaws.{list_any-same}
use Rattle.contents.specs.IsPast.{IsHolder, IsPast}
use Rattle.contents.specs.Kept.{wants, needs, is_open, is_open_window}
use Rattle.contents.specs.Pairs.{is_join}
use Rattle.contents.specs.Past.{Past, mark_of, mark_for}
use Rattle.contents.proofs.CellLaws.{mine-parts}
use Rattle.contents.proofs.NeedLaws.{mark_for-up}
use Rattle.contents.proofs.PairLaws.{found, any-among}
use Rattle.contents.proofs.SoleLaws.{All-among, life, owner-found, owner-is, lives-by_cut}
use Rattle.contents.proofs.StoreLaws.{last-by_cut}
use Rattle.contents.proofs.WholeLaws.{moves-all}
use Rattle.part_state.specs.declared.waiting.Wait.TheVariants.{Selecting, Joining}
use Rattle.part_state.specs.Entries.{is_running, running}
use Rattle.part_state.specs.Reader.{with_set}
use Rattle.part_state.specs.Waiting.{is_selection, has_open, suits, waits, slots_of}
use Rattle.part_state.proofs.KeepLaws.{both-same, sets-meet, found-slot, any-slot}
use Rattle.part_state.proofs.ReaderLaws.{some-same}

-- ---- those that run are among all

among-more : (g h : Holder) (hs : List Holder) → IsAmong h hs → IsAmong h (g ∷ hs)
among-more g h hs (front, back, is) = (g ∷ front, back, ap (λ l. g ∷ l) is)

pub found-run : (q p : Holder → Bool) (hs : List Holder) → list_any p (filter q hs) ≡ true → (h : Holder) × IsAmong h hs × (q h ≡ true) × (p h ≡ true)
found-run q p [] e = absurd (both_ways false refl e)
found-run q p (g ∷ hs) e = go (q g) refl e (λ f. found-run q p hs f)
  where
    later : ((h : Holder) × IsAmong h hs × (q h ≡ true) × (p h ≡ true)) → (h : Holder) × IsAmong h (g ∷ hs) × (q h ≡ true) × (p h ≡ true)
    later w = (w.0, among-more g w.0 hs w.1, w.2, w.3)

    go : (b : Bool) → q g ≡ b → list_any p (cond b (g ∷ filter q hs) (filter q hs)) ≡ true
        → (list_any p (filter q hs) ≡ true → (h : Holder) × IsAmong h hs × (q h ≡ true) × (p h ≡ true))
        → (h : Holder) × IsAmong h (g ∷ hs) × (q h ≡ true) × (p h ≡ true)
    go false f e rest = later (rest e)
    go true f e rest = elim (or_cases (p g) (list_any p (filter q hs)) e) [
      | inl k ↦ (g, ([], hs, refl), f, k)
      | inr k ↦ later (rest k)
    ]

pub any-run : (q p : Holder → Bool) (front : List Holder) (h : Holder) (back : List Holder) → q h ≡ true → p h ≡ true → list_any p (filter q (front ++ h ∷ back)) ≡ true
any-run q p [] h back e f = ap (λ b. list_any p (cond b (h ∷ filter q back) (filter q back))) e ∙ ap (λ b. b || list_any p (filter q back)) f
any-run q p (g ∷ front) h back e f = go (q g) (any-run q p front h back e f)
  where
    or-end : (b : Bool) → (b || true) ≡ true
    or-end true = refl
    or-end false = refl

    go : (b : Bool) → list_any p (filter q (front ++ h ∷ back)) ≡ true → list_any p (cond b (g ∷ filter q (front ++ h ∷ back)) (filter q (front ++ h ∷ back))) ≡ true
    go true k = ap (λ b. p g || b) k ∙ or-end (p g)
    go false k = k

-- ---- a record's set and the slots of those that wait

module _ (p : Past) (past : IsPast p) (r : Record) (test : Holder → Bool) where
  -- the query has the record, passes, and runs
  abbrev has_it : Holder → Bool
  has_it h = is_mine h.query r.given.stream r && (test h && is_running p.marks h)

  -- the query has the slot, lives at the beginning of the record's slice, and passes
  abbrev there : ℕ → Holder → Bool
  there slot g = eqb g.slot slot && (lives_at g.query (cut_of p.holders r) && test g)

  lives-there : (h : Holder) → IsAmong h p.holders → lives_at h.query r.given.time ≡ true → lives_at h.query (cut_of p.holders r) ≡ true
  lives-there h among lives = sym (lives-by_cut p.holders h r.given.stream r.given.time among) ∙ lives

  from-slots : list_any (λ slot. has_mine r (owner p.holders r.given.time slot) && list_any (there slot) (running p.marks p.holders)) (range_with_len 0 512) ≡ true
      → list_any has_it p.holders ≡ true
  from-slots e =
      let hs : List Holder = p.holders in
      let c : ℕ = cut_of hs r in
      let x = found-slot (λ slot. has_mine r (owner hs r.given.time slot) && list_any (there slot) (running p.marks hs)) (range_with_len 0 512) e in
      let slot : ℕ = x.0 in
      let parts = and_parts (has_mine r (owner hs r.given.time slot)) (list_any (there slot) (running p.marks hs)) x.1 in
      let f = owner-found hs r.given.time slot r parts.0 in
      let own = and_parts (eqb f.0.slot slot) (lives_at f.0.query r.given.time) f.2 in
      let g = found-run (is_running p.marks) (there slot) hs parts.1 in
      let his = and_parts (eqb g.0.slot slot) (lives_at g.0.query c && test g.0) g.3 in
      let rest = and_parts (lives_at g.0.query c) (test g.0) his.1 in
      let same : Some f.0 ≡ Some g.0 = sym (owner-is hs f.0 c slot f.1 past.apart (eqb-true f.0.slot slot own.0) (lives-there f.0 f.1 own.1))
      ∙ owner-is hs g.0 c slot g.1 past.apart (eqb-true g.0.slot slot his.0) rest.0 in
      any-among has_it hs g.0 g.1 (and_from (is_mine g.0.query r.given.stream r) (test g.0 && is_running p.marks g.0)
      (subst (λ (h : Holder). is_mine h.query r.given.stream r ≡ true) (some-same f.0 g.0 same) f.3) (and_from (test g.0) (is_running p.marks g.0) rest.1 g.2))

  from-holders : list_any has_it p.holders ≡ true
      → list_any (λ slot. has_mine r (owner p.holders r.given.time slot) && list_any (there slot) (running p.marks p.holders)) (range_with_len 0 512) ≡ true
  from-holders e =
      let hs : List Holder = p.holders in
      let f = found has_it hs e in
      let h : Holder = f.0 in
      let parts = and_parts (is_mine h.query r.given.stream r) (test h && is_running p.marks h) f.2 in
      let rest = and_parts (test h) (is_running p.marks h) parts.1 in
      let lives = (mine-parts h.query r.given.stream r parts.0).lives in
      any-slot (λ slot. has_mine r (owner hs r.given.time slot) && list_any (there slot) (running p.marks hs)) h.slot 512 (All-among IsHolder hs h f.1 past.holders).slot
      (and_from (has_mine r (owner hs r.given.time h.slot)) (list_any (there h.slot) (running p.marks hs))
      (ap (has_mine r) (owner-is hs h r.given.time h.slot f.1 past.apart refl lives) ∙ parts.0)
      (subst (λ (l : List Holder). list_any (there h.slot) (running p.marks l) ≡ true) (sym f.1.2)
      (any-run (is_running p.marks) (there h.slot) f.1.0 h f.1.1 rest.1
      (and_from (eqb h.slot h.slot) (lives_at h.query (cut_of hs r) && test h) (eq-eqb h.slot h.slot refl) (and_from (lives_at h.query (cut_of hs r)) (test h) (lives-there h f.1 lives) rest.0)))))

  -- the set meets those slots just where such a query has the record
  pub set-meets : meets (set_of p.holders r) (slots_of (λ g. lives_at g.query (cut_of p.holders r) && test g) (running p.marks p.holders)) ≡ list_any has_it p.holders
  unfolding slots_of
  set-meets =
      sets-meet (λ slot. has_mine r (owner p.holders r.given.time slot)) (λ slot. list_any (there slot) (running p.marks p.holders)) (range_with_len 0 512)
      ∙ both-same (list_any (λ slot. has_mine r (owner p.holders r.given.time slot) && list_any (there slot) (running p.marks p.holders)) (range_with_len 0 512)) (list_any has_it p.holders) from-slots from-holders

-- ---- what one query needs

-- by kind: a join while its window is open, a selection until it is passed
abbrev picked : Kind → Bool → Bool → Bool
picked Select now later = later
picked Join now later = now
picked (Sum c) now later = false
picked Count now later = false

picks-wants : (kind : Kind) (marks : List ℕ) (q : Query) (t : ℕ) → picked kind (is_open marks q t) (nat_lt (mark_for marks q) (t + 1)) ≡ wants kind marks q t
picks-wants Select marks q t = refl
picks-wants Join marks q t = refl
picks-wants (Sum c) marks q t = refl
picks-wants Count marks q t = refl

and-false : (b : Bool) → (b && false) ≡ false
and-false true = refl
and-false false = refl

or-false : (b : Bool) → (b || false) ≡ b
or-false true = refl
or-false false = refl

by-kind : (kind : Kind) (shut run below now later : Bool) → (is_join kind ≡ true → (shut && run) ≡ now) → (is_selection kind ≡ true → (below && run) ≡ later)
    → (((is_join kind && shut) && run) || (below && (is_selection kind && run))) ≡ picked kind now later
by-kind Select shut run below now later f g = g refl
by-kind Join shut run below now later f g = ap (λ b. (shut && run) || b) (and-false below) ∙ or-false (shut && run) ∙ f refl
by-kind (Sum c) shut run below now later f g = and-false below
by-kind Count shut run below now later f g = and-false below

mine-out : (m a b c d : Bool) → ((m && a) || (d && (m && b))) ≡ (m && (a || (d && b)))
mine-out true a b c d = refl
mine-out false a b c d = and-false d

any-or : (f g : Holder → Bool) (b : Bool) (hs : List Holder) → (list_any f hs || (b && list_any g hs)) ≡ list_any (λ h. f h || (b && g h)) hs
any-or f g b [] = and-false b
any-or f g b (h ∷ hs) = turn (f h) (list_any f hs) (g h) (list_any g hs) b ∙ ap (λ k. (f h || (b && g h)) || k) (any-or f g b hs)
  where
    turn : (x y z w b : Bool) → ((x || y) || (b && (z || w))) ≡ ((x || (b && z)) || (y || (b && w)))
    turn true y z w b = refl
    turn false true z w b = fourth (b && z)
      where
        fourth : (k : Bool) → true ≡ (k || true)
        fourth true = refl
        fourth false = refl
    turn false false true w true = refl
    turn false false false w true = refl
    turn false false z w false = refl

from-among : (P : Holder → Type 0) (front hs : List Holder) → ((h : Holder) → IsAmong h (front ++ hs) → P h) → AllByRecursion P hs
from-among P front [] f = tt
from-among P front (h ∷ hs) f = (f h (front, hs, refl), from-among P (front ++ h ∷ []) hs (λ g a. f g (subst (IsAmong g) (back front h hs) a)))
  where
    back : (front : List Holder) (h : Holder) (hs : List Holder) → (front ++ h ∷ []) ++ hs ≡ front ++ h ∷ hs
    back [] h hs = refl
    back (g ∷ front) h hs = ap (λ l. g ∷ l) (back front h hs)

select-windows : (kind : Kind) → is_selection kind ≡ true → kind ≡ Select
select-windows Select e = refl
select-windows Join e = absurd (both_ways false refl e)
select-windows (Sum c) e = absurd (both_ways false refl e)
select-windows Count e = absurd (both_ways false refl e)

join-windows : (kind : Kind) → is_join kind ≡ true → has_windows kind ≡ true
join-windows Join e = refl
join-windows Select e = absurd (both_ways false refl e)
join-windows (Sum c) e = absurd (both_ways false refl e)
join-windows Count e = absurd (both_ways false refl e)

module _ (p : Past) (wm : List ℕ) (past : IsPast p) (up : (s : StreamId) → mark_of p.marks s ≤ mark_of wm s) (r : Record) where
  runs-while : (h : Holder) → mark_for wm h.query < h.query.to → is_running p.marks h ≡ true
  runs-while h l =
      let u = mark_for-up p.marks wm h.query up in
      ap (λ b. h.query.live || b) (lt-ltb (mark_for p.marks h.query) h.query.to (omega (arith, u, l))) ∙ or-end h.query.live
    where
      or-end : (b : Bool) → (b || true) ≡ true
      or-end true = refl
      or-end false = refl

  -- a window that is open keeps its query running
  open-runs : (h : Holder) (k : ℕ) → (is_open_window wm h.query k && is_running p.marks h) ≡ is_open_window wm h.query k
  open-runs h k = elim (cases_Bool (is_open_window wm h.query k)) [
    | inl e ↦ ap₂ (λ a b. a && b) e (runs-while h (let l = ltb-true (mark_for wm h.query) _ e in omega (arith, l))) ∙ sym e
    | inr e ↦ ap (λ a. a && is_running p.marks h) e ∙ sym e
  ]

  join-needs : (h : Holder) → IsAmong h p.holders → is_mine h.query r.given.stream r ≡ true → is_join h.query.plan.kind ≡ true
      → (has_open wm (cut_of p.holders r) h && is_running p.marks h) ≡ is_open wm h.query r.given.time
  join-needs h among mine join =
      let m = mine-parts h.query r.given.stream r mine in
      let moves = moves-all p past.holders h among in
      open-runs h (last_window h.query.plan.win (cut_of p.holders r))
      ∙ ap (is_open_window wm h.query) (sym (last-by_cut p.holders h r.given.stream r.given.time among moves.0 moves.1 m.lives (join-windows h.query.plan.kind join) m.reads_it))

  select-needs : (h : Holder) → IsAmong h p.holders → is_mine h.query r.given.stream r ≡ true → is_selection h.query.plan.kind ≡ true
      → (nat_le (mark_of wm r.given.stream) r.given.time && is_running p.marks h) ≡ nat_lt (mark_for wm h.query) (r.given.time + 1)
  select-needs h among mine select =
      let q : Query = h.query in
      let t : ℕ = r.given.time in
      let m = mine-parts q r.given.stream r mine in
      let right : q.plan.right ≡ q.plan.left = (subst (λ k. IsCanonicalAs k q.plan) (select-windows q.plan.kind select) (All-among IsHolder p.holders h among past.holders).canonical).0.0 in
      let left : place_of q.plan.left ≡ place_of r.given.stream = one-stream q.plan r.given.stream right m.reads_it in
      let mark : mark_for wm q ≡ mark_of wm r.given.stream = both-marks q r.given.stream right left in
      let l = life q t m.lives in
      elim (cases_lt t (mark_of wm r.given.stream)) [
        | inl passed ↦ ap (λ b. b && is_running p.marks h) (lt-leb (mark_of wm r.given.stream) t passed) ∙ sym (le-ltb (mark_for wm q) (t + 1) (omega (arith, passed, mark)))
        | inr waits ↦ (let to = l.1 in ap₂ (λ a b. a && b) (le-leb (mark_of wm r.given.stream) t waits) (runs-while h (omega (arith, waits, mark, to))) ∙ sym (lt-ltb (mark_for wm q) (t + 1) (omega (arith, waits, mark))))
      ]
    where
      one-stream : (plan : Plan) (s : StreamId) → plan.right ≡ plan.left → reads plan s ≡ true → place_of plan.left ≡ place_of s
      one-stream plan s right e = elim (or_cases (eqb (place_of plan.left) (place_of s)) (eqb (place_of plan.right) (place_of s)) e) [
        | inl f ↦ eqb-true (place_of plan.left) (place_of s) f
        | inr f ↦ sym (ap place_of right) ∙ eqb-true (place_of plan.right) (place_of s) f
      ]

      both-marks : (q : Query) (s : StreamId) → q.plan.right ≡ q.plan.left → place_of q.plan.left ≡ place_of s → mark_for wm q ≡ mark_of wm s
      both-marks q s right left =
          let a : mark_of wm q.plan.left ≡ mark_of wm s = ap (λ n. get_or wm n 0) left in
          let b : mark_of wm q.plan.right ≡ mark_of wm s = ap (mark_of wm) right ∙ a in
          omega (arith, a, b)

  one-query : (h : Holder) → IsAmong h p.holders
      → ((is_mine h.query r.given.stream r && (suits Joining wm (cut_of p.holders r) h && is_running p.marks h))
      || (nat_le (mark_of wm r.given.stream) r.given.time && (is_mine h.query r.given.stream r && (suits Selecting wm (cut_of p.holders r) h && is_running p.marks h))))
      ≡ needs wm r h.query
  one-query h among =
      let q : Query = h.query in
      let t : ℕ = r.given.time in
      let mine : Bool = is_mine q r.given.stream r in
      mine-out mine (suits Joining wm (cut_of p.holders r) h && is_running p.marks h) (suits Selecting wm (cut_of p.holders r) h && is_running p.marks h) true (nat_le (mark_of wm r.given.stream) t)
      ∙ go mine refl
    where
      go : (b : Bool) → is_mine h.query r.given.stream r ≡ b
          → (is_mine h.query r.given.stream r && ((suits Joining wm (cut_of p.holders r) h && is_running p.marks h) || (nat_le (mark_of wm r.given.stream) r.given.time && (suits Selecting wm (cut_of p.holders r) h && is_running p.marks h)))) ≡ needs wm r h.query
      go false e = ap₂ (λ a b. a && b) e refl ∙ sym (ap (λ a. a && wants h.query.plan.kind wm h.query r.given.time) e)
      go true e = ap (λ b. is_mine h.query r.given.stream r && b)
          (by-kind h.query.plan.kind (has_open wm (cut_of p.holders r) h) (is_running p.marks h) (nat_le (mark_of wm r.given.stream) r.given.time) (is_open wm h.query r.given.time) (nat_lt (mark_for wm h.query) (r.given.time + 1))
          (join-needs h among e) (select-needs h among e)
          ∙ picks-wants h.query.plan.kind wm h.query r.given.time)

  -- a record is awaited just where a query needs it
  pub awaited-needed : is_awaited (slots_of (waits Joining wm (cut_of p.holders r)) (running p.marks p.holders)) (slots_of (waits Selecting wm (cut_of p.holders r)) (running p.marks p.holders)) (mark_of wm r.given.stream) (with_set p.holders r)
      ≡ list_any (λ (h : Holder). needs wm r h.query) p.holders
  awaited-needed =
      let c : ℕ = cut_of p.holders r in
      ap₂ (λ a b. a || (nat_le (mark_of wm r.given.stream) r.given.time && b)) (set-meets p past r (suits Joining wm c)) (set-meets p past r (suits Selecting wm c))
      ∙ any-or (has_it p past r (suits Joining wm c)) (has_it p past r (suits Selecting wm c)) (nat_le (mark_of wm r.given.stream) r.given.time) p.holders
      ∙ list_any-same (λ h. has_it p past r (suits Joining wm c) h || (nat_le (mark_of wm r.given.stream) r.given.time && has_it p past r (suits Selecting wm c) h)) (λ (h : Holder). needs wm r h.query) p.holders
      (from-among (λ h. (has_it p past r (suits Joining wm c) h || (nat_le (mark_of wm r.given.stream) r.given.time && has_it p past r (suits Selecting wm c) h)) ≡ needs wm r h.query) [] p.holders one-query)
