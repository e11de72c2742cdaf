-- What an advance leaves of the records of a stream.
use Rattle.std.proofs.Common.{◌≡◌, ℕ, ◌≤◌, ◌<◌, ◌^◌, not, eqb, Bool, cond, true, false, Option, Some, None, List, [], ◌∷◌, map, length, replicate, refl, sym, ap, ap₂, ◌∙◌, arith}
use Rattle.std.specs.Prelude.{is_some}
use Rattle.std.proofs.lemmas.Bool.{lt-leb, eqb-true, and_parts, both_ways}
use Rattle.std.specs.List.{filter, list_any, AllByRecursion}
use Rattle.as_base.specs.declared.item.Record.{Record}
use Rattle.as_base.specs.declared.message.Msg.TheVariants as msg
use Rattle.as_base.specs.declared.stream.StreamId.{StreamId}
use Rattle.by_start.specs.declared.Begun.{Begun}
use Rattle.by_start.specs.Order.{begun, look, StartsRise}
use Rattle.slice_store.specs.declared.placements.Held.{Held}
use Rattle.slice_store.specs.Placed.{is_awaited, may_go}
use Rattle.slice_store.specs.Slices.{Store, store, placed_in, epoch_in, placed_at, epoch_at}
use Rattle.views.specs.Slots.{Holder, cut_of}
use Rattle.views.specs.View.{is_of}
use Rattle.views.proofs.CutLaws.{cut-le}
use Rattle.views.proofs.ListLaws.{list_any-same, list_any-map, All-by, All-both, All-filter, All-passed}
use Rattle.contents.specs.IsPast.{IsPast}
use Rattle.contents.specs.Kept.{is_needed, is_in, slice_at, kept_with}
use Rattle.contents.specs.Past.{Past, followed, mark_of}
use Rattle.contents.proofs.CellLaws.{stream-is}
use Rattle.contents.proofs.KeptLaws.{evicted}
use Rattle.part_state.specs.declared.waiting.Wait.{Wait}
use Rattle.part_state.specs.declared.waiting.Wait.TheVariants.{Selecting, Joining}
use Rattle.part_state.specs.declared.reader.Reader.{Reader}
use Rattle.part_state.specs.Entries.{running}
use Rattle.part_state.specs.Reader.{with_set, IsReaderFor}
use Rattle.part_state.specs.Waiting.{waits, slots_of, waiting, stays}
use Rattle.part_state.proofs.AwaitLaws.{awaited-needed}
use Rattle.part_state.proofs.EvictLaws.{kept_look, look-kept}

not-not : (b : Bool) → not (not b) ≡ b
not-not true = refl
not-not false = refl

waiting-early : (w : Wait) (marks : List ℕ) (c : ℕ) (hs : List Holder) → c < 2 ^ 62 → waiting w marks c hs ≡ slots_of (waits w marks c) hs
waiting-early w marks c hs l = ap (λ b. cond b (replicate 512 false) (slots_of (waits w marks c) hs)) (lt-leb (2 ^ 62) c l)

module _ (p : Past) (wm : List ℕ) (past : IsPast p) (up : (s : StreamId) → mark_of p.marks s ≤ mark_of wm s) (s : StreamId) where
  abbrev next : Past
  next = followed p (msg.Advance wm)

  -- one record of the slice
  one-awaited : (c : ℕ) (r : Record) → is_in p.holders s c r ≡ true
      → is_awaited (slots_of (waits Joining wm c) (running p.marks p.holders)) (slots_of (waits Selecting wm c) (running p.marks p.holders)) (mark_of wm s) (with_set p.holders r) ≡ is_needed next r
  one-awaited c r e =
      let parts = and_parts (is_of s r) (eqb c (cut_of p.holders r)) e in
      let of : r.given.stream ≡ s = stream-is s r parts.0 in
      let at : c ≡ cut_of p.holders r = eqb-true c (cut_of p.holders r) parts.1 in
      ap₂ (λ t n. is_awaited (slots_of (waits Joining wm n) (running p.marks p.holders)) (slots_of (waits Selecting wm n) (running p.marks p.holders)) (mark_of wm t) (with_set p.holders r)) (sym of) at
      ∙ awaited-needed p wm past up r

  -- the slice goes just where no record of it is needed
  goes-not : (c : ℕ) (rs : List Record) → c < 2 ^ 62 → AllByRecursion (λ r. is_in p.holders s c r ≡ true) rs
      → not (may_go (waiting Joining wm c (running p.marks p.holders)) (waiting Selecting wm c (running p.marks p.holders)) (mark_of wm s) (map (with_set p.holders) rs)) ≡ list_any (is_needed next) rs
  goes-not c rs l a =
      let es : List Holder = running p.marks p.holders in
      not-not (list_any (is_awaited (waiting Joining wm c es) (waiting Selecting wm c es) (mark_of wm s)) (map (with_set p.holders) rs))
      ∙ ap₂ (λ x y. list_any (is_awaited x y (mark_of wm s)) (map (with_set p.holders) rs)) (waiting-early Joining wm c es l) (waiting-early Selecting wm c es l)
      ∙ list_any-map (is_awaited (slots_of (waits Joining wm c) es) (slots_of (waits Selecting wm c) es) (mark_of wm s)) (with_set p.holders) rs
      ∙ list_any-same (λ r. is_awaited (slots_of (waits Joining wm c) es) (slots_of (waits Selecting wm c) es) (mark_of wm s) (with_set p.holders r)) (is_needed next) rs
      (All-by (λ r. is_in p.holders s c r ≡ true) (λ r. is_awaited (slots_of (waits Joining wm c) es) (slots_of (waits Selecting wm c) es) (mark_of wm s) (with_set p.holders r) ≡ is_needed next r) (one-awaited c) rs a)

  early : (c : ℕ) (r : Record) → r.given.time < 2 ^ 62 → is_in p.holders s c r ≡ true → c < 2 ^ 62
  early c r l e =
      let at : c ≡ cut_of p.holders r = eqb-true c (cut_of p.holders r) (and_parts (is_of s r) (eqb c (cut_of p.holders r)) e).1 in
      let low = cut-le p.holders r.given.stream r.given.time in
      omega (arith, at, low, l)

  -- what stands in a slice after the advance
  left-of : (c : ℕ) (o : Option Held) (rs : List Record) → placed_in o ≡ map (with_set p.holders) rs → AllByRecursion (λ r. (r.given.time < 2 ^ 62) × (is_in p.holders s c r ≡ true)) rs
      → placed_in (kept_look (stays (running p.marks p.holders) wm (mark_of wm s)) c o) ≡ map (with_set p.holders) (cond (list_any (is_needed next) rs) rs [])
  left-of c None [] e a = refl
  left-of c None (r ∷ rs) e a = absurd (cons-not e)
    where
      cons-not : {X : Type 0} {x : X} {xs : List X} → [] ≡ x ∷ xs → ⊥
      cons-not e = (let l = ap length e in omega (arith, l))
  left-of c (Some h) [] e a =
      cases (stays (running p.marks p.holders) wm (mark_of wm s) (begun c h))
    where
      cases : (b : Bool) → placed_in (cond b (Some h) None) ≡ []
      cases true = e
      cases false = refl
  left-of c (Some h) (r ∷ rs) e a =
      ap (λ ps. placed_in (cond (not (may_go (waiting Joining wm c (running p.marks p.holders)) (waiting Selecting wm c (running p.marks p.holders)) (mark_of wm s) ps)) (Some h) None)) e
      ∙ ap (λ b. placed_in (cond b (Some h) None)) (goes-not c (r ∷ rs) (early c r (a.0).0 (a.0).1) (All-by (λ x. (x.given.time < 2 ^ 62) × (is_in p.holders s c x ≡ true)) (λ x. is_in p.holders s c x ≡ true) (λ x w. w.1) (r ∷ rs) a))
      ∙ cases (list_any (is_needed next) (r ∷ rs))
    where
      cases : (b : Bool) → placed_in (cond b (Some h) None) ≡ map (with_set p.holders) (cond b (r ∷ rs) [])
      cases true = e
      cases false = refl

  epoch-before : (keep : Begun Held → Bool) (c e : ℕ) (o : Option Held) → epoch_in (kept_look keep c o) ≡ Some e → epoch_in o ≡ Some e
  epoch-before keep c e None f = f
  epoch-before keep c e (Some h) f = cases (keep (begun c h)) f
    where
      cases : (b : Bool) → epoch_in (cond b (Some h) None) ≡ Some e → Some h.epoch ≡ Some e
      cases true f = f
      cases false f = absurd (both_ways false refl (ap is_some f))

  -- What is kept of the stream after the advance.
  pub reader-advance : (stored : List Record) (old : Reader) (slices : Store) → AllByRecursion (λ (r : Record). r.given.time < 2 ^ 62) stored → StartsRise old.slices.slices
      → slices ≡ store old.slices.stream (filter (stays (running p.marks p.holders) wm (mark_of wm old.slices.stream)) old.slices.slices)
      → IsReaderFor old s p stored → IsReaderFor (record { tagger = old.tagger; cut = old.cut; slices = slices }) s next (kept_with next stored (msg.Advance wm))
  reader-advance stored old slices low rise is h =
      let keep : Begun Held → Bool = stays (running p.marks p.holders) wm (mark_of wm s) in
      let now : slices ≡ store old.slices.stream (filter keep old.slices.slices) =
      is ∙ ap (λ t. store old.slices.stream (filter (stays (running p.marks p.holders) wm (mark_of wm t)) old.slices.slices)) h.store in
      record {
        tags = h.tags;
        epoch = h.epoch;
        cut = h.cut;
        store = ap (λ (x : Store). x.stream) now ∙ h.store;
        placed = λ c.
            ap (λ (x : Store). placed_at c x.slices) now
            ∙ ap placed_in (look-kept keep c old.slices.slices rise)
            ∙ left-of c (look c old.slices.slices) (slice_at p.holders s c stored) (h.placed c)
            (All-both (λ (r : Record). r.given.time < 2 ^ 62) (λ r. is_in p.holders s c r ≡ true) (slice_at p.holders s c stored)
            (All-filter (λ (r : Record). r.given.time < 2 ^ 62) (is_in p.holders s c) stored low) (All-passed (is_in p.holders s c) stored))
            ∙ ap (map (with_set p.holders)) (sym (evicted next stored s c));
        epochs = λ c e f.
            let k = h.epochs c e (epoch-before keep c e (look c old.slices.slices) (sym (ap (λ (x : Store). epoch_at c x.slices) now ∙ ap epoch_in (look-kept keep c old.slices.slices rise)) ∙ f)) in
            record { epoch = k.epoch; begun = k.begun };
      }
