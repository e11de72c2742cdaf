-- What one record adds to the cells.
use Rattle.std.proofs.Common.{◌≡◌, ℕ, ◌≤◌, ◌<◌, ◌+◌, ◌&&◌, eqb, Bool, cond, true, false, Option, Some, None, List, [], ◌∷◌, ◌++◌, length, fold, refl, sym, ap, ap₂, ◌∙◌, arith}
use Rattle.std.proofs.lemmas.Bool.{eqb-true, eq-eqb, and_parts, both_ways}
use Rattle.std.proofs.lemmas.List.{length-append}
use Rattle.std.proofs.lemmas.List.FromFn.{get_or-map-range_with_len}
use Rattle.as_base.specs.declared.item.Record.{Record}
use Rattle.as_base.specs.declared.message.Msg.TheVariants as msg
use Rattle.as_base.specs.declared.stream.StreamId.{StreamId}
use Rattle.as_base.specs.Stream.{place_of}
use Rattle.changelog.specs.Changes as changes
use Rattle.changelog.specs.Orderly.{named, owner_at}
use Rattle.group_table.specs.Cells.{add_in}
use Rattle.shared_agg.specs.declared.aggs.Aggs.{Aggs}
use Rattle.shared_agg.specs.Aggs.{cells_in, epoch_in, is_slice}
use Rattle.shared_agg.specs.Fill.{has}
use Rattle.shared_agg.specs.Shares.{shares}
use Rattle.views.specs.Slots.{Holder, owner, has_mine, set_of, cut_of}
use Rattle.contents.specs.Cells.{whole_for, cells_at}
use Rattle.contents.specs.IsPast.{IsPast}
use Rattle.contents.specs.Kept.{is_in}
use Rattle.contents.specs.Past.{Past, followed, mark_of}
use Rattle.contents.proofs.StoreLaws.{cells-with_record}
use Rattle.contents.proofs.WholeLaws.{moves-all, share-fresh}
use Rattle.part_state.specs.Reader.{IsSliceEpoch}
use Rattle.part_state.proofs.ReaderLaws.{some-same, epoch-later, epoch-own}

eqb-turned : (a b : ℕ) → eqb a b ≡ eqb b a
eqb-turned a b = go (eqb a b) (eqb b a) refl refl
  where
    go : (x y : Bool) → eqb a b ≡ x → eqb b a ≡ y → x ≡ y
    go true true e f = refl
    go false false e f = refl
    go true false e f = absurd (both_ways (eqb b a) f (eq-eqb b a (sym (eqb-true a b e))))
    go false true e f = absurd (both_ways (eqb a b) e (eq-eqb a b (sym (eqb-true b a f))))

-- what is added for the owner of a slot, whoever tells who that is
for-owner : (r : Record) (a : Bool) (o : Option Holder) → cond (a && has_mine r o) (shares r.given (named o)) [] ≡ cond a (whole_for r o) []
for-owner r false o = refl
for-owner r true None = refl
for-owner r true (Some h) = refl

has-set : (hs : List Holder) (r : Record) (slot : ℕ) → slot < 512 → has (set_of hs r) slot ≡ has_mine r (owner hs r.given.time slot)
has-set hs r slot l = get_or-map-range_with_len (λ n. has_mine r (owner hs r.given.time n)) 0 512 slot slot false l (omega arith)

-- What a record adds to the cells of a slot in a slice is its share.
pub cell-record : (p : Past) (r : Record) (old new : Aggs) (start epoch : ℕ) (set : List Bool) → IsPast p → mark_of p.marks r.given.stream ≤ r.given.time
    → set ≡ set_of p.holders r → start ≡ cut_of p.holders r
    → ((slot : ℕ) → changes.owner p.changes epoch slot ≡ owner_at p.holders r.given.time slot)
    → ((t : StreamId) (c slot : ℕ) → slot < 512 → cells_in old t c slot ≡ cells_at p t slot c)
    → ((t : StreamId) (c slot : ℕ) → slot < 512 → cells_in new t c slot ≡ fold add_in (cells_in old t c slot) (cond (is_slice r.given.stream start t c && has set slot) (shares r.given (changes.owner p.changes epoch slot)) []))
    → (t : StreamId) (c slot : ℕ) → slot < 512 → cells_in new t c slot ≡ cells_at (followed p (msg.Rec r)) t slot c
cell-record p r old new start epoch set past mark sets starts owners was fed t c slot l =
    let hs : List Holder = p.holders in
    let o : Option Holder = owner hs r.given.time slot in
    let place : is_slice r.given.stream start t c ≡ is_in hs t c r =
    ap₂ (λ x y. x && y) (eqb-turned (place_of t) (place_of r.given.stream)) (ap (eqb c) starts) in
    fed t c slot l
    ∙ ap₂ (fold add_in) (was t c slot l)
    (ap₂ (λ x y. cond (x && y) (shares r.given (changes.owner p.changes epoch slot)) []) place (ap (λ s. has s slot) sets ∙ has-set hs r slot l)
    ∙ ap (λ q. cond (is_in hs t c r && has_mine r o) (shares r.given q) []) (owners slot)
    ∙ for-owner r (is_in hs t c r) o
    ∙ ap (λ x. cond (is_in hs t c r) x []) (sym (share-fresh p slot past.apart (moves-all p past.holders) r mark)))
    ∙ sym (cells-with_record p r t slot c)

-- Each slice with cells has its epoch.
pub epoch-record : (p : Past) (r : Record) (old new : Aggs) (start epoch : ℕ) → start ≡ cut_of p.holders r → epoch ≡ changes.epoch_at p.changes r.given.time
    → changes.epoch_at p.changes (cut_of p.holders r) ≡ changes.epoch_at p.changes r.given.time
    → ((t : StreamId) (c e : ℕ) → epoch_in old t c ≡ Some e → IsSliceEpoch p c e)
    → ((t : StreamId) (c e : ℕ) → epoch_in old t c ≡ Some e → epoch_in new t c ≡ Some e)
    → ((t : StreamId) (c e : ℕ) → epoch_in old t c ≡ None → epoch_in new t c ≡ Some e → (is_slice r.given.stream start t c ≡ true) × (e ≡ epoch))
    → (t : StreamId) (c e : ℕ) → epoch_in new t c ≡ Some e → IsSliceEpoch (followed p (msg.Rec r)) c e
epoch-record p r old new start epoch starts epochs same was kept made t c e f = go (epoch_in old t c) refl
  where
    go : (o : Option ℕ) → epoch_in old t c ≡ o → IsSliceEpoch (followed p (msg.Rec r)) c e
    go (Some d) k = epoch-later p r c e (was t c e (k ∙ ap Some (some-same d e (sym (kept t c d k) ∙ f))))
    go None k =
        let m = made t c e k f in
        epoch-own p r c e (eqb-true c start (and_parts (eqb (place_of t) (place_of r.given.stream)) (eqb c start) m.0).1 ∙ starts) (m.1 ∙ epochs) same

-- the number of records
pub one-longer : (p : Past) (r : Record) (n m : ℕ) → n ≤ m + 1 → m ≤ length p.records → n ≤ length (p.records ++ r ∷ [])
one-longer p r n m a b = let l = length-append p.records (r ∷ []) in omega (arith, a, b, l)
