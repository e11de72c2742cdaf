-- What one record, or one change, does to what is kept of a stream.
use Rattle.std.proofs.Common.{◌≡◌, inl, inr, ℕ, ◌≤◌, ◌<◌, ◌&&◌, nat_le, eqb, Bool, cond, true, false, Option, Some, None, List, [], ◌∷◌, ◌++◌, map, length, refl, sym, ap, ap₂, subst, ◌∙◌, arith}
use Rattle.std.specs.Prelude.{unwrap_or}
use Rattle.std.proofs.lemmas.Bool.{le-leb, leb-true, eqb-true, or_cases, or_left, or_right, both_ways}
use Rattle.std.proofs.lemmas.List.{length-append}
use Rattle.std.proofs.lemmas.List.Folds.{list_any-append}
use Rattle.std.proofs.lemmas.List.Sums.{sum_by-append}
use Rattle.std.specs.List.{filter, list_any, AllByRecursion}
use Rattle.as_base.specs.declared.item.Record.{Record}
use Rattle.as_base.specs.declared.message.Change.{Change}
use Rattle.as_base.specs.declared.message.Msg.TheVariants as msg
use Rattle.as_base.specs.declared.stream.StreamId.{StreamId}
use Rattle.as_base.specs.Stream.{place_of}
use Rattle.by_start.specs.declared.Begun.{Begun}
use Rattle.changelog.specs.Changes as changes
use Rattle.changelog.specs.Changes.{times_of, until, last_or}
use Rattle.changelog.proofs.BySlotLaws.{by_slot-push, epoch_within}
use Rattle.changelog.proofs.NumberLaws.{none-more, until-mono}
use Rattle.shared_select.specs.SelectorFor.{epoch_of}
use Rattle.shared_select.specs.Wanting.{bounds_on}
use Rattle.slice_store.specs.declared.placements.Held.{Held}
use Rattle.slice_store.specs.Placed.{Placed, placed}
use Rattle.slice_store.specs.Slices.{placed_at, epoch_at}
use Rattle.views.specs.IsHolder.{time_of, IsUnended}
use Rattle.views.specs.Slots.{Holder, held, set_of, cut, cut_of}
use Rattle.views.specs.View.{is_of}
use Rattle.views.proofs.CutLaws.{cut-le, cut-held}
use Rattle.views.proofs.ListLaws.{filter-same, All-by, All-filter, All-every}
use Rattle.views.proofs.SlotLaws.{set_of-held}
use Rattle.contents.specs.Kept.{is_wanted, is_in, slice_at, kept_with}
use Rattle.contents.specs.Past.{Past, followed}
use Rattle.contents.proofs.KeptLaws.{filter-append}
use Rattle.part_state.specs.declared.reader.Reader.{Reader}
use Rattle.part_state.specs.declared.tagger.Tag.{Tag}
use Rattle.part_state.specs.Cut.{IsCutFor}
use Rattle.part_state.specs.Keeping.{keeps_records}
use Rattle.part_state.specs.Reader.{last_epoch, with_set, IsSliceEpoch, IsReaderFor}
use Rattle.part_state.specs.Standing.{IsBefore}
use Rattle.part_state.specs.Tagged.{epoch_of_tagger, IsTaggerFor, IsTagOf}

-- ---- the epoch at the last record of a stream

last-push : (b : ℕ) (xs : List ℕ) (x : ℕ) → last_or b (xs ++ x ∷ []) ≡ x
last-push b [] x = refl
last-push b (y ∷ ys) x = last-push y ys x

last-most : (m b : ℕ) (xs : List ℕ) → b ≤ m → AllByRecursion (λ e. e ≤ m) xs → last_or b xs ≤ m
last-most m b [] l a = l
last-most m b (x ∷ xs) l a = last-most m x xs a.0 a.1

-- the epochs at the records of the stream
abbrev epochs_of : List Change → StreamId → List Record → List ℕ
epochs_of cs s records = map (λ (r : Record). changes.epoch_at cs r.given.time) (filter (is_of s) records)

epochs-most : (cs : List Change) (s : StreamId) (m : ℕ) (records : List Record) → AllByRecursion (λ (r : Record). is_of s r ≡ true → changes.epoch_at cs r.given.time ≤ m) records
    → AllByRecursion (λ e. e ≤ m) (epochs_of cs s records)
epochs-most cs s m [] a = tt
epochs-most cs s m (r ∷ rs) a = go (is_of s r) refl (epochs-most cs s m rs a.1)
  where
    go : (b : Bool) → is_of s r ≡ b → AllByRecursion (λ e. e ≤ m) (epochs_of cs s rs)
        → AllByRecursion (λ e. e ≤ m) (map (λ (x : Record). changes.epoch_at cs x.given.time) (cond b (r ∷ filter (is_of s) rs) (filter (is_of s) rs)))
    go true e rest = (a.0 e, rest)
    go false e rest = rest

-- a record comes in the epoch of the last of its stream, or later
pub last-before : (p : Past) (r : Record) → AllByRecursion (λ (x : Record). place_of x.given.stream ≡ place_of r.given.stream → x.given.time ≤ r.given.time) p.records
    → last_epoch p r.given.stream ≤ changes.epoch_at p.changes r.given.time
last-before p r a =
    last-most (changes.epoch_at p.changes r.given.time) 0 (epochs_of p.changes r.given.stream p.records) (omega arith)
    (epochs-most p.changes r.given.stream (changes.epoch_at p.changes r.given.time) p.records (All-by
    (λ (x : Record). place_of x.given.stream ≡ place_of r.given.stream → x.given.time ≤ r.given.time)
    (λ (x : Record). is_of r.given.stream x ≡ true → changes.epoch_at p.changes x.given.time ≤ changes.epoch_at p.changes r.given.time)
    (λ x f e. until-mono (times_of p.changes) x.given.time r.given.time (f (eqb-true (place_of x.given.stream) (place_of r.given.stream) e))) p.records a))

pub last-within : (p : Past) (s : StreamId) → last_epoch p s ≤ length p.changes
last-within p s =
    last-most (length p.changes) 0 (epochs_of p.changes s p.records) (omega arith)
    (epochs-most p.changes s (length p.changes) p.records (All-every (λ (x : Record). is_of s x ≡ true → changes.epoch_at p.changes x.given.time ≤ length p.changes)
    (λ x e. epoch_within p.changes x.given.time) p.records))

pub map-end : {X Y : Type 0} (f : X → Y) (xs : List X) (x : X) → map f (xs ++ x ∷ []) ≡ map f xs ++ f x ∷ []
map-end f [] x = refl
map-end f (y ∷ ys) x = ap (λ l. f y ∷ l) (map-end f ys x)

filter-end : {X : Type 0} (q : X → Bool) (b : Bool) (xs : List X) (x : X) → q x ≡ b → filter q (xs ++ x ∷ []) ≡ cond b (filter q xs ++ x ∷ []) (filter q xs)
filter-end q true xs x e = filter-append q xs (x ∷ []) ∙ ap (λ b. filter q xs ++ cond b (x ∷ []) []) e
filter-end q false xs x e = filter-append q xs (x ∷ []) ∙ ap (λ b. filter q xs ++ cond b (x ∷ []) []) e ∙ nil-end (filter q xs)
  where
    nil-end : {X : Type 0} (l : List X) → l ++ [] ≡ l
    nil-end [] = refl
    nil-end (y ∷ l) = ap (λ k. y ∷ k) (nil-end l)

pub last-own : (p : Past) (r : Record) (s : StreamId) → is_of s r ≡ true → last_epoch (followed p (msg.Rec r)) s ≡ changes.epoch_at p.changes r.given.time
last-own p r s e =
    let f : Record → ℕ = λ (x : Record). changes.epoch_at p.changes x.given.time in
    ap (λ l. last_or 0 (map f l)) (filter-end (is_of s) true p.records r e)
    ∙ ap (last_or 0) (map-end f (filter (is_of s) p.records) r) ∙ last-push 0 (map f (filter (is_of s) p.records)) (f r)

pub last-other : (p : Past) (r : Record) (s : StreamId) → is_of s r ≡ false → last_epoch (followed p (msg.Rec r)) s ≡ last_epoch p s
last-other p r s e = ap (λ l. last_or 0 (map (λ (x : Record). changes.epoch_at p.changes x.given.time) l)) (filter-end (is_of s) false p.records r e)

-- ---- slices

-- one record more in its slice
pub placed-more : (hs : List Holder) (s : StreamId) (c : ℕ) (stored : List Record) (r : Record) (w : Bool) (old : List Placed) → is_of s r ≡ true
    → old ≡ map (with_set hs) (slice_at hs s c stored)
    → cond (w && eqb c (cut_of hs r)) (old ++ placed r (set_of hs r) ∷ []) old ≡ map (with_set hs) (slice_at hs s c (cond w (stored ++ r ∷ []) stored))
placed-more hs s c stored r false old e was = was
placed-more hs s c stored r true old e was = go (eqb c (cut_of hs r)) refl
  where
    in-it : (b : Bool) → eqb c (cut_of hs r) ≡ b → is_in hs s c r ≡ b
    in-it b f = ap (λ x. x && eqb c (cut_of hs r)) e ∙ f

    go : (b : Bool) → eqb c (cut_of hs r) ≡ b → cond b (old ++ placed r (set_of hs r) ∷ []) old ≡ map (with_set hs) (slice_at hs s c (stored ++ r ∷ []))
    go true f = sym (ap (map (with_set hs)) (filter-end (is_in hs s c) true stored r (in-it true f)) ∙ map-end (with_set hs) (slice_at hs s c stored) r ∙ ap (λ l. l ++ placed r (set_of hs r) ∷ []) (sym was))
    go false f = was ∙ sym (ap (map (with_set hs)) (filter-end (is_in hs s c) false stored r (in-it false f)))

-- a record of another stream changes no slice of this one
pub placed-other : (hs : List Holder) (s : StreamId) (c : ℕ) (stored : List Record) (r : Record) (w : Bool) → is_of s r ≡ false
    → slice_at hs s c (cond w (stored ++ r ∷ []) stored) ≡ slice_at hs s c stored
placed-other hs s c stored r false e = refl
placed-other hs s c stored r true e = filter-end (is_in hs s c) false stored r (ap (λ x. x && eqb c (cut_of hs r)) e)

-- ---- epochs of slices

pub epoch-later : (p : Past) (r : Record) (c e : ℕ) → IsSliceEpoch p c e → IsSliceEpoch (followed p (msg.Rec r)) c e
epoch-later p r c e h = record {
  epoch = h.epoch;
  begun = list_any-append (λ (x : Record). nat_le c x.given.time) p.records (r ∷ []) ∙ or_left (list_any (λ (x : Record). nat_le c x.given.time) p.records) _ h.begun;
}

-- the slice of a record that comes has its epoch
pub epoch-own : (p : Past) (r : Record) (c e : ℕ) → c ≡ cut_of p.holders r → e ≡ changes.epoch_at p.changes r.given.time
    → changes.epoch_at p.changes (cut_of p.holders r) ≡ changes.epoch_at p.changes r.given.time → IsSliceEpoch (followed p (msg.Rec r)) c e
epoch-own p r c e is f same = record {
  epoch = f ∙ sym same ∙ ap (changes.epoch_at p.changes) (sym is);
  begun = list_any-append (λ (x : Record). nat_le c x.given.time) p.records (r ∷ [])
      ∙ or_right (list_any (λ (x : Record). nat_le c x.given.time) p.records) _ (or_left (nat_le c r.given.time) false (le-leb c r.given.time (let l = cut-le p.holders r.given.stream r.given.time in omega (arith, is, l))));
}

pub some-same : {X : Type 0} (x y : X) → Some x ≡ Some y → x ≡ y
some-same x y e = ap (λ o. unwrap_or o x) e

pub epoch-more : (p : Past) (r : Record) (c e fresh : ℕ) (w : Bool) (o : Option ℕ) → ((e : ℕ) → o ≡ Some e → IsSliceEpoch p c e) → fresh ≡ changes.epoch_at p.changes r.given.time
    → changes.epoch_at p.changes (cut_of p.holders r) ≡ changes.epoch_at p.changes r.given.time
    → cond (w && eqb c (cut_of p.holders r)) (Some (unwrap_or o fresh)) o ≡ Some e → IsSliceEpoch (followed p (msg.Rec r)) c e
epoch-more p r c e fresh false o was is same f = epoch-later p r c e (was e f)
epoch-more p r c e fresh true o was is same f = go (eqb c (cut_of p.holders r)) refl o was f
  where
    go : (b : Bool) → eqb c (cut_of p.holders r) ≡ b → (o : Option ℕ) → ((e : ℕ) → o ≡ Some e → IsSliceEpoch p c e) → cond b (Some (unwrap_or o fresh)) o ≡ Some e → IsSliceEpoch (followed p (msg.Rec r)) c e
    go false k o was f = epoch-later p r c e (was e f)
    go true k (Some d) was f = epoch-later p r c e (was e f)
    go true k None was f = epoch-own p r c e (eqb-true c (cut_of p.holders r) k) (sym (some-same fresh e f) ∙ is) same

-- ---- one record

-- What is kept of the record's own stream.
pub reader-record : (p : Past) (stored : List Record) (r : Record) (s : StreamId) (new : Reader) (old : List (Begun Held)) (tag : Tag) (start : ℕ) → is_of s r ≡ true
    → IsTagOf p r tag → start ≡ cut_of p.holders r
    → IsTaggerFor new.tagger s p.changes → epoch_of_tagger new.tagger ≡ changes.epoch_at p.changes r.given.time → IsCutFor new.cut s p.changes → new.slices.stream ≡ s
    → ((c : ℕ) → placed_at c old ≡ map (with_set p.holders) (slice_at p.holders s c stored)) → ((c e : ℕ) → epoch_at c old ≡ Some e → IsSliceEpoch p c e)
    → ((c : ℕ) → placed_at c new.slices.slices ≡ cond (tag.is_kept && eqb c start) (placed_at c old ++ placed r tag.set ∷ []) (placed_at c old))
    → ((c : ℕ) → epoch_at c new.slices.slices ≡ cond (tag.is_kept && eqb c start) (Some (unwrap_or (epoch_at c old) tag.epoch)) (epoch_at c old))
    → changes.epoch_at p.changes (cut_of p.holders r) ≡ changes.epoch_at p.changes r.given.time
    → IsReaderFor new s (followed p (msg.Rec r)) (kept_with (followed p (msg.Rec r)) stored (msg.Rec r))
reader-record p stored r s new old tag start e t is tags epoch cut store placed epochs put puts same = record {
  tags = tags;
  epoch = epoch ∙ sym (last-own p r s e);
  cut = cut;
  store = store;
  placed = λ c. put c ∙ ap (λ w. cond (w && eqb c start) (placed_at c old ++ record { accepted = r; set = tag.set } ∷ []) (placed_at c old)) t.kept
      ∙ ap₂ (λ n l. cond (is_wanted p.holders r && eqb c n) (placed_at c old ++ record { accepted = r; set = l } ∷ []) (placed_at c old)) is t.set
      ∙ placed-more p.holders s c stored r (is_wanted p.holders r) (placed_at c old) e (placed c);
  epochs = λ c e f. epoch-more p r c e tag.epoch (is_wanted p.holders r) (epoch_at c old) (λ d. epochs c d) t.epoch same
      (ap₂ (λ x y. cond (x && eqb c y) (Some (unwrap_or (epoch_at c old) tag.epoch)) (epoch_at c old)) (sym t.kept) (sym is) ∙ sym (puts c) ∙ f);
}

-- What is kept of another stream.
pub reader-other : (p : Past) (stored : List Record) (r : Record) (s : StreamId) (reader : Reader) → is_of s r ≡ false → IsReaderFor reader s p stored
    → IsReaderFor reader s (followed p (msg.Rec r)) (kept_with (followed p (msg.Rec r)) stored (msg.Rec r))
reader-other p stored r s reader e h = record {
  tags = h.tags;
  epoch = h.epoch ∙ sym (last-other p r s e);
  cut = h.cut;
  store = h.store;
  placed = λ c. h.placed c ∙ ap (map (with_set p.holders)) (sym (placed-other p.holders s c stored r (is_wanted p.holders r) e));
  epochs = λ c e f. epoch-later p r c e (h.epochs c e f);
}

-- ---- one change

-- the epochs of times before it are as they were
epoch-early : (cs : List Change) (c : Change) (t : ℕ) → t < time_of c → changes.epoch_at (cs ++ c ∷ []) t ≡ changes.epoch_at cs t
epoch-early cs c t l =
    let ns : List ℕ = times_of cs in
    let both = sum_by-append (λ n. cond {A = ℕ} (nat_le n t) 1 0) ns (time_of c ∷ []) in
    let none = none-more t (time_of c) [] l in
    ap (until t) (map-end time_of cs c) ∙ omega (arith, both, none)

map-alike : {X Y : Type 0} (f g : X → Y) (xs : List X) → AllByRecursion (λ x. f x ≡ g x) xs → map f xs ≡ map g xs
map-alike f g [] a = refl
map-alike f g (x ∷ xs) a = ap₂ (λ y ys. y ∷ ys) a.0 (map-alike f g xs a.1)

some-time : (at d : ℕ) (rs : List Record) → AllByRecursion (λ (r : Record). r.given.time < at) rs → list_any (λ (r : Record). nat_le d r.given.time) rs ≡ true → d < at
some-time at d [] a e = absurd (both_ways false refl e)
some-time at d (r ∷ rs) a e = elim (or_cases (nat_le d r.given.time) (list_any (λ (x : Record). nat_le d x.given.time) rs) e) [
  | inl f ↦ (let l = leb-true d r.given.time f in let b = a.0 in omega (arith, l, b))
  | inr f ↦ some-time at d rs a.1 f
]

pub epoch-after : (p : Past) (c : Change) → AllByRecursion (λ (r : Record). r.given.time < time_of c) p.records → (d e : ℕ) → IsSliceEpoch p d e → IsSliceEpoch (followed p (msg.Change c)) d e
epoch-after p c before d e k = record { epoch = k.epoch ∙ sym (epoch-early p.changes c d (some-time (time_of c) d p.records before k.begun)); begun = k.begun }

-- What is kept of a stream after a change more.
pub reader-change : (p : Past) (stored : List Record) (c : Change) (s : StreamId) (reader : Reader) → AllByRecursion IsUnended p.holders
    → AllByRecursion (λ (r : Record). r.given.time < time_of c) p.records
    → AllByRecursion (IsBefore (time_of c)) stored
    → IsReaderFor reader s p stored → IsReaderFor reader s (followed p (msg.Change c)) stored
reader-change p stored c s reader u before early h = record {
  tags = record {
    stream = h.tags.stream;
    columns = h.tags.columns ∙ sym (by_slot-push (bounds_on reader.tagger.selector.stream) p.changes c reader.tagger.selector.epoch within);
    keepers = h.tags.keepers ∙ sym (by_slot-push keeps_records p.changes c (epoch_of reader.tagger.selector) within);
  };
  epoch = h.epoch ∙ sym (ap (last_or 0) (map-alike (λ (r : Record). changes.epoch_at (p.changes ++ c ∷ []) r.given.time) (λ (r : Record). changes.epoch_at p.changes r.given.time) (filter (is_of s) p.records)
      (All-filter (λ (r : Record). changes.epoch_at (p.changes ++ c ∷ []) r.given.time ≡ changes.epoch_at p.changes r.given.time) (is_of s) p.records
      (All-by (λ (r : Record). r.given.time < time_of c) (λ (r : Record). changes.epoch_at (p.changes ++ c ∷ []) r.given.time ≡ changes.epoch_at p.changes r.given.time) (λ r l. epoch-early p.changes c r.given.time l) p.records before))));
  cut = record {
    changes = let l = length-append p.changes (c ∷ []) in let w = h.cut.changes in omega (arith, l, w);
    same = λ e. absurd (let l = length-append p.changes (c ∷ []) in let w = h.cut.changes in omega (arith, l, w, e));
  };
  store = h.store;
  placed = λ d. h.placed d ∙ sym (slice-same d);
  epochs = λ d e f. epoch-after p c before d e (h.epochs d e f);
}
  where
    within : epoch_of reader.tagger.selector ≤ length p.changes
    within = subst (λ n. n ≤ length p.changes) (sym h.epoch) (last-within p s)

    one-set : (r : Record) → IsBefore (time_of c) r → with_set (held p.holders c) r ≡ with_set p.holders r
    one-set r l = ap (placed r) (set_of-held p.holders c r u l.0 l.1)

    one-cut : (d : ℕ) (r : Record) → IsBefore (time_of c) r → is_in (held p.holders c) s d r ≡ is_in p.holders s d r
    one-cut d r l = ap (λ n. is_of s r && eqb d n) (cut-held p.holders c r.given.stream r.given.time u l.0 l.1)

    slice-same : (d : ℕ) → map (with_set (held p.holders c)) (slice_at (held p.holders c) s d stored) ≡ map (with_set p.holders) (slice_at p.holders s d stored)
    slice-same d =
        ap (map (with_set (held p.holders c))) (filter-same (is_in (held p.holders c) s d) (is_in p.holders s d) stored
        (All-by (IsBefore (time_of c)) (λ (r : Record). is_in (held p.holders c) s d r ≡ is_in p.holders s d r) (one-cut d) stored early))
        ∙ map-alike (with_set (held p.holders c)) (with_set p.holders) (slice_at p.holders s d stored)
        (All-filter (λ (r : Record). with_set (held p.holders c) r ≡ with_set p.holders r) (is_in p.holders s d) stored
        (All-by (IsBefore (time_of c)) (λ (r : Record). with_set (held p.holders c) r ≡ with_set p.holders r) one-set stored early))
