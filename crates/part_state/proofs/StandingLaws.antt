-- What a record and a change do to all that a state keeps.
use Rattle.std.proofs.Common.{◌≡◌, inl, inr, ℕ, zero, suc, set, ◌+◌, ◌≤◌, ◌<◌, ◌^◌, eqb, false, List, [], ◌∷◌, ◌++◌, length, refl, sym, ap, subst, ◌∙◌, arith}
use Rattle.std.specs.Prelude.{slice_index_or}
use Rattle.std.proofs.lemmas.Bool.{eqb-true, eq-eqb, cases_lt, cases_Bool, both_ways}
use Rattle.as_base.specs.declared.item.Record.{Record}
use Rattle.as_base.specs.declared.message.Change.{Change}
use Rattle.as_base.specs.declared.message.Msg.TheVariants as msg
use Rattle.as_base.specs.declared.stream.StreamId.{StreamId}
use Rattle.as_base.specs.declared.stream.StreamId.TheVariants.{A, B, C, D}
use Rattle.as_base.specs.Stream.{place_of}
use Rattle.changelog.proofs.StartLaws.{starts-from}
use Rattle.changelog.proofs.HolderLaws.{owners-from}
use Rattle.changelog.specs.Changes as changes
use Rattle.changelog.specs.Orderly.{owner_at}
use Rattle.views.specs.Slots.{Holder, cut}
use Rattle.views.specs.View.{is_of}
use Rattle.contents.specs.IsPast.{IsPast}
use Rattle.contents.specs.Kept.{kept_with}
use Rattle.contents.specs.Past.{Past, followed}
use Rattle.contents.specs.Touched.{touched, touched_by}
use Rattle.contents.proofs.CellLaws.{stream-is}
use Rattle.contents.proofs.TouchLaws.{names-orderly, epoch-by_cut}
use Rattle.part_state.specs.declared.reader.Reader.{Reader}
use Rattle.part_state.specs.Reader.{IsReaderFor}
use Rattle.part_state.specs.Standing.{AreReadersFor}
use Rattle.part_state.proofs.EntryLaws.{any-default}
use Rattle.part_state.proofs.ReaderLaws.{reader-other}

-- who owns a slot in the epoch of a time
pub owners-by : (p : Past) (t : ℕ) → IsPast p → t < 2 ^ 62 → (slot : ℕ) → changes.owner p.changes (changes.epoch_at p.changes t) slot ≡ owner_at p.holders t slot
owners-by p t past low slot =
    owners-from t slot 0 [] p.changes (omega arith) low (record { settled = tt; alone = tt }) past.orderly ∙ ap (λ hs. owner_at hs t slot) (sym past.made)

-- where the slice begins that holds a time
pub starts-by : (p : Past) (s : StreamId) (t : ℕ) → IsPast p → t < 2 ^ 62 → changes.slice_start p.changes s t ≡ cut p.holders s t
starts-by p s t past low =
    starts-from s t 0 [] p.changes (omega arith) low (record { settled = tt; alone = tt }) tt refl past.orderly ∙ ap (λ hs. cut hs s t) (sym past.made)

-- the epoch of a slice is that of its times
pub epochs-by : (p : Past) (s : StreamId) (t : ℕ) → IsPast p → t < 2 ^ 62 → changes.epoch_at p.changes (cut p.holders s t) ≡ changes.epoch_at p.changes t
epochs-by p s t past low =
    subst (λ (hs : List Holder). changes.epoch_at p.changes (cut hs s t) ≡ changes.epoch_at p.changes t) (sym past.made) (epoch-by_cut p.changes s t low (names-orderly p.changes past.orderly))

-- What is kept of the four streams after a record, where that of its own stream is known.
pub readers-record : (p : Past) (stored : List Record) (r : Record) (old new : List Reader) → AreReadersFor old p stored
    → ((d : Reader) → IsReaderFor (slice_index_or new (place_of r.given.stream) d) r.given.stream (followed p (msg.Rec r)) (kept_with (followed p (msg.Rec r)) stored (msg.Rec r)))
    → ((i : ℕ) (d : Reader) → eqb i (place_of r.given.stream) ≡ false → slice_index_or new i d ≡ slice_index_or old i d)
    → AreReadersFor new (followed p (msg.Rec r)) (kept_with (followed p (msg.Rec r)) stored (msg.Rec r))
readers-record p stored r old new was own others s d = elim (cases_Bool (is_of s r)) [
  | inl e ↦ subst (λ (t : StreamId). IsReaderFor (slice_index_or new (place_of t) d) t (followed p (msg.Rec r)) (kept_with (followed p (msg.Rec r)) stored (msg.Rec r))) (stream-is s r e) (own d)
  | inr e ↦ subst (λ (k : Reader). IsReaderFor k s (followed p (msg.Rec r)) (kept_with (followed p (msg.Rec r)) stored (msg.Rec r)))
      (sym (others (place_of s) d (apart (place_of s) (place_of r.given.stream) e))) (reader-other p stored r s (slice_index_or old (place_of s) d) e (was s d))
]
  where
    apart : (a b : ℕ) → eqb b a ≡ false → eqb a b ≡ false
    apart a b e = elim (cases_Bool (eqb a b)) [
      | inl f ↦ absurd (both_ways (eqb b a) e (eq-eqb b a (sym (eqb-true a b f))))
      | inr f ↦ f
    ]

-- the touched slots of one change more
pub touched-push : (cs : List Change) (c : Change) → touched (cs ++ c ∷ []) ≡ touched cs ++ touched_by c ∷ []
touched-push [] c = refl
touched-push (d ∷ cs) c = ap (λ l. touched_by d ∷ l) (touched-push cs c)

pub set-there : {X : Type 0} (xs : List X) (i : ℕ) (x d : X) → i < length xs → slice_index_or (set xs i x) i d ≡ x
set-there [] i x d l = absurd (omega (arith, l))
set-there (y ∷ xs) zero x d l = refl
set-there (y ∷ xs) (suc i) x d l = set-there xs i x d (omega (arith, l))

-- a list that has a place has an element
pub any-of : {X P : Type 0} (xs : List X) {i : ℕ} → i < length xs → (X → P) → P
any-of [] l f = absurd (omega (arith, l))
any-of (x ∷ xs) l f = f x

set-apart : {X : Type 0} (xs : List X) (i k : ℕ) (x d : X) → (i ≡ k → ⊥) → slice_index_or (set xs i x) k d ≡ slice_index_or xs k d
set-apart [] i k x d f = refl
set-apart (y ∷ xs) zero zero x d f = absurd (f refl)
set-apart (y ∷ xs) zero (suc k) x d f = refl
set-apart (y ∷ xs) (suc i) zero x d f = refl
set-apart (y ∷ xs) (suc i) (suc k) x d f = set-apart xs i k x d (λ e. f (omega (arith, e)))

-- one element more became another, and those behind it are as they were
pub each-step : {X : Type 0} (R : X → X → Type 0) (first cur : List X) (i : ℕ) (one new : X) → i < length cur → R (slice_index_or cur i one) new
    → ((k : ℕ) (d : X) → k < i → R (slice_index_or first k d) (slice_index_or cur k d)) × ((k : ℕ) (d : X) → i ≤ k → slice_index_or cur k d ≡ slice_index_or first k d)
    → ((k : ℕ) (d : X) → k < i + 1 → R (slice_index_or first k d) (slice_index_or (set cur i new) k d))
    × ((k : ℕ) (d : X) → i + 1 ≤ k → slice_index_or (set cur i new) k d ≡ slice_index_or first k d)
each-step R first cur i one new l r was = (
  (λ k d b. elim (cases_lt k i) [
    | inl before ↦ subst (λ x. R (slice_index_or first k d) x) (sym (set-apart cur i k new d (λ e. omega (arith, e, before)))) (was.0 k d before)
    | inr after ↦ (let e : i ≡ k = omega (arith, after, b) in
        subst (λ n. R (slice_index_or first n d) (slice_index_or (set cur i new) n d)) e
        (subst (λ x. R x (slice_index_or (set cur i new) i d)) (any-default cur i one d l ∙ was.1 i d (omega arith))
        (subst (λ x. R (slice_index_or cur i one) x) (sym (set-there cur i new d l)) r)))
  ]),
  (λ k d b. set-apart cur i k new d (λ e. omega (arith, e, b)) ∙ was.1 k d (omega (arith, b))),
)

pub place-below : (s : StreamId) → place_of s < 4
place-below A = omega arith
place-below B = omega arith
place-below C = omega arith
place-below D = omega arith
