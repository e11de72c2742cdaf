-- Records are kept by slices, which go whole; and what is needed of all records is what is needed of those kept.
use Rattle.std.proofs.Common.{◌≡◌, ℕ, ◌<◌, ◌^◌, ◌&&◌, ◌||◌, eqb, Bool, true, false, cond, List, [], ◌∷◌, ◌++◌, refl, sym, ap, subst, ◌∙◌, append_assoc, append-nil}
use Rattle.std.proofs.lemmas.Bool.{and_parts, both_ways, eq-eqb, eqb-true}
use Rattle.std.specs.List.{filter, list_any, AllByRecursion}
use Rattle.as_base.specs.declared.item.Record.{Record}
use Rattle.as_base.specs.declared.message.Msg.{Msg}
use Rattle.as_base.specs.declared.message.Msg.TheVariants as msg
use Rattle.as_base.specs.declared.stream.StreamId.{StreamId}
use Rattle.as_base.specs.Stream.{place_of}
use Rattle.views.specs.IsHolder.{IsUnended}
use Rattle.views.specs.Slots.{Holder, cut_of}
use Rattle.views.specs.View.{is_of, is_mine}
use Rattle.views.proofs.ListLaws.{filter-same, filter-filter}
use Rattle.contents.specs.IsPast.{ComesBefore, LowersNoMark}
use Rattle.contents.specs.Kept.{keeps, wants, needs, is_needed, is_wanted, is_in, slice_at, in_needed_slice, kept_with}
use Rattle.contents.specs.Past.{Past, followed}
use Rattle.contents.proofs.NeedLaws.{or_left, or_right, true_and, any-before, needed-before}
use Rattle.as_base.specs.declared.query.Kind.{Kind}
use Rattle.as_base.specs.declared.query.Kind.TheVariants.{Select, Sum, Count, Join}
use Rattle.views.specs.Query.{Query}

-- two that are in one slice are in each other's
same-slice : (hs : List Holder) (s : StreamId) (c : ℕ) (x : Record) → is_in hs s c x ≡ true → (y : Record) → is_in hs x.given.stream (cut_of hs x) y ≡ is_in hs s c y
same-slice hs s c x e y =
    let a = and_parts (is_of s x) (eqb c (cut_of hs x)) e in
    ap (λ n. eqb (place_of y.given.stream) n && eqb (cut_of hs x) (cut_of hs y)) (eqb-true (place_of x.given.stream) (place_of s) a.0)
    ∙ ap (λ n. is_of s y && eqb n (cut_of hs y)) (sym (eqb-true c (cut_of hs x) a.1))

every : {X : Type 0} (P : X → Type 0) → ((x : X) → P x) → (xs : List X) → AllByRecursion P xs
every P f [] = tt
every P f (x ∷ xs) = (f x, every P f xs)

slice-as : (hs : List Holder) (s : StreamId) (c : ℕ) (x : Record) → is_in hs s c x ≡ true → (records : List Record)
    → slice_at hs x.given.stream (cut_of hs x) records ≡ slice_at hs s c records
slice-as hs s c x e records =
    filter-same (is_in hs x.given.stream (cut_of hs x)) (is_in hs s c) records
    (every (λ y. is_in hs x.given.stream (cut_of hs x) y ≡ is_in hs s c y) (same-slice hs s c x e) records)

-- whether those of a slice are in a slice with a needed one is whether the slice has one
all-alike : (p : Past) (records : List Record) (s : StreamId) (c : ℕ) (x : Record) (b : Bool) → is_in p.holders s c x ≡ b
    → (in_needed_slice p records x && b) ≡ (list_any (is_needed p) (slice_at p.holders s c records) && b)
all-alike p records s c x true e = ap (λ l. list_any (is_needed p) l && true) (slice-as p.holders s c x e records)
all-alike p records s c x false e = neither (in_needed_slice p records x) (list_any (is_needed p) (slice_at p.holders s c records))
  where
    neither : (a b : Bool) → (a && false) ≡ (b && false)
    neither true true = refl
    neither true false = refl
    neither false true = refl
    neither false false = refl

all-or-none : {X : Type 0} (b : Bool) (p : X → Bool) (xs : List X) → filter (λ x. b && p x) xs ≡ cond b (filter p xs) []
all-or-none true p xs = refl
all-or-none false p [] = refl
all-or-none false p (x ∷ xs) = all-or-none false p xs

-- after an advance a slice is as it was, or it is gone
pub evicted : (p : Past) (records : List Record) (s : StreamId) (c : ℕ) → slice_at p.holders s c (filter (in_needed_slice p records) records)
    ≡ cond (list_any (is_needed p) (slice_at p.holders s c records)) (slice_at p.holders s c records) []
evicted p records s c =
    filter-filter (is_in p.holders s c) (in_needed_slice p records) records
    ∙ filter-same (λ x. in_needed_slice p records x && is_in p.holders s c x) (λ x. list_any (is_needed p) (slice_at p.holders s c records) && is_in p.holders s c x) records
    (every (λ x. (in_needed_slice p records x && is_in p.holders s c x) ≡ (list_any (is_needed p) (slice_at p.holders s c records) && is_in p.holders s c x))
    (λ x. all-alike p records s c x (is_in p.holders s c x) refl) records)
    ∙ all-or-none (list_any (is_needed p) (slice_at p.holders s c records)) (is_in p.holders s c) records

-- ---- what is needed of those kept

-- a record is in its own slice
own-slice : (hs : List Holder) (r : Record) → is_in hs r.given.stream (cut_of hs r) r ≡ true
own-slice hs r =
    ap (λ b. b && eqb (cut_of hs r) (cut_of hs r)) (eq-eqb (place_of r.given.stream) (place_of r.given.stream) refl)
    ∙ eq-eqb (cut_of hs r) (cut_of hs r) refl

pub filter-append : {X : Type 0} (p : X → Bool) (xs ys : List X) → filter p (xs ++ ys) ≡ filter p xs ++ filter p ys
filter-append p [] ys = refl
filter-append p (x ∷ xs) ys = go (p x) (filter-append p xs ys)
  where
    go : (b : Bool) → filter p (xs ++ ys) ≡ filter p xs ++ filter p ys → cond b (x ∷ filter p (xs ++ ys)) (filter p (xs ++ ys)) ≡ cond b (x ∷ filter p xs) (filter p xs) ++ filter p ys
    go true e = ap (λ l. x ∷ l) e
    go false e = e

any-append : {X : Type 0} (p : X → Bool) (xs ys : List X) → list_any p (xs ++ ys) ≡ (list_any p xs || list_any p ys)
any-append p [] ys = refl
any-append p (x ∷ xs) ys = ap (λ b. p x || b) (any-append p xs ys) ∙ regroup (p x) (list_any p xs) (list_any p ys)
  where
    regroup : (a b c : Bool) → (a || (b || c)) ≡ ((a || b) || c)
    regroup true b c = refl
    regroup false b c = refl

any-within : {X : Type 0} (p q : X → Bool) (front : List X) (x : X) (back : List X) → q x ≡ true → p x ≡ true → list_any p (filter q (front ++ x ∷ back)) ≡ true
any-within p q front x back e f =
    ap (list_any p) (filter-append q front (x ∷ back)) ∙ any-append p (filter q front) (filter q (x ∷ back))
    ∙ or_right (list_any p (filter q front)) (list_any p (filter q (x ∷ back)))
    (ap (λ b. list_any p (cond b (x ∷ filter q back) (filter q back))) e ∙ or_left (p x) (list_any p (filter q back)) f)

-- a needed one is in a slice with a needed one
in-own : (p : Past) (front back : List Record) → AllByRecursion (λ r. is_needed p r ≡ true → in_needed_slice p (front ++ back) r ≡ true) back
in-own p front [] = tt
in-own p front (r ∷ back) = (
  (λ e. any-within (is_needed p) (is_in p.holders r.given.stream (cut_of p.holders r)) front r back (own-slice p.holders r) e),
  subst (λ (l : List Record). AllByRecursion (λ s. is_needed p s ≡ true → in_needed_slice p l s ≡ true) back) (append_assoc front (r ∷ []) back)
      (in-own p (front ++ r ∷ []) back),
)

-- a stronger test takes from what a weaker one took what it takes from all
pub within-stronger : {X : Type 0} (p q : X → Bool) (xs : List X) → AllByRecursion (λ x. p x ≡ true → q x ≡ true) xs → filter p (filter q xs) ≡ filter p xs
within-stronger p q [] h = refl
within-stronger p q (x ∷ xs) h = go (q x) (p x) refl refl (within-stronger p q xs h.1)
  where
    go : (b c : Bool) → q x ≡ b → p x ≡ c → filter p (filter q xs) ≡ filter p xs
        → filter p (cond b (x ∷ filter q xs) (filter q xs)) ≡ cond c (x ∷ filter p xs) (filter p xs)
    go true c e f g = ap (λ b. cond b (x ∷ filter p (filter q xs)) (filter p (filter q xs))) f ∙ ap (λ l. cond c (x ∷ l) l) g
    go false true e f g = absurd (both_ways false refl (sym e ∙ h.0 f))
    go false false e f g = g

-- what a query needs, a selection or a join has
wanted-kind : (kind : Kind) (marks : List ℕ) (q : Query) (t : ℕ) → wants kind marks q t ≡ true → keeps kind ≡ true
wanted-kind Select marks q t e = refl
wanted-kind Join marks q t e = refl
wanted-kind (Sum c) marks q t e = e
wanted-kind Count marks q t e = e

needs-has : (marks : List ℕ) (r : Record) (h : Holder) → needs marks r h.query ≡ true → (keeps h.query.plan.kind && is_mine h.query r.given.stream r) ≡ true
needs-has marks r h e =
    let a = and_parts (is_mine h.query r.given.stream r) (wants h.query.plan.kind marks h.query r.given.time) e in
    true_and (keeps h.query.plan.kind) (is_mine h.query r.given.stream r) (wanted-kind h.query.plan.kind marks h.query r.given.time a.1) a.0

needed-wanted : (marks : List ℕ) (r : Record) (hs : List Holder) → list_any (λ (h : Holder). needs marks r h.query) hs ≡ true → is_wanted hs r ≡ true
needed-wanted marks r hs e =
    any-before (λ (h : Holder). needs marks r h.query) (λ (h : Holder). keeps h.query.plan.kind && is_mine h.query r.given.stream r) hs
    (every (λ h. needs marks r h.query ≡ true → (keeps h.query.plan.kind && is_mine h.query r.given.stream r) ≡ true) (needs-has marks r) hs) e

-- each of the records came before the message
abbrev pub AreBefore : Msg → List Record → Type 0
AreBefore m records = AllByRecursion (λ (r : Record). (r.given.time < 2 ^ 62) × ComesBefore m r) records

befores : (p : Past) (m : Msg) → AllByRecursion IsUnended p.holders → LowersNoMark p m → (records : List Record) → AreBefore m records
    → AllByRecursion (λ r. is_needed (followed p m) r ≡ true → is_needed p r ≡ true) records
befores p m u up [] a = tt
befores p m u up (r ∷ records) a = (needed-before p r m u a.0.0 a.0.1 up, befores p m u up records a.1)

same-after : (p : Past) (m : Msg) (kept records : List Record) → AllByRecursion IsUnended p.holders → LowersNoMark p m → AreBefore m kept → AreBefore m records
    → filter (is_needed p) kept ≡ filter (is_needed p) records → filter (is_needed (followed p m)) kept ≡ filter (is_needed (followed p m)) records
same-after p m kept records u up a b e =
    sym (within-stronger (is_needed (followed p m)) (is_needed p) kept (befores p m u up kept a))
    ∙ ap (filter (is_needed (followed p m))) e
    ∙ within-stronger (is_needed (followed p m)) (is_needed p) records (befores p m u up records b)

-- a record that comes is kept, unless nothing needs it
one-more : (p : Past) (kept records : List Record) (r : Record) (b : Bool) → is_wanted p.holders r ≡ b → filter (is_needed p) kept ≡ filter (is_needed p) records
    → filter (is_needed p) (cond b (kept ++ r ∷ []) kept) ≡ filter (is_needed p) (records ++ r ∷ [])
one-more p kept records r true w e =
    filter-append (is_needed p) kept (r ∷ []) ∙ ap (λ l. l ++ filter (is_needed p) (r ∷ [])) e ∙ sym (filter-append (is_needed p) records (r ∷ []))
one-more p kept records r false w e = e ∙ sym (not-one (is_needed p r) refl)
  where
    not-one : (c : Bool) → is_needed p r ≡ c → filter (is_needed p) (records ++ r ∷ []) ≡ filter (is_needed p) records
    not-one true f = absurd (both_ways false refl (sym w ∙ needed-wanted p.marks r p.holders f))
    not-one false f = filter-append (is_needed p) records (r ∷ []) ∙ ap (λ b. filter (is_needed p) records ++ cond b (r ∷ []) []) f ∙ append-nil (filter (is_needed p) records)

-- What is needed of all records is what is needed of those kept, and one message more keeps this.
pub kept-after : (p : Past) (m : Msg) (kept : List Record) → AllByRecursion IsUnended p.holders → LowersNoMark p m → AreBefore m kept → AreBefore m p.records
    → filter (is_needed p) kept ≡ filter (is_needed p) p.records
    → filter (is_needed (followed p m)) (kept_with (followed p m) kept m) ≡ filter (is_needed (followed p m)) (followed p m).records
kept-after p (msg.Rec r) kept u up a b e = one-more (followed p (msg.Rec r)) kept p.records r (is_wanted p.holders r) refl e
kept-after p (msg.Advance wm) kept u up a b e =
    within-stronger (is_needed (followed p (msg.Advance wm))) (in_needed_slice (followed p (msg.Advance wm)) kept) kept (in-own (followed p (msg.Advance wm)) [] kept)
    ∙ same-after p (msg.Advance wm) kept p.records u up a b e
kept-after p (msg.Change c) kept u up a b e = same-after p (msg.Change c) kept p.records u up a b e
