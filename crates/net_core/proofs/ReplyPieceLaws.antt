-- The replies of the parts to an advance, merged, are the pieces that become due.
use Rattle.std.proofs.Common.{◌≡◌, ℕ, ◌+◌, ◌≤◌, ◌<◌, ◌&&◌, nat_le, eqb, Bool, cond, true, false, true≢false, Some, List, [], ◌∷◌, ◌++◌, map, refl, sym, ap, ap₂, ◌∙◌, append-nil, arith}
use Rattle.std.specs.List.{flat_map, range_with_len, AllByRecursion}
use Rattle.std.proofs.Transfers.{drop-appended}
use Rattle.std.proofs.Math.Nat.{mod-lt}
use Rattle.std.proofs.lemmas.Bool.{eq-eqb, ne_eqb, and_parts, leb-true, or_left, or_right}
use Rattle.std.proofs.lemmas.List.Folds.{flat_map-map}
use Rattle.as_base.specs.declared.config.Config.{Config}
use Rattle.as_base.specs.declared.fragment.Fragment.{Fragment}
use Rattle.as_base.specs.declared.item.Item.{Item}
use Rattle.as_base.specs.declared.item.Record.{Record}
use Rattle.as_base.specs.declared.message.Msg.TheVariants as msg
use Rattle.as_base.specs.declared.query.Kind.{Kind}
use Rattle.as_base.specs.declared.query.Kind.TheVariants.{Select, Sum, Count, Join}
use Rattle.as_base.specs.declared.query.Plan.{Plan}
use Rattle.as_base.specs.declared.row.Row.{Row}
use Rattle.as_base.specs.Config.{fits, is_among}
use Rattle.as_base.specs.Range.{InRange}
use Rattle.key_partition.specs.Part.{key_number, part_of}
use Rattle.row_text.proofs.TextLaws.{text_of_rows}
use Rattle.views.specs.IsView.{IsQuery, IsView}
use Rattle.views.specs.Query.{Query}
use Rattle.views.specs.Slots.{Holder}
use Rattle.views.specs.View.{View}
use Rattle.views.proofs.DueLaws.{rows_between}
use Rattle.views.proofs.ListLaws.{All-by, All-every, All-both, filter-all, filter-none, flat_map-same}
use Rattle.views.proofs.NumberLaws.{IsNumbered, first-number, rest-numbered, numbers-from, of_number, of_number-none}
use Rattle.views.proofs.RisingLaws.{Rises}
use Rattle.contents.specs.Free.{member, Once}
use Rattle.contents.specs.Past.{Past, past_of}
use Rattle.contents.specs.Reply.{passing, fragments_as}
use Rattle.result_router.specs.Merge.{piece_for, pieces_of}
use Rattle.result_router.specs.Rising.{with_key, number_of}
use Rattle.session.specs.Book.{book}
use Rattle.session.specs.Message.{message}
use Rattle.session.specs.View.{view, text_of}
use Rattle.session.proofs.FollowLaws.{view-is}
use Rattle.session.proofs.OutputLaws.{due_of, text_of-push}
use Rattle.session.proofs.ViewLaws.{view-message}
use Rattle.net_core.specs.Due.{piece_of, more_text, due}
use Rattle.net_core.specs.Merged.{replied_by}
use Rattle.net_core.specs.Sent.{sent}
use Rattle.net_core.proofs.MergedCellLaws.{ByKey}
use Rattle.net_core.proofs.PartedLaws.{filter-flat_map, flat_map-every, All-flat_map, member-range, once-range, GoTo}
use Rattle.net_core.proofs.PartedRowLaws.{of-records, of-cells, of-couples, past_at, had, had-text}
use Rattle.net_core.proofs.TakenLaws.{taken-queries, taken-marks, taken-records}
use Rattle.net_core.proofs.WindowedLaws.{IsOf, made-through, piece-of}

-- ---- the fragments of one query

pub are-of : (kind : Kind) (p : Past) (wm : List ℕ) (q : Query) → AllByRecursion (IsOf q.n q.plan) (fragments_as kind p wm q)
are-of Select p wm q = of-records q _
are-of (Sum c) p wm q = All-flat_map (IsOf q.n q.plan) _ (passing p wm q) (All-every _ (λ k. of-cells q k _) (passing p wm q))
are-of Count p wm q = All-flat_map (IsOf q.n q.plan) _ (passing p wm q) (All-every _ (λ k. of-cells q k _) (passing p wm q))
are-of Join p wm q = All-flat_map (IsOf q.n q.plan) _ (passing p wm q) (All-every _ (λ k. of-couples q k _) (passing p wm q))

-- those with a number are all of them, or none
numbered : (n m : ℕ) (plan : Plan) (fs : List Fragment) → AllByRecursion (IsOf m plan) fs → with_key number_of n fs ≡ cond (eqb m n) fs []
numbered n m plan fs is = go (eqb m n) refl
  where
    each : AllByRecursion (λ f. eqb (number_of f) n ≡ eqb m n) fs
    each = All-by (IsOf m plan) (λ f. eqb (number_of f) n ≡ eqb m n) (λ f h. ap (λ k. eqb k n) h.number) fs is

    go : (b : Bool) → eqb m n ≡ b → with_key number_of n fs ≡ cond b fs []
    go true e = filter-all (λ f. eqb (number_of f) n) fs (All-by (λ f. eqb (number_of f) n ≡ eqb m n) (λ f. eqb (number_of f) n ≡ true) (λ f h. h ∙ e) fs each)
    go false e = filter-none (λ f. eqb (number_of f) n) fs (All-by (λ f. eqb (number_of f) n ≡ eqb m n) (λ f. eqb (number_of f) n ≡ false) (λ f h. h ∙ e) fs each)

-- what a function gives for a query's own number is what it gives for the query
pub of_number-own : (X : Type 0) (k : ℕ) (qs : List Query) → IsNumbered k qs → AllByRecursion (λ (q : Query). (f : Query → List X) → of_number q.n f qs ≡ f q) qs
of_number-own X k [] e = tt
of_number-own X k (q ∷ qs) e =
    let is = first-number k q qs e in
    let next = rest-numbered k q qs e in (
      λ f. ap (λ b. cond b (f q) [] ++ of_number q.n f qs) (eq-eqb q.n q.n refl) ∙ ap (λ l. f q ++ l) (of_number-none q.n f (k + 1) qs next (omega (arith, is))) ∙ append-nil (f q),
      All-by (λ (r : Query). (k + 1 ≤ r.n) × ((f : Query → List X) → of_number r.n f qs ≡ f r)) (λ (r : Query). (f : Query → List X) → of_number r.n f (q ∷ qs) ≡ f r)
          (λ r h f. let up = h.0 in ap (λ b. cond b (f q) [] ++ of_number r.n f qs) (ne_eqb q.n r.n (λ s. omega (arith, up, is, s))) ∙ h.1 f)
          qs (All-both (λ (r : Query). k + 1 ≤ r.n) (λ (r : Query). (f : Query → List X) → of_number r.n f qs ≡ f r) qs (numbers-from (k + 1) qs next) (of_number-own X (k + 1) qs next)),
    )

-- numbers that stand one after another rise
numbers-rise : (k : ℕ) (qs : List Query) → IsNumbered k qs → Rises (map (λ (q : Query). q.n) qs)
numbers-rise k [] e = tt
numbers-rise k (q ∷ qs) e = (above qs (numbers-from (k + 1) qs (rest-numbered k q qs e)), numbers-rise (k + 1) qs (rest-numbered k q qs e))
  where
    above : (rs : List Query) → AllByRecursion (λ (r : Query). k + 1 ≤ r.n) rs → AllByRecursion (λ j. q.n < j) (map (λ (r : Query). r.n) rs)
    above [] h = tt
    above (r ∷ rs) h = (let up = h.0 in let is = first-number k q qs e in omega (arith, up, is), above rs h.1)

number-among : (qs : List Query) → AllByRecursion (λ (q : Query). member q.n (map (λ (r : Query). r.n) qs) ≡ true) qs
number-among [] = tt
number-among (q ∷ qs) = (
  or_left (eqb q.n q.n) (member q.n (map (λ (r : Query). r.n) qs)) (eq-eqb q.n q.n refl),
  All-by (λ (r : Query). member r.n (map (λ (s : Query). s.n) qs) ≡ true) (λ (r : Query). member r.n (map (λ (s : Query). s.n) (q ∷ qs)) ≡ true)
      (λ r h. or_right (eqb q.n r.n) (member r.n (map (λ (s : Query). s.n) qs)) h) qs (number-among qs),
)

-- ---- a past by what replies look at

-- what a part replies goes by its records and its watermarks
as-past : (kind : Kind) (p z : Past) (wm : List ℕ) (q : Query) → p.records ≡ z.records → p.marks ≡ z.marks → fragments_as kind p wm q ≡ fragments_as kind z wm q
as-past kind p z wm q rs marks =
    plain kind p
    ∙ ap₂ (λ l m. fragments_as kind (record { changes = []; holders = []; records = l; marks = m }) wm q) rs marks
    ∙ sym (plain kind z)
  where
    plain : (kind : Kind) (p : Past) → fragments_as kind p wm q ≡ fragments_as kind (record { changes = []; holders = []; records = p.records; marks = p.marks }) wm q
    plain Select p = refl
    plain (Sum c) p = refl
    plain Count p = refl
    plain Join p = refl

-- ---- all queries

module _ (v : View) (wm : List ℕ) (part : Record → ℕ) where
  -- what the parts reply
  abbrev pub replied : List ℕ → List Fragment
  replied ns = flat_map (λ n. flat_map (λ (q : Query). fragments_as q.plan.kind (past_at v wm part n) wm q) v.queries) ns

  -- those of a query
  pub replied-to : (ns : List ℕ) (n : ℕ) → with_key number_of n (replied ns) ≡ flat_map (λ m. of_number n (λ q. fragments_as q.plan.kind (past_at v wm part m) wm q) v.queries) ns
  replied-to ns n =
      filter-flat_map (λ f. eqb (number_of f) n) (λ m. flat_map (λ (q : Query). fragments_as q.plan.kind (past_at v wm part m) wm q) v.queries) ns
      ∙ flat_map-every (λ m. with_key number_of n (flat_map (λ (q : Query). fragments_as q.plan.kind (past_at v wm part m) wm q) v.queries)) (λ m. of_number n (λ q. fragments_as q.plan.kind (past_at v wm part m) wm q) v.queries) ns
      (λ m. filter-flat_map (λ f. eqb (number_of f) n) (λ (q : Query). fragments_as q.plan.kind (past_at v wm part m) wm q) v.queries
      ∙ flat_map-every (λ (q : Query). with_key number_of n (fragments_as q.plan.kind (past_at v wm part m) wm q)) (λ (q : Query). cond (eqb q.n n) (fragments_as q.plan.kind (past_at v wm part m) wm q) []) v.queries
      (λ q. numbered n q.n q.plan (fragments_as q.plan.kind (past_at v wm part m) wm q) (are-of q.plan.kind (past_at v wm part m) wm q)))

  module _ (is : IsView v) (ns : List ℕ) (once : Once ns) (all : GoTo part ns v.records) (by_key : ByKey part) where
    known : AllByRecursion (λ f. member (number_of f) (map (λ (q : Query). q.n) v.queries) ≡ true) (replied ns)
    known =
        All-flat_map (λ f. member (number_of f) (map (λ (q : Query). q.n) v.queries) ≡ true) (λ m. flat_map (λ (q : Query). fragments_as q.plan.kind (past_at v wm part m) wm q) v.queries) ns
        (All-every (λ m. AllByRecursion (λ f. member (number_of f) (map (λ (q : Query). q.n) v.queries) ≡ true) (flat_map (λ (q : Query). fragments_as q.plan.kind (past_at v wm part m) wm q) v.queries))
        (λ m. All-flat_map (λ f. member (number_of f) (map (λ (q : Query). q.n) v.queries) ≡ true) (λ (q : Query). fragments_as q.plan.kind (past_at v wm part m) wm q) v.queries
        (All-by (λ (q : Query). member q.n (map (λ (r : Query). r.n) v.queries) ≡ true) (λ (q : Query). AllByRecursion (λ f. member (number_of f) (map (λ (r : Query). r.n) v.queries) ≡ true) (fragments_as q.plan.kind (past_at v wm part m) wm q))
        (λ q among. All-by (IsOf q.n q.plan) (λ f. member (number_of f) (map (λ (r : Query). r.n) v.queries) ≡ true) (λ f h. ap (λ n. member n (map (λ (r : Query). r.n) v.queries)) h.number ∙ among)
        (fragments_as q.plan.kind (past_at v wm part m) wm q) (are-of q.plan.kind (past_at v wm part m) wm q))
        v.queries (number-among v.queries))) ns)

    one-query : (q : Query) → IsQuery q → ((f : Query → List Fragment) → of_number q.n f v.queries ≡ f q) → piece_for (with_key number_of q.n (replied ns)) ≡ piece_of q.n (text_of_rows (rows_between v wm q))
    one-query q made own =
        let fs : List Fragment = had v wm part q made ns once all in
        ap piece_for (replied-to ns q.n
        ∙ flat_map-every (λ m. of_number q.n (λ r. fragments_as r.plan.kind (past_at v wm part m) wm r) v.queries) (λ m. fragments_as q.plan.kind (past_at v wm part m) wm q) ns (λ m. own (λ r. fragments_as r.plan.kind (past_at v wm part m) wm r)))
        ∙ piece-of q.n q.plan fs (All-flat_map (IsOf q.n q.plan) (λ m. fragments_as q.plan.kind (past_at v wm part m) wm q) ns (All-every (λ m. AllByRecursion (IsOf q.n q.plan) (fragments_as q.plan.kind (past_at v wm part m) wm q)) (λ m. are-of q.plan.kind (past_at v wm part m) wm q) ns))
        ∙ ap (piece_of q.n) (had-text v wm part q made ns once all by_key is.ordered)

    -- the pieces of all replies are those of the rows that become due to each query
    pub replied-pieces : pieces_of (replied ns) ≡ flat_map (λ (q : Query). piece_of q.n (text_of_rows (rows_between v wm q))) v.queries
    replied-pieces =
        made-through number_of piece_for (replied ns) (map (λ (q : Query). q.n) v.queries) refl (numbers-rise 1 v.queries is.numbered) known
        ∙ flat_map-map (λ n. piece_for (with_key number_of n (replied ns))) (λ (q : Query). q.n) v.queries
        ∙ flat_map-same (λ (q : Query). piece_for (with_key number_of q.n (replied ns))) (λ (q : Query). piece_of q.n (text_of_rows (rows_between v wm q))) v.queries
        (All-by (λ (q : Query). IsQuery q × ((f : Query → List Fragment) → of_number q.n f v.queries ≡ f q)) (λ (q : Query). piece_for (with_key number_of q.n (replied ns)) ≡ piece_of q.n (text_of_rows (rows_between v wm q)))
        (λ q both. one-query q both.0 both.1) v.queries
        (All-both IsQuery (λ (q : Query). (f : Query → List Fragment) → of_number q.n f v.queries ≡ f q) v.queries is.made (of_number-own Fragment 1 v.queries is.numbered)))

-- ---- the items

-- the part of a record
abbrev pub part_in : Config → Record → ℕ
part_in c r = part_of r.given.key c.parts

-- what a part replies, by the view
pub replied-by : (c : Config) (h : List Item) (wm : List ℕ) (p : ℕ) → replied_by c h wm p ≡ flat_map (λ (q : Query). fragments_as q.plan.kind (past_at (view c h) wm (part_in c) p) wm q) (view c h).queries
replied-by c h wm p =
    let z : Past = past_of (sent c h p) in
    sym (flat_map-map (λ (q : Query). fragments_as q.plan.kind z wm q) (λ (g : Holder). g.query) z.holders)
    ∙ ap (flat_map (λ (q : Query). fragments_as q.plan.kind z wm q)) (taken-queries c h p)
    ∙ flat_map-every (λ (q : Query). fragments_as q.plan.kind z wm q) (λ (q : Query). fragments_as q.plan.kind (past_at (view c h) wm (part_in c) p) wm q) (book c h)
    (λ q. as-past q.plan.kind z (past_at (view c h) wm (part_in c) p) wm q (taken-records c h p) (taken-marks c h p))

pub all-replied : (c : Config) (h : List Item) (wm : List ℕ) (ns : List ℕ) → flat_map (replied_by c h wm) ns ≡ replied (view c h) wm (part_in c) ns
all-replied c h wm ns = flat_map-every (replied_by c h wm) (λ p. flat_map (λ (q : Query). fragments_as q.plan.kind (past_at (view c h) wm (part_in c) p) wm q) (view c h).queries) ns (replied-by c h wm)

-- there are parts, and each record goes to one of them
pub parts-some : (c : Config) → fits c ≡ true → 1 ≤ c.parts
parts-some c e = leb-true 1 c.parts (and_parts (nat_le 1 c.parts) (nat_le c.parts 64) (third (is_among 2 c.streams 4) (is_among 1 c.slots 512) (is_among 1 c.parts 64) (is_among 1 c.lane 65536) e)).0
  where
    third : (a b d f : Bool) → (a && b && d && f) ≡ true → d ≡ true
    third true true true f e = refl
    third true true false f e = absurd (true≢false (sym e))
    third true false d f e = absurd (true≢false (sym e))
    third false b d f e = absurd (true≢false (sym e))

all-parts : (c : Config) → fits c ≡ true → (rs : List Record) → GoTo (part_in c) (range_with_len 0 c.parts) rs
all-parts c fit rs = All-every (λ r. member (part_in c r) (range_with_len 0 c.parts) ≡ true) (λ r. member-range (part_in c r) c.parts (mod-lt (key_number r.given.key) (parts-some c fit))) rs

due-is : (c : Config) (h : List Item) (x : Item) (wm : List ℕ) → AllByRecursion InRange h → InRange x → message c h x ≡ Some (msg.Advance wm)
    → due c h x ≡ flat_map (λ (q : Query). piece_of q.n (text_of_rows (rows_between (view c h) wm q))) (view c h).queries
due-is c h x wm all within is =
    let v : View = view c h in
    ap (λ (w : View). flat_map (λ n. piece_of n (more_text c h x n)) (map (λ (q : Query). q.n) w.queries)) (view-message c h x (msg.Advance wm) is)
    ∙ flat_map-map (λ n. piece_of n (more_text c h x n)) (λ (q : Query). q.n) v.queries
    ∙ flat_map-same (λ (q : Query). piece_of q.n (more_text c h x q.n)) (λ (q : Query). piece_of q.n (text_of_rows (rows_between v wm q))) v.queries
    (All-by (λ (q : Query). (f : Query → List Row) → of_number q.n f v.queries ≡ f q) (λ (q : Query). piece_of q.n (more_text c h x q.n) ≡ piece_of q.n (text_of_rows (rows_between v wm q)))
    (λ q own. ap (piece_of q.n)
    (drop-appended (text_of c h q.n) (text_of c (h ++ x ∷ []) q.n) (text_of_rows (due_of v (message c h x) q.n)) (text_of-push c h x q.n all within)
    ∙ ap (λ o. text_of_rows (due_of v o q.n)) is
    ∙ ap text_of_rows (own (rows_between v wm))))
    v.queries (of_number-own Row 1 v.queries (view-is c h all).numbered))

-- what the replies of all parts to an accepted watermark or end make is what it makes due
pub replies-due : (c : Config) (h : List Item) (x : Item) (wm : List ℕ) → fits c ≡ true → AllByRecursion InRange h → InRange x → message c h x ≡ Some (msg.Advance wm)
    → pieces_of (flat_map (replied_by c h wm) (range_with_len 0 c.parts)) ≡ due c h x
replies-due c h x wm fit all within is =
    let v : View = view c h in
    ap pieces_of (all-replied c h wm (range_with_len 0 c.parts))
    ∙ replied-pieces v wm (part_in c) (view-is c h all) (range_with_len 0 c.parts) (once-range 0 c.parts) (all-parts c fit v.records) (λ r s e. ap (λ key. part_of key c.parts) e)
    ∙ sym (due-is c h x wm all within is)
