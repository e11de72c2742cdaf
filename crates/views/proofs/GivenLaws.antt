-- The records that belong to a query, and what each message changes of them.
use Rattle.std.proofs.Common.{◌≡◌, ℕ, ◌^◌, ◌≤◌, ◌<◌, ◌&&◌, nat_lt, nat_le, eqb, Bool, true, false, cond, List, [], ◌∷◌, ◌++◌, map, get_or, refl, sym, ap, subst, ◌∙◌}
use Rattle.std.specs.List.{filter, AllByRecursion}
use Rattle.std.proofs.lemmas.Bool.{and_parts, and_left, and_right, lt-ltb, lt-leb, ltb-true, eqb-true}
use Rattle.std.proofs.lemmas.List.{map-append}
use Rattle.std.proofs.lemmas.List.Elements.{filter-append}
use Rattle.as_base.specs.declared.item.Given.{Given}
use Rattle.as_base.specs.declared.item.Record.{Record}
use Rattle.as_base.specs.declared.message.Change.TheVariants.{Opened}
use Rattle.as_base.specs.declared.message.Msg.TheVariants as msg
use Rattle.as_base.specs.declared.query.Plan.{Plan}
use Rattle.as_base.specs.declared.stream.StreamId.{StreamId}
use Rattle.as_base.specs.Stream.{place_of}
use Rattle.as_base.specs.Query.{holds_all}
use Rattle.views.specs.Query.{Query, opened, is_live}
use Rattle.views.specs.View.{View, watermark_of, is_of, reads, bounds_for, is_mine}
use Rattle.views.specs.Passed.{given_to}
use Rattle.views.specs.Message.{after, RecordFollows, ChangeFollows}
use Rattle.views.specs.IsView.{IsQuery}
use Rattle.views.proofs.ListLaws.{All-by, All-both, All-filter, All-map, filter-same, filter-none}
use Rattle.views.proofs.NumberLaws.{ended}

parts_of_five : (a b c d e : Bool) → (a && b && c && d && e) ≡ true → (b ≡ true) × (d ≡ true)
parts_of_five a b c d e h =
    let first = and_parts (a && b && c && d) e h in
    let next = and_parts (a && b && c) d first.0 in
    let then' = and_parts (a && b) c next.0 in
    ((and_parts a b then'.0).1, next.1)

-- a record of a query's own is of its stream, and comes before the query ends
pub mine-parts : (q : Query) (s : StreamId) (r : Record) → is_mine q s r ≡ true → (is_of s r ≡ true) × (r.given.time < q.to)
mine-parts q s r h =
    let parts = parts_of_five (reads q.plan s) (eqb (place_of r.given.stream) (place_of s)) (nat_le q.from r.given.time) (nat_lt r.given.time q.to) (holds_all (bounds_for q.plan s) r.given) h in
    (parts.0, ltb-true r.given.time q.to parts.1)

-- a record of a stream is not below its watermark
pub at_mark : (v : View) (r : Record) (s : StreamId) → RecordFollows v r → is_of s r ≡ true → watermark_of v s ≤ r.given.time
at_mark v r s f is = subst (λ n. get_or v.marks n 0 ≤ r.given.time) (eqb-true (place_of r.given.stream) (place_of s) is) f.mark

-- ---- one record more

-- the records that a test picks, with one record more
pub given-push : (p : Record → Bool) (rs : List Record) (r : Record)
    → map (λ (r : Record). r.given) (filter p (rs ++ r ∷ [])) ≡ map (λ (r : Record). r.given) (filter p rs) ++ cond (p r) (r.given ∷ []) []
given-push p rs r =
    ap (map (λ (r : Record). r.given)) (filter-append p rs (r ∷ []))
    ∙ map-append (λ (r : Record). r.given) (filter p rs) (filter p (r ∷ []))
    ∙ ap (λ l. map (λ (r : Record). r.given) (filter p rs) ++ l) (go (p r))
  where
    go : (b : Bool) → map (λ (r : Record). r.given) (cond b (r ∷ []) []) ≡ cond b (r.given ∷ []) []
    go true = refl
    go false = refl

pub given_to-record : (v : View) (r : Record) (q : Query) (s : StreamId) → given_to (after v (msg.Rec r)) q s ≡ given_to v q s ++ cond (is_mine q s r) (r.given ∷ []) []
given_to-record v r q s = given-push (is_mine q s) v.records r

-- ---- a query that ends or begins after all records

mine-ended : (at : ℕ) (q : Query) (s : StreamId) (r : Record) → q.to ≡ 2 ^ 62 → r.given.time < 2 ^ 62 → r.given.time < at → is_mine (ended at q) s r ≡ is_mine q s r
mine-ended at q s r lasts timed before =
    ap (λ b. reads q.plan s && eqb (place_of r.given.stream) (place_of s) && nat_le q.from r.given.time && b && holds_all (bounds_for q.plan s) r.given)
    (lt-ltb r.given.time at before ∙ sym (ap (nat_lt r.given.time) lasts ∙ lt-ltb r.given.time (2 ^ 62) timed))

pub lasts-live : (n : ℕ) (q : Query) → IsQuery q → is_live n q ≡ true → q.to ≡ 2 ^ 62
lasts-live n q made live = made.lasts (and_parts (eqb q.n n) q.live live).1

-- a query that ends after all records has the same records
pub given_to-ended : (v : View) (at : ℕ) (q : Query) (s : StreamId) → q.to ≡ 2 ^ 62 → AllByRecursion (λ (r : Record). r.given.time < 2 ^ 62) v.records → AllByRecursion (λ (r : Record). r.given.time < at) v.records
    → given_to v (ended at q) s ≡ given_to v q s
given_to-ended v at q s lasts timed before =
    ap (map (λ (r : Record). r.given))
    (filter-same (is_mine (ended at q) s) (is_mine q s) v.records
    (All-by (λ (r : Record). (r.given.time < 2 ^ 62) × (r.given.time < at)) (λ r. is_mine (ended at q) s r ≡ is_mine q s r) (λ r h. mine-ended at q s r lasts h.0 h.1) v.records
    (All-both (λ (r : Record). r.given.time < 2 ^ 62) (λ (r : Record). r.given.time < at) v.records timed before)))

-- a record before a query begins is none of its own
pub mine-early : (q : Query) (s : StreamId) (r : Record) → r.given.time < q.from → is_mine q s r ≡ false
mine-early q s r low =
    let a = reads q.plan s && eqb (place_of r.given.stream) (place_of s) in
    let b = nat_le q.from r.given.time in
    let c = nat_lt r.given.time q.to in
    and_left (a && b && c) (holds_all (bounds_for q.plan s) r.given) (and_left (a && b) c (and_right a b (lt-leb q.from r.given.time low)))

-- a query that is opened after all records has none of them
pub given_to-opened : (v : View) (n slot at : ℕ) (plan : Plan) (s : StreamId) → ChangeFollows v at → given_to (after v (msg.Change (Opened n slot at plan))) (opened n plan at) s ≡ []
given_to-opened v n slot at plan s f =
    ap (map (λ (r : Record). r.given))
    (filter-none (is_mine (opened n plan at) s) v.records
    (All-by (λ (r : Record). r.given.time < at) (λ r. is_mine (opened n plan at) s r ≡ false) (λ r low. mine-early (opened n plan at) s r low) v.records f.records))

-- ---- facts of each of these records

-- a fact of each record holds of those of a query
pub All-given_to : (P : Given → Type 0) (v : View) (q : Query) (s : StreamId) → AllByRecursion (λ (r : Record). P r.given) v.records → AllByRecursion P (given_to v q s)
All-given_to P v q s h = All-map P (λ (r : Record). r.given) (filter (is_mine q s) v.records) (All-filter (λ (r : Record). P r.given) (is_mine q s) v.records h)
