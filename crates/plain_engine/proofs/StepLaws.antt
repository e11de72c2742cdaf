-- What each message does to what a store stands for, and how the texts grow by the pieces.
use Rattle.std.proofs.Common.{◌≡◌, ℕ, ◌+◌, ◌^◌, ◌≤◌, ◌<◌, nat_lt, eqb, Bool, true, false, cond, ◌&&◌, List, [], ◌∷◌, ◌++◌, map, length, get_or, drop, refl, sym, ap, ap₂, subst, ◌∙◌, append-nil, arith}
use Rattle.std.specs.List.{filter, flat_map, list_any, list_all, range_with_len, AllByRecursion}
use Rattle.std.proofs.lemmas.Bool.{and_from, lt-ltb}
use Rattle.std.proofs.lemmas.List.{map-append}
use Rattle.std.proofs.lemmas.List.Elements.{filter-append}
use Rattle.as_base.specs.declared.answer.Piece.{Piece}
use Rattle.as_base.specs.declared.item.Given.{Given}
use Rattle.as_base.specs.declared.item.Record.{Record}
use Rattle.as_base.specs.declared.message.Change.TheVariants.{Opened, Closed}
use Rattle.as_base.specs.declared.message.Msg.{Msg}
use Rattle.as_base.specs.declared.message.Msg.TheVariants as msg
use Rattle.as_base.specs.declared.query.Plan.{Plan}
use Rattle.as_base.specs.Range.{IsTime}
use Rattle.as_base.specs.Times.{times}
use Rattle.views.specs.Query.{Query, opened, is_live, closed}
use Rattle.views.specs.View.{View}
use Rattle.views.specs.Message.{after, RecordFollows, MarksFollow, ChangeFollows, Follows}
use Rattle.views.specs.IsView.{IsQuery, IsView}
use Rattle.views.proofs.ListLaws.{All-by, All-both, All-filter, All-passed, All-map, All-every, filter-map, filter-same, filter-filter, filter-within, and_within}
use Rattle.views.proofs.NumberLaws.{each-lives}
use Rattle.views.proofs.GivenLaws.{All-given_to}
use Rattle.views.proofs.DueLaws.{due_by, rows_between as rows_by}
use Rattle.row_text.specs.RowText.{text_of}
use Rattle.row_text.proofs.TextLaws.{text_of-number, text_of-after}
use Rattle.plain_engine.specs.declared.store.Store.{Store}
use Rattle.plain_engine.specs.Held.{Held, awaits, held_of}
use Rattle.plain_engine.specs.Walk.{text_of_rows}
use Rattle.plain_engine.specs.Holding.{mark_by, newly_held, with_given, ended, still_awaits, due_text, forgotten, piece_due}
use Rattle.plain_engine.specs.Store.{StandsFor, GrowsBy}
use Rattle.plain_engine.proofs.PieceLaws.{bytes_for-pieces, pieces-known, each-among}
use Rattle.plain_engine.proofs.HeldLaws.{held-record, held-advance, held-opened, held-closed, awaits-earlier, awaits-closed}
use Rattle.plain_engine.proofs.DueLaws.{due-held, rows-over}

-- what is held by a view
abbrev pub held_by : View → List Held
held_by v = map (held_of v) (filter (awaits v) v.queries)

map-each : {X Y Z : Type 0} (f : Y → Z) (g : X → Y) (h : X → Z) (xs : List X) → AllByRecursion (λ x. f (g x) ≡ h x) xs → map f (map g xs) ≡ map h xs
map-each f g h [] e = refl
map-each f g h (x ∷ xs) e = ap₂ (λ z l. z ∷ l) e.0 (map-each f g h xs e.1)

-- ---- a record

pub held-record-all : (v : View) (r : Record) → IsView v → RecordFollows v r → map (with_given r.given) (held_by v) ≡ held_by (after v (msg.Rec r))
held-record-all v r is f =
    map-each (with_given r.given) (held_of v) (held_of (after v (msg.Rec r))) (filter (awaits v) v.queries)
    (All-filter (λ q. with_given r.given (held_of v q) ≡ held_of (after v (msg.Rec r)) q) (awaits v) v.queries
    (All-by IsQuery (λ q. with_given r.given (held_of v q) ≡ held_of (after v (msg.Rec r)) q) (λ q made. held-record v q r made f) v.queries is.made))

pub record-step : (old new : Store) (v : View) (r : Record) (g : Given) → r.given ≡ g → IsView v → RecordFollows v r → StandsFor old v → new.marks ≡ old.marks → new.held.items ≡ map (with_given g) old.held.items
    → StandsFor new (after v (msg.Rec r)) × ((n : ℕ) → text_of (after v (msg.Rec r)) n ≡ text_of v n)
record-step old new v r g same is f stands marks held = (
  record {
    marks = marks ∙ stands.marks;
    held = held ∙ ap₂ (λ x l. map (with_given x) l) (sym same) stands.held ∙ held-record-all v r is f;
  },
  λ n. text_of-after v (msg.Rec r) n is f ∙ append-nil (text_of v n),
)

-- ---- a query that is opened

all_below : (n : ℕ) (hs : List Held) → AllByRecursion (λ (h : Held). h.n < n) hs → list_all (λ (h : Held). nat_lt h.n n) hs ≡ true
all_below n [] h = refl
all_below n (k ∷ hs) h = and_from (nat_lt k.n n) (list_all (λ (h : Held). nat_lt h.n n) hs) (lt-ltb k.n n h.0) (all_below n hs h.1)

-- the numbers of the queries of a view are not above how many they are
low-numbers : (n k : ℕ) (qs : List Query) → map (λ (q : Query). q.n) qs ≡ range_with_len k (length qs) → k + length qs ≤ n → AllByRecursion (λ (q : Query). q.n < n) qs
low-numbers n k [] e h = tt
low-numbers n k (q ∷ qs) e h =
    let first : q.n ≡ k = ap (λ l. get_or l 0 0) e in
    (omega (arith, first, h), low-numbers n (k + 1) qs (ap (drop 1) e) (omega (arith, h)))

pub next-held : (v : View) (n : ℕ) (held : List Held) → IsView v → n ≡ length v.queries + 1 → held ≡ held_by v → list_all (λ (h : Held). nat_lt h.n n) held ≡ true
next-held v n held is next same =
    ap (list_all (λ (h : Held). nat_lt h.n n)) same
    ∙ all_below n (held_by v)
    (All-map (λ (h : Held). h.n < n) (held_of v) (filter (awaits v) v.queries)
    (All-filter (λ (q : Query). q.n < n) (awaits v) v.queries (low-numbers n 1 v.queries is.numbered (omega (arith, next)))))

opened-all : (v : View) (n slot at : ℕ) (plan : Plan) → ChangeFollows v at
    → held_by (after v (msg.Change (Opened n slot at plan))) ≡ held_by v ++ cond (nat_lt (mark_by v.marks plan) (2 ^ 62)) (newly_held n plan at ∷ []) []
opened-all v n slot at plan f =
    ap (map (held_of (after v (msg.Change (Opened n slot at plan))))) (filter-append (awaits v) v.queries (opened n plan at ∷ []))
    ∙ map-append (held_of (after v (msg.Change (Opened n slot at plan)))) (filter (awaits v) v.queries) (filter (awaits v) (opened n plan at ∷ []))
    ∙ ap (λ l. held_by v ++ l) (go (nat_lt (mark_by v.marks plan) (2 ^ 62)))
  where
    go : (b : Bool) → map (held_of (after v (msg.Change (Opened n slot at plan)))) (cond b (opened n plan at ∷ []) []) ≡ cond b (newly_held n plan at ∷ []) []
    go true = ap (λ h. h ∷ []) (held-opened v n slot at plan f)
    go false = refl

pub open-step : (old new : Store) (v : View) (n slot at : ℕ) (plan : Plan) (b : Bool) → ChangeFollows v at → StandsFor old v → new.marks ≡ old.marks → nat_lt (mark_by old.marks plan) (2 ^ 62) ≡ b
    → new.held.items ≡ old.held.items ++ cond b (newly_held n plan at ∷ []) [] → StandsFor new (after v (msg.Change (Opened n slot at plan)))
open-step old new v n slot at plan b f stands marks tested held = record {
  marks = marks ∙ stands.marks;
  held = held ∙ ap₂ (λ l c. l ++ cond c (newly_held n plan at ∷ []) []) stands.held (sym tested ∙ ap (λ m. nat_lt (mark_by m plan) (2 ^ 62)) stands.marks) ∙ sym (opened-all v n slot at plan f);
}

-- ---- a query that is closed

-- where of each element one test implies another, the other leaves all that passes the one
filter-inside : (p q : Query → Bool) (qs : List Query) → AllByRecursion (λ x. p x ≡ true → q x ≡ true) qs → filter p (filter q qs) ≡ filter p qs
filter-inside p q qs h =
    filter-filter p q qs ∙ filter-same (λ x. q x && p x) p qs (All-by (λ x. p x ≡ true → q x ≡ true) (λ x. (q x && p x) ≡ p x) (λ x i. and_within (q x) (p x) i) qs h)

closed-all : (v : View) (n slot at : ℕ) → IsView v → ChangeFollows v at → list_any (is_live n) v.queries ≡ true
    → filter (still_awaits v.marks) (map (ended n at) (held_by v)) ≡ held_by (after v (msg.Change (Closed n slot at)))
closed-all v n slot at is f lives =
    ap (filter (still_awaits v.marks))
    (map-each (ended n at) (held_of v) held (filter (awaits v) v.queries) (All-filter (λ q. ended n at (held_of v q) ≡ held q) (awaits v) v.queries each))
    ∙ filter-map (still_awaits v.marks) held (filter (awaits v) v.queries)
    ∙ ap (map held) (filter-inside (λ q. awaits v (closed n at q)) (awaits v) v.queries
    (All-by IsQuery (λ q. awaits v (closed n at q) ≡ true → awaits v q ≡ true) (λ q made. awaits-closed v n at q made f.most) v.queries is.made))
    ∙ sym (map-each (held_of (after v (msg.Change (Closed n slot at)))) (closed n at) held (filter (λ q. awaits v (closed n at q)) v.queries) (All-every (λ q. held q ≡ held q) (λ q. refl) (filter (λ q. awaits v (closed n at q)) v.queries)))
    ∙ ap (map (held_of (after v (msg.Change (Closed n slot at))))) (sym (filter-map (awaits v) (closed n at) v.queries))
  where
    held : Query → Held
    held q = held_of (after v (msg.Change (Closed n slot at))) (closed n at q)

    each : AllByRecursion (λ q. ended n at (held_of v q) ≡ held_of (after v (msg.Change (Closed n slot at))) (closed n at q)) v.queries
    each =
        All-by (λ (q : Query). IsQuery q × (eqb q.n n ≡ true → q.live ≡ true)) (λ q. ended n at (held_of v q) ≡ held_of (after v (msg.Change (Closed n slot at))) (closed n at q))
        (λ q h. held-closed v n slot at q h.0 h.1 f is.timed) v.queries
        (All-both IsQuery (λ (q : Query). eqb q.n n ≡ true → q.live ≡ true) v.queries is.made (each-lives n 1 v.queries is.numbered lives))

pub close-step : (old new : Store) (v : View) (n slot at : ℕ) → IsView v → ChangeFollows v at × (list_any (is_live n) v.queries ≡ true) → StandsFor old v → new.marks ≡ old.marks
    → new.held.items ≡ filter (still_awaits old.marks) (map (ended n at) old.held.items) → StandsFor new (after v (msg.Change (Closed n slot at)))
close-step old new v n slot at is f stands marks held = record {
  marks = marks ∙ stands.marks;
  held = held ∙ ap₂ (λ m l. filter (still_awaits m) (map (ended n at) l)) stands.marks stands.held ∙ closed-all v n slot at is f.0 f.1;
}

-- ---- watermarks

advance-all : (v : View) (marks : List ℕ) → IsView v → MarksFollow v marks
    → map (λ (h : Held). forgotten (mark_by marks h.plan) h) (filter (still_awaits marks) (held_by v)) ≡ held_by (after v (msg.Advance marks))
advance-all v marks is f =
    ap (map (λ (h : Held). forgotten (mark_by marks h.plan) h))
    (filter-map (still_awaits marks) (held_of v) (filter (awaits v) v.queries)
    ∙ ap (map (held_of v)) (filter-within (awaits (after v (msg.Advance marks))) (awaits v) v.queries (λ q h. awaits-earlier v marks q f h)))
    ∙ map-each (λ (h : Held). forgotten (mark_by marks h.plan) h) (held_of v) (held_of (after v (msg.Advance marks))) (filter (awaits (after v (msg.Advance marks))) v.queries)
    (All-by (λ q. IsQuery q × (awaits (after v (msg.Advance marks)) q ≡ true)) (λ q. forgotten (mark_by marks q.plan) (held_of v q) ≡ held_of (after v (msg.Advance marks)) q)
    (λ q h. held-advance v marks q h.0 f h.1)
    (filter (awaits (after v (msg.Advance marks))) v.queries)
    (All-both IsQuery (λ q. awaits (after v (msg.Advance marks)) q ≡ true) (filter (awaits (after v (msg.Advance marks))) v.queries)
    (All-filter IsQuery (awaits (after v (msg.Advance marks))) v.queries is.made) (All-passed (awaits (after v (msg.Advance marks))) v.queries)))

-- what is told to query n
told : (v : View) (marks : List ℕ) (n : ℕ) (qs : List Query) → AllByRecursion IsQuery qs → AllByRecursion (λ (r : Record). r.given.time < 2 ^ 62) v.records
    → flat_map (λ (h : Held). cond (eqb h.n n) (due_text (mark_by v.marks h.plan) (mark_by marks h.plan) h) []) (map (held_of v) (filter (awaits v) qs))
    ≡ flat_map (λ (q : Query). cond (eqb q.n n) (text_of_rows (rows_by v marks q)) []) qs
told v marks n [] made timed = refl
told v marks n (q ∷ qs) made timed = go (awaits v q) refl (told v marks n qs made.1 timed)
  where
    due : Held → List ℕ
    due h = cond (eqb h.n n) (due_text (mark_by v.marks h.plan) (mark_by marks h.plan) h) []

    go : (b : Bool) → awaits v q ≡ b
        → flat_map (λ (h : Held). cond (eqb h.n n) (due_text (mark_by v.marks h.plan) (mark_by marks h.plan) h) []) (map (held_of v) (filter (awaits v) qs))
        ≡ flat_map (λ (q : Query). cond (eqb q.n n) (text_of_rows (rows_by v marks q)) []) qs
        → flat_map (λ (h : Held). cond (eqb h.n n) (due_text (mark_by v.marks h.plan) (mark_by marks h.plan) h) []) (map (held_of v) (cond b (q ∷ filter (awaits v) qs) (filter (awaits v) qs)))
        ≡ cond (eqb q.n n) (text_of_rows (rows_by v marks q)) [] ++ flat_map (λ (q : Query). cond (eqb q.n n) (text_of_rows (rows_by v marks q)) []) qs
    go true e rest = ap₂ (λ t l. cond (eqb q.n n) t [] ++ l) (due-held v marks q made.0 (All-given_to (λ (g : Given). IsTime g.time) v q q.plan.left timed) e) rest
    go false e rest =
        rest
        ∙ ap (λ l. l ++ flat_map (λ (q : Query). cond (eqb q.n n) (text_of_rows (rows_by v marks q)) []) qs)
        (sym (ap (λ l. cond (eqb q.n n) (text_of_rows l) []) (rows-over v marks q e) ∙ cond_none (eqb q.n n)))
      where
        cond_none : (b : Bool) → ◌≡◌ {A = List ℕ} (cond b [] []) []
        cond_none true = refl
        cond_none false = refl

grows : (v : View) (marks : List ℕ) → IsView v → MarksFollow v marks → GrowsBy v (after v (msg.Advance marks)) (flat_map (piece_due v.marks marks) (held_by v))
grows v marks is f = record {
  text = λ n.
      text_of-after v (msg.Advance marks) n is f
      ∙ ap (λ l. text_of v n ++ l)
      (sym (text_of-number n (rows_by v marks) v.queries)
      ∙ sym (told v marks n v.queries is.made is.timed)
      ∙ sym (bytes_for-pieces n (λ (h : Held). due_text (mark_by v.marks h.plan) (mark_by marks h.plan) h) (held_by v)));
  known =
      pieces-known (λ (h : Held). due_text (mark_by v.marks h.plan) (mark_by marks h.plan) h) (map (λ (q : Query). q.n) v.queries) (held_by v)
      (All-map (λ (h : Held). 0 < times h.n (map (λ (q : Query). q.n) v.queries)) (held_of v) (filter (awaits v) v.queries)
      (All-filter (λ (q : Query). 0 < times q.n (map (λ (q : Query). q.n) v.queries)) (awaits v) v.queries (each-among (λ (q : Query). q.n) v.queries)));
}

pub advance-step : (old new : Store) (v : View) (marks : List ℕ) (pieces : List Piece) → IsView v → MarksFollow v marks → StandsFor old v → new.marks ≡ marks
    → new.held.items ≡ map (λ (h : Held). forgotten (mark_by marks h.plan) h) (filter (still_awaits marks) old.held.items) → pieces ≡ flat_map (piece_due old.marks marks) old.held.items
    → StandsFor new (after v (msg.Advance marks)) × GrowsBy v (after v (msg.Advance marks)) pieces
advance-step old new v marks pieces is f stands now held told = (
  record {
    marks = now;
    held = held ∙ ap (λ l. map (λ (h : Held). forgotten (mark_by marks h.plan) h) (filter (still_awaits marks) l)) stands.held ∙ advance-all v marks is f;
  },
  subst (GrowsBy v (after v (msg.Advance marks))) (sym (told ∙ ap₂ (λ m l. flat_map (piece_due m marks) l) stands.marks stands.held)) (grows v marks is f),
)

-- ---- messages that bring no piece

pub grows-none : (v : View) (m : Msg) → IsView v → Follows v m → ((n : ℕ) → due_by v m n ≡ []) → GrowsBy v (after v m) []
grows-none v m is f none = record {
  text = λ n. text_of-after v m n is f ∙ ap (λ l. text_of v n ++ text_of_rows l) (none n);
  known = tt;
}
