-- What each message makes due: a watermark the rows of the windows that it passes, any other message none.
use Rattle.std.proofs.Common.{◌≡◌, inl, inr, ℕ, ◌^◌, ◌≤◌, ◌<◌, ◌&&◌, eqb, Bool, true, false, true≢false, not, cond, List, [], ◌∷◌, ◌++◌, map, refl, sym, ap, ap₂, subst, ◌∙◌, append-nil, arith}
use Rattle.std.specs.List.{filter, flat_map, list_any, AllByRecursion}
use Rattle.std.proofs.lemmas.Bool.{cases_lt, and_parts, and_from, false_from_ne_true, or_left}
use Rattle.std.proofs.lemmas.Grind.{flat_map-append}
use Rattle.std.proofs.lemmas.List.Folds.{list_any-append}
use Rattle.as_base.specs.declared.item.Record.{Record}
use Rattle.as_base.specs.declared.message.Change.TheVariants.{Opened, Closed}
use Rattle.as_base.specs.declared.message.Msg.{Msg}
use Rattle.as_base.specs.declared.message.Msg.TheVariants as msg
use Rattle.as_base.specs.declared.query.Kind.{Kind}
use Rattle.as_base.specs.declared.query.Kind.TheVariants.{Select, Sum, Count, Join}
use Rattle.as_base.specs.declared.query.Plan.{Plan}
use Rattle.as_base.specs.declared.row.Row.{Row}
use Rattle.as_base.specs.declared.stream.StreamId.{StreamId}
use Rattle.as_base.specs.Windows.{in_window}
use Rattle.views.specs.Query.{Query, opened, is_live, closed}
use Rattle.views.specs.View.{View, watermark_of, is_mine, query_watermark}
use Rattle.views.specs.Passed.{windows_with, given_to, within, windows_of, is_passed, passed_windows}
use Rattle.views.specs.Rows.{rows_as, rows_with, rows, due_rows, due_to, has_passed, rows_of}
use Rattle.views.specs.Message.{after, RecordFollows, MarksFollow, ChangeFollows, Follows}
use Rattle.views.specs.IsView.{IsQuery, IsView}
use Rattle.views.proofs.ListLaws.{All-by, All-every, All-passed, flat_map-same, filter-same, list_any-weaker, list_any-map}
use Rattle.views.proofs.RisingLaws.{filter-later}
use Rattle.views.proofs.WindowLaws.{Rises-windows, filter-windows-push, within-push}
use Rattle.views.proofs.NumberLaws.{of_number, of_number-both, of_number-same, of_number-where, of_number-opened, of_number-closed, each-numbered, ended, closed-number}
use Rattle.views.proofs.GivenLaws.{given_to-record, given_to-ended, given_to-opened, lasts-live}
use Rattle.views.proofs.PassedLaws.{passed-earlier, passed-advance, passed-record, left_least, right_least, passed-ended, passed-closed}

-- no records, no rows
pub rows_with-none : (p : Plan) (k : ℕ) → rows_with p [] [] k ≡ []
rows_with-none p k = go p.kind
  where
    go : (kind : Kind) → rows_as kind p k [] [] ≡ []
    go Select = refl
    go (Sum c) = refl
    go Count = refl
    go Join = refl

-- ---- a record

-- a passed window has the same rows as before
pub rows-record : (v : View) (r : Record) (q : Query) (k : ℕ) → RecordFollows v r → is_passed v q k ≡ true → rows (after v (msg.Rec r)) q k ≡ rows v q k
rows-record v r q k f passed =
    ap₂ (rows_as q.plan.kind q.plan k) (side q.plan.left (left_least v q)) (side q.plan.right (right_least v q))
  where
    side : (s : StreamId) → query_watermark v q ≤ watermark_of v s → within q.plan.win k (given_to (after v (msg.Rec r)) q s) ≡ within q.plan.win k (given_to v q s)
    side s least =
        ap (within q.plan.win k) (given_to-record v r q s)
        ∙ within-push q.plan.win k (given_to v q s) r.given (is_mine q s r)
        (λ own. false_from_ne_true (in_window q.plan.win k r.given.time) (λ inside. true≢false (sym passed ∙ passed-record v r q s k least f own inside)))

-- of each query, a record makes no row due
pub due-record : (v : View) (r : Record) (q : Query) → IsQuery q → RecordFollows v r → due_rows (after v (msg.Rec r)) q ≡ due_rows v q
due-record v r q made f =
    ap (λ gs. flat_map (rows (after v (msg.Rec r)) q) (filter (is_passed v q) (windows_with q.plan.win gs))) (given_to-record v r q q.plan.left)
    ∙ ap (flat_map (rows (after v (msg.Rec r)) q)) (filter-windows-push (is_passed v q) q.plan.win (given_to v q q.plan.left) r.given (is_mine q q.plan.left r) (made.fits).0 (λ own k inside. passed-record v r q q.plan.left k (left_least v q) f own inside))
    ∙ flat_map-same (rows (after v (msg.Rec r)) q) (rows v q) (passed_windows v q)
    (All-by (λ k. is_passed v q k ≡ true) (λ k. rows (after v (msg.Rec r)) q k ≡ rows v q k) (λ k passed. rows-record v r q k f passed) (passed_windows v q) (All-passed (is_passed v q) (windows_of v q)))

-- ---- watermarks

-- the windows of a query that watermarks pass, and that were not passed before
abbrev pub windows_between : View → List ℕ → Query → List ℕ
windows_between v marks q = filter (λ k. is_passed (after v (msg.Advance marks)) q k && not (is_passed v q k)) (windows_of v q)

-- what watermarks make due to a query
abbrev pub rows_between : View → List ℕ → Query → List Row
rows_between v marks q = flat_map (rows v q) (windows_between v marks q)

pub passed-between : (v : View) (marks : List ℕ) (q : Query) → MarksFollow v marks → passed_windows (after v (msg.Advance marks)) q ≡ passed_windows v q ++ windows_between v marks q
passed-between v marks q f =
    filter-later (is_passed v q) (is_passed (after v (msg.Advance marks)) q) (passed-earlier v q) (λ k passed. passed-advance v marks q k f passed) (windows_of v q)
    (Rises-windows q.plan.win (given_to v q q.plan.left))

-- watermarks make the rows of the windows between due
pub due-advance : (v : View) (marks : List ℕ) (q : Query) → MarksFollow v marks → due_rows (after v (msg.Advance marks)) q ≡ due_rows v q ++ rows_between v marks q
due-advance v marks q f = ap (flat_map (rows v q)) (passed-between v marks q f) ∙ flat_map-append (rows v q) (passed_windows v q) (windows_between v marks q)

-- ---- a query that is closed

-- a query that ends after all records has the same rows in each window
pub rows-closed : (v : View) (n slot at : ℕ) (q : Query) (k : ℕ) → IsQuery q → ChangeFollows v at → AllByRecursion (λ (r : Record). r.given.time < 2 ^ 62) v.records
    → rows (after v (msg.Change (Closed n slot at))) (closed n at q) k ≡ rows v q k
rows-closed v n slot at q k made f timed = go (is_live n q) refl
  where
    go : (b : Bool) → is_live n q ≡ b → rows (after v (msg.Change (Closed n slot at))) (cond b (ended at q) q) k ≡ rows v q k
    go true e =
        let lasts = lasts-live n q made e in
        ap₂ (λ lefts rights. rows_with q.plan lefts rights k) (given_to-ended v at q q.plan.left lasts timed f.records) (given_to-ended v at q q.plan.right lasts timed f.records)
    go false e = refl

no_records : (at : ℕ) (rs : List Record) → at ≤ 0 → AllByRecursion (λ (r : Record). r.given.time < at) rs → rs ≡ []
no_records at [] none h = refl
no_records at (r ∷ rs) none h = let before = h.0 in absurd (omega (arith, none, before))

-- of the windows that hold a record of its own, such a query has passed the same ones
windows-ended : (v : View) (at : ℕ) (q : Query) → q.to ≡ 2 ^ 62 → ChangeFollows v at → AllByRecursion (λ k. is_passed v (ended at q) k ≡ is_passed v q k) (windows_of v q)
windows-ended v at q lasts f = elim (cases_lt 0 at) [
  | inl begun ↦ All-every (λ k. is_passed v (ended at q) k ≡ is_passed v q k) (λ k. passed-ended v at q k lasts f begun) (windows_of v q)
  | inr none ↦ subst (λ (rs : List Record). AllByRecursion (λ k. is_passed v (ended at q) k ≡ is_passed v q k) (windows_with q.plan.win (map (λ (r : Record). r.given) (filter (is_mine q q.plan.left) rs)))) (sym (no_records at v.records none f.records)) tt
]

-- a query that ends after all records has the same rows due
pub due-closed : (v : View) (n slot at : ℕ) (q : Query) → IsQuery q → ChangeFollows v at → AllByRecursion (λ (r : Record). r.given.time < 2 ^ 62) v.records
    → due_rows (after v (msg.Change (Closed n slot at))) (closed n at q) ≡ due_rows v q
due-closed v n slot at q made f timed = go (is_live n q) refl
  where
    go : (b : Bool) → is_live n q ≡ b → due_rows (after v (msg.Change (Closed n slot at))) (cond b (ended at q) q) ≡ due_rows v q
    go true e =
        let lasts = lasts-live n q made e in
        ap₂ (λ lefts rights. flat_map (rows_with q.plan lefts rights) (filter (is_passed v (ended at q)) (windows_with q.plan.win lefts)))
        (given_to-ended v at q q.plan.left lasts timed f.records) (given_to-ended v at q q.plan.right lasts timed f.records)
        ∙ ap (flat_map (rows v q)) (filter-same (is_passed v (ended at q)) (is_passed v q) (windows_of v q) (windows-ended v at q lasts f))
    go false e = refl

-- ---- a query that is opened

-- a query that is opened after all records has no rows
pub rows-opened : (v : View) (n slot at : ℕ) (plan : Plan) (k : ℕ) → ChangeFollows v at → rows (after v (msg.Change (Opened n slot at plan))) (opened n plan at) k ≡ []
rows-opened v n slot at plan k f =
    ap₂ (λ lefts rights. rows_with plan lefts rights k) (given_to-opened v n slot at plan plan.left f) (given_to-opened v n slot at plan plan.right f)
    ∙ rows_with-none plan k

-- and none that are due
pub due-opened : (v : View) (n slot at : ℕ) (plan : Plan) → ChangeFollows v at → due_rows (after v (msg.Change (Opened n slot at plan))) (opened n plan at) ≡ []
due-opened v n slot at plan f =
    ap (λ lefts. flat_map (rows (after v (msg.Change (Opened n slot at plan))) (opened n plan at)) (filter (is_passed (after v (msg.Change (Opened n slot at plan))) (opened n plan at)) (windows_with plan.win lefts))) (given_to-opened v n slot at plan plan.left f)

-- ---- the rows that are due to query n

-- what a message makes due to query n
abbrev pub due_by : View → Msg → ℕ → List Row
due_by v (msg.Advance marks) n = of_number n (rows_between v marks) v.queries
due_by v (msg.Rec r) n = []
due_by v (msg.Change change) n = []

pub due_to-after : (v : View) (m : Msg) (n : ℕ) → IsView v → Follows v m → due_to (after v m) n ≡ due_to v n ++ due_by v m n
due_to-after v (msg.Rec r) n is f =
    of_number-same n (due_rows (after v (msg.Rec r))) (due_rows v) v.queries
    (All-by IsQuery (λ q. due_rows (after v (msg.Rec r)) q ≡ due_rows v q) (λ q made. due-record v r q made f) v.queries is.made)
    ∙ sym (append-nil (due_to v n))
due_to-after v (msg.Advance marks) n is f =
    of_number-same n (due_rows (after v (msg.Advance marks))) (λ q. due_rows v q ++ rows_between v marks q) v.queries
    (All-every (λ q. due_rows (after v (msg.Advance marks)) q ≡ due_rows v q ++ rows_between v marks q) (λ q. due-advance v marks q f) v.queries)
    ∙ of_number-both n (due_rows v) (rows_between v marks) 1 v.queries is.numbered
due_to-after v (msg.Change (Opened m slot at plan)) n is f =
    of_number-opened n (due_rows (after v (msg.Change (Opened m slot at plan)))) v.queries (opened m plan at) (due-opened v m slot at plan f.0)
    ∙ sym (append-nil (due_to v n))
due_to-after v (msg.Change (Closed m slot at)) n is f =
    of_number-closed n m at (due_rows (after v (msg.Change (Closed m slot at)))) (due_rows v) v.queries
    (All-by IsQuery (λ q. due_rows (after v (msg.Change (Closed m slot at))) (closed m at q) ≡ due_rows v q) (λ q made. due-closed v m slot at q made f.0 is.timed) v.queries is.made)
    ∙ sym (append-nil (due_to v n))

-- ---- passed windows of query n

-- a window that query n has passed stays passed
pub has_passed-after : (v : View) (m : Msg) (n k : ℕ) → IsView v → Follows v m → has_passed v n k ≡ true → has_passed (after v m) n k ≡ true
has_passed-after v (msg.Rec r) n k is f passed = passed
has_passed-after v (msg.Advance marks) n k is f passed =
    list_any-weaker (λ (q : Query). eqb q.n n && is_passed v q k) (λ (q : Query). eqb q.n n && is_passed (after v (msg.Advance marks)) q k) v.queries
    (All-every (λ (q : Query). (eqb q.n n && is_passed v q k) ≡ true → (eqb q.n n && is_passed (after v (msg.Advance marks)) q k) ≡ true)
    (λ q both. let parts = and_parts (eqb q.n n) (is_passed v q k) both in and_from (eqb q.n n) (is_passed (after v (msg.Advance marks)) q k) parts.0 (passed-advance v marks q k f parts.1)) v.queries) passed
has_passed-after v (msg.Change (Opened m slot at plan)) n k is f passed =
    list_any-append (λ (q : Query). eqb q.n n && is_passed v q k) v.queries (opened m plan at ∷ [])
    ∙ or_left (list_any (λ (q : Query). eqb q.n n && is_passed v q k) v.queries) (list_any (λ (q : Query). eqb q.n n && is_passed v q k) (opened m plan at ∷ [])) passed
has_passed-after v (msg.Change (Closed m slot at)) n k is f passed =
    list_any-map (λ (q : Query). eqb q.n n && is_passed v q k) (closed m at) v.queries
    ∙ list_any-weaker (λ (q : Query). eqb q.n n && is_passed v q k) (λ (q : Query). eqb (closed m at q).n n && is_passed v (closed m at q) k) v.queries
    (All-by IsQuery (λ (q : Query). (eqb q.n n && is_passed v q k) ≡ true → (eqb (closed m at q).n n && is_passed v (closed m at q) k) ≡ true)
    (λ q made both.
    let parts = and_parts (eqb q.n n) (is_passed v q k) both in
    and_from (eqb (closed m at q).n n) (is_passed v (closed m at q) k) (ap (λ i. eqb i n) (closed-number m at q) ∙ parts.0) (passed-closed v m slot at q k made f.0 parts.1)) v.queries is.made) passed

-- and has the same rows
pub rows_of-after : (v : View) (m : Msg) (n k : ℕ) → IsView v → Follows v m → has_passed v n k ≡ true → rows_of (after v m) n k ≡ rows_of v n k
rows_of-after v (msg.Rec r) n k is f passed =
    of_number-where n (λ q. rows (after v (msg.Rec r)) q k) (λ q. rows v q k) v.queries
    (All-by (λ (q : Query). eqb q.n n ≡ true → is_passed v q k ≡ true) (λ (q : Query). eqb q.n n ≡ true → rows (after v (msg.Rec r)) q k ≡ rows v q k)
    (λ q it e. rows-record v r q k f (it e)) v.queries (each-numbered (λ q. is_passed v q k) n 1 v.queries is.numbered passed))
rows_of-after v (msg.Advance marks) n k is f passed = refl
rows_of-after v (msg.Change (Opened m slot at plan)) n k is f passed =
    of_number-opened n (λ q. rows (after v (msg.Change (Opened m slot at plan))) q k) v.queries (opened m plan at) (rows-opened v m slot at plan k f.0)
rows_of-after v (msg.Change (Closed m slot at)) n k is f passed =
    of_number-closed n m at (λ q. rows (after v (msg.Change (Closed m slot at))) q k) (λ q. rows v q k) v.queries
    (All-by IsQuery (λ q. rows (after v (msg.Change (Closed m slot at))) (closed m at q) k ≡ rows v q k) (λ q made. rows-closed v m slot at q k made f.0 is.timed) v.queries is.made)
