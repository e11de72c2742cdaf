-- Each message may follow the view before it, and so each view is one that messages make.
use Rattle.std.proofs.Common.{◌≡◌, ℕ, ◌+◌, ◌^◌, ◌≤◌, ◌<◌, max, nat_lt, ◌||◌, Bool, true, false, true≢false, cond, inl, inr, ⊎_elim, Result, Ok, Err, Option, Some, None, is_none, List, [], ◌∷◌, ◌++◌, map, length, get_or, refl, sym, ap, ap₂, subst, ◌∙◌, arith}
use Rattle.std.specs.List.{filter, list_any, AllByRecursion}
use Rattle.std.specs.Result.{result_ok}
use Rattle.std.proofs.lemmas.Bool.{ltb-false, cases_lt}
use Rattle.std.proofs.lemmas.List.{length_push}
use Rattle.as_base.specs.declared.config.Config.{Config}
use Rattle.as_base.specs.declared.stream.StreamId.{StreamId}
use Rattle.as_base.specs.declared.stream.StreamId.TheVariants.{A, B, C, D}
use Rattle.as_base.specs.declared.item.Given.{Given}
use Rattle.as_base.specs.declared.item.Item.{Item}
use Rattle.as_base.specs.declared.item.Item.TheVariants.{Rec, Mark, End, Create, Delete, Bad}
use Rattle.as_base.specs.declared.item.Record.{Record}
use Rattle.as_base.specs.declared.query.Plan.{Plan}
use Rattle.as_base.specs.declared.answer.Word.{Word}
use Rattle.as_base.specs.declared.answer.Word.TheVariants as word
use Rattle.as_base.specs.declared.message.Msg.{Msg}
use Rattle.as_base.specs.Config.{is_configured}
use Rattle.as_base.specs.Range.{InRange}
use Rattle.as_base.specs.Stream.{streams, place_of}
use Rattle.query_text.specs.declared.ast.Ast.{Ast}
use Rattle.query_text.specs.Reading.{read_text, text_words}
use Rattle.query_text.proofs.TextLaws.{one_tree_told}
use Rattle.query_plan.specs.declared.planning.Misfit.{Misfit}
use Rattle.query_plan.specs.Planning.{IsTree, plan, or_word, plan_of_reading}
use Rattle.query_plan.proofs.PlanLaws.{plans_are_canonical, place_injective}
use Rattle.views.specs.Query.{is_live}
use Rattle.views.specs.Message.{RecordFollows, MarksFollow, ChangeFollows, IsOpenable, Follows}
use Rattle.views.specs.IsView.{IsView, first_view}
use Rattle.views.proofs.ListLaws.{All-by, All-push, All-append, All-first, All-rest}
use Rattle.views.proofs.ViewLaws.{IsView-first, IsView-after}
use Rattle.session.specs.declared.session.Clock.{Clock}
use Rattle.session.specs.Acceptance.{is_on, is_end, up_to_end, counting, time_of, mark_of, tick_after, greatest, front, top_mark, has_ended, watermark, seen_on, changelog_time}
use Rattle.session.specs.Book.{book, refusal}
use Rattle.session.specs.Message.{opening, message_of, message}
use Rattle.session.specs.Planned.{plan_for}
use Rattle.session.specs.View.{record_of, records, view}
use Rattle.session.proofs.BookLaws.{records-push}
use Rattle.session.proofs.ClockLaws.{counts, counts-open, front-push, top_mark-push, seen_on-push, has_ended-push, top_mark-front, front-seen, clock-none}
use Rattle.session.proofs.DecisionLaws.{accepted-open, accepted-message, refused-message}
use Rattle.session.proofs.HistoryLaws.{by_push}
use Rattle.session.proofs.ViewLaws.{refused_or_not, same, view-message, view-same, deletion-accepted}

-- ---- nothing falls

pub front-up : (c : Config) (h : List Item) (x : Item) (s : StreamId) → front c h s ≤ front c (h ++ x ∷ []) s
front-up c h x s = subst (λ n. front c h s ≤ n) (sym (front-push c h x s)) (go (counts c h s x))
  where
    go : (b : Bool) → front c h s ≤ cond b (max (front c h s) (time_of x)) (front c h s)
    go true = omega arith
    go false = omega arith

pub seen_on-up : (c : Config) (h : List Item) (x : Item) (s : StreamId) → seen_on c h s ≤ seen_on c (h ++ x ∷ []) s
seen_on-up c h x s = subst (λ n. seen_on c h s ≤ n) (sym (seen_on-push c h x s)) (go (counts c h s x))
  where
    go : (b : Bool) → seen_on c h s ≤ cond b (max (seen_on c h s) (tick_after x)) (seen_on c h s)
    go true = omega arith
    go false = omega arith

-- what was seen on a stream is before the changelog time
pub seen_on-changelog : (c : Config) (h : List Item) (s : StreamId) → seen_on c h s ≤ changelog_time c h
seen_on-changelog c h A = omega arith
seen_on-changelog c h B = omega arith
seen_on-changelog c h C = omega arith
seen_on-changelog c h D = omega arith

-- ---- nothing is above 2^62

greatest-up_to_end : (f : Item → ℕ) (h : List Item) → greatest f (up_to_end h) ≤ greatest f h
greatest-up_to_end f [] = omega arith
greatest-up_to_end f (x ∷ h) = go (is_end x) (greatest-up_to_end f h)
  where
    go : (b : Bool) → greatest f (up_to_end h) ≤ greatest f h → greatest f (cond b (x ∷ []) (x ∷ up_to_end h)) ≤ greatest f (x ∷ h)
    go true rest = omega arith
    go false rest = omega (arith, rest)

greatest-filter : (f : Item → ℕ) (p : Item → Bool) (h : List Item) → greatest f (filter p h) ≤ greatest f h
greatest-filter f p [] = omega arith
greatest-filter f p (x ∷ h) = go (p x) (greatest-filter f p h)
  where
    go : (b : Bool) → greatest f (filter p h) ≤ greatest f h → greatest f (cond b (x ∷ filter p h) (filter p h)) ≤ greatest f (x ∷ h)
    go true rest = omega (arith, rest)
    go false rest = omega (arith, rest)

greatest-counting : (f : Item → ℕ) (c : Config) (h : List Item) (s : StreamId) (most : ℕ) → greatest f h ≤ most → greatest f (counting c s h) ≤ most
greatest-counting f c h s most within = go (is_configured c s)
  where
    go : (b : Bool) → greatest f (cond b (up_to_end (filter (is_on s) h)) []) ≤ most
    go true = let a = greatest-up_to_end f (filter (is_on s) h) in let b = greatest-filter f (is_on s) h in omega (arith, a, b, within)
    go false = omega arith

in_range-tick : (x : Item) → InRange x → tick_after x ≤ 2 ^ 62
in_range-tick (Rec g) r = omega (arith, r)
in_range-tick (Mark s t) r = omega (arith, r)
in_range-tick (End s) r = omega arith
in_range-tick (Create text) r = omega arith
in_range-tick (Delete n) r = omega arith
in_range-tick (Bad cause) r = omega arith

greatest-range : (h : List Item) → AllByRecursion InRange h → greatest tick_after h ≤ 2 ^ 62
greatest-range [] all = omega arith
greatest-range (x ∷ h) all = let a = in_range-tick x all.0 in let b = greatest-range h all.1 in omega (arith, a, b)

pub seen_on-most : (c : Config) (h : List Item) (s : StreamId) → AllByRecursion InRange h → seen_on c h s ≤ 2 ^ 62
seen_on-most c h s all = greatest-counting tick_after c h s (2 ^ 62) (greatest-range h all)

pub changelog-most : (c : Config) (h : List Item) → AllByRecursion InRange h → changelog_time c h ≤ 2 ^ 62
changelog-most c h all =
    let a = seen_on-most c h A all in let b = seen_on-most c h B all in let d = seen_on-most c h C all in let e = seen_on-most c h D all in
    omega (arith, a, b, d, e)

pub top_mark-most : (c : Config) (h : List Item) (s : StreamId) → AllByRecursion InRange h → top_mark c h s ≤ 2 ^ 62
top_mark-most c h s all = let a = top_mark-front c h s in let b = front-seen c h s in let d = seen_on-most c h s all in omega (arith, a, b, d)

pub watermark-most : (c : Config) (h : List Item) (s : StreamId) → AllByRecursion InRange h → watermark c h s ≤ 2 ^ 62
watermark-most c h s all = go (has_ended c h s)
  where
    go : (b : Bool) → cond b (2 ^ 62) (top_mark c h s) ≤ 2 ^ 62
    go true = omega arith
    go false = top_mark-most c h s all

-- no watermark falls
pub watermark-up : (c : Config) (h : List Item) (x : Item) (s : StreamId) → AllByRecursion InRange h → watermark c h s ≤ watermark c (h ++ x ∷ []) s
watermark-up c h x s all =
    subst (λ n. watermark c h s ≤ n) (sym (ap₂ (λ b m. cond b (2 ^ 62) m) (has_ended-push c h x s) (top_mark-push c h x s))) (go (counts c h s x) (has_ended c h s) (is_end x))
  where
    go : (b over ends : Bool) → cond over (2 ^ 62) (top_mark c h s) ≤ cond (cond b (over || ends) over) (2 ^ 62) (cond b (max (top_mark c h s) (mark_of x)) (top_mark c h s))
    go true true ends = omega arith
    go true false true = top_mark-most c h s all
    go true false false = omega arith
    go false true ends = omega arith
    go false false ends = omega arith

-- ---- the accepted records

-- the record was accepted among the items: its line is one of theirs, its stream has reached it, and it was seen
pub record IsTaken (c : Config) (h : List Item) (r : Record) : Type 0 where
  pub line : r.seq ≤ length h
  pub reached : r.given.time ≤ front c h r.given.stream
  pub seen : r.given.time + 1 ≤ seen_on c h r.given.stream
  pub timed : r.given.time < 2 ^ 62

IsTaken-more : (c : Config) (h : List Item) (x : Item) (r : Record) → IsTaken c h r → IsTaken c (h ++ x ∷ []) r
IsTaken-more c h x r t = record {
  line = let a = t.line in let b = length_push h x in omega (arith, a, b);
  reached = let a = t.reached in let b = front-up c h x r.given.stream in omega (arith, a, b);
  seen = let a = t.seen in let b = seen_on-up c h x r.given.stream in omega (arith, a, b);
  timed = t.timed;
}

IsTaken-new : (c : Config) (h : List Item) (g : Given) → InRange (Rec g) → refusal c h (Rec g) ≡ None → IsTaken c (h ++ Rec g ∷ []) (record { seq = length h + 1; given = g })
IsTaken-new c h g within e =
    let free = accepted-open c h g.stream (nat_lt g.time (front c h g.stream)) word.Late e in
    let on = counts-open c h (Rec g) g.stream (λ r. refl) free.open_is in
    let top = front-push c h (Rec g) g.stream ∙ ap (λ b. cond b (max (front c h g.stream) g.time) (front c h g.stream)) on in
    let last = seen_on-push c h (Rec g) g.stream ∙ ap (λ b. cond b (max (seen_on c h g.stream) (g.time + 1)) (seen_on c h g.stream)) on in
    record {
      line = let b = length_push h (Rec g) in omega (arith, b);
      reached = omega (arith, top);
      seen = omega (arith, last);
      timed = within;
    }

new-taken : (c : Config) (h : List Item) (x : Item) → InRange x → AllByRecursion (IsTaken c (h ++ x ∷ [])) (record_of c h x)
new-taken c h (Rec g) within =
    ⊎_elim
    (λ r. subst (AllByRecursion (IsTaken c (h ++ Rec g ∷ []))) (sym (ap (λ o. cond (is_none o) ((record { seq = length h + 1; given = g }) ∷ []) []) r.1)) tt)
    (λ e. subst (AllByRecursion (IsTaken c (h ++ Rec g ∷ []))) (sym (ap (λ o. cond (is_none o) ((record { seq = length h + 1; given = g }) ∷ []) []) e)) (IsTaken-new c h g within e, tt))
    (refused_or_not (refusal c h (Rec g)))
new-taken c h (Mark s t) within = tt
new-taken c h (End s) within = tt
new-taken c h (Create text) within = tt
new-taken c h (Delete n) within = tt
new-taken c h (Bad cause) within = tt

pub records-taken : (c : Config) (h : List Item) → AllByRecursion InRange h → AllByRecursion (IsTaken c h) (records c h)
records-taken c h = by_push (λ l. AllByRecursion InRange l → AllByRecursion (IsTaken c l) (records c l)) (λ all. tt) more h
  where
    more : (l : List Item) (x : Item) → (AllByRecursion InRange l → AllByRecursion (IsTaken c l) (records c l)) → AllByRecursion InRange (l ++ x ∷ []) → AllByRecursion (IsTaken c (l ++ x ∷ [])) (records c (l ++ x ∷ []))
    more l x old all =
        let within = All-rest InRange l (x ∷ []) all in
        subst (AllByRecursion (IsTaken c (l ++ x ∷ []))) (sym (records-push c l x))
        (All-append (IsTaken c (l ++ x ∷ [])) (records c l) (record_of c l x)
        (All-by (IsTaken c l) (IsTaken c (l ++ x ∷ [])) (IsTaken-more c l x) (records c l) (old (All-first InRange l (x ∷ []) all)))
        (new-taken c l x within.0))

-- ---- messages that follow

mark-at : (c : Config) (h : List Item) (s : StreamId) → get_or (map (watermark c h) streams) (place_of s) 0 ≡ watermark c h s
mark-at c h A = refl
mark-at c h B = refl
mark-at c h C = refl
mark-at c h D = refl

-- the watermarks after an item may follow those before it
marks-follow : (c : Config) (h : List Item) (x : Item) → AllByRecursion InRange h → InRange x → MarksFollow (view c h) (map (watermark c (h ++ x ∷ [])) streams)
marks-follow c h x all within = record {
  four = refl;
  up = λ s. let a = mark-at c h s in let b = mark-at c (h ++ x ∷ []) s in let d = watermark-up c h x s all in omega (arith, a, b, d);
  most = λ s. let b = mark-at c (h ++ x ∷ []) s in let d = watermark-most c (h ++ x ∷ []) s (All-push InRange h x all within) in omega (arith, b, d);
}

mark-before : (x : Item) → 0 < mark_of x → mark_of x < tick_after x
mark-before (Rec g) some = absurd (omega (arith, some))
mark-before (Mark s t) some = omega arith
mark-before (End s) some = absurd (omega (arith, some))
mark-before (Create text) some = absurd (omega (arith, some))
mark-before (Delete n) some = absurd (omega (arith, some))
mark-before (Bad cause) some = absurd (omega (arith, some))

max-before : (a b d e : ℕ) → (0 < a → a < d) → (0 < b → b < e) → 0 < max a b → max a b < max d e
max-before a b d e f g some = elim (cases_lt a b) [ inl low ↦ omega (arith, low, g (omega (arith, low))) | inr high ↦ omega (arith, high, f (omega (arith, some, high))) ]

greatest-before : (h : List Item) → 0 < greatest mark_of h → greatest mark_of h < greatest tick_after h
greatest-before [] some = absurd (omega (arith, some))
greatest-before (x ∷ h) some = max-before (mark_of x) (greatest mark_of h) (tick_after x) (greatest tick_after h) (mark-before x) (greatest-before h) some

-- the watermark of a stream that has one, and has not ended, is before the changelog time
pub watermark-before : (c : Config) (h : List Item) (s : StreamId) → 0 < watermark c h s → watermark c h s < 2 ^ 62 → watermark c h s < changelog_time c h
watermark-before c h s = go (has_ended c h s)
  where
    go : (b : Bool) → 0 < cond b (2 ^ 62) (top_mark c h s) → cond b (2 ^ 62) (top_mark c h s) < 2 ^ 62 → cond b (2 ^ 62) (top_mark c h s) < changelog_time c h
    go true some low = absurd (omega (arith, low))
    go false some low = let a = greatest-before (counting c s h) some in let b = seen_on-changelog c h s in omega (arith, a, b)

-- a change at the changelog time comes after every record and every watermark
change-follows : (c : Config) (h : List Item) → AllByRecursion InRange h → ChangeFollows (view c h) (changelog_time c h)
change-follows c h all = record {
  most = changelog-most c h all;
  marks = λ s. subst (λ m. 0 < m → m < 2 ^ 62 → m < changelog_time c h) (sym (mark-at c h s)) (watermark-before c h s);
  records = All-by (IsTaken c h) (λ (r : Record). r.given.time < changelog_time c h)
      (λ r t. let a = t.seen in let b = seen_on-changelog c h r.given.stream in omega (arith, a, b)) (records c h) (records-taken c h all);
}

record-follows : (c : Config) (h : List Item) (g : Given) → AllByRecursion InRange h → InRange (Rec g) → refusal c h (Rec g) ≡ None → RecordFollows (view c h) (record { seq = length h + 1; given = g })
record-follows c h g all within e =
    let free = accepted-open c h g.stream (nat_lt g.time (front c h g.stream)) word.Late e in
    let up = ltb-false g.time (front c h g.stream) free.ahead in
    record {
      time = within;
      mark = let a = mark-at c h g.stream in let b = ap (λ b. cond b (2 ^ 62) (top_mark c h g.stream)) free.going in let d = top_mark-front c h g.stream in omega (arith, a, b, d, up);
      line = All-by (IsTaken c h) (λ (r : Record). r.seq < length h + 1) (λ r t. let a = t.line in omega (arith, a)) (records c h) (records-taken c h all);
      stream = All-by (IsTaken c h) (λ (r : Record). place_of r.given.stream ≡ place_of g.stream → r.given.time ≤ g.time)
          (λ r t one. let a = t.reached in let b = ap (front c h) (place_injective r.given.stream g.stream one) in omega (arith, a, b, up)) (records c h) (records-taken c h all);
    }

read-openable : (many : ℕ) (ast : Ast) (p : Plan) → IsTree ast → or_word (plan many ast) ≡ Ok p → IsOpenable p
read-openable many ast p tree e = go (plan many ast) refl e
  where
    go : (r : Result Plan Misfit) → plan many ast ≡ r → or_word r ≡ Ok p → IsOpenable p
    go (Ok q) is e = let both = plans_are_canonical many ast p tree (is ∙ ap (λ w. elim w [ Ok v ↦ Ok v | Err u ↦ Ok q ]) e) in record { canonical = both.0; fits = both.1 }
    go (Err m) is e = absurd (cc e)

-- the plan of a text may be opened
planned-openable : (c : Config) (text : List ℕ) (p : Plan) → plan_for c text ≡ Ok p → IsOpenable p
planned-openable c text p e = go (read_text text) refl e
  where
    go : (r : Result Ast ℕ) → read_text text ≡ r → plan_of_reading c.streams r ≡ Ok p → IsOpenable p
    go (Ok ast) is e = let tree = (one_tree_told (text_words text) ast).1 is in read-openable c.streams ast p (tree.0, (tree.1).0, tree.2) e
    go (Err place) is e = absurd (cc e)

opened-follows : (c : Config) (h : List Item) (text : List ℕ) (p : Result Plan Word) (m : Msg) → AllByRecursion InRange h → plan_for c text ≡ p → opening c h (result_ok p) ≡ Some m → Follows (view c h) m
opened-follows c h text (Err w) m all is e = absurd (true≢false (ap is_none e))
opened-follows c h text (Ok plan) m all is e = subst (Follows (view c h)) (same e) (change-follows c h all, refl, planned-openable c text plan is)

accepted-follows : (c : Config) (h : List Item) (x : Item) (m : Msg) → AllByRecursion InRange h → InRange x → refusal c h x ≡ None → message_of c h x ≡ Some m → Follows (view c h) m
accepted-follows c h (Rec g) m all within e is = subst (Follows (view c h)) (same is) (record-follows c h g all within e)
accepted-follows c h (Mark s t) m all within e is = subst (Follows (view c h)) (same is) (marks-follow c h (Mark s t) all within)
accepted-follows c h (End s) m all within e is = subst (Follows (view c h)) (same is) (marks-follow c h (End s) all within)
accepted-follows c h (Create text) m all within e is = opened-follows c h text (plan_for c text) m all refl is
accepted-follows c h (Delete n) m all within e is = subst (Follows (view c h)) (same is) (change-follows c h all, deletion-accepted (list_any (is_live n) (book c h)) e)
accepted-follows c h (Bad cause) m all within e is = absurd (true≢false (ap is_none is))

-- the message of an item may follow the view before it
pub message-follows : (c : Config) (h : List Item) (x : Item) (m : Msg) → AllByRecursion InRange h → InRange x → message c h x ≡ Some m → Follows (view c h) m
message-follows c h x m all within is =
    ⊎_elim
    (λ r. absurd (true≢false (sym (ap is_none (sym is ∙ refused-message c h x r.0 r.1)))))
    (λ e. accepted-follows c h x m all within e (sym (accepted-message c h x e) ∙ is))
    (refused_or_not (refusal c h x))

-- ---- views

-- the view before the first item
pub view-none : (c : Config) → view c [] ≡ first_view
view-none c = ap (λ l. record { queries = []; records = []; marks = l }) (marks (none A) (none B) (none C) (none D))
  where
    none : (s : StreamId) → watermark c [] s ≡ 0
    none s = ap (λ (k : Clock). cond k.ended (2 ^ 62) k.mark) (clock-none c s)

    marks : {a b d e : ℕ} → a ≡ 0 → b ≡ 0 → d ≡ 0 → e ≡ 0 → a ∷ b ∷ d ∷ e ∷ [] ≡ 0 ∷ 0 ∷ 0 ∷ 0 ∷ []
    marks p q r t = ap₂ (λ n l. n ∷ l) p (ap₂ (λ n l. n ∷ l) q (ap₂ (λ n l. n ∷ l) r (ap (λ n. n ∷ []) t)))

-- the view that items give is one that messages make
pub view-is : (c : Config) (h : List Item) → AllByRecursion InRange h → IsView (view c h)
view-is c h = by_push (λ l. AllByRecursion InRange l → IsView (view c l)) (λ all. subst IsView (sym (view-none c)) IsView-first) more h
  where
    step : (l : List Item) (x : Item) (o : Option Msg) → message c l x ≡ o → IsView (view c l) → AllByRecursion InRange l → InRange x → IsView (view c (l ++ x ∷ []))
    step l x (Some m) is old all within = subst IsView (sym (view-message c l x m is)) (IsView-after (view c l) m old (message-follows c l x m all within is))
    step l x None is old all within = subst IsView (sym (view-same c l x is)) old

    more : (l : List Item) (x : Item) → (AllByRecursion InRange l → IsView (view c l)) → AllByRecursion InRange (l ++ x ∷ []) → IsView (view c (l ++ x ∷ []))
    more l x old all =
        let before = All-first InRange l (x ∷ []) all in
        step l x (message c l x) refl (old before) before (All-rest InRange l (x ∷ []) all).0
