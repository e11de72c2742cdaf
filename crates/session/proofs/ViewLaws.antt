-- The view after an item: what its message makes of the view before it, or that view where it has none.
use Rattle.std.proofs.Common.{◌≡◌, ℕ, ◌+◌, ◌^◌, max, ◌||◌, Bool, true, false, true≢false, not, cond, ◌⊎◌, inl, inr, ⊎_elim, arith, Result, Ok, Err, Option, Some, None, is_none, unwrap_or, List, [], ◌∷◌, ◌++◌, map, length, refl, sym, ap, ap₂, ◌∙◌, append-nil}
use Rattle.std.specs.List.{list_any}
use Rattle.std.specs.Result.{result_ok, result_err}
use Rattle.std.proofs.lemmas.List.{map-append}
use Rattle.as_base.specs.declared.config.Config.{Config}
use Rattle.as_base.specs.declared.stream.StreamId.{StreamId}
use Rattle.as_base.specs.declared.stream.StreamId.TheVariants.{A, B, C, D}
use Rattle.as_base.specs.declared.item.Given.{Given}
use Rattle.as_base.specs.declared.item.Item.{Item}
use Rattle.as_base.specs.declared.item.Item.TheVariants.{Rec, Mark, End, Create, Delete, Bad}
use Rattle.as_base.specs.declared.item.Cause.TheVariants.{Long, Form}
use Rattle.as_base.specs.declared.item.Record.{Record}
use Rattle.as_base.specs.declared.query.Plan.{Plan}
use Rattle.as_base.specs.declared.answer.Word.{Word}
use Rattle.as_base.specs.declared.answer.Word.TheVariants as word
use Rattle.as_base.specs.declared.message.Msg.{Msg}
use Rattle.as_base.specs.Config.{is_configured}
use Rattle.as_base.specs.Stream.{streams}
use Rattle.query_text.specs.declared.ast.Ast.{Ast}
use Rattle.query_text.specs.Reading.{read_text}
use Rattle.query_plan.specs.declared.planning.Misfit.{Misfit}
use Rattle.query_plan.specs.Planning.{plan, or_word, plan_of_reading}
use Rattle.views.specs.Query.{Query, opened, is_live}
use Rattle.views.specs.View.{View}
use Rattle.views.specs.Message.{after}
use Rattle.session.specs.Acceptance.{top_mark, has_ended, watermark, changelog_time}
use Rattle.session.specs.Answers.{answered, acceptance_word, answer_to}
use Rattle.session.specs.Book.{book, has_slot, with_query, numbers, stream_refusal, refusal, creation_refusal}
use Rattle.session.specs.Holders.{holders, queries_of}
use Rattle.session.specs.Message.{opening, message_of, message}
use Rattle.session.specs.Outcome.{created_by, created}
use Rattle.session.specs.Planned.{plan_for}
use Rattle.session.specs.View.{record_of, records, view}
use Rattle.session.proofs.BookLaws.{book-push, records-push, closed-numbers}
use Rattle.session.proofs.ClockLaws.{IsStill, counts, clocks-still, has_ended-push, top_mark-push}
use Rattle.session.proofs.DecisionLaws.{refused-message, refused-answer, accepted-message, accepted-answer}
use Rattle.session.proofs.HolderLaws.{holders-push, holders-queries}
use Rattle.session.proofs.StepLaws.{marks_of, still-record, still-mark, still-end, still-create, still-delete, still-bad, unplanned-none, holders-unplanned, holders-full, closed_holders-dead}

-- ---- an item that is refused

creation-refused : (o : Option Word) (free : Bool) (w : Word) → creation_refusal o free ≡ Some w → (o ≡ Some w) ⊎ (free ≡ false)
creation-refused (Some u) free w e = inl e
creation-refused None true w e = absurd (true≢false (ap is_none e))
creation-refused None false w e = inr refl

deletion-refused : (b : Bool) (w : Word) → cond b None (Some word.Unknown) ≡ Some w → b ≡ false
deletion-refused true w e = absurd (true≢false (ap is_none e))
deletion-refused false w e = refl

-- a refused item changes no holder
pub refused-holders : (c : Config) (h : List Item) (x : Item) (w : Word) → refusal c h x ≡ Some w → holders c (h ++ x ∷ []) ≡ holders c h
refused-holders c h (Rec g) w e = holders-push c h (Rec g)
refused-holders c h (Mark s t) w e = holders-push c h (Mark s t)
refused-holders c h (End s) w e = holders-push c h (End s)
refused-holders c h (Create text) w e =
    ⊎_elim (λ why. holders-unplanned c h text (unplanned-none (plan_for c text) w why)) (λ full. holders-full c h text full)
    (creation-refused (result_err (plan_for c text)) (has_slot c (book c h)) w e)
refused-holders c h (Delete n) w e =
    holders-push c h (Delete n)
    ∙ closed_holders-dead n (changelog_time c h) (holders c h) (ap (list_any (is_live n)) (holders-queries c h) ∙ deletion-refused (list_any (is_live n) (book c h)) w e)
refused-holders c h (Bad cause) w e = holders-push c h (Bad cause)

-- nor a clock
pub refused-still : (c : Config) (h : List Item) (x : Item) (w : Word) → refusal c h x ≡ Some w → (s : StreamId) → IsStill c h x s
refused-still c h (Rec g) w e = still-record c h g w e
refused-still c h (Mark s t) w e = still-mark c h s t w e
refused-still c h (End s) w e = still-end c h s w e
refused-still c h (Create text) w e = still-create c h text
refused-still c h (Delete n) w e = still-delete c h n
refused-still c h (Bad cause) w e = still-bad c h cause

-- nor the book
pub refused-book : (c : Config) (h : List Item) (x : Item) (w : Word) → refusal c h x ≡ Some w → book c (h ++ x ∷ []) ≡ book c h
refused-book c h x w e = sym (holders-queries c (h ++ x ∷ [])) ∙ ap queries_of (refused-holders c h x w e) ∙ holders-queries c h

refused-record_of : (c : Config) (h : List Item) (x : Item) (w : Word) → refusal c h x ≡ Some w → record_of c h x ≡ []
refused-record_of c h (Rec g) w e = ap (λ o. cond (is_none o) ((record { seq = length h + 1; given = g }) ∷ []) []) e
refused-record_of c h (Mark s t) w e = refl
refused-record_of c h (End s) w e = refl
refused-record_of c h (Create text) w e = refl
refused-record_of c h (Delete n) w e = refl
refused-record_of c h (Bad cause) w e = refl

same-records : (c : Config) (h : List Item) (x : Item) → record_of c h x ≡ [] → records c (h ++ x ∷ []) ≡ records c h
same-records c h x none = records-push c h x ∙ ap (λ l. records c h ++ l) none ∙ append-nil (records c h)

same-marks : (c : Config) (h : List Item) (x : Item) → ((s : StreamId) → IsStill c h x s) → map (watermark c (h ++ x ∷ [])) streams ≡ map (watermark c h) streams
same-marks c h x still = ap marks_of (clocks-still c h x still)

view-of : {q q' : List Query} {r r' : List Record} {m m' : List ℕ} → q ≡ q' → r ≡ r' → m ≡ m' → ◌≡◌ {A = View} (record { queries = q; records = r; marks = m }) (record { queries = q'; records = r'; marks = m' })
view-of {q} {q'} {r} {r'} {m} {m'} a b d =
    ap (λ q. record { queries = q; records = r; marks = m }) a ∙ ap (λ r. record { queries = q'; records = r; marks = m }) b ∙ ap (λ m. record { queries = q'; records = r'; marks = m }) d

-- nor the view
refused-view : (c : Config) (h : List Item) (x : Item) (w : Word) → refusal c h x ≡ Some w → view c (h ++ x ∷ []) ≡ view c h
refused-view c h x w e = view-of (refused-book c h x w e) (same-records c h x (refused-record_of c h x w e)) (same-marks c h x (refused-still c h x w e))

-- ---- an item that is accepted

-- a record moves no watermark
watermark-record : (c : Config) (h : List Item) (g : Given) (s : StreamId) → watermark c (h ++ Rec g ∷ []) s ≡ watermark c h s
watermark-record c h g s = ap₂ (λ b m. cond b (2 ^ 62) m) (has_ended-push c h (Rec g) s ∙ go (counts c h s (Rec g))) (top_mark-push c h (Rec g) s ∙ at (counts c h s (Rec g)))
  where
    or_none : (b : Bool) → (b || false) ≡ b
    or_none true = refl
    or_none false = refl

    go : (b : Bool) → cond b (has_ended c h s || false) (has_ended c h s) ≡ has_ended c h s
    go true = or_none (has_ended c h s)
    go false = refl

    at : (b : Bool) → cond b (max (top_mark c h s) 0) (top_mark c h s) ≡ top_mark c h s
    at true = omega arith
    at false = refl

pub same : {X : Type 0} {x y : X} → Some x ≡ Some y → x ≡ y
same {X} {x} {y} e = ap (λ o. unwrap_or o y) e

creation-accepted : (o : Option Word) (free : Bool) → creation_refusal o free ≡ None → (o ≡ None) × (free ≡ true)
creation-accepted (Some w) free e = absurd (true≢false (sym (ap is_none e)))
creation-accepted None true e = (refl, refl)
creation-accepted None false e = absurd (true≢false (sym (ap is_none e)))

pub deletion-accepted : (b : Bool) → cond b None (Some word.Unknown) ≡ None → b ≡ true
deletion-accepted true e = refl
deletion-accepted false e = absurd (true≢false (sym (ap is_none e)))

opening-view : (c : Config) (h : List Item) (text : List ℕ) (p : Option Plan) (m : Msg) → result_ok (plan_for c text) ≡ p → has_slot c (book c h) ≡ true → opening c h p ≡ Some m
    → view c (h ++ Create text ∷ []) ≡ after (view c h) m
opening-view c h text None m is free e = absurd (true≢false (ap is_none e))
opening-view c h text (Some plan) m is free e =
    view-of
    (book-push c h (Create text)
    ∙ ap (λ b. cond b (with_query (book c h) (result_ok (plan_for c text)) (changelog_time c h)) (book c h)) free
    ∙ ap (λ p. with_query (book c h) p (changelog_time c h)) is)
    (same-records c h (Create text) refl)
    (same-marks c h (Create text) (still-create c h text))
    ∙ ap (after (view c h)) (same e)

accepted-view : (c : Config) (h : List Item) (x : Item) (m : Msg) → refusal c h x ≡ None → message_of c h x ≡ Some m → view c (h ++ x ∷ []) ≡ after (view c h) m
accepted-view c h (Rec g) m e is =
    let w = watermark-record c h g in
    view-of (book-push c h (Rec g))
    (records-push c h (Rec g) ∙ ap (λ o. records c h ++ cond (is_none o) ((record { seq = length h + 1; given = g }) ∷ []) []) e)
    (ap₂ (λ a l. a ∷ l) (w A) (ap₂ (λ a l. a ∷ l) (w B) (ap₂ (λ a l. a ∷ l) (w C) (ap (λ a. a ∷ []) (w D)))))
    ∙ ap (after (view c h)) (same is)
accepted-view c h (Mark s t) m e is = view-of (book-push c h (Mark s t)) (same-records c h (Mark s t) refl) refl ∙ ap (after (view c h)) (same is)
accepted-view c h (End s) m e is = view-of (book-push c h (End s)) (same-records c h (End s) refl) refl ∙ ap (after (view c h)) (same is)
accepted-view c h (Create text) m e is =
    opening-view c h text (result_ok (plan_for c text)) m refl (creation-accepted (result_err (plan_for c text)) (has_slot c (book c h)) e).1 is
accepted-view c h (Delete n) m e is =
    view-of (book-push c h (Delete n)) (same-records c h (Delete n) refl) (same-marks c h (Delete n) (still-delete c h n)) ∙ ap (after (view c h)) (same is)
accepted-view c h (Bad cause) m e is = absurd (true≢false (ap is_none is))

-- an item is refused, or it is accepted
pub refused_or_not : (o : Option Word) → ((w : Word) × (o ≡ Some w)) ⊎ (o ≡ None)
refused_or_not (Some w) = inl (w, refl)
refused_or_not None = inr refl

-- the message of an item makes the view after it of the view before it
pub view-message : (c : Config) (h : List Item) (x : Item) (m : Msg) → message c h x ≡ Some m → view c (h ++ x ∷ []) ≡ after (view c h) m
view-message c h x m is =
    ⊎_elim
    (λ r. absurd (true≢false (sym (ap is_none (sym is ∙ refused-message c h x r.0 r.1)))))
    (λ e. accepted-view c h x m e (sym (accepted-message c h x e) ∙ is))
    (refused_or_not (refusal c h x))

-- a text that is not refused has a plan
planned-or-not : (p : Result Plan Word) → result_err p ≡ None → result_ok p ≡ None → ⊥
planned-or-not (Err w) e none = true≢false (sym (ap is_none e))
planned-or-not (Ok plan) e none = true≢false (sym (ap is_none none))

opening-none : (c : Config) (h : List Item) (p : Option Plan) → opening c h p ≡ None → p ≡ None
opening-none c h None e = refl
opening-none c h (Some plan) e = absurd (true≢false (sym (ap is_none e)))

-- an accepted item has a message
accepted-some : (c : Config) (h : List Item) (x : Item) → refusal c h x ≡ None → message_of c h x ≡ None → ⊥
accepted-some c h (Rec g) e none = true≢false (sym (ap is_none none))
accepted-some c h (Mark s t) e none = true≢false (sym (ap is_none none))
accepted-some c h (End s) e none = true≢false (sym (ap is_none none))
accepted-some c h (Create text) e none =
    planned-or-not (plan_for c text) (creation-accepted (result_err (plan_for c text)) (has_slot c (book c h)) e).0 (opening-none c h (result_ok (plan_for c text)) none)
accepted-some c h (Delete n) e none = true≢false (sym (ap is_none none))
accepted-some c h (Bad cause) e none = true≢false (sym (ap is_none e))

-- an item without a message leaves the view as it was
pub view-same : (c : Config) (h : List Item) (x : Item) → message c h x ≡ None → view c (h ++ x ∷ []) ≡ view c h
view-same c h x is =
    ⊎_elim (λ r. refused-view c h x r.0 r.1) (λ e. absurd (accepted-some c h x e (sym (accepted-message c h x e) ∙ is))) (refused_or_not (refusal c h x))

-- ---- the numbers of the queries

abbrev created_of : Option Word → List ℕ
created_of None = []
created_of (Some w) = created_by w

-- no refusal of a text tells of a query
unplanned-quiet : (many : ℕ) (reading : Result Ast ℕ) → created_of (result_err (plan_of_reading many reading)) ≡ []
unplanned-quiet many (Err place) = refl
unplanned-quiet many (Ok tree) = go (plan many tree)
  where
    go : (p : Result Plan Misfit) → created_of (result_err (or_word p)) ≡ []
    go (Err Misfit.Stranger) = refl
    go (Err Misfit.Twin) = refl
    go (Err Misfit.Window) = refl
    go (Ok plan) = refl

stream-quiet : (c : Config) (h : List Item) (s : StreamId) (behind : Bool) (last : Word) → created_by last ≡ [] → created_of (stream_refusal c h s behind last) ≡ []
stream-quiet c h s behind last e = go (is_configured c s) (has_ended c h s) behind
  where
    go : (a b d : Bool) → created_of (cond (not a) (Some word.Stranger) (cond b (Some word.Ended) (cond d (Some last) None))) ≡ []
    go false b d = refl
    go true true d = refl
    go true false true = e
    go true false false = refl

-- no refusal tells of a query
refused-quiet : (c : Config) (h : List Item) (x : Item) → created_of (refusal c h x) ≡ []
refused-quiet c h (Rec g) = stream-quiet c h g.stream _ word.Late refl
refused-quiet c h (Mark s t) = stream-quiet c h s _ word.Back refl
refused-quiet c h (End s) = stream-quiet c h s false word.Ended refl
refused-quiet c h (Create text) = go (result_err (plan_for c text)) (has_slot c (book c h)) (unplanned-quiet c.streams (read_text text))
  where
    go : (o : Option Word) (free : Bool) → created_of o ≡ [] → created_of (creation_refusal o free) ≡ []
    go (Some w) free e = e
    go None true e = refl
    go None false e = refl
refused-quiet c h (Delete n) = go (list_any (is_live n) (book c h))
  where
    go : (b : Bool) → created_of (cond b None (Some word.Unknown)) ≡ []
    go true = refl
    go false = refl
refused-quiet c h (Bad Long) = refl
refused-quiet c h (Bad Form) = refl

accepted-numbers : (c : Config) (h : List Item) (x : Item) → refusal c h x ≡ None → numbers c (h ++ x ∷ []) ≡ numbers c h ++ created (answered h (acceptance_word c h x))
accepted-numbers c h (Rec g) e = ap (map (λ (q : Query). q.n)) (book-push c h (Rec g)) ∙ sym (append-nil (numbers c h))
accepted-numbers c h (Mark s t) e = ap (map (λ (q : Query). q.n)) (book-push c h (Mark s t)) ∙ sym (append-nil (numbers c h))
accepted-numbers c h (End s) e = ap (map (λ (q : Query). q.n)) (book-push c h (End s)) ∙ sym (append-nil (numbers c h))
accepted-numbers c h (Create text) e =
    let free = creation-accepted (result_err (plan_for c text)) (has_slot c (book c h)) e in
    ap (map (λ (q : Query). q.n))
    (book-push c h (Create text) ∙ ap (λ b. cond b (with_query (book c h) (result_ok (plan_for c text)) (changelog_time c h)) (book c h)) free.1)
    ∙ go (result_ok (plan_for c text)) (planned-or-not (plan_for c text) free.0)
  where
    go : (p : Option Plan) → (p ≡ None → ⊥) → map (λ (q : Query). q.n) (with_query (book c h) p (changelog_time c h)) ≡ numbers c h ++ (length (book c h) + 1) ∷ []
    go None some = absurd (some refl)
    go (Some plan) some = map-append (λ (q : Query). q.n) (book c h) (opened (length (book c h) + 1) plan (changelog_time c h) ∷ [])
accepted-numbers c h (Delete n) e =
    ap (map (λ (q : Query). q.n)) (book-push c h (Delete n)) ∙ closed-numbers n (changelog_time c h) (book c h) ∙ sym (append-nil (numbers c h))
accepted-numbers c h (Bad cause) e = absurd (true≢false (sym (ap is_none e)))

-- an item makes just the queries that its answer tells the creation of
pub numbers-created : (c : Config) (h : List Item) (x : Item) → numbers c (h ++ x ∷ []) ≡ numbers c h ++ created (answer_to c h x)
numbers-created c h x =
    ⊎_elim
    (λ r. ap (map (λ (q : Query). q.n)) (refused-book c h x r.0 r.1)
    ∙ sym (append-nil (numbers c h))
    ∙ ap (λ l. numbers c h ++ l) (sym (sym (ap created_of r.1) ∙ refused-quiet c h x))
    ∙ ap (λ a. numbers c h ++ created a) (sym (refused-answer c h x r.0 r.1)))
    (λ e. accepted-numbers c h x e ∙ ap (λ a. numbers c h ++ created a) (sym (accepted-answer c h x e)))
    (refused_or_not (refusal c h x))
