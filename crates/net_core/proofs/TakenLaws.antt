-- The past of what was sent to a part: its queries, slots and watermarks are those of all items, and its records those whose
-- keys go to it.
use Rattle.std.proofs.Common.{◌≡◌, ℕ, ◌+◌, Bool, true, false, cond, ⊎_elim, Option, Some, None, is_none, true≢false, List, [], ◌∷◌, ◌++◌, map, length, refl, sym, ap, ◌∙◌, append-nil}
use Rattle.std.specs.List.{filter, fold}
use Rattle.std.specs.Result.{result_ok, result_err}
use Rattle.std.proofs.lemmas.List.{map-append, length-map}
use Rattle.std.proofs.lemmas.List.Elements.{filter-append}
use Rattle.as_base.specs.declared.config.Config.{Config}
use Rattle.as_base.specs.declared.item.Item.{Item}
use Rattle.as_base.specs.declared.item.Item.TheVariants.{Rec, Mark, End, Create, Delete, Bad}
use Rattle.as_base.specs.declared.item.Record.{Record}
use Rattle.as_base.specs.declared.message.Msg.{Msg}
use Rattle.as_base.specs.declared.message.Msg.TheVariants as msg
use Rattle.as_base.specs.declared.answer.Word.{Word}
use Rattle.as_base.specs.declared.query.Plan.{Plan}
use Rattle.views.specs.Message.{after}
use Rattle.views.specs.Slots.{Holder, opened_holder, closed_holder, held, queries_of}
use Rattle.views.specs.View.{View}
use Rattle.contents.specs.Past.{Past, followed, past_of}
use Rattle.session.specs.Acceptance.{changelog_time}
use Rattle.session.specs.Book.{book, has_slot, creation_refusal, refusal}
use Rattle.session.specs.Holders as session
use Rattle.session.specs.Message.{opening, message_of, message}
use Rattle.session.specs.Planned.{plan_for}
use Rattle.session.specs.View.{view}
use Rattle.session.proofs.DecisionLaws.{refused-message, accepted-message}
use Rattle.session.proofs.FollowLaws.{view-none}
use Rattle.session.proofs.HistoryLaws.{by_push}
use Rattle.session.proofs.HolderLaws.{holders-push, holders-queries}
use Rattle.session.proofs.ViewLaws.{refused_or_not, refused-holders, view-message, view-same}
use Rattle.net_core.specs.Part.{in_part}
use Rattle.net_core.specs.Sent.{goes_to, addressed, sent}
use Rattle.net_core.proofs.SentLaws.{past-sent}

-- ---- what a message, if there is one, makes of each thing

abbrev pub held_by : List Holder → Option Msg → List Holder
held_by hs None = hs
held_by hs (Some (msg.Rec r)) = hs
held_by hs (Some (msg.Advance wm)) = hs
held_by hs (Some (msg.Change change)) = held hs change

abbrev pub marks_by : List ℕ → Option Msg → List ℕ
marks_by marks None = marks
marks_by marks (Some (msg.Rec r)) = marks
marks_by marks (Some (msg.Advance wm)) = wm
marks_by marks (Some (msg.Change change)) = marks

abbrev pub records_by : (Record → Bool) → List Record → Option Msg → List Record
records_by test rs None = rs
records_by test rs (Some (msg.Rec r)) = cond (test r) (rs ++ r ∷ []) rs
records_by test rs (Some (msg.Advance wm)) = rs
records_by test rs (Some (msg.Change change)) = rs

abbrev pub view_by : View → Option Msg → View
view_by v None = v
view_by v (Some m) = after v m

holders-by : (c : Config) (p : ℕ) (z : Past) (o : Option Msg) → (fold followed z (addressed c p o)).holders ≡ held_by z.holders o
holders-by c p z None = refl
holders-by c p z (Some (msg.Rec r)) = go (goes_to c p r)
  where
    go : (b : Bool) → (fold followed z (cond b (msg.Rec r ∷ []) [])).holders ≡ z.holders
    go true = refl
    go false = refl
holders-by c p z (Some (msg.Advance wm)) = refl
holders-by c p z (Some (msg.Change change)) = refl

marks-by : (c : Config) (p : ℕ) (z : Past) (o : Option Msg) → (fold followed z (addressed c p o)).marks ≡ marks_by z.marks o
marks-by c p z None = refl
marks-by c p z (Some (msg.Rec r)) = go (goes_to c p r)
  where
    go : (b : Bool) → (fold followed z (cond b (msg.Rec r ∷ []) [])).marks ≡ z.marks
    go true = refl
    go false = refl
marks-by c p z (Some (msg.Advance wm)) = refl
marks-by c p z (Some (msg.Change change)) = refl

records-by : (c : Config) (p : ℕ) (z : Past) (o : Option Msg) → (fold followed z (addressed c p o)).records ≡ records_by (goes_to c p) z.records o
records-by c p z None = refl
records-by c p z (Some (msg.Rec r)) = go (goes_to c p r)
  where
    go : (b : Bool) → (fold followed z (cond b (msg.Rec r ∷ []) [])).records ≡ cond b (z.records ++ r ∷ []) z.records
    go true = refl
    go false = refl
records-by c p z (Some (msg.Advance wm)) = refl
records-by c p z (Some (msg.Change change)) = refl

-- ---- the view after an item, by its message

view-by : (c : Config) (h : List Item) (x : Item) → view c (h ++ x ∷ []) ≡ view_by (view c h) (message c h x)
view-by c h x = go (message c h x) refl
  where
    go : (o : Option Msg) → message c h x ≡ o → view c (h ++ x ∷ []) ≡ view_by (view c h) o
    go None is = view-same c h x is
    go (Some m) is = view-message c h x m is

view-marks : (v : View) (o : Option Msg) → (view_by v o).marks ≡ marks_by v.marks o
view-marks v None = refl
view-marks v (Some (msg.Rec r)) = refl
view-marks v (Some (msg.Advance wm)) = refl
view-marks v (Some (msg.Change change)) = refl

view-records : (test : Record → Bool) (v : View) (o : Option Msg) → filter test (view_by v o).records ≡ records_by test (filter test v.records) o
view-records test v None = refl
view-records test v (Some (msg.Rec r)) = filter-append test v.records (r ∷ []) ∙ go (test r)
  where
    go : (b : Bool) → filter test v.records ++ cond b (r ∷ []) [] ≡ cond b (filter test v.records ++ r ∷ []) (filter test v.records)
    go true = refl
    go false = append-nil (filter test v.records)
view-records test v (Some (msg.Advance wm)) = refl
view-records test v (Some (msg.Change change)) = refl

-- ---- the holders after an item, by its message

pub creation-accepted : (o : Option Word) (free : Bool) → creation_refusal o free ≡ None → (o ≡ None) × (free ≡ true)
creation-accepted (Some w) free e = absurd (true≢false (sym (ap is_none e)))
creation-accepted None true e = (refl, refl)
creation-accepted None false e = absurd (true≢false (sym (ap is_none e)))

in_part-closed : (n at : ℕ) (hs : List session.Holder) → map in_part (map (session.closed_holder n at) hs) ≡ map (closed_holder n at) (map in_part hs)
in_part-closed n at [] = refl
in_part-closed n at (h ∷ hs) = ap (λ l. in_part (session.closed_holder n at h) ∷ l) (in_part-closed n at hs)

-- as many holders as queries
many-holders : (c : Config) (h : List Item) → length (session.holders c h) ≡ length (book c h)
many-holders c h = sym (length-map (session.holders c h) (λ (k : session.Holder). k.query)) ∙ ap length (holders-queries c h)

opened-held : (c : Config) (h : List Item) (text : List ℕ) (p : Option Plan) → has_slot c (book c h) ≡ true → result_ok (plan_for c text) ≡ p
    → map in_part (session.holders c (h ++ Create text ∷ [])) ≡ held_by (map in_part (session.holders c h)) (opening c h p)
opened-held c h text p free planned =
    ap (map in_part)
    (holders-push c h (Create text)
    ∙ ap (λ b. cond b (session.with_holder c (session.holders c h) (result_ok (plan_for c text)) (changelog_time c h)) (session.holders c h)) (ap (has_slot c) (holders-queries c h) ∙ free)
    ∙ ap (λ p. session.with_holder c (session.holders c h) p (changelog_time c h)) planned)
    ∙ go p
  where
    go : (p : Option Plan) → map in_part (session.with_holder c (session.holders c h) p (changelog_time c h)) ≡ held_by (map in_part (session.holders c h)) (opening c h p)
    go None = refl
    go (Some plan) =
        map-append in_part (session.holders c h) _
        ∙ ap (λ n. map in_part (session.holders c h) ++ opened_holder (n + 1) (session.least_free c (session.holders c h)) (changelog_time c h) plan ∷ []) (many-holders c h)

accepted-held : (c : Config) (h : List Item) (x : Item) → refusal c h x ≡ None → map in_part (session.holders c (h ++ x ∷ [])) ≡ held_by (map in_part (session.holders c h)) (message_of c h x)
accepted-held c h (Rec g) e = ap (map in_part) (holders-push c h (Rec g))
accepted-held c h (Mark s t) e = ap (map in_part) (holders-push c h (Mark s t))
accepted-held c h (End s) e = ap (map in_part) (holders-push c h (End s))
accepted-held c h (Create text) e =
    opened-held c h text (result_ok (plan_for c text)) (creation-accepted (result_err (plan_for c text)) (has_slot c (book c h)) e).1 refl
accepted-held c h (Delete n) e = ap (map in_part) (holders-push c h (Delete n)) ∙ in_part-closed n (changelog_time c h) (session.holders c h)
accepted-held c h (Bad cause) e = ap (map in_part) (holders-push c h (Bad cause))

pub held-by : (c : Config) (h : List Item) (x : Item) → map in_part (session.holders c (h ++ x ∷ [])) ≡ held_by (map in_part (session.holders c h)) (message c h x)
held-by c h x =
    ⊎_elim
    (λ r. ap (map in_part) (refused-holders c h x r.0 r.1) ∙ sym (ap (held_by (map in_part (session.holders c h))) (refused-message c h x r.0 r.1)))
    (λ e. accepted-held c h x e ∙ sym (ap (held_by (map in_part (session.holders c h))) (accepted-message c h x e)))
    (refused_or_not (refusal c h x))

-- ---- the past of what was sent to a part

pub taken-holders : (c : Config) (h : List Item) (p : ℕ) → (past_of (sent c h p)).holders ≡ map in_part (session.holders c h)
taken-holders c h p = by_push (λ l. (past_of (sent c l p)).holders ≡ map in_part (session.holders c l)) refl more h
  where
    more : (l : List Item) (x : Item) → (past_of (sent c l p)).holders ≡ map in_part (session.holders c l) → (past_of (sent c (l ++ x ∷ []) p)).holders ≡ map in_part (session.holders c (l ++ x ∷ []))
    more l x old =
        ap (λ (z : Past). z.holders) (past-sent c l x p)
        ∙ holders-by c p (past_of (sent c l p)) (message c l x)
        ∙ ap (λ hs. held_by hs (message c l x)) old
        ∙ sym (held-by c l x)

in_part-queries : (hs : List session.Holder) → queries_of (map in_part hs) ≡ session.queries_of hs
in_part-queries [] = refl
in_part-queries (h ∷ hs) = ap (λ l. h.query ∷ l) (in_part-queries hs)

pub taken-queries : (c : Config) (h : List Item) (p : ℕ) → queries_of (past_of (sent c h p)).holders ≡ book c h
taken-queries c h p = ap queries_of (taken-holders c h p) ∙ in_part-queries (session.holders c h) ∙ holders-queries c h

pub taken-marks : (c : Config) (h : List Item) (p : ℕ) → (past_of (sent c h p)).marks ≡ (view c h).marks
taken-marks c h p = by_push (λ l. (past_of (sent c l p)).marks ≡ (view c l).marks) (sym (ap (λ (v : View). v.marks) (view-none c))) more h
  where
    more : (l : List Item) (x : Item) → (past_of (sent c l p)).marks ≡ (view c l).marks → (past_of (sent c (l ++ x ∷ []) p)).marks ≡ (view c (l ++ x ∷ [])).marks
    more l x old =
        ap (λ (z : Past). z.marks) (past-sent c l x p)
        ∙ marks-by c p (past_of (sent c l p)) (message c l x)
        ∙ ap (λ marks. marks_by marks (message c l x)) old
        ∙ sym (view-marks (view c l) (message c l x))
        ∙ sym (ap (λ (v : View). v.marks) (view-by c l x))

pub taken-records : (c : Config) (h : List Item) (p : ℕ) → (past_of (sent c h p)).records ≡ filter (goes_to c p) (view c h).records
taken-records c h p = by_push (λ l. (past_of (sent c l p)).records ≡ filter (goes_to c p) (view c l).records) refl more h
  where
    more : (l : List Item) (x : Item) → (past_of (sent c l p)).records ≡ filter (goes_to c p) (view c l).records
        → (past_of (sent c (l ++ x ∷ []) p)).records ≡ filter (goes_to c p) (view c (l ++ x ∷ [])).records
    more l x old =
        ap (λ (z : Past). z.records) (past-sent c l x p)
        ∙ records-by c p (past_of (sent c l p)) (message c l x)
        ∙ ap (λ rs. records_by (goes_to c p) rs (message c l x)) old
        ∙ sym (view-records (goes_to c p) (view c l) (message c l x))
        ∙ sym (ap (λ (v : View). filter (goes_to c p) v.records) (view-by c l x))
