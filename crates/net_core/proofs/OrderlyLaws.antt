-- What is sent to a part may come to it, one message after another.
use Rattle.std.proofs.Common.{◌≡◌, ℕ, ◌+◌, ◌≤◌, ◌<◌, ◌^◌, eqb, nat_lt, nat_le, ◌&&◌, ◌||◌, Bool, true, false, true≢false, cond, ⊎_elim, Result, Ok, Err, Option, Some, None, is_none, List, [], ◌∷◌, ◌++◌, map, length, take, zero, suc, refl, sym, ap, subst, ◌∙◌, append-nil, arith}
use Rattle.std.specs.Prelude.{IsFalse}
use Rattle.std.specs.List.{list_any, fold, AllByRecursion}
use Rattle.std.specs.Result.{result_ok, result_err}
use Rattle.std.proofs.lemmas.Bool.{and_parts, or_parts, or_right, eq-eqb, leb-true, leb-false, lt-ltb}
use Rattle.std.proofs.lemmas.List.{length_push}
use Rattle.std.proofs.lemmas.List.FromFn.{get_or-map-range_with_len}
use Rattle.as_base.specs.declared.config.Config.{Config}
use Rattle.as_base.specs.declared.item.Item.{Item}
use Rattle.as_base.specs.declared.item.Item.TheVariants.{Rec, Mark, End, Create, Delete, Bad}
use Rattle.as_base.specs.declared.item.Record.{Record}
use Rattle.as_base.specs.declared.message.Change.{Change}
use Rattle.as_base.specs.declared.message.Change.TheVariants.{Opened, Closed}
use Rattle.as_base.specs.declared.message.Msg.{Msg}
use Rattle.as_base.specs.declared.message.Msg.TheVariants as msg
use Rattle.as_base.specs.declared.answer.Word.{Word}
use Rattle.as_base.specs.declared.answer.Word.TheVariants as word
use Rattle.as_base.specs.declared.query.Plan.{Plan}
use Rattle.as_base.specs.declared.stream.StreamId.{StreamId}
use Rattle.as_base.specs.declared.stream.StreamId.TheVariants.{A, B, C, D}
use Rattle.as_base.specs.Config.{fits, is_among, is_configured}
use Rattle.as_base.specs.Range.{InRange}
use Rattle.as_base.specs.Stream.{place_of}
use Rattle.views.specs.IsHolder.{time_of}
use Rattle.views.specs.Message.{RecordFollows, MarksFollow, ChangeFollows, Follows}
use Rattle.views.specs.Query.{is_live}
use Rattle.views.specs.Slots.{Holder, queries_of}
use Rattle.views.proofs.ListLaws.{All-by, All-push, All-first, All-rest, All-filter}
use Rattle.views.proofs.NumberLaws.{IsNumbered, first-number, rest-numbered}
use Rattle.contents.specs.Past.{Past, no_past, followed, past_of, mark_of}
use Rattle.contents.specs.Orderly.{is_live_as, RecordMayFollow, MarksMayFollow, TimeMayFollow, ChangeMayFollow, MayFollow, AreOrderlyFrom, AreOrderly}
use Rattle.contents.proofs.StepLaws.{orderly-push}
use Rattle.query_text.specs.declared.ast.Ast.{Ast}
use Rattle.query_text.specs.Reading.{read_text}
use Rattle.query_plan.specs.declared.planning.Misfit.{Misfit}
use Rattle.query_plan.specs.Planning.{is_stranger, right_of, names_twin, window_of, plan_unchecked, or_word, plan_of_reading}
use Rattle.query_plan.specs.Planning as planning
use Rattle.as_base.specs.Windows as windows
use Rattle.session.specs.Acceptance.{front, changelog_time}
use Rattle.session.specs.Book.{book, has_slot, refusal}
use Rattle.session.specs.Holders as session
use Rattle.session.specs.Message.{opening, message_of, message}
use Rattle.session.specs.Planned.{plan_for}
use Rattle.session.specs.View.{view}
use Rattle.session.proofs.BookLaws.{book-in_order}
use Rattle.session.proofs.DecisionLaws.{refused-message, accepted-message, accepted-open}
use Rattle.session.proofs.FollowLaws.{seen_on-up, message-follows}
use Rattle.session.proofs.HistoryLaws.{by_push}
use Rattle.session.proofs.HolderLaws.{holders-seated, holders-queries, free-slot}
use Rattle.session.proofs.ViewLaws.{refused_or_not, deletion-accepted}
use Rattle.net_core.specs.Part.{in_part}
use Rattle.net_core.specs.Sent.{goes_to, is_for, addressed, sent}
use Rattle.net_core.proofs.SentLaws.{sent-push, past-sent}
use Rattle.net_core.proofs.TakenLaws.{creation-accepted, taken-holders, taken-queries, taken-marks, taken-records}

-- ---- what has a message

-- the change of a message; another where it has none
abbrev change_in : Change → Option Msg → Change
change_in d (Some (msg.Change e)) = e
change_in d (Some (msg.Rec r)) = d
change_in d (Some (msg.Advance wm)) = d
change_in d None = d

-- a change is that of a creation where a slot is free, or that of the deletion of a query that lives
change-cases : (c : Config) (h : List Item) (P : Change → Type 0)
    → ((text : List ℕ) (plan : Plan) → has_slot c (book c h) ≡ true → plan_for c text ≡ Ok plan → P (Opened (length (book c h) + 1) (session.least_free c (session.holders c h)) (changelog_time c h) plan))
    → ((n : ℕ) → list_any (is_live n) (book c h) ≡ true → P (Closed n (session.slot_of (session.holders c h) n) (changelog_time c h)))
    → (x : Item) (d : Change) → message c h x ≡ Some (msg.Change d) → P d
change-cases c h P opens closes x d is =
    ⊎_elim (λ r. absurd (true≢false (sym (ap is_none (sym is ∙ refused-message c h x r.0 r.1))))) (λ e. at x e (sym (accepted-message c h x e) ∙ is)) (refused_or_not (refusal c h x))
  where
    opened : (text : List ℕ) (p : Result Plan Word) → plan_for c text ≡ p → has_slot c (book c h) ≡ true → opening c h (result_ok p) ≡ Some (msg.Change d) → P d
    opened text (Err w) planned free is = absurd (true≢false (ap is_none is))
    opened text (Ok plan) planned free is = subst P (ap (change_in d) is) (opens text plan free planned)

    at : (x : Item) → refusal c h x ≡ None → message_of c h x ≡ Some (msg.Change d) → P d
    at (Rec g) e is = absurd (cc is)
    at (Mark s t) e is = absurd (cc is)
    at (End s) e is = absurd (cc is)
    at (Create text) e is = opened text (plan_for c text) refl (creation-accepted (result_err (plan_for c text)) (has_slot c (book c h)) e).1 is
    at (Delete n) e is = subst P (ap (change_in d) is) (closes n (deletion-accepted (list_any (is_live n) (book c h)) e))
    at (Bad cause) e is = absurd (true≢false (ap is_none is))

-- a record that is accepted is of a configured stream, and has the number of its line
record IsAccepted (c : Config) (h : List Item) (r : Record) : Type 0 where
  pub there : is_configured c r.given.stream ≡ true
  pub line : r.seq ≡ length h + 1

-- the record of a message; another where it has none
abbrev record_in : Record → Option Msg → Record
record_in r (Some (msg.Rec s)) = s
record_in r (Some (msg.Change e)) = r
record_in r (Some (msg.Advance wm)) = r
record_in r None = r

record-accepted : (c : Config) (h : List Item) (x : Item) (r : Record) → message c h x ≡ Some (msg.Rec r) → IsAccepted c h r
record-accepted c h x r is =
    ⊎_elim (λ o. absurd (true≢false (sym (ap is_none (sym is ∙ refused-message c h x o.0 o.1))))) (λ e. at x e (sym (accepted-message c h x e) ∙ is)) (refused_or_not (refusal c h x))
  where
    no_opening : (p : Option Plan) → opening c h p ≡ Some (msg.Rec r) → IsAccepted c h r
    no_opening None is = absurd (true≢false (ap is_none is))
    no_opening (Some plan) is = absurd (cc is)

    at : (x : Item) → refusal c h x ≡ None → message_of c h x ≡ Some (msg.Rec r) → IsAccepted c h r
    at (Rec g) e is =
        let free = accepted-open c h g.stream (nat_lt g.time (front c h g.stream)) word.Late e in
        subst (IsAccepted c h) (ap (record_in r) is) (record { there = (and_parts (is_configured c g.stream) _ free.open_is).0; line = refl })
    at (Mark s t) e is = absurd (cc is)
    at (End s) e is = absurd (cc is)
    at (Create text) e is = no_opening (result_ok (plan_for c text)) is
    at (Delete n) e is = absurd (cc is)
    at (Bad cause) e is = absurd (true≢false (ap is_none is))

-- ---- the times of the changes

-- the changes came by the changelog time, and are no more than the items
record Timed (c : Config) (h : List Item) (changes : List Change) : Type 0 where
  pub times : AllByRecursion (λ (d : Change). time_of d ≤ changelog_time c h) changes
  pub few : length changes ≤ length h

changelog-up : (c : Config) (h : List Item) (x : Item) → changelog_time c h ≤ changelog_time c (h ++ x ∷ [])
changelog-up c h x =
    let a = seen_on-up c h x A in let b = seen_on-up c h x B in let d = seen_on-up c h x C in let e = seen_on-up c h x D in
    omega (arith, a, b, d, e)

timed-more : (c : Config) (h : List Item) (x : Item) (changes : List Change) → Timed c h changes → Timed c (h ++ x ∷ []) changes
timed-more c h x changes t = record {
  times = let up = changelog-up c h x in All-by (λ (d : Change). time_of d ≤ changelog_time c h) (λ (d : Change). time_of d ≤ changelog_time c (h ++ x ∷ [])) (λ d low. omega (arith, low, up)) changes t.times;
  few = let a = t.few in let b = length_push h x in omega (arith, a, b);
}

timed-sent : (c : Config) (h : List Item) (x : Item) (p : ℕ) (z : Past) (o : Option Msg) → message c h x ≡ o → Timed c h z.changes → Timed c (h ++ x ∷ []) (fold followed z (addressed c p o)).changes
timed-sent c h x p z None is t = timed-more c h x z.changes t
timed-sent c h x p z (Some (msg.Rec r)) is t = go (goes_to c p r)
  where
    go : (b : Bool) → Timed c (h ++ x ∷ []) (fold followed z (cond b (msg.Rec r ∷ []) [])).changes
    go true = timed-more c h x z.changes t
    go false = timed-more c h x z.changes t
timed-sent c h x p z (Some (msg.Advance wm)) is t = timed-more c h x z.changes t
timed-sent c h x p z (Some (msg.Change d)) is t =
    let up = changelog-up c h x in
    let at : time_of d ≡ changelog_time c h = change-cases c h (λ d. time_of d ≡ changelog_time c h) (λ text plan free planned. refl) (λ n lives. refl) x d is in
    record {
      times = All-push (λ (d : Change). time_of d ≤ changelog_time c (h ++ x ∷ [])) z.changes d (timed-more c h x z.changes t).times (omega (arith, at, up));
      few = let a = t.few in let b = length_push h x in let e = length_push z.changes d in omega (arith, a, b, e);
    }

taken-timed : (c : Config) (h : List Item) (p : ℕ) → Timed c h (past_of (sent c h p)).changes
taken-timed c h p = by_push (λ l. Timed c l (past_of (sent c l p)).changes) (record { times = tt; few = omega arith }) more h
  where
    more : (l : List Item) (x : Item) → Timed c l (past_of (sent c l p)).changes → Timed c (l ++ x ∷ []) (past_of (sent c (l ++ x ∷ []) p)).changes
    more l x old = subst (λ (z : Past). Timed c (l ++ x ∷ []) z.changes) (sym (past-sent c l x p)) (timed-sent c l x p (past_of (sent c l p)) (message c l x) refl old)

-- ---- a plan reads configured streams

stranger-not : (c : Config) (s : StreamId) → is_stranger c.streams s ≡ false → is_configured c s ≡ true
stranger-not c s e = lt-ltb (place_of s) c.streams (leb-false c.streams (place_of s) e)

record IsThere (c : Config) (p : Plan) : Type 0 where
  pub left : is_configured c p.left ≡ true
  pub right : is_configured c p.right ≡ true

-- the plan, if there is one; another where there is none
abbrev plan_in : Plan → Result Plan Word → Plan
plan_in p (Ok q) = q
plan_in p (Err w) = p

tree-there : (c : Config) (ast : Ast) (p : Plan) → or_word (planning.plan c.streams ast) ≡ Ok p → IsThere c p
tree-there c ast p e = go (is_stranger c.streams ast.left) (is_stranger c.streams (right_of ast)) (names_twin ast) (windows.fits (window_of ast)) refl refl e
  where
    go : (a b d f : Bool) → is_stranger c.streams ast.left ≡ a → is_stranger c.streams (right_of ast) ≡ b
        → or_word (cond (a || b) (Err Misfit.Stranger) (cond d (Err Misfit.Twin) (cond f (Ok (plan_unchecked ast)) (Err Misfit.Window)))) ≡ Ok p → IsThere c p
    go true b d f x y e = absurd (cc e)
    go false true d f x y e = absurd (cc e)
    go false false true f x y e = absurd (cc e)
    go false false false false x y e = absurd (cc e)
    go false false false true x y e =
        subst (IsThere c) (ap (plan_in p) e) (record { left = stranger-not c ast.left x; right = stranger-not c (right_of ast) y })

planned-there : (c : Config) (text : List ℕ) (p : Plan) → plan_for c text ≡ Ok p → IsThere c p
planned-there c text p e = go (read_text text) e
  where
    go : (r : Result Ast ℕ) → plan_of_reading c.streams r ≡ Ok p → IsThere c p
    go (Ok ast) e = tree-there c ast p e
    go (Err place) e = absurd (cc e)

-- ---- slots

few-slots : (c : Config) → fits c ≡ true → c.slots ≤ 512
few-slots c e = leb-true c.slots 512 (and_parts (nat_le 1 c.slots) (nat_le c.slots 512) (second (is_among 2 c.streams 4) (is_among 1 c.slots 512) (is_among 1 c.parts 64) (is_among 1 c.lane 65536) e)).1
  where
    second : (a b d f : Bool) → (a && b && d && f) ≡ true → b ≡ true
    second true true d f e = refl
    second true false d f e = absurd (true≢false (sym e))
    second false b d f e = absurd (true≢false (sym e))

-- no live query holds a slot that is free
free-apart : (slot : ℕ) (hs : List session.Holder) → session.is_held hs slot ≡ false → AllByRecursion (λ (k : Holder). k.slot ≡ slot → IsFalse k.query.live) (map in_part hs)
free-apart slot [] e = tt
free-apart slot (k ∷ hs) e =
    let both = or_parts (k.query.live && eqb k.slot slot) (session.is_held hs slot) e in
    ((λ same. off k.query.live (eqb k.slot slot) both.0 (eq-eqb k.slot slot same)), free-apart slot hs both.1)
  where
    off : (l b : Bool) → (l && b) ≡ false → b ≡ true → l ≡ false
    off true b e on = absurd (true≢false (sym on ∙ e))
    off false b e on = refl

-- the live query of a number holds the slot of that number
lives-in : (n : ℕ) (hs : List session.Holder) → list_any (is_live n) (session.queries_of hs) ≡ true → list_any (is_live_as n (session.slot_of hs n)) (map in_part hs) ≡ true
lives-in n [] e = absurd (true≢false (sym e))
lives-in n (k ∷ hs) e = go k.query.live (eqb k.query.n n) e (lives-in n hs)
  where
    go : (l b : Bool) → ((b && l) || list_any (is_live n) (session.queries_of hs)) ≡ true
        → (list_any (is_live n) (session.queries_of hs) ≡ true → list_any (is_live_as n (session.slot_of hs n)) (map in_part hs) ≡ true)
        → ((b && (eqb k.slot (cond (l && b) k.slot (session.slot_of hs n)) && l)) || list_any (is_live_as n (cond (l && b) k.slot (session.slot_of hs n))) (map in_part hs)) ≡ true
    go true true e rest = ap (λ b. (b && true) || list_any (is_live_as n k.slot) (map in_part hs)) (eq-eqb k.slot k.slot refl)
    go true false e rest = rest e
    go false true e rest = or_right (eqb k.slot (session.slot_of hs n) && false) (list_any (is_live_as n (session.slot_of hs n)) (map in_part hs)) (rest e)
    go false false e rest = rest e

-- ---- numbers

numbers-below : (k : ℕ) (hs : List Holder) → IsNumbered k (queries_of hs) → AllByRecursion (λ (h : Holder). h.query.n < k + length (queries_of hs)) hs
numbers-below k [] e = tt
numbers-below k (h ∷ hs) e =
    let is = first-number k h.query (queries_of hs) e in (
      omega (arith, is),
      All-by (λ (g : Holder). g.query.n < k + 1 + length (queries_of hs)) (λ (g : Holder). g.query.n < k + length (queries_of (h ∷ hs))) (λ g low. omega (arith, low)) hs
          (numbers-below (k + 1) hs (rest-numbered k h.query (queries_of hs) e)),
    )

-- ---- messages that may follow

record-may : (c : Config) (h : List Item) (p : ℕ) (r : Record) → length h < 2 ^ 62 → RecordFollows (view c h) r → IsAccepted c h r → RecordMayFollow (is_configured c) (past_of (sent c h p)) r
record-may c h p r short f a = record {
  there = a.there;
  first = let e = a.line in omega (arith, e);
  most = let e = a.line in omega (arith, e, short);
  line = subst (AllByRecursion (λ (s : Record). s.seq < r.seq)) (sym (taken-records c h p)) (All-filter (λ (s : Record). s.seq < r.seq) (goes_to c p) (view c h).records f.line);
  time = f.time;
  mark = subst (λ marks. mark_of marks r.given.stream ≤ r.given.time) (sym (taken-marks c h p)) f.mark;
  stream = subst (AllByRecursion (λ (s : Record). place_of s.given.stream ≡ place_of r.given.stream → s.given.time ≤ r.given.time)) (sym (taken-records c h p))
      (All-filter (λ (s : Record). place_of s.given.stream ≡ place_of r.given.stream → s.given.time ≤ r.given.time) (goes_to c p) (view c h).records f.stream);
}

marks-may : (c : Config) (h : List Item) (p : ℕ) (marks : List ℕ) → MarksFollow (view c h) marks → MarksMayFollow (past_of (sent c h p)) marks
marks-may c h p marks f = record {
  four = f.four;
  up = λ s. subst (λ old. mark_of old s ≤ mark_of marks s) (sym (taken-marks c h p)) (f.up s);
  most = f.most;
}

time-may : (c : Config) (h : List Item) (p : ℕ) → length h < 2 ^ 62 → ChangeFollows (view c h) (changelog_time c h) → TimeMayFollow (past_of (sent c h p)) (changelog_time c h)
time-may c h p short f = record {
  few = let a = (taken-timed c h p).few in omega (arith, a, short);
  most = f.most;
  changes = (taken-timed c h p).times;
  records = subst (AllByRecursion (λ (r : Record). r.given.time < changelog_time c h)) (sym (taken-records c h p))
      (All-filter (λ (r : Record). r.given.time < changelog_time c h) (goes_to c p) (view c h).records f.records);
  marks = λ s. subst (λ marks. 0 < mark_of marks s → mark_of marks s < 2 ^ 62 → mark_of marks s < changelog_time c h) (sym (taken-marks c h p)) (f.marks s);
}

opening-may : (c : Config) (h : List Item) (p : ℕ) (text : List ℕ) (plan : Plan) → fits c ≡ true → length h < 2 ^ 62 → has_slot c (book c h) ≡ true → plan_for c text ≡ Ok plan
    → let d = Opened (length (book c h) + 1) (session.least_free c (session.holders c h)) (changelog_time c h) plan in
    Follows (view c h) (msg.Change d) → ChangeMayFollow (is_configured c) (past_of (sent c h p)) d
opening-may c h p text plan fit short free planned f =
    let hs = session.holders c h in
    let slot = session.least_free c hs in
    let is = free-slot c hs (holders-seated c h) (ap (has_slot c) (holders-queries c h) ∙ free) in
    let within = is.0 in
    let most = few-slots c fit in
    let there = planned-there c text plan planned in
    let apart = sym (get_or-map-range_with_len (session.is_held hs) 0 c.slots slot slot false within (omega arith)) ∙ is.1 in
    let numbered = subst (IsNumbered 1) (sym (taken-queries c h p)) (book-in_order c h) in
    let many = ap length (taken-queries c h p) in (
      time-may c h p short f.0,
      omega (arith, within, most),
      subst (AllByRecursion (λ (k : Holder). k.slot ≡ slot → IsFalse k.query.live)) (sym (taken-holders c h p)) (free-apart slot hs apart),
      All-by (λ (k : Holder). k.query.n < 1 + length (queries_of (past_of (sent c h p)).holders)) (λ (k : Holder). k.query.n < length (book c h) + 1) (λ k low. omega (arith, low, many))
          (past_of (sent c h p)).holders (numbers-below 1 (past_of (sent c h p)).holders numbered),
      record { canonical = f.2.canonical; fits = f.2.fits; left = there.left; right = there.right },
    )

closing-may : (c : Config) (h : List Item) (p n : ℕ) → length h < 2 ^ 62 → list_any (is_live n) (book c h) ≡ true
    → let d = Closed n (session.slot_of (session.holders c h) n) (changelog_time c h) in
    Follows (view c h) (msg.Change d) → ChangeMayFollow (is_configured c) (past_of (sent c h p)) d
closing-may c h p n short lives f =
    let hs = session.holders c h in (
      time-may c h p short f.0,
      ap (list_any (is_live_as n (session.slot_of hs n))) (taken-holders c h p) ∙ lives-in n hs (ap (list_any (is_live n)) (holders-queries c h) ∙ lives),
    )

may-follow : (c : Config) (h : List Item) (p : ℕ) (x : Item) (m : Msg) → fits c ≡ true → length h < 2 ^ 62 → message c h x ≡ Some m → Follows (view c h) m → MayFollow (is_configured c) (past_of (sent c h p)) m
may-follow c h p x (msg.Rec r) fit short is f = record-may c h p r short f (record-accepted c h x r is)
may-follow c h p x (msg.Advance wm) fit short is f = marks-may c h p wm f
may-follow c h p x (msg.Change d) fit short is f =
    change-cases c h (λ d. Follows (view c h) (msg.Change d) → ChangeMayFollow (is_configured c) (past_of (sent c h p)) d)
    (λ text plan free planned. opening-may c h p text plan fit short free planned) (λ n lives. closing-may c h p n short lives) x d is f

-- what is sent to a part is orderly
pub sent-orderly : (c : Config) (h : List Item) (p : ℕ) → fits c ≡ true → length h < 2 ^ 62 → AllByRecursion InRange h → AreOrderly (is_configured c) (sent c h p)
sent-orderly c h p fit = by_push (λ l. length l < 2 ^ 62 → AllByRecursion InRange l → AreOrderly (is_configured c) (sent c l p)) (λ short all. tt) more h
  where
    same : (l : List Item) → AreOrderly (is_configured c) (sent c l p) → AreOrderly (is_configured c) (sent c l p ++ [])
    same l old = subst (AreOrderly (is_configured c)) (sym (append-nil (sent c l p))) old

    step : (l : List Item) (x : Item) (o : Option Msg) → message c l x ≡ o → length l < 2 ^ 62 → AllByRecursion InRange l → InRange x
        → AreOrderly (is_configured c) (sent c l p) → AreOrderly (is_configured c) (sent c l p ++ addressed c p o)
    step l x None is short all within old = same l old
    step l x (Some m) is short all within old = go (is_for c p m)
      where
        go : (b : Bool) → AreOrderly (is_configured c) (sent c l p ++ cond b (m ∷ []) [])
        go true = orderly-push (is_configured c) no_past (sent c l p) m old (may-follow c l p x m fit short is (message-follows c l x m all within is))
        go false = same l old

    more : (l : List Item) (x : Item) → (length l < 2 ^ 62 → AllByRecursion InRange l → AreOrderly (is_configured c) (sent c l p))
        → length (l ++ x ∷ []) < 2 ^ 62 → AllByRecursion InRange (l ++ x ∷ []) → AreOrderly (is_configured c) (sent c (l ++ x ∷ []) p)
    more l x old short all =
        let long = length_push l x in
        let few : length l < 2 ^ 62 = omega (arith, long, short) in
        let before = All-first InRange l (x ∷ []) all in
        subst (AreOrderly (is_configured c)) (sym (sent-push c l x p))
        (step l x (message c l x) refl few before (All-rest InRange l (x ∷ []) all).0 (old few before))

orderly-take : (is_there : StreamId → Bool) (z : Past) (n : ℕ) (ms : List Msg) → AreOrderlyFrom is_there z ms → AreOrderlyFrom is_there z (take n ms)
orderly-take is_there z zero ms a = tt
orderly-take is_there z (suc n) [] a = tt
orderly-take is_there z (suc n) (m ∷ ms) a = (a.0, orderly-take is_there (followed z m) n ms a.1)

-- and so is any front of it
pub taken-orderly : (c : Config) (h : List Item) (p n : ℕ) → fits c ≡ true → length h < 2 ^ 62 → AllByRecursion InRange h → AreOrderly (is_configured c) (take n (sent c h p))
taken-orderly c h p n fit short all = orderly-take (is_configured c) no_past n (sent c h p) (sent-orderly c h p fit short all)
