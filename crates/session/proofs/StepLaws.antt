-- What each item does to what a session stands for, and what is decided of it.
use Rattle.std.proofs.Common.{◌≡◌, ℕ, ◌+◌, ◌^◌, ◌<◌, max, ◌||◌, nat_lt, eqb, Bool, true, false, true≢false, not, cond, ⊎_elim, Result, Ok, Err, Some, None, is_none, unwrap_or, List, [], ◌∷◌, ◌++◌, map, length, get_or, set, replicate, refl, sym, ap, ap₂, ◌∙◌, arith}
use Rattle.std.specs.List.{flat_map, list_any, position, position_or_len, remove}
use Rattle.std.specs.Result.{result_ok, result_err}
use Rattle.std.proofs.lemmas.Bool.{ltb-true, ltb-false, lt-ltb, le-ltb}
use Rattle.std.proofs.lemmas.List.{length_push, length-map}
use Rattle.as_base.specs.declared.config.Config.{Config}
use Rattle.as_base.specs.declared.stream.StreamId.{StreamId}
use Rattle.as_base.specs.declared.stream.StreamId.TheVariants.{A, B, C, D}
use Rattle.as_base.specs.declared.item.Given.{Given}
use Rattle.as_base.specs.declared.item.Item.{Item}
use Rattle.as_base.specs.declared.item.Item.TheVariants.{Rec, Mark, End, Create, Delete, Bad}
use Rattle.as_base.specs.declared.item.Cause.{Cause}
use Rattle.as_base.specs.declared.query.Plan.{Plan}
use Rattle.as_base.specs.declared.answer.Word.{Word}
use Rattle.as_base.specs.declared.answer.Word.TheVariants as word
use Rattle.as_base.specs.declared.message.Change.TheVariants.{Opened, Closed}
use Rattle.as_base.specs.declared.message.Msg.TheVariants as msg
use Rattle.as_base.specs.Stream.{place_of}
use Rattle.slot_alloc.specs.Slots.{live_count}
use Rattle.slot_alloc.proofs.SlotLaws.{live_count-full, live_count-lt}
use Rattle.views.specs.Query.{opened, is_live}
use Rattle.views.proofs.ListLaws.{cond_same}
use Rattle.session.specs.declared.session.Clock.{Clock}
use Rattle.session.specs.declared.session.Seat.{Seat}
use Rattle.session.specs.declared.session.Session.{Session}
use Rattle.session.specs.declared.decision.Decision.TheVariants.{Pass, Told, Acted}
use Rattle.session.specs.Acceptance.{front, top_mark, has_ended, changelog_time, seen_on, greatest, tick_after}
use Rattle.session.specs.Planned.{plan_for}
use Rattle.session.specs.Book.{book, has_slot, refusal, refusal_of_cause, creation_refusal}
use Rattle.session.specs.Holders.{Holder, queries_of, slots_of, least_free, with_holder, closed_holder, holders}
use Rattle.session.specs.Decision.{IsDecided}
use Rattle.session.specs.Message.{opening}
use Rattle.session.specs.Session.{seat_of, StandsFor}
use Rattle.session.proofs.ClockLaws.{clocks_of, clocks-are, IsStill, still-low, still-closed, still-all, still-quiet, clocks-still, changelog-still, clocks-counted, changelog-counted, top_mark-front, front-seen, counting-none, clock-none}
use Rattle.session.proofs.DecisionLaws.{told, passed, acted, refused-why, accepted-open}
use Rattle.session.proofs.HolderLaws.{holders-push, holders-queries, holders-seated, seats_of, seats-push, seats-gone, slots_of-opened, slots_of-closed, has_slot-seats, slots_of-none, length-slots_of, numbers-once, slot_of-seats, lives-seats}
use Rattle.session.proofs.SeatLaws.{position-some, position-none, list_any-position, slot_in-at}

-- what a session stands for, by its parts
pub record Stands (c : Config) (h : List Item) (streams items : ℕ) (clocks : List Clock) (changelog made : ℕ) (slots : List Bool) (live : List Seat) : Type 0 where
  pub configured : streams ≡ c.streams
  pub lines : items ≡ length h
  pub clocks_are : clocks ≡ clocks_of c h
  pub time_is : changelog ≡ changelog_time c h
  pub made_is : made ≡ length (book c h)
  pub slots_are : slots ≡ slots_of c (holders c h)
  pub live_are : live ≡ flat_map seat_of (holders c h)

pub stands-in : {c : Config} {s : Session} {h : List Item} → StandsFor c s h → Stands c h s.streams s.items s.clocks s.changelog_time s.made s.slots s.live.items
stands-in s = record { configured = s.configured; lines = s.items; clocks_are = s.clocks; time_is = s.changelog_time; made_is = s.made; slots_are = s.slots; live_are = s.live }

pub stands-out : (c : Config) (s : Session) (h : List Item) → Stands c h s.streams s.items s.clocks s.changelog_time s.made s.slots s.live.items → StandsFor c s h
stands-out c s h p = record { configured = p.configured; items = p.lines; clocks = p.clocks_are; changelog_time = p.time_is; made = p.made_is; slots = p.slots_are; live = p.live_are }

-- the book is as it was where the holders are
same-book : (c : Config) (h h' : List Item) → holders c h' ≡ holders c h → length (book c h') ≡ length (book c h)
same-book c h h' e = ap length (sym (holders-queries c h') ∙ ap queries_of e ∙ holders-queries c h)

-- an item that changes no query
Stands-items : {c : Config} {h : List Item} {streams items : ℕ} {clocks : List Clock} {changelog made : ℕ} {slots : List Bool} {live : List Seat} (x : Item) (clocks' : List Clock) (changelog' : ℕ) → Stands c h streams items clocks changelog made slots live
    → clocks' ≡ clocks_of c (h ++ x ∷ []) → changelog' ≡ changelog_time c (h ++ x ∷ []) → holders c (h ++ x ∷ []) ≡ holders c h
    → Stands c (h ++ x ∷ []) streams (items + 1) clocks' changelog' made slots live
Stands-items {c} {h} x clocks' changelog' s k t e = record {
  configured = s.configured;
  lines = ap (λ n. n + 1) s.lines ∙ sym (length_push h x);
  clocks_are = k;
  time_is = t;
  made_is = s.made_is ∙ sym (same-book c h (h ++ x ∷ []) e);
  slots_are = s.slots_are ∙ ap (slots_of c) (sym e);
  live_are = s.live_are ∙ ap seats_of (sym e);
}

-- an item that changes nothing
Stands-still : {c : Config} {h : List Item} {streams items : ℕ} {clocks : List Clock} {changelog made : ℕ} {slots : List Bool} {live : List Seat} (x : Item) → Stands c h streams items clocks changelog made slots live
    → ((r : StreamId) → IsStill c h x r) → holders c (h ++ x ∷ []) ≡ holders c h → Stands c (h ++ x ∷ []) streams (items + 1) clocks changelog made slots live
Stands-still {c} {h} {streams} {items} {clocks} {changelog} x s still e =
    Stands-items x clocks changelog s (s.clocks_are ∙ sym (clocks-still c h x still)) (s.time_is ∙ sym (changelog-still c h x still)) e

-- ---- records, watermarks and ends

-- a record that is refused changes nothing
pub still-record : (c : Config) (h : List Item) (g : Given) (w : Word) → refusal c h (Rec g) ≡ Some w → (r : StreamId) → IsStill c h (Rec g) r
still-record c h g w e = still-all c h (Rec g) g.stream (λ r. refl) (⊎_elim (still-closed c h (Rec g) g.stream) late (refused-why c h g.stream (nat_lt g.time (front c h g.stream)) word.Late w e))
  where
    late : nat_lt g.time (front c h g.stream) ≡ true → IsStill c h (Rec g) g.stream
    late b =
        let low = ltb-true g.time (front c h g.stream) b in
        let seen = front-seen c h g.stream in
        still-low c h (Rec g) g.stream (omega (arith, low)) (omega arith) (omega (arith, low, seen)) refl

pub still-mark : (c : Config) (h : List Item) (s : StreamId) (t : ℕ) (w : Word) → refusal c h (Mark s t) ≡ Some w → (r : StreamId) → IsStill c h (Mark s t) r
still-mark c h s t w e = still-all c h (Mark s t) s (λ r. refl) (⊎_elim (still-closed c h (Mark s t) s) back (refused-why c h s (nat_lt t (top_mark c h s)) word.Back w e))
  where
    back : nat_lt t (top_mark c h s) ≡ true → IsStill c h (Mark s t) s
    back b =
        let low = ltb-true t (top_mark c h s) b in
        let most = top_mark-front c h s in
        let seen = front-seen c h s in
        still-low c h (Mark s t) s (omega (arith, low, most)) (omega (arith, low)) (omega (arith, low, most, seen)) refl

pub still-end : (c : Config) (h : List Item) (s : StreamId) (w : Word) → refusal c h (End s) ≡ Some w → (r : StreamId) → IsStill c h (End s) r
still-end c h s w e = still-all c h (End s) s (λ r. refl) (⊎_elim (still-closed c h (End s) s) (λ none. absurd (true≢false (sym none))) (refused-why c h s false word.Ended w e))

-- an item of no stream changes no clock
pub still-create : (c : Config) (h : List Item) (text : List ℕ) (r : StreamId) → IsStill c h (Create text) r
still-create c h text r = still-quiet c h (Create text) r refl

pub still-delete : (c : Config) (h : List Item) (n : ℕ) (r : StreamId) → IsStill c h (Delete n) r
still-delete c h n r = still-quiet c h (Delete n) r refl

pub still-bad : (c : Config) (h : List Item) (cause : Cause) (r : StreamId) → IsStill c h (Bad cause) r
still-bad c h cause r = still-quiet c h (Bad cause) r refl

-- an item that is refused, and changes nothing
refused-step : {c : Config} {h : List Item} {streams items : ℕ} {clocks : List Clock} {changelog made : ℕ} {slots : List Bool} {live : List Seat} (x : Item) (w : Word) → Stands c h streams items clocks changelog made slots live
    → refusal c h x ≡ Some w → ((r : StreamId) → IsStill c h x r) → holders c (h ++ x ∷ []) ≡ holders c h
    → Stands c (h ++ x ∷ []) streams (items + 1) clocks changelog made slots live × IsDecided c h x (Told (record { line = items + 1; word = w }))
refused-step {c} {h} {streams} {items} x w s e still same = (Stands-still x s still same, told c h x w (items + 1) (ap (λ n. n + 1) s.lines) e)

pub refused-record : {c : Config} {h : List Item} {streams items : ℕ} {clocks : List Clock} {changelog made : ℕ} {slots : List Bool} {live : List Seat} (g : Given) (w : Word) → Stands c h streams items clocks changelog made slots live
    → refusal c h (Rec g) ≡ Some w
    → Stands c (h ++ Rec g ∷ []) streams (items + 1) clocks changelog made slots live × IsDecided c h (Rec g) (Told (record { line = items + 1; word = w }))
refused-record {c} {h} g w s e = refused-step (Rec g) w s e (still-record c h g w e) (holders-push c h (Rec g))

pub refused-mark : {c : Config} {h : List Item} {streams items : ℕ} {clocks : List Clock} {changelog made : ℕ} {slots : List Bool} {live : List Seat} (r : StreamId) (t : ℕ) (w : Word) → Stands c h streams items clocks changelog made slots live
    → refusal c h (Mark r t) ≡ Some w
    → Stands c (h ++ Mark r t ∷ []) streams (items + 1) clocks changelog made slots live × IsDecided c h (Mark r t) (Told (record { line = items + 1; word = w }))
refused-mark {c} {h} r t w s e = refused-step (Mark r t) w s e (still-mark c h r t w e) (holders-push c h (Mark r t))

pub refused-end : {c : Config} {h : List Item} {streams items : ℕ} {clocks : List Clock} {changelog made : ℕ} {slots : List Bool} {live : List Seat} (r : StreamId) (w : Word) → Stands c h streams items clocks changelog made slots live
    → refusal c h (End r) ≡ Some w
    → Stands c (h ++ End r ∷ []) streams (items + 1) clocks changelog made slots live × IsDecided c h (End r) (Told (record { line = items + 1; word = w }))
refused-end {c} {h} r w s e = refused-step (End r) w s e (still-end c h r w e) (holders-push c h (End r))

pub record-step : {c : Config} {h : List Item} {streams items : ℕ} {clocks : List Clock} {changelog made : ℕ} {slots : List Bool} {live : List Seat} (g : Given) → Stands c h streams items clocks changelog made slots live
    → refusal c h (Rec g) ≡ None
    → Stands c (h ++ Rec g ∷ []) streams (items + 1) (set clocks (place_of g.stream) (record { front = g.time; mark = top_mark c h g.stream; ended = has_ended c h g.stream })) (max changelog (g.time + 1)) made slots live
    × IsDecided c h (Rec g) (Pass (msg.Rec (record { seq = items + 1; given = g })))
record-step {c} {h} {streams} {items} {clocks} {changelog} g s e =
    let free = accepted-open c h g.stream (nat_lt g.time (front c h g.stream)) word.Late e in
    let up = ltb-false g.time (front c h g.stream) free.ahead in
    let k : Clock = record { front = g.time; mark = top_mark c h g.stream; ended = has_ended c h g.stream } in (
      Stands-items (Rec g) _ _ s
          (ap (λ l. set l (place_of g.stream) k) s.clocks_are
          ∙ sym (clocks-counted c h (Rec g) g.stream k (λ r. refl) free.open_is (omega (arith, up)) (omega arith) (or_none (has_ended c h g.stream))))
          (ap (λ t. max t (g.time + 1)) s.time_is ∙ sym (changelog-counted c h (Rec g) g.stream (λ r. refl) free.open_is))
          (holders-push c h (Rec g)),
      passed c h (Rec g) _ e refl (ap (λ n. Some (msg.Rec (record { seq = n + 1; given = g }))) (sym s.lines)),
    )
  where
    or_none : (b : Bool) → (b || false) ≡ b
    or_none true = refl
    or_none false = refl

-- the watermarks of the clocks
abbrev pub marks_of : List Clock → List ℕ
marks_of clocks = map (λ (k : Clock). cond k.ended (2 ^ 62) k.mark) clocks

pub mark-step : {c : Config} {h : List Item} {streams items : ℕ} {clocks : List Clock} {changelog made : ℕ} {slots : List Bool} {live : List Seat} (r : StreamId) (t : ℕ) → Stands c h streams items clocks changelog made slots live
    → refusal c h (Mark r t) ≡ None
    → let new = set clocks (place_of r) (record { front = max (front c h r) t; mark = t; ended = false }) in
    Stands c (h ++ Mark r t ∷ []) streams (items + 1) new (max changelog (t + 1)) made slots live
    × IsDecided c h (Mark r t) (Pass (msg.Advance (marks_of new)))
mark-step {c} {h} {streams} {items} {clocks} {changelog} r t s e =
    let free = accepted-open c h r (nat_lt t (top_mark c h r)) word.Back e in
    let up = ltb-false t (top_mark c h r) free.ahead in
    let k : Clock = record { front = max (front c h r) t; mark = t; ended = false } in
    let new = ap (λ l. set l (place_of r) k) s.clocks_are
    ∙ sym (clocks-counted c h (Mark r t) r k (λ r. refl) free.open_is refl (omega (arith, up)) (ap (λ b. b || false) free.going)) in (
      Stands-items (Mark r t) _ _ s new (ap (λ n. max n (t + 1)) s.time_is ∙ sym (changelog-counted c h (Mark r t) r (λ r. refl) free.open_is)) (holders-push c h (Mark r t)),
      passed c h (Mark r t) _ e refl (ap (λ l. Some (msg.Advance (marks_of l))) (sym new)),
    )

pub end-step : {c : Config} {h : List Item} {streams items : ℕ} {clocks : List Clock} {changelog made : ℕ} {slots : List Bool} {live : List Seat} (r : StreamId) → Stands c h streams items clocks changelog made slots live
    → refusal c h (End r) ≡ None
    → let new = set clocks (place_of r) (record { front = front c h r; mark = top_mark c h r; ended = true }) in
    Stands c (h ++ End r ∷ []) streams (items + 1) new changelog made slots live
    × IsDecided c h (End r) (Pass (msg.Advance (marks_of new)))
end-step {c} {h} {streams} {items} {clocks} {changelog} r s e =
    let free = accepted-open c h r false word.Ended e in
    let k : Clock = record { front = front c h r; mark = top_mark c h r; ended = true } in
    let new = ap (λ l. set l (place_of r) k) s.clocks_are
    ∙ sym (clocks-counted c h (End r) r k (λ r. refl) free.open_is (omega arith) (omega arith) (or_all (has_ended c h r))) in (
      Stands-items (End r) _ _ s new (s.time_is ∙ sym (changelog-counted c h (End r) r (λ r. refl) free.open_is ∙ omega arith)) (holders-push c h (End r)),
      passed c h (End r) _ e refl (ap (λ l. Some (msg.Advance (marks_of l))) (sym new)),
    )
  where
    or_all : (b : Bool) → (b || true) ≡ true
    or_all true = refl
    or_all false = refl

-- ---- lines in no form

pub bad-step : {c : Config} {h : List Item} {streams items : ℕ} {clocks : List Clock} {changelog made : ℕ} {slots : List Bool} {live : List Seat} (cause : Cause) → Stands c h streams items clocks changelog made slots live
    → Stands c (h ++ Bad cause ∷ []) streams (items + 1) clocks changelog made slots live × IsDecided c h (Bad cause) (Told (record { line = items + 1; word = refusal_of_cause cause }))
bad-step {c} {h} cause s = refused-step (Bad cause) (refusal_of_cause cause) s refl (still-bad c h cause) (holders-push c h (Bad cause))

-- ---- creations

-- a text that is refused has no plan
pub unplanned-none : (p : Result Plan Word) (w : Word) → result_err p ≡ Some w → result_ok p ≡ None
unplanned-none (Err u) w e = refl
unplanned-none (Ok plan) w e = absurd (true≢false (ap is_none e))

pub holders-unplanned : (c : Config) (h : List Item) (text : List ℕ) → result_ok (plan_for c text) ≡ None → holders c (h ++ Create text ∷ []) ≡ holders c h
holders-unplanned c h text none =
    holders-push c h (Create text)
    ∙ ap (λ p. cond (has_slot c (queries_of (holders c h))) (with_holder c (holders c h) p (changelog_time c h)) (holders c h)) none
    ∙ cond_same (has_slot c (queries_of (holders c h))) (holders c h)

pub holders-full : (c : Config) (h : List Item) (text : List ℕ) → has_slot c (book c h) ≡ false → holders c (h ++ Create text ∷ []) ≡ holders c h
holders-full c h text full =
    holders-push c h (Create text)
    ∙ ap (λ b. cond b (with_holder c (holders c h) (result_ok (plan_for c text)) (changelog_time c h)) (holders c h)) (ap (has_slot c) (holders-queries c h) ∙ full)

holders-opened : (c : Config) (h : List Item) (text : List ℕ) (plan : Plan) → has_slot c (book c h) ≡ true → result_ok (plan_for c text) ≡ Some plan
    → holders c (h ++ Create text ∷ []) ≡ with_holder c (holders c h) (Some plan) (changelog_time c h)
holders-opened c h text plan free planned =
    holders-push c h (Create text)
    ∙ ap (λ b. cond b (with_holder c (holders c h) (result_ok (plan_for c text)) (changelog_time c h)) (holders c h)) (ap (has_slot c) (holders-queries c h) ∙ free)
    ∙ ap (λ p. with_holder c (holders c h) p (changelog_time c h)) planned

-- a creation that is refused by its text
pub unplanned-step : {c : Config} {h : List Item} {streams items : ℕ} {clocks : List Clock} {changelog made : ℕ} {slots : List Bool} {live : List Seat} (text : List ℕ) (w : Word) → Stands c h streams items clocks changelog made slots live
    → result_err (plan_for c text) ≡ Some w
    → Stands c (h ++ Create text ∷ []) streams (items + 1) clocks changelog made slots live × IsDecided c h (Create text) (Told (record { line = items + 1; word = w }))
unplanned-step {c} {h} text w s why =
    refused-step (Create text) w s (ap (λ o. creation_refusal o (has_slot c (book c h))) why) (still-create c h text)
    (holders-unplanned c h text (unplanned-none (plan_for c text) w why))

-- a slot is free just where fewer are live than there are
has_slot-live : {c : Config} {h : List Item} {streams items : ℕ} {clocks : List Clock} {changelog made : ℕ} {slots : List Bool} {live : List Seat} → Stands c h streams items clocks changelog made slots live
    → has_slot c (book c h) ≡ nat_lt (live_count slots) (length slots)
has_slot-live {c} {h} s =
    ap (has_slot c) (sym (holders-queries c h))
    ∙ has_slot-seats c (holders c h) (holders-seated c h)
    ∙ ap₂ nat_lt (ap live_count (sym s.slots_are)) (sym (ap length s.slots_are ∙ length-slots_of c (holders c h)))

-- a creation where each slot is held
pub full-step : {c : Config} {h : List Item} {streams items : ℕ} {clocks : List Clock} {changelog made : ℕ} {slots : List Bool} {live : List Seat} (text : List ℕ) (plan : Plan) → Stands c h streams items clocks changelog made slots live
    → plan_for c text ≡ Ok plan → position (λ on. not on) slots ≡ None
    → Stands c (h ++ Create text ∷ []) streams (items + 1) clocks changelog made slots live × IsDecided c h (Create text) (Told (record { line = items + 1; word = word.Full }))
full-step {c} {h} {streams} {items} {clocks} {changelog} {made} {slots} text plan s is none =
    let full = has_slot-live s ∙ le-ltb (live_count slots) (length slots) (let e = live_count-full slots (sym none) in omega (arith, e)) in
    refused-step (Create text) word.Full s (ap₂ creation_refusal (ap result_err is) full) (still-create c h text) (holders-full c h text full)

-- a creation where a slot is free, which gets the least
pub open-step : {c : Config} {h : List Item} {streams items : ℕ} {clocks : List Clock} {changelog made : ℕ} {slots : List Bool} {live : List Seat} (text : List ℕ) (plan : Plan) (slot : ℕ) → Stands c h streams items clocks changelog made slots live
    → plan_for c text ≡ Ok plan → position (λ on. not on) slots ≡ Some slot
    → Stands c (h ++ Create text ∷ []) streams (items + 1) clocks changelog (made + 1) (set slots slot true) (live ++ (record { n = made + 1; slot = slot }) ∷ [])
    × IsDecided c h (Create text) (Acted (record { line = items + 1; word = word.Created (made + 1) changelog }) (Opened (made + 1) slot changelog plan))
open-step {c} {h} {streams} {items} {clocks} {changelog} {made} {slots} {live} text plan slot s is free =
    let some = has_slot-live s ∙ lt-ltb (live_count slots) (length slots) (live_count-lt slots slot (sym free)) in
    let hs = holders c h in
    let new : holders c (h ++ Create text ∷ []) ≡ with_holder c hs (Some plan) (changelog_time c h) = holders-opened c h text plan some (ap result_ok is) in
    let least : least_free c hs ≡ slot = ap (λ l. unwrap_or (position (λ on. not on) l) 0) (sym s.slots_are) ∙ ap (λ o. unwrap_or o 0) free in
    let many : length hs ≡ made = sym (length-map hs (λ (k : Holder). k.query)) ∙ ap length (holders-queries c h) ∙ sym s.made_is in
    let still = still-create c h text in (
      record {
        configured = s.configured;
        lines = ap (λ n. n + 1) s.lines ∙ sym (length_push h (Create text));
        clocks_are = s.clocks_are ∙ sym (clocks-still c h (Create text) still);
        time_is = s.time_is ∙ sym (changelog-still c h (Create text) still);
        made_is = ap (λ n. n + 1) (sym many) ∙ sym (length_push hs _) ∙ ap length (sym new) ∙ sym (length-map (holders c (h ++ Create text ∷ [])) (λ (k : Holder). k.query)) ∙ ap length (holders-queries c (h ++ Create text ∷ []));
        slots_are = ap₂ (λ l i. set l i true) s.slots_are (sym least)
            ∙ slots_of-opened c hs plan (changelog_time c h) (holders-seated c h) (ap (has_slot c) (holders-queries c h) ∙ some)
            ∙ ap (slots_of c) (sym new);
        live_are = ap₂ (λ n i. live ++ (record { n = n + 1; slot = i }) ∷ []) (sym many) (sym least)
            ∙ ap (λ l. l ++ (record { n = length hs + 1; slot = least_free c hs }) ∷ []) s.live_are
            ∙ sym (seats-push hs (record { query = opened (length hs + 1) plan (changelog_time c h); slot = least_free c hs }))
            ∙ ap seats_of (sym new);
      },
      acted c h (Create text) (word.Created (made + 1) changelog) (Opened (made + 1) slot changelog plan) (items + 1) (ap (λ n. n + 1) s.lines)
          (ap₂ creation_refusal (ap result_err is) some)
          (ap₂ (λ n at. Some (word.Created (n + 1) at)) (sym s.made_is) (sym s.time_is))
          (ap (opening c h) (ap result_ok is)
          ∙ ap₂ (λ n i. Some (msg.Change (Opened (n + 1) i (changelog_time c h) plan))) (sym s.made_is) least
          ∙ ap (λ at. Some (msg.Change (Opened (made + 1) slot at plan))) (sym s.time_is)),
    )

-- ---- deletions

lives-live : {c : Config} {h : List Item} {streams items : ℕ} {clocks : List Clock} {changelog made : ℕ} {slots : List Bool} {live : List Seat} (n : ℕ) → Stands c h streams items clocks changelog made slots live
    → list_any (is_live n) (book c h) ≡ list_any (λ (t : Seat). eqb t.n n) live
lives-live {c} {h} n s =
    ap (list_any (is_live n)) (sym (holders-queries c h)) ∙ lives-seats n (holders c h) ∙ ap (list_any (λ (t : Seat). eqb t.n n)) (sym s.live_are)

pub closed_holders-dead : (n at : ℕ) (hs : List Holder) → list_any (is_live n) (queries_of hs) ≡ false → map (closed_holder n at) hs ≡ hs
closed_holders-dead n at [] e = refl
closed_holders-dead n at (k ∷ hs) e = go (is_live n k.query) e (λ rest. closed_holders-dead n at hs rest)
  where
    go : (b : Bool) → (b || list_any (is_live n) (queries_of hs)) ≡ false → (list_any (is_live n) (queries_of hs) ≡ false → map (closed_holder n at) hs ≡ hs)
        → (record { query = cond b (record { n = k.query.n; plan = k.query.plan; from = k.query.from; to = at; live = false }) k.query; slot = k.slot }) ∷ map (closed_holder n at) hs ≡ k ∷ hs
    go true e rest = absurd (true≢false e)
    go false e rest = ap (λ l. k ∷ l) (rest e)

-- the deletion of a query that does not live
pub unknown-step : {c : Config} {h : List Item} {streams items : ℕ} {clocks : List Clock} {changelog made : ℕ} {slots : List Bool} {live : List Seat} (n : ℕ) → Stands c h streams items clocks changelog made slots live
    → position (λ (t : Seat). eqb t.n n) live ≡ None
    → Stands c (h ++ Delete n ∷ []) streams (items + 1) clocks changelog made slots live × IsDecided c h (Delete n) (Told (record { line = items + 1; word = word.Unknown }))
unknown-step {c} {h} {streams} {items} {clocks} {changelog} {made} {slots} {live} n s none =
    let dead = lives-live n s ∙ position-none (λ (t : Seat). eqb t.n n) live none in
    refused-step (Delete n) word.Unknown s (ap (λ b. cond b None (Some word.Unknown)) dead) (still-delete c h n)
    (holders-push c h (Delete n) ∙ closed_holders-dead n (changelog_time c h) (holders c h) (ap (list_any (is_live n)) (holders-queries c h) ∙ dead))

-- the deletion of a live query, whose slot is free then
pub delete-step : {c : Config} {h : List Item} {streams items : ℕ} {clocks : List Clock} {changelog made : ℕ} {slots : List Bool} {live : List Seat} (n i : ℕ) (d : Seat) → Stands c h streams items clocks changelog made slots live
    → position (λ (t : Seat). eqb t.n n) live ≡ Some i
    → let slot = (get_or live i d).slot in
    Stands c (h ++ Delete n ∷ []) streams (items + 1) clocks changelog made (set slots slot false) (remove live i)
    × IsDecided c h (Delete n) (Acted (record { line = items + 1; word = word.Deleted n changelog }) (Closed n slot changelog))
delete-step {c} {h} {streams} {items} {clocks} {changelog} {made} {slots} {live} n i d s some =
    let hs = holders c h in
    let p : Seat → Bool = λ t. eqb t.n n in
    let here = position-some p live i some in
    let at : position_or_len p (seats_of hs) ≡ i = ap (position_or_len p) (sym s.live_are) ∙ here.0 in
    let many = ap length s.live_are in
    let within : position_or_len p (seats_of hs) < length (seats_of hs) = let w = here.1 in omega (arith, at, w, many) in
    let one = numbers-once c h n in
    let new = holders-push c h (Delete n) in
    let lives = lives-live n s ∙ list_any-position p live ∙ lt-ltb (position_or_len p live) (length live) (let a = here.0 in let w = here.1 in omega (arith, a, w)) in
    let still = still-delete c h n in
    let mine : (get_or (seats_of hs) (position_or_len p (seats_of hs)) d).slot ≡ (get_or live i d).slot = ap₂ (λ l j. (get_or l j d).slot) (sym s.live_are) at in (
      record {
        configured = s.configured;
        lines = ap (λ m. m + 1) s.lines ∙ sym (length_push h (Delete n));
        clocks_are = s.clocks_are ∙ sym (clocks-still c h (Delete n) still);
        time_is = s.time_is ∙ sym (changelog-still c h (Delete n) still);
        made_is = s.made_is ∙ ap length (sym (holders-queries c h)) ∙ length-map hs (λ (k : Holder). k.query) ∙ sym (length-map hs (closed_holder n (changelog_time c h)))
            ∙ ap length (sym new) ∙ sym (length-map (holders c (h ++ Delete n ∷ [])) (λ (k : Holder). k.query)) ∙ ap length (holders-queries c (h ++ Delete n ∷ []));
        slots_are = ap₂ (λ l j. set l j false) s.slots_are (sym mine) ∙ slots_of-closed c hs n (changelog_time c h) d (holders-seated c h) within one ∙ ap (slots_of c) (sym new);
        live_are = ap₂ remove s.live_are (sym at) ∙ sym (seats-gone n (changelog_time c h) hs within one) ∙ ap seats_of (sym new);
      },
      acted c h (Delete n) (word.Deleted n changelog) (Closed n (get_or live i d).slot changelog) (items + 1) (ap (λ m. m + 1) s.lines)
          (ap (λ b. cond b None (Some word.Unknown)) lives)
          (ap (λ at. Some (word.Deleted n at)) (sym s.time_is))
          (ap₂ (λ j at. Some (msg.Change (Closed n j at))) (slot_of-seats n hs ∙ slot_in-at n (seats_of hs) d within ∙ mine) (sym s.time_is)),
    )

-- ---- before the first item

pub first-stands : (c : Config) (streams slots : ℕ) → c.streams ≡ streams → c.slots ≡ slots
    → let k : Clock = record { front = 0; mark = 0; ended = false } in Stands c [] streams 0 (k ∷ k ∷ k ∷ k ∷ []) 0 0 (replicate slots false) []
first-stands c many slots e f = record {
  configured = sym e;
  lines = refl;
  clocks_are = sym (clocks-are (clock-none c A) (clock-none c B) (clock-none c C) (clock-none c D));
  time_is = sym (ap₂ max (seen-none A) (ap₂ max (seen-none B) (ap₂ max (seen-none C) (seen-none D))));
  made_is = refl;
  slots_are = ap (λ n. replicate n false) (sym f) ∙ sym (slots_of-none c);
  live_are = refl;
}
  where
    seen-none : (s : StreamId) → seen_on c [] s ≡ 0
    seen-none s = ap (greatest tick_after) (counting-none c s)
