-- Holders and their seats: what one more item does to them, and that the slots that are held are those of the seats.
use Rattle.std.proofs.Common.{◌≡◌, ℕ, ◌+◌, ◌<◌, ◌≤◌, zero, suc, eqb, nat_lt, Bool, true, false, cond, not, ◌&&◌, ◌||◌, Option, Some, None, unwrap_or, List, [], ◌∷◌, ◌++◌, map, length, get_or, set, replicate, count_by, refl, sym, ap, ap₂, subst, subst₂, ◌∙◌, append-nil, append_assoc, arith, length-set}
use Rattle.std.specs.List.{filter, flat_map, list_any, position, position_or_len, remove, range_with_len}
use Rattle.std.specs.Result.{result_ok}
use Rattle.std.proofs.lemmas.Bool.{ne_eqb, eqb-true, lt-ltb, ltb-true}
use Rattle.std.proofs.lemmas.Grind.{flat_map-append}
use Rattle.std.proofs.lemmas.List.{length_push, length-map, map-append, ext_get_or}
use Rattle.std.proofs.lemmas.List.Edits.{length-remove}
use Rattle.std.proofs.lemmas.List.Elements.{filter-append}
use Rattle.std.proofs.lemmas.List.FromFn.{length-range_with_len, get_or-map-range_with_len}
use Rattle.std.proofs.lemmas.List.Sums.{sum_by-cons}
use Rattle.as_base.specs.declared.config.Config.{Config}
use Rattle.as_base.specs.declared.item.Item.{Item}
use Rattle.as_base.specs.declared.item.Item.TheVariants.{Rec, Mark, End, Create, Delete, Bad}
use Rattle.as_base.specs.declared.query.Plan.{Plan}
use Rattle.as_base.specs.Times.{times}
use Rattle.as_base.proofs.TimesLaws.{times-cons}
use Rattle.slot_alloc.specs.Slots.{is_live, live_count}
use Rattle.slot_alloc.proofs.SlotLaws.{least_free-is, live_count-set_on, live_count-set_off, live_count-full}
use Rattle.views.specs.Query.{Query, opened, is_live as is_live_query, closed}
use Rattle.session.specs.declared.session.Seat.{Seat}
use Rattle.session.specs.Acceptance.{changelog_time}
use Rattle.session.specs.Planned.{plan_for}
use Rattle.session.specs.Book.{book, book_from, book_after, has_slot, with_query}
use Rattle.session.specs.Holders.{Holder, queries_of, is_held, slots_of, least_free, with_holder, closed_holder, holders_after, holders_from, holders, slot_of}
use Rattle.session.specs.Seats.{AreSeated}
use Rattle.session.specs.Session.{seat_of}
use Rattle.session.proofs.HistoryLaws.{by_push}
use Rattle.session.proofs.BookLaws.{book-in_order}
use Rattle.session.proofs.SeatLaws.{seat_slots, seat_numbers, seat-more, seat-less, seat-live, filter-one, filter-none, list_any-position, count-number, slot_in}

-- the seats of the holders that live
abbrev pub seats_of : List Holder → List Seat
seats_of hs = flat_map seat_of hs

-- ---- the queries of the holders

queries_of-with : (c : Config) (hs : List Holder) (p : Option Plan) (at : ℕ) → queries_of (with_holder c hs p at) ≡ with_query (queries_of hs) p at
queries_of-with c hs None at = refl
queries_of-with c hs (Some plan) at =
    map-append (λ (h : Holder). h.query) hs _
    ∙ ap (λ n. queries_of hs ++ opened (n + 1) plan at ∷ []) (sym (length-map hs (λ (h : Holder). h.query)))

queries_of-closed : (n at : ℕ) (hs : List Holder) → queries_of (map (closed_holder n at) hs) ≡ map (closed n at) (queries_of hs)
queries_of-closed n at [] = refl
queries_of-closed n at (h ∷ hs) = ap (λ l. closed n at h.query ∷ l) (queries_of-closed n at hs)

holders_after-queries : (c : Config) (before : List Item) (hs : List Holder) (x : Item) → queries_of (holders_after c before hs x) ≡ book_after c before (queries_of hs) x
holders_after-queries c before hs (Create text) = go (has_slot c (queries_of hs))
  where
    go : (b : Bool) → queries_of (cond b (with_holder c hs (result_ok (plan_for c text)) (changelog_time c before)) hs) ≡ cond b (with_query (queries_of hs) (result_ok (plan_for c text)) (changelog_time c before)) (queries_of hs)
    go true = queries_of-with c hs (result_ok (plan_for c text)) (changelog_time c before)
    go false = refl
holders_after-queries c before hs (Delete n) = queries_of-closed n (changelog_time c before) hs
holders_after-queries c before hs (Rec g) = refl
holders_after-queries c before hs (Mark s t) = refl
holders_after-queries c before hs (End s) = refl
holders_after-queries c before hs (Bad cause) = refl

holders_from-queries : (c : Config) (before h : List Item) (hs : List Holder) → queries_of (holders_from c before hs h) ≡ book_from c before (queries_of hs) h
holders_from-queries c before [] hs = refl
holders_from-queries c before (x ∷ h) hs =
    holders_from-queries c (before ++ x ∷ []) h (holders_after c before hs x)
    ∙ ap (λ b. book_from c (before ++ x ∷ []) b h) (holders_after-queries c before hs x)

-- the queries of the holders are the book
pub holders-queries : (c : Config) (h : List Item) → queries_of (holders c h) ≡ book c h
holders-queries c h = holders_from-queries c [] h []

holders_from-push : (c : Config) (before : List Item) (hs : List Holder) (h : List Item) (x : Item) → holders_from c before hs (h ++ x ∷ []) ≡ holders_after c (before ++ h) (holders_from c before hs h) x
holders_from-push c before hs [] x = ap (λ b. holders_after c b hs x) (sym (append-nil before))
holders_from-push c before hs (y ∷ h) x =
    holders_from-push c (before ++ y ∷ []) (holders_after c before hs y) h x
    ∙ ap (λ b. holders_after c b (holders_from c (before ++ y ∷ []) (holders_after c before hs y) h) x) (append_assoc before (y ∷ []) h)

-- one more item does to the holders what it does by all the items before it
pub holders-push : (c : Config) (h : List Item) (x : Item) → holders c (h ++ x ∷ []) ≡ holders_after c h (holders c h) x
holders-push c h x = holders_from-push c [] [] h x

-- ---- seats

pub length-seats : (hs : List Holder) → length (seats_of hs) ≡ count_by (λ (q : Query). q.live) (queries_of hs)
length-seats [] = refl
length-seats (h ∷ hs) = go h.query.live refl (length-seats hs)
  where
    go : (b : Bool) → h.query.live ≡ b → length (seats_of hs) ≡ count_by (λ (q : Query). q.live) (queries_of hs) → length (cond b ((record { n = h.query.n; slot = h.slot }) ∷ []) [] ++ seats_of hs) ≡ count_by (λ (q : Query). q.live) (h.query ∷ queries_of hs)
    go true e rest = let c = sum_by-cons (λ (q : Query). cond q.live 1 0) h.query (queries_of hs) in let t = ap {B = ℕ} (λ b. cond b 1 0) e in omega (arith, c, t, rest)
    go false e rest = let c = sum_by-cons (λ (q : Query). cond q.live 1 0) h.query (queries_of hs) in let t = ap {B = ℕ} (λ b. cond b 1 0) e in omega (arith, c, t, rest)

-- a slot is held just where a seat has it
is_held-seats : (i : ℕ) (hs : List Holder) → is_held hs i ≡ nat_lt 0 (times i (seat_slots (seats_of hs)))
is_held-seats i [] = refl
is_held-seats i (h ∷ hs) = go h.query.live (eqb h.slot i) refl (is_held-seats i hs)
  where
    seat : Seat
    seat = record { n = h.query.n; slot = h.slot }

    go : (l e : Bool) → eqb h.slot i ≡ e → is_held hs i ≡ nat_lt 0 (times i (seat_slots (seats_of hs))) → ((l && e) || is_held hs i) ≡ nat_lt 0 (times i (seat_slots (cond l (seat ∷ []) [] ++ seats_of hs)))
    go true true is rest =
        let c = times-cons i h.slot (seat_slots (seats_of hs)) in let t = ap {B = ℕ} (λ b. cond b 1 0) is in
        sym (lt-ltb 0 (times i (h.slot ∷ seat_slots (seats_of hs))) (omega (arith, c, t)))
    go true false is rest =
        let c = times-cons i h.slot (seat_slots (seats_of hs)) in let t = ap {B = ℕ} (λ b. cond b 1 0) is in
        rest ∙ ap (nat_lt 0) (omega (arith, c, t))
    go false true is rest = rest
    go false false is rest = rest

-- closing takes the seats of the number away
seat-closed : (n at : ℕ) (h : Holder) → seat_of (closed_holder n at h) ≡ filter (λ (s : Seat). not (eqb s.n n)) (seat_of h)
seat-closed n at h = four (eqb h.query.n n) h.query.live h.query.plan h.query.from h.query.to ∙ out h.query.live
  where
    seat : Seat
    seat = record { n = h.query.n; slot = h.slot }

    four : (b l : Bool) (plan : Plan) (from to : ℕ)
        → seat_of (record { query = cond (b && l) (record { n = h.query.n; plan = plan; from = from; to = at; live = false }) (record { n = h.query.n; plan = plan; from = from; to = to; live = l }); slot = h.slot })
        ≡ cond l (cond (not b) (seat ∷ []) []) []
    four true true plan from to = refl
    four true false plan from to = refl
    four false true plan from to = refl
    four false false plan from to = refl

    out : (l : Bool) → cond l (cond (not (eqb h.query.n n)) (seat ∷ []) []) [] ≡ filter (λ (s : Seat). not (eqb s.n n)) (cond l (seat ∷ []) [])
    out true = refl
    out false = refl

pub seats-closed : (n at : ℕ) (hs : List Holder) → seats_of (map (closed_holder n at) hs) ≡ filter (λ (s : Seat). not (eqb s.n n)) (seats_of hs)
seats-closed n at [] = refl
seats-closed n at (h ∷ hs) =
    ap₂ (λ a b. a ++ b) (seat-closed n at h) (seats-closed n at hs)
    ∙ sym (filter-append (λ (s : Seat). not (eqb s.n n)) (seat_of h) (seats_of hs))

pub seats-push : (hs : List Holder) (h : Holder) → seats_of (hs ++ h ∷ []) ≡ seats_of hs ++ seat_of h
seats-push hs h = flat_map-append seat_of hs (h ∷ []) ∙ ap (λ l. seats_of hs ++ l) (append-nil (seat_of h))

-- the live query of a number, by the seats
pub slot_of-seats : (n : ℕ) (hs : List Holder) → slot_of hs n ≡ slot_in n (seats_of hs)
slot_of-seats n [] = refl
slot_of-seats n (h ∷ hs) = go h.query.live (slot_of-seats n hs)
  where
    go : (l : Bool) → slot_of hs n ≡ slot_in n (seats_of hs) → cond (l && eqb h.query.n n) h.slot (slot_of hs n) ≡ slot_in n (cond l ((record { n = h.query.n; slot = h.slot }) ∷ []) [] ++ seats_of hs)
    go true rest = ap (cond (eqb h.query.n n) h.slot) rest
    go false rest = rest

pub lives-seats : (n : ℕ) (hs : List Holder) → list_any (is_live_query n) (queries_of hs) ≡ list_any (λ (s : Seat). eqb s.n n) (seats_of hs)
lives-seats n [] = refl
lives-seats n (h ∷ hs) = go (eqb h.query.n n) h.query.live refl (lives-seats n hs)
  where
    go : (e l : Bool) → eqb h.query.n n ≡ e → list_any (is_live_query n) (queries_of hs) ≡ list_any (λ (s : Seat). eqb s.n n) (seats_of hs)
        → ((e && l) || list_any (is_live_query n) (queries_of hs)) ≡ list_any (λ (s : Seat). eqb s.n n) (cond l ((record { n = h.query.n; slot = h.slot }) ∷ []) [] ++ seats_of hs)
    go true true is rest = sym (ap (λ b. b || list_any (λ (s : Seat). eqb s.n n) (seats_of hs)) is)
    go true false is rest = rest
    go false true is rest = rest ∙ sym (ap (λ b. b || list_any (λ (s : Seat). eqb s.n n) (seats_of hs)) is)
    go false false is rest = rest

-- ---- each number at most once

times-below : (n k m : ℕ) → n < k → times n (range_with_len k m) ≡ 0
times-below n k zero low = refl
times-below n k (suc m) low =
    let c = times-cons n k (range_with_len (k + 1) m) in
    let t = ap {B = ℕ} (λ b. cond b 1 0) (ne_eqb k n (λ h. omega (arith, h, low))) in
    let rest = times-below n (k + 1) m (omega (arith, low)) in
    omega (arith, c, t, rest)

times-range : (n k m : ℕ) → times n (range_with_len k m) ≤ 1
times-range n k zero = omega arith
times-range n k (suc m) = go (eqb k n) refl (times-range n (k + 1) m)
  where
    go : (b : Bool) → eqb k n ≡ b → times n (range_with_len (k + 1) m) ≤ 1 → times n (k ∷ range_with_len (k + 1) m) ≤ 1
    go true is rest =
        let same = eqb-true k n is in
        let c = times-cons n k (range_with_len (k + 1) m) in
        let t = ap {B = ℕ} (λ b. cond b 1 0) is in
        let none = times-below n (k + 1) m (omega (arith, same)) in
        omega (arith, c, t, none)
    go false is rest =
        let c = times-cons n k (range_with_len (k + 1) m) in
        let t = ap {B = ℕ} (λ b. cond b 1 0) is in
        omega (arith, c, t, rest)

times-seats : (n : ℕ) (hs : List Holder) → times n (seat_numbers (seats_of hs)) ≤ times n (map (λ (q : Query). q.n) (queries_of hs))
times-seats n [] = omega arith
times-seats n (h ∷ hs) = go h.query.live (times-seats n hs)
  where
    go : (l : Bool) → times n (seat_numbers (seats_of hs)) ≤ times n (map (λ (q : Query). q.n) (queries_of hs))
        → times n (seat_numbers (cond l ((record { n = h.query.n; slot = h.slot }) ∷ []) [] ++ seats_of hs)) ≤ times n (h.query.n ∷ map (λ (q : Query). q.n) (queries_of hs))
    go true rest =
        let a = times-cons n h.query.n (seat_numbers (seats_of hs)) in
        let b = times-cons n h.query.n (map (λ (q : Query). q.n) (queries_of hs)) in
        omega (arith, a, b, rest)
    go false rest = let b = times-cons n h.query.n (map (λ (q : Query). q.n) (queries_of hs)) in omega (arith, b, rest)

-- one live query at most has a number
pub numbers-once : (c : Config) (h : List Item) (n : ℕ) → count_by (λ (s : Seat). eqb s.n n) (seats_of (holders c h)) ≤ 1
numbers-once c h n =
    let a = count-number n (seats_of (holders c h)) in
    let b = times-seats n (holders c h) in
    let e = ap (λ l. times n (map (λ (q : Query). q.n) l)) (holders-queries c h) ∙ ap (times n) (book-in_order c h) in
    let one = times-range n 1 (length (book c h)) in
    omega (arith, a, b, e, one)

-- ---- the slots that are held are those of the seats

pub length-slots_of : (c : Config) (hs : List Holder) → length (slots_of c hs) ≡ c.slots
length-slots_of c hs = length-map (range_with_len 0 c.slots) (is_held hs) ∙ length-range_with_len 0 c.slots

positive-one : (b : Bool) → nat_lt 0 (cond b 1 0) ≡ b
positive-one true = refl
positive-one false = refl

-- slots that are as the seats say are those that are held
pub slots_of-seated : (c : Config) (hs : List Holder) (slots : List Bool) → length slots ≡ c.slots → AreSeated slots (seats_of hs) → slots ≡ slots_of c hs
slots_of-seated c hs slots long seated =
    ext_get_or false slots (slots_of c hs) (long ∙ sym (length-slots_of c hs)) (λ i within.
    sym (positive-one (is_live slots i))
    ∙ ap (nat_lt 0) (sym (seated i))
    ∙ sym (is_held-seats i hs)
    ∙ sym (get_or-map-range_with_len (is_held hs) 0 c.slots i i false (omega (arith, within, long)) (omega arith)))

-- the slots that are held are those of the seats, one each
pub record Seated (c : Config) (hs : List Holder) : Type 0 where
  pub seated : AreSeated (slots_of c hs) (seats_of hs)
  pub counted : live_count (slots_of c hs) ≡ length (seats_of hs)

-- a query lives with each slot that is held
pub has_slot-seats : (c : Config) (hs : List Holder) → Seated c hs → has_slot c (queries_of hs) ≡ nat_lt (live_count (slots_of c hs)) c.slots
has_slot-seats c hs s = ap (λ n. nat_lt n c.slots) (sym (s.counted ∙ length-seats hs))

-- where a slot is free, the least is
pub free-slot : (c : Config) (hs : List Holder) → Seated c hs → has_slot c (queries_of hs) ≡ true → (least_free c hs < c.slots) × (is_live (slots_of c hs) (least_free c hs) ≡ false)
free-slot c hs s free = go (position (λ on. not on) (slots_of c hs)) refl
  where
    few : live_count (slots_of c hs) < c.slots
    few = ltb-true (live_count (slots_of c hs)) c.slots (sym (has_slot-seats c hs s) ∙ free)

    go : (o : Option ℕ) → position (λ on. not on) (slots_of c hs) ≡ o → (unwrap_or o 0 < c.slots) × (is_live (slots_of c hs) (unwrap_or o 0) ≡ false)
    go None e = absurd (omega (arith, few, live_count-full (slots_of c hs) (sym e), length-slots_of c hs))
    go (Some slot) e = let is = least_free-is (slots_of c hs) slot (sym e) in (let w = is.within in omega (arith, w, length-slots_of c hs), is.free)

-- a query more takes the least free slot
pub slots_of-opened : (c : Config) (hs : List Holder) (plan : Plan) (at : ℕ) → Seated c hs → has_slot c (queries_of hs) ≡ true → set (slots_of c hs) (least_free c hs) true ≡ slots_of c (with_holder c hs (Some plan) at)
slots_of-opened c hs plan at s free =
    let slot = least_free c hs in
    let old = slots_of c hs in
    let is = free-slot c hs s free in
    let holder : Holder = record { query = opened (length hs + 1) plan at; slot = slot } in
    let seat : Seat = record { n = length hs + 1; slot = slot } in
    slots_of-seated c (hs ++ holder ∷ []) (set old slot true) (length-set old slot true ∙ length-slots_of c hs)
    (subst (AreSeated (set old slot true)) (sym (seats-push hs holder)) (seat-more old (seats_of hs) seat s.seated (omega (arith, is.0, length-slots_of c hs)) is.1))

Seated-opened : (c : Config) (hs : List Holder) (p : Option Plan) (at : ℕ) → Seated c hs → has_slot c (queries_of hs) ≡ true → Seated c (with_holder c hs p at)
Seated-opened c hs None at s free = s
Seated-opened c hs (Some plan) at s free =
    let slot = least_free c hs in
    let old = slots_of c hs in
    let is = free-slot c hs s free in
    let holder : Holder = record { query = opened (length hs + 1) plan at; slot = slot } in
    let seat : Seat = record { n = length hs + 1; slot = slot } in
    let within : slot < length old = omega (arith, is.0, length-slots_of c hs) in
    let seats : seats_of (hs ++ holder ∷ []) ≡ seats_of hs ++ seat ∷ [] = seats-push hs holder in
    let same = slots_of-opened c hs plan at s free in
    record {
      seated = subst₂ AreSeated same (sym seats) (seat-more old (seats_of hs) seat s.seated within is.1);
      counted = ap live_count (sym same) ∙ live_count-set_on old slot within is.1 ∙ ap (λ n. n + 1) s.counted ∙ sym (length_push (seats_of hs) seat) ∙ ap length (sym seats);
    }

-- the seats but that of the number, where one lives with it
pub seats-gone : (n at : ℕ) (hs : List Holder) → position_or_len (λ (t : Seat). eqb t.n n) (seats_of hs) < length (seats_of hs) → count_by (λ (s : Seat). eqb s.n n) (seats_of hs) ≤ 1
    → seats_of (map (closed_holder n at) hs) ≡ remove (seats_of hs) (position_or_len (λ (t : Seat). eqb t.n n) (seats_of hs))
seats-gone n at hs within one = seats-closed n at hs ∙ filter-one (λ (t : Seat). eqb t.n n) (seats_of hs) within one

-- a query that is closed leaves its slot
pub slots_of-closed : (c : Config) (hs : List Holder) (n at : ℕ) (d : Seat) → Seated c hs → position_or_len (λ (t : Seat). eqb t.n n) (seats_of hs) < length (seats_of hs) → count_by (λ (s : Seat). eqb s.n n) (seats_of hs) ≤ 1
    → set (slots_of c hs) (get_or (seats_of hs) (position_or_len (λ (t : Seat). eqb t.n n) (seats_of hs)) d).slot false ≡ slots_of c (map (closed_holder n at) hs)
slots_of-closed c hs n at d s within one =
    let i = position_or_len (λ (t : Seat). eqb t.n n) (seats_of hs) in
    let new = set (slots_of c hs) (get_or (seats_of hs) i d).slot false in
    slots_of-seated c (map (closed_holder n at) hs) new (length-set (slots_of c hs) (get_or (seats_of hs) i d).slot false ∙ length-slots_of c hs)
    (subst (AreSeated new) (sym (seats-gone n at hs within one)) (seat-less (slots_of c hs) (seats_of hs) i d s.seated within))

Seated-closed : (c : Config) (hs : List Holder) (n at : ℕ) → Seated c hs → count_by (λ (s : Seat). eqb s.n n) (seats_of hs) ≤ 1 → Seated c (map (closed_holder n at) hs)
Seated-closed c hs n at s one = go (nat_lt i (length seats)) refl
  where
    old : List Bool
    old = slots_of c hs

    seats : List Seat
    seats = seats_of hs

    i : ℕ
    i = position_or_len (λ (t : Seat). eqb t.n n) seats

    new : List Seat
    new = seats_of (map (closed_holder n at) hs)

    from : (slots : List Bool) → slots ≡ slots_of c (map (closed_holder n at) hs) → AreSeated slots new → live_count slots ≡ length new → Seated c (map (closed_holder n at) hs)
    from slots same seated counted = record { seated = subst (λ l. AreSeated l new) same seated; counted = ap live_count (sym same) ∙ counted }

    go : (b : Bool) → nat_lt i (length seats) ≡ b → Seated c (map (closed_holder n at) hs)
    go true is =
        let within = ltb-true i (length seats) is in
        let gone = seats-gone n at hs within one in
        let d : Seat = record { n = 0; slot = 0 } in
        let mine = (get_or seats i d).slot in
        let a = live_count-set_off old mine (seat-live old seats i d s.seated within) in
        let b = s.counted in
        let e = ap length gone in
        let f = length-remove seats i within in
        from (set old mine false) (slots_of-closed c hs n at d s within one) (subst (AreSeated (set old mine false)) (sym gone) (seat-less old seats i d s.seated within)) (omega (arith, a, b, e, f))
    go false is =
        let gone : new ≡ seats = seats-closed n at hs ∙ filter-none (λ (t : Seat). eqb t.n n) seats (list_any-position (λ (t : Seat). eqb t.n n) seats ∙ is) in
        let seated = subst (AreSeated old) (sym gone) s.seated in
        from old (slots_of-seated c (map (closed_holder n at) hs) old (length-slots_of c hs) seated) seated (s.counted ∙ ap length (sym gone))

-- ---- no items

none-held : (n a : ℕ) → map (is_held []) (range_with_len a n) ≡ replicate n false
none-held zero a = refl
none-held (suc n) a = ap (λ l. false ∷ l) (none-held n (a + 1))

-- no slot is held before the first item
pub slots_of-none : (c : Config) → slots_of c [] ≡ replicate c.slots false
slots_of-none c = none-held c.slots 0

free-all : (n i : ℕ) → is_live (replicate n false) i ≡ false
free-all zero i = refl
free-all (suc n) zero = refl
free-all (suc n) (suc i) = free-all n i

-- slots that are all free have no seats
pub AreSeated-none : (n : ℕ) → AreSeated (replicate n false) []
AreSeated-none n i = sym (ap {B = ℕ} (λ b. cond b 1 0) (free-all n i))

pub live_count-none : (n : ℕ) → live_count (replicate n false) ≡ 0
live_count-none zero = refl
live_count-none (suc n) = sum_by-cons (λ on. cond on 1 0) false (replicate n false) ∙ ap (λ m. 0 + m) (live_count-none n)

-- the slots that are held after any items are those of the seats
pub holders-seated : (c : Config) (h : List Item) → Seated c (holders c h)
holders-seated c h = by_push (λ l. Seated c (holders c l)) none more h
  where
    none : Seated c []
    none = record { seated = subst (λ l. AreSeated l []) (sym (slots_of-none c)) (AreSeated-none c.slots); counted = ap live_count (slots_of-none c) ∙ live_count-none c.slots }

    step : (before : List Item) (x : Item) → Seated c (holders c before) → Seated c (holders_after c before (holders c before) x)
    step before (Create text) s = at (has_slot c (queries_of (holders c before))) refl
      where
        at : (b : Bool) → has_slot c (queries_of (holders c before)) ≡ b → Seated c (cond b (with_holder c (holders c before) (result_ok (plan_for c text)) (changelog_time c before)) (holders c before))
        at true free = Seated-opened c (holders c before) (result_ok (plan_for c text)) (changelog_time c before) s free
        at false full = s
    step before (Delete n) s = Seated-closed c (holders c before) n (changelog_time c before) s (numbers-once c before n)
    step before (Rec g) s = s
    step before (Mark r t) s = s
    step before (End r) s = s
    step before (Bad cause) s = s

    more : (before : List Item) (x : Item) → Seated c (holders c before) → Seated c (holders c (before ++ x ∷ []))
    more before x s = subst (Seated c) (sym (holders-push c before x)) (step before x s)

-- as many slots are held as queries live
pub held-live : (c : Config) (h : List Item) → live_count (slots_of c (holders c h)) ≡ count_by (λ (q : Query). q.live) (book c h)
held-live c h = (holders-seated c h).counted ∙ length-seats (holders c h) ∙ ap (count_by (λ (q : Query). q.live)) (holders-queries c h)
