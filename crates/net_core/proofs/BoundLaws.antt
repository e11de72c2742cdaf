-- The numbers of each part stay within their bounds, whatever events come.
use Rattle.std.proofs.Common.{◌≡◌, ℕ, ◌+◌, ◌-◌, ◌≤◌, ◌<◌, eqb, nat_lt, ◌⊎◌, inl, inr, ⊎_elim, Bool, true, false, true≢false, cond, Option, Some, None, is_none, zero, suc, List, [], ◌∷◌, length, take, get_or, set, replicate, count_by, refl, sym, ap, subst, ◌∙◌, length-append, length-set, arith}
use Rattle.std.specs.List.{find, range_with_len, AllByRecursion}
use Rattle.std.proofs.lemmas.Bool.{cases_lt, eqb-true, eqb-false, ltb-false}
use Rattle.std.proofs.lemmas.List.{length-replicate, get_or-replicate, get_or-set_same, get_or-set_other, take-append-le}
use Rattle.std.proofs.lemmas.List.Sums.{sum_by-cons}
use Rattle.as_base.specs.declared.config.Config.{Config}
use Rattle.as_base.specs.declared.item.Item.{Item}
use Rattle.as_base.specs.declared.item.Item.TheVariants.{Rec, Mark, End, Create, Delete, Bad}
use Rattle.as_base.specs.declared.message.Msg.{Msg}
use Rattle.as_base.specs.declared.message.Msg.TheVariants as msg
use Rattle.key_partition.specs.Part.{part_of}
use Rattle.session.specs.Book.{accepts}
use Rattle.session.specs.Message.{message_of, message}
use Rattle.net_core.specs.Bounds.{IsPlaced, IsWithin}
use Rattle.net_core.specs.Machine.{Event, Position, TurnOutcome, Reach, start, sent_to, taken_by, is_advance, replies_of, gathered_of, least, settled, is_full, blocker, after_arrival, turn_of, after_turn, reach, with_reply, after_gathering, next, run}
use Rattle.net_core.specs.Machine.Event.{Arrive, Turn, Gather}
use Rattle.net_core.specs.Machine.TurnOutcome.{Idle, BackFull, Did}
use Rattle.net_core.specs.Machine.Reach.{NoReply, Early, Next}
use Rattle.net_core.specs.Sent.{is_for, addressed, sent_by, sent}
use Rattle.net_core.proofs.SentLaws.{sent-push}

-- each part has its two numbers, within their bounds
record AreWithin (c : Config) (z : Position) : Type 0 where
  pub seats : length z.taken ≡ c.parts
  pub backs : length z.gathered ≡ c.parts
  pub each : (p : ℕ) → p < c.parts → IsWithin c z p

-- ---- numbers

-- one message more is at most one advance more
count-more : (n : ℕ) (ms : List Msg) → (count_by is_advance (take n ms) ≤ count_by is_advance (take (suc n) ms)) × (count_by is_advance (take (suc n) ms) ≤ count_by is_advance (take n ms) + 1)
count-more zero [] = (omega arith, omega arith)
count-more (suc n) [] = (omega arith, omega arith)
count-more zero (m ∷ ms) = go (is_advance m)
  where
    go : (b : Bool) → (0 ≤ 0 + cond b 1 0) × (0 + cond b 1 0 ≤ 0 + 1)
    go true = (omega arith, omega arith)
    go false = (omega arith, omega arith)
count-more (suc n) (m ∷ ms) =
    let rest = count-more n ms in
    let low = rest.0 in
    let high = rest.1 in
    let a = sum_by-cons (λ x. cond (is_advance x) 1 0) m (take n ms) in
    let b = sum_by-cons (λ x. cond (is_advance x) 1 0) m (take (suc n) ms) in (
      omega (arith, a, b, low),
      omega (arith, a, b, high),
    )

-- the least is not above any, and does not fall where no number does
least-below : (ns : List ℕ) (p : ℕ) → p < length ns → least ns ≤ get_or ns p 0
least-below [] p within = absurd (omega (arith, within))
least-below (n ∷ []) zero within = omega arith
least-below (n ∷ []) (suc p) within = absurd (omega (arith, within))
least-below (n ∷ m ∷ ns) zero within = omega arith
least-below (n ∷ m ∷ ns) (suc p) within = let rest = least-below (m ∷ ns) p (omega (arith, within)) in omega (arith, rest)

least-set : (ns : List ℕ) (p k : ℕ) → p < length ns → get_or ns p 0 ≤ k → least ns ≤ least (set ns p k)
least-set [] p k within up = absurd (omega (arith, within))
least-set (n ∷ []) zero k within up = up
least-set (n ∷ []) (suc p) k within up = absurd (omega (arith, within))
least-set (n ∷ m ∷ ns) zero k within up = omega (arith, up)
least-set (n ∷ m ∷ ns) (suc zero) k within up = let rest = least-set (m ∷ ns) zero k (omega (arith, within)) up in omega (arith, rest)
least-set (n ∷ m ∷ ns) (suc (suc p)) k within up = let rest = least-set (m ∷ ns) (suc p) k (omega (arith, within)) up in omega (arith, rest)

-- of two numbers, the first not above the second, the first is below it where they differ
below : (a b : ℕ) → a ≤ b → eqb a b ≡ false → a < b
below a b low apart = elim (cases_lt a b) [ inl less ↦ less | inr more ↦ absurd (eqb-false a b apart (omega (arith, low, more))) ]

-- ---- arrivals

find-range : (f : ℕ → Bool) (a n p : ℕ) → find f (range_with_len a n) ≡ None → a ≤ p → p < a + n → f p ≡ false
find-range f a zero p e low high = absurd (omega (arith, low, high))
find-range f a (suc n) p e low high = go (f a) refl e (λ none later. find-range f (a + 1) n p none (omega (arith, later)) (omega (arith, high)))
  where
    go : (b : Bool) → f a ≡ b → cond b (Some a) (find f (range_with_len (a + 1) n)) ≡ None → (find f (range_with_len (a + 1) n) ≡ None → a < p → f p ≡ false) → f p ≡ false
    go true is e rest = absurd (true≢false (sym (ap is_none e)))
    go false is e rest = elim (cases_lt a p) [ inl later ↦ rest e later | inr here ↦ subst (λ n. f n ≡ false) (omega (arith, low, here)) is ]

-- a part that the item may go to has room for a message; no other is sent one
room-or-none : (c : Config) (z : Position) (x : Item) (p : ℕ) → p < c.parts → blocker c z x ≡ None → (length (sent_by c z.items x p) ≡ 0) ⊎ (is_full c z p ≡ false)
room-or-none c z (Rec g) p within e = go (eqb (part_of g.key c.parts) p) refl (first (is_full c z (part_of g.key c.parts)) e)
  where
    first : (b : Bool) → cond b (Some (part_of g.key c.parts)) None ≡ None → b ≡ false
    first true e = absurd (true≢false (sym (ap is_none e)))
    first false e = refl

    other : (b d : Bool) → d ≡ false → length (addressed c p (cond b (message_of c z.items (Rec g)) None)) ≡ length (cond b (cond d (msg.Rec (record { seq = length z.items + 1; given = g }) ∷ []) []) []) → length (addressed c p (cond b (message_of c z.items (Rec g)) None)) ≡ 0
    other true true off same = absurd (true≢false off)
    other true false off same = same
    other false d off same = refl

    these : (b : Bool) → length (addressed c p (cond b (message_of c z.items (Rec g)) None)) ≡ length (cond b (cond (eqb (part_of g.key c.parts) p) (msg.Rec (record { seq = length z.items + 1; given = g }) ∷ []) []) [])
    these true = refl
    these false = refl

    go : (b : Bool) → eqb (part_of g.key c.parts) p ≡ b → is_full c z (part_of g.key c.parts) ≡ false → (length (sent_by c z.items (Rec g) p) ≡ 0) ⊎ (is_full c z p ≡ false)
    go true is f = inr (subst (λ n. is_full c z n ≡ false) (eqb-true (part_of g.key c.parts) p is) f)
    go false is f = inl (other (accepts c z.items (Rec g)) (eqb (part_of g.key c.parts) p) is (these (accepts c z.items (Rec g))))
room-or-none c z (Mark s t) p within e = inr (find-range (is_full c z) 0 c.parts p e (omega arith) (omega (arith, within)))
room-or-none c z (End s) p within e = inr (find-range (is_full c z) 0 c.parts p e (omega arith) (omega (arith, within)))
room-or-none c z (Create text) p within e = inr (find-range (is_full c z) 0 c.parts p e (omega arith) (omega (arith, within)))
room-or-none c z (Delete n) p within e = inr (find-range (is_full c z) 0 c.parts p e (omega arith) (omega (arith, within)))
room-or-none c z (Bad cause) p within e = inl refl

addressed-few : (c : Config) (p : ℕ) (o : Option Msg) → length (addressed c p o) ≤ 1
addressed-few c p None = omega arith
addressed-few c p (Some m) = go (is_for c p m)
  where
    go : (b : Bool) → length (cond b (m ∷ []) []) ≤ 1
    go true = omega arith
    go false = omega arith

arrival-within : (c : Config) (z : Position) (x : Item) (o : Option ℕ) → blocker c z x ≡ o → AreWithin c z → AreWithin c (after_arrival z x o)
arrival-within c z x (Some q) e t = t
arrival-within c z x None e t = record { seats = t.seats; backs = t.backs; each = one }
  where
    one : (p : ℕ) → p < c.parts → IsWithin c (after_arrival z x None) p
    one p within =
        let w = t.each p within in
        let taken = w.taken in
        let lane = w.lane in
        let long = ap length (sent-push c z.items x p) ∙ length-append (sent c z.items p) (sent_by c z.items x p) in
        let few = addressed-few c p (message c z.items x) in
        let same : replies_of c (after_arrival z x None) p ≡ replies_of c z p =
        ap (λ ms. count_by is_advance (take (taken_by z p) ms)) (sent-push c z.items x p)
        ∙ ap (count_by is_advance) (take-append-le (taken_by z p) (sent c z.items p) (sent_by c z.items x p) taken) in
        record {
          taken = omega (arith, taken, long);
          lane = ⊎_elim (λ quiet. omega (arith, lane, long, quiet))
              (λ free. let less = below (sent_to c z p - taken_by z p) c.lane (omega (arith, taken, lane)) free in omega (arith, taken, long, few, less))
              (room-or-none c z x p within e);
          gathered = let g = w.gathered in omega (arith, g, same);
          back = let g = w.back in omega (arith, g, same);
          ahead = w.ahead;
        }

-- ---- turns

did : (a b : Bool) → cond a Idle (cond b BackFull Did) ≡ Did → (a ≡ false) × (b ≡ false)
did true b e = absurd (cc e)
did false true e = absurd (cc e)
did false false e = (refl, refl)

turn-within : (c : Config) (z : Position) (q : ℕ) (o : TurnOutcome) → turn_of c z q ≡ o → AreWithin c z → AreWithin c (after_turn z q o)
turn-within c z q Idle e t = t
turn-within c z q BackFull e t = t
turn-within c z q Did e t = record { seats = length-set z.taken q (taken_by z q + 1) ∙ t.seats; backs = t.backs; each = one }
  where
    free : (eqb (taken_by z q) (sent_to c z q) ≡ false) × (eqb (replies_of c z q - gathered_of z q) c.lane ≡ false)
    free = did (eqb (taken_by z q) (sent_to c z q)) (eqb (replies_of c z q - gathered_of z q) c.lane) e

    here : q < c.parts → IsWithin c (after_turn z q Did) q
    here within =
        let w = t.each q within in
        let taken = w.taken in
        let lane = w.lane in
        let gathered = w.gathered in
        let back = w.back in
        let now : taken_by (after_turn z q Did) q ≡ suc (taken_by z q) = get_or-set_same z.taken q (taken_by z q + 1) 0 (let s = t.seats in omega (arith, s, within)) ∙ omega arith in
        let made : replies_of c (after_turn z q Did) q ≡ count_by is_advance (take (suc (taken_by z q)) (sent c z.items q)) = ap (λ n. count_by is_advance (take n (sent c z.items q))) now in
        let more = count-more (taken_by z q) (sent c z.items q) in
        let low = more.0 in
        let high = more.1 in
        let less = below (taken_by z q) (sent_to c z q) taken free.0 in
        let room = below (replies_of c z q - gathered_of z q) c.lane (omega (arith, gathered, back)) free.1 in
        record {
          taken = omega (arith, now, less);
          lane = omega (arith, now, lane);
          gathered = omega (arith, made, gathered, low);
          back = omega (arith, made, gathered, high, room);
          ahead = w.ahead;
        }

    other : (p : ℕ) → p < c.parts → eqb p q ≡ false → IsWithin c (after_turn z q Did) p
    other p within apart =
        let w = t.each p within in
        let now : taken_by (after_turn z q Did) p ≡ taken_by z p = get_or-set_other z.taken q p (taken_by z q + 1) 0 (eqb-false p q apart) in
        let made : replies_of c (after_turn z q Did) p ≡ replies_of c z p = ap (λ n. count_by is_advance (take n (sent c z.items p))) now in
        record {
          taken = let a = w.taken in omega (arith, now, a);
          lane = let a = w.lane in omega (arith, now, a);
          gathered = let a = w.gathered in omega (arith, made, a);
          back = let a = w.back in omega (arith, made, a);
          ahead = w.ahead;
        }

    one : (p : ℕ) → p < c.parts → IsWithin c (after_turn z q Did) p
    one p within = go (eqb p q) refl
      where
        go : (b : Bool) → eqb p q ≡ b → IsWithin c (after_turn z q Did) p
        go true is = subst (λ n. IsWithin c (after_turn z q Did) n) (sym (eqb-true p q is)) (here (subst (λ n. n < c.parts) (eqb-true p q is) within))
        go false is = other p within is

-- ---- gatherings

reached : (a b : Bool) → cond a NoReply (cond b Early Next) ≡ Next → (a ≡ false) × (b ≡ false)
reached true b e = absurd (cc e)
reached false true e = absurd (cc e)
reached false false e = (refl, refl)

gathering-within : (c : Config) (z : Position) (q : ℕ) (o : Reach) → reach c z q ≡ o → q < c.parts → AreWithin c z → AreWithin c (after_gathering z q o)
gathering-within c z q NoReply e place t = t
gathering-within c z q Early e place t = t
gathering-within c z q Next e place t = record { seats = t.seats; backs = length-set z.gathered q (gathered_of z q + 1) ∙ t.backs; each = one }
  where
    free : (eqb (replies_of c z q) (gathered_of z q) ≡ false) × (nat_lt (settled z) (gathered_of z q) ≡ false)
    free = reached (eqb (replies_of c z q) (gathered_of z q)) (nat_lt (settled z) (gathered_of z q)) e

    seat : q < length z.gathered
    seat = let s = t.backs in omega (arith, s, place)

    up : settled z ≤ settled (with_reply z q)
    up = least-set z.gathered q (gathered_of z q + 1) seat (omega arith)

    here : IsWithin c (with_reply z q) q
    here =
        let w = t.each q place in
        let now : gathered_of (with_reply z q) q ≡ gathered_of z q + 1 = get_or-set_same z.gathered q (gathered_of z q + 1) 0 seat in
        let gathered = w.gathered in
        let back = w.back in
        let rises = up in
        let late = ltb-false (settled z) (gathered_of z q) free.1 in
        let more : gathered_of z q < replies_of c z q = elim (cases_lt (gathered_of z q) (replies_of c z q)) [ inl less ↦ less | inr over ↦ absurd (eqb-false (replies_of c z q) (gathered_of z q) free.0 (omega (arith, gathered, over))) ] in
        record {
          taken = w.taken;
          lane = w.lane;
          gathered = omega (arith, now, more);
          back = omega (arith, now, back);
          ahead = omega (arith, now, late, rises);
        }

    other : (p : ℕ) → p < c.parts → eqb p q ≡ false → IsWithin c (with_reply z q) p
    other p within apart =
        let w = t.each p within in
        let now : gathered_of (with_reply z q) p ≡ gathered_of z p = get_or-set_other z.gathered q p (gathered_of z q + 1) 0 (eqb-false p q apart) in
        let rises = up in
        record {
          taken = w.taken;
          lane = w.lane;
          gathered = let a = w.gathered in omega (arith, now, a);
          back = let a = w.back in omega (arith, now, a);
          ahead = let a = w.ahead in omega (arith, now, a, rises);
        }

    one : (p : ℕ) → p < c.parts → IsWithin c (with_reply z q) p
    one p within = go (eqb p q) refl
      where
        go : (b : Bool) → eqb p q ≡ b → IsWithin c (with_reply z q) p
        go true is = subst (λ n. IsWithin c (with_reply z q) n) (sym (eqb-true p q is)) here
        go false is = other p within is

-- ---- schedules

start-within : (c : Config) → AreWithin c (start c)
start-within c = record { seats = length-replicate c.parts 0; backs = length-replicate c.parts 0; each = one }
  where
    one : (p : ℕ) → p < c.parts → IsWithin c (start c) p
    one p within =
        let none : ◌≡◌ {A = ℕ} (get_or (replicate c.parts 0) p 0) 0 = get_or-replicate c.parts p 0 0 within in
        let made : replies_of c (start c) p ≡ 0 = ap (λ n. count_by is_advance (take n [])) none in
        record {
          taken = omega (arith, none);
          lane = omega arith;
          gathered = omega (arith, none);
          back = omega (arith, made);
          ahead = omega (arith, none);
        }

next-within : (c : Config) (z : Position) (e : Event) → IsPlaced c e → AreWithin c z → AreWithin c (next c z e)
next-within c z (Arrive x) place t = arrival-within c z x (blocker c z x) refl t
next-within c z (Turn q) place t = turn-within c z q (turn_of c z q) refl t
next-within c z (Gather q) place t = gathering-within c z q (reach c z q) refl place t

run-within : (c : Config) (z : Position) (events : List Event) → AllByRecursion (IsPlaced c) events → AreWithin c z → AreWithin c (run c z events)
run-within c z [] places t = t
run-within c z (e ∷ events) places t = run-within c (next c z e) events places.1 (next-within c z e places.0 t)

-- each part is within its bounds at every position
pub positions-within : (c : Config) (events : List Event) (p : ℕ) → AllByRecursion (IsPlaced c) events → p < c.parts → IsWithin c (run c (start c) events) p
positions-within c events p places within = (run-within c (start c) events places (start-within c)).each p within
