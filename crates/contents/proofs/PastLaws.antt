-- What holds of every past that orderly messages make.
use Rattle.std.proofs.Common.{inl, inr, ◌≡◌, ℕ, ◌≤◌, ◌<◌, ◌^◌, eqb, Bool, true, false, List, [], ◌∷◌, ◌++◌, map, refl, sym, ap, subst, ◌∙◌, arith}
use Rattle.std.proofs.lemmas.Bool.{and_parts, and_from, and_left, or_cases, or_left, or_right, eqb-true, ne_eqb, both_ways}
use Rattle.std.specs.List.{list_any, fold, AllByRecursion}
use Rattle.as_base.specs.declared.item.Record.{Record}
use Rattle.as_base.specs.declared.message.Change.{Change}
use Rattle.as_base.specs.declared.message.Change.TheVariants.{Opened, Closed}
use Rattle.as_base.specs.declared.message.Msg.{Msg}
use Rattle.as_base.specs.declared.message.Msg.TheVariants as msg
use Rattle.as_base.specs.declared.stream.StreamId.{StreamId}
use Rattle.changelog.specs.Changes.{times_of, last_or}
use Rattle.changelog.specs.Orderly.{is_named, MayAllFollow, IsOrderly}
use Rattle.changelog.specs.Orderly as orderly
use Rattle.changelog.proofs.HolderLaws.{AreFine, settled-later, fine-held}
use Rattle.views.specs.IsHolder.{time_of, IsUnended, IsSettled}
use Rattle.views.specs.Query.{Query, closed}
use Rattle.views.specs.Slots.{Holder, opened_holder, closed_holder, held, holders_of}
use Rattle.views.specs.Message.{after}
use Rattle.views.proofs.ListLaws.{All-push, All-by}
use Rattle.views.proofs.NumberLaws.{ended}
use Rattle.views.proofs.SlotLaws.{closed-by, queries-held}
use Rattle.contents.specs.Past.{Past, no_past, followed, view_of}
use Rattle.contents.specs.Orderly.{is_live_in, is_live_as, TimeMayFollow, MayFollow}
use Rattle.contents.specs.IsPast.{NumbersRise, EndsBefore, LiveApart, IsHolder, IsPast, ComesBefore, LowersNoMark}

-- a message makes of a past what it makes of its view
pub view-followed : (p : Past) (m : Msg) → view_of (followed p m) ≡ after (view_of p) m
view-followed p (msg.Rec r) = refl
view-followed p (msg.Advance wm) = refl
view-followed p (msg.Change c) = ap (λ queries. record { queries = queries; records = p.records; marks = p.marks }) (queries-held p.holders c)

-- ---- a closing

IsHolder-closed : (n at : ℕ) (h : Holder) → h.query.from ≤ at → at ≤ 2 ^ 62 → IsHolder h → IsHolder (closed_holder n at h)
IsHolder-closed n at h begun most i =
    closed-by (λ q. IsHolder (record { query = q; slot = h.slot })) n at h.query
    (λ live. record {
      slot = i.slot;
      unended = record { lasts = λ dead. absurd (both_ways false refl dead) };
      forward = begun;
      most = most;
      canonical = i.canonical;
      fits = i.fits;
    })
    i

holders-closed : (n at : ℕ) → at ≤ 2 ^ 62 → (hs : List Holder) → AllByRecursion (λ (h : Holder). h.query.from ≤ at) hs → AllByRecursion IsHolder hs → AllByRecursion IsHolder (map (closed_holder n at) hs)
holders-closed n at most [] b i = tt
holders-closed n at most (h ∷ hs) b i = (IsHolder-closed n at h b.0 most i.0, holders-closed n at most hs b.1 i.1)

-- an end that comes is not after the one that was
ends-closed : (n at : ℕ) (h : Holder) → IsUnended h → at ≤ 2 ^ 62 → (closed n at h.query).to ≤ h.query.to
ends-closed n at h u most = closed-by (λ q. q.to ≤ h.query.to) n at h.query
    (λ live. let end : h.query.to ≡ 2 ^ 62 = u.lasts (and_parts (eqb h.query.n n) h.query.live live).1 in omega (arith, end, most))
    (omega arith)

from-closed : (n at : ℕ) (q : Query) → (closed n at q).from ≡ q.from
from-closed n at q = closed-by (λ r. r.from ≡ q.from) n at q (λ live. refl) refl

before-closed : (n at : ℕ) (g h : Holder) → IsUnended g → at ≤ 2 ^ 62 → EndsBefore g h → EndsBefore (closed_holder n at g) (closed_holder n at h)
before-closed n at g h u most before same =
    let a = before same in
    let b = ends-closed n at g u most in
    let c = from-closed n at h.query in
    omega (arith, a, b, c)

all-before : (n at : ℕ) (g : Holder) → IsUnended g → at ≤ 2 ^ 62 → (hs : List Holder) → AllByRecursion (EndsBefore g) hs → AllByRecursion (EndsBefore (closed_holder n at g)) (map (closed_holder n at) hs)
all-before n at g u most [] a = tt
all-before n at g u most (h ∷ hs) a = (before-closed n at g h u most a.0, all-before n at g u most hs a.1)

apart-closed : (n at : ℕ) → at ≤ 2 ^ 62 → (hs : List Holder) → AllByRecursion IsHolder hs → LiveApart hs → LiveApart (map (closed_holder n at) hs)
apart-closed n at most [] i a = tt
apart-closed n at most (h ∷ hs) i a = (all-before n at h (i.0).unended most hs a.0, apart-closed n at most hs i.1 a.1)

-- ---- an opening

-- a holder that does not live in the slot ended before the slot is opened
ended-before : (g : Holder) (slot : ℕ) (h : Holder) → h.slot ≡ slot → (g.slot ≡ slot → g.query.live ≡ false) → (g.query.live ≡ false → g.query.to ≤ h.query.from) → EndsBefore g h
ended-before g slot h is free ended same = ended (free (same ∙ is))

apart-push : (hs : List Holder) (h : Holder) → AllByRecursion (λ g. EndsBefore g h) hs → LiveApart hs → LiveApart (hs ++ h ∷ [])
apart-push [] h b a = (tt, tt)
apart-push (g ∷ hs) h b a = (All-push (EndsBefore g) hs h a.0 b.0, apart-push hs h b.1 a.1)

ends-before : (slot : ℕ) (h : Holder) → h.slot ≡ slot → (hs : List Holder) → AllByRecursion (λ (g : Holder). g.slot ≡ slot → g.query.live ≡ false) hs
    → AllByRecursion (λ (g : Holder). g.query.live ≡ false → g.query.to ≤ h.query.from) hs → AllByRecursion (λ g. EndsBefore g h) hs
ends-before slot h is [] free ended = tt
ends-before slot h is (g ∷ hs) free ended = (ended-before g slot h is free.0 ended.0, ends-before slot h is hs free.1 ended.1)

-- ---- numbers

numbered-push : (hs : List Holder) (h : Holder) → AllByRecursion (λ (g : Holder). g.query.n < h.query.n) hs → NumbersRise hs → NumbersRise (hs ++ h ∷ [])
numbered-push [] h below r = (tt, tt)
numbered-push (g ∷ hs) h below r = (All-push (λ (k : Holder). g.query.n < k.query.n) hs h r.0 below.0, numbered-push hs h below.1 r.1)

pub number-closed : (n at : ℕ) (q : Query) → (closed n at q).n ≡ q.n
number-closed n at q = closed-by (λ r. r.n ≡ q.n) n at q (λ live. refl) refl

numbered-closed : (n at : ℕ) (hs : List Holder) → NumbersRise hs → NumbersRise (map (closed_holder n at) hs)
numbered-closed n at [] r = tt
numbered-closed n at (h ∷ hs) r = (all hs r.0, numbered-closed n at hs r.1)
  where
    all : (gs : List Holder) → AllByRecursion (λ (g : Holder). h.query.n < g.query.n) gs → AllByRecursion (λ (g : Holder). (closed n at h.query).n < g.query.n) (map (closed_holder n at) gs)
    all [] a = tt
    all (g ∷ gs) a = ((let x = a.0 in let y = number-closed n at h.query in let z = number-closed n at g.query in omega (arith, x, y, z)), all gs a.1)

-- ---- changes, one by one

held-push : (hs : List Holder) (cs : List Change) (c : Change) → fold held hs (cs ++ c ∷ []) ≡ held (fold held hs cs) c
held-push hs [] c = refl
held-push hs (d ∷ cs) c = held-push (held hs d) cs c

made-push : (p : Past) (c : Change) → p.holders ≡ holders_of p.changes → held p.holders c ≡ holders_of (p.changes ++ c ∷ [])
made-push p c made = ap (λ hs. held hs c) made ∙ sym (held-push [] p.changes c)

-- the time of the last change is not after a time that none is after
pub last-below : (before at : ℕ) (cs : List Change) → before ≤ at → AllByRecursion (λ (c : Change). time_of c ≤ at) cs → last_or before (times_of cs) ≤ at
last-below before at [] low a = low
last-below before at (c ∷ cs) low a = last-below (time_of c) at cs a.0 a.1

follow-push : (last : ℕ) (hs : List Holder) (cs : List Change) (c : Change) → MayAllFollow last hs cs → orderly.MayFollow (last_or last (times_of cs)) (fold held hs cs) c → MayAllFollow last hs (cs ++ c ∷ [])
follow-push last hs [] c all may = (may, tt)
follow-push last hs (d ∷ cs) c all may = (all.0, follow-push (time_of d) (held hs d) cs c all.1 may)

fine-from : (last : ℕ) (hs : List Holder) (cs : List Change) → AreFine last hs → MayAllFollow last hs cs → AreFine (last_or last (times_of cs)) (fold held hs cs)
fine-from last hs [] fine all = fine
fine-from last hs (c ∷ cs) fine all = fine-from (time_of c) (held hs c) cs (fine-held last hs c fine all.0) all.1

-- where no change is after a time, all that was to come to the holders came by then
settled-by : (p : Past) → IsPast p → (at : ℕ) → AllByRecursion (λ (c : Change). time_of c ≤ at) p.changes → AllByRecursion (IsSettled at) p.holders
settled-by p i at a =
    let fine = fine-from 0 [] p.changes (record { settled = tt; alone = tt }) i.orderly in
    subst (AllByRecursion (IsSettled at)) (sym i.made)
    (settled-later (last_or 0 (times_of p.changes)) at (holders_of p.changes) (last-below 0 at p.changes (omega arith) a) fine.settled)

orderly-more : (p : Past) (c : Change) → IsPast p → TimeMayFollow p (time_of c) → orderly.MayFollow (last_or 0 (times_of p.changes)) p.holders c → IsOrderly (p.changes ++ c ∷ [])
orderly-more p c i time may = follow-push 0 [] p.changes c i.orderly (subst (λ hs. orderly.MayFollow (last_or 0 (times_of p.changes)) hs c) i.made may)

live-named : (n slot : ℕ) (hs : List Holder) → list_any (is_live_as n slot) hs ≡ true → list_any (is_named n) hs ≡ true
live-named n slot [] e = e
live-named n slot (h ∷ hs) e = elim (or_cases (is_live_as n slot h) (list_any (is_live_as n slot) hs) e) [
  | inl f ↦ or_left (is_named n h) (list_any (is_named n) hs) (let a = and_parts (eqb h.query.n n) (is_live_in slot h) f in let b = and_parts (eqb h.slot slot) h.query.live a.1 in and_from (eqb h.query.n n) h.query.live a.0 b.1)
  | inr f ↦ or_right (is_named n h) (list_any (is_named n) hs) (live-named n slot hs f)
]

pub slot-within : (n slot : ℕ) (hs : List Holder) → AllByRecursion IsHolder hs → list_any (is_live_as n slot) hs ≡ true → slot < 512
slot-within n slot [] i e = absurd (both_ways false refl e)
slot-within n slot (h ∷ hs) i e = elim (or_cases (is_live_as n slot h) (list_any (is_live_as n slot) hs) e) [
  | inl f ↦ (let a = and_parts (eqb h.query.n n) (is_live_in slot h) f in let b = and_parts (eqb h.slot slot) h.query.live a.1 in subst (λ s. s < 512) (eqb-true h.slot slot b.0) (i.0).slot)
  | inr f ↦ slot-within n slot hs i.1 f
]

-- numbers above it are not it
none-named : (n : ℕ) (h : Holder) (hs : List Holder) → h.query.n ≡ n → AllByRecursion (λ (g : Holder). h.query.n < g.query.n) hs → AllByRecursion (λ (g : Holder). is_named n g ≡ false) hs
none-named n h [] e a = tt
none-named n h (g ∷ hs) e a = (
  and_left (eqb g.query.n n) g.query.live (ne_eqb g.query.n n (λ f. (let l = a.0 in omega (arith, l, e, f)))),
  none-named n h hs e a.1,
)

none-live : (n slot : ℕ) (hs : List Holder) → AllByRecursion (λ (g : Holder). is_named n g ≡ false) hs → list_any (is_live_as n slot) hs ≡ true → ⊥
none-live n slot (g ∷ hs) a e = elim (or_cases (is_live_as n slot g) (list_any (is_live_as n slot) hs) e) [
  | inl f ↦ (let b = and_parts (eqb g.query.n n) (is_live_in slot g) f in let c = and_parts (eqb g.slot slot) g.query.live b.1 in both_ways (is_named n g) a.0 (and_from (eqb g.query.n n) g.query.live b.0 c.1))
  | inr f ↦ none-live n slot hs a.1 f
]
none-live n slot [] a e = both_ways false refl e

-- where numbers rise, all that live under a number have its slot
named-alone : (n slot : ℕ) (hs : List Holder) → NumbersRise hs → list_any (is_live_as n slot) hs ≡ true → AllByRecursion (λ (h : Holder). is_named n h ≡ true → h.slot ≡ slot) hs
named-alone n slot [] r e = tt
named-alone n slot (h ∷ hs) r e = elim (or_cases (is_live_as n slot h) (list_any (is_live_as n slot) hs) e) [
  | inl f ↦ (let a = and_parts (eqb h.query.n n) (is_live_in slot h) f in let b = and_parts (eqb h.slot slot) h.query.live a.1 in
      ((λ named. eqb-true h.slot slot b.0), All-by (λ (g : Holder). is_named n g ≡ false) (λ (g : Holder). is_named n g ≡ true → g.slot ≡ slot) (λ g not named. absurd (both_ways (is_named n g) not named)) hs (none-named n h hs (eqb-true h.query.n n a.0) r.0)))
  | inr f ↦ ((λ named. absurd (none-live n slot hs (none-named n h hs (eqb-true h.query.n n (and_parts (eqb h.query.n n) h.query.live named).0) r.0) f)), named-alone n slot hs r.1 f)
]

-- ---- all messages

pub IsPast-first : IsPast no_past
IsPast-first = record { made = refl; orderly = tt; holders = tt; numbered = tt; apart = tt; timed = tt }

pub IsPast-after : (is_there : StreamId → Bool) (p : Past) (m : Msg) → IsPast p → MayFollow is_there p m → IsPast (followed p m)
IsPast-after is_there p (msg.Rec r) i f = record {
  made = i.made;
  orderly = i.orderly;
  holders = i.holders;
  numbered = i.numbered;
  apart = i.apart;
  timed = All-push (λ (r : Record). r.given.time < 2 ^ 62) p.records r i.timed f.time;
}
IsPast-after is_there p (msg.Advance wm) i f = record { made = i.made; orderly = i.orderly; holders = i.holders; numbered = i.numbered; apart = i.apart; timed = i.timed }
IsPast-after is_there p (msg.Change (Opened n slot at plan)) i f =
    let h : Holder = opened_holder n slot at plan in
    let c : Change = Opened n slot at plan in
    let time = f.0 in
    let settled = settled-by p i at time.changes in
    record {
      made = made-push p c i.made;
      orderly = orderly-more p c i time (record {
        time = last-below 0 at p.changes (omega arith) time.changes;
        most = time.most;
        within = f.1;
        suits = f.2;
      });
      holders = All-push IsHolder p.holders h i.holders (record {
        slot = f.1;
        unended = record { lasts = λ live. refl };
        forward = time.most;
        most = omega arith;
        canonical = (f.4).canonical;
        fits = (f.4).fits;
      });
      numbered = numbered-push p.holders h f.3 i.numbered;
      apart = apart-push p.holders h (ends-before slot h refl p.holders f.2 (All-by (IsSettled at) (λ (g : Holder). g.query.live ≡ false → g.query.to ≤ at) (λ g s. s.ends) p.holders settled)) i.apart;
      timed = i.timed;
    }
IsPast-after is_there p (msg.Change (Closed n slot at)) i f =
    let c : Change = Closed n slot at in
    let time = f.0 in
    let settled = settled-by p i at time.changes in
    record {
      made = made-push p c i.made;
      orderly = orderly-more p c i time (record {
        time = last-below 0 at p.changes (omega arith) time.changes;
        most = time.most;
        within = slot-within n slot p.holders i.holders f.1;
        suits = record { one = live-named n slot p.holders f.1; each = named-alone n slot p.holders i.numbered f.1 };
      });
      holders = holders-closed n at time.most p.holders (All-by (IsSettled at) (λ (g : Holder). g.query.from ≤ at) (λ g s. s.begins) p.holders settled) i.holders;
      numbered = numbered-closed n at p.holders i.numbered;
      apart = apart-closed n at time.most p.holders i.holders i.apart;
      timed = i.timed;
    }

-- a message that may follow lowers no watermark
pub lowers-none : (is_there : StreamId → Bool) (p : Past) (m : Msg) → MayFollow is_there p m → LowersNoMark p m
lowers-none is_there p (msg.Rec r) f = tt
lowers-none is_there p (msg.Advance wm) f = f.up
lowers-none is_there p (msg.Change (Opened n slot at plan)) f = (f.0).most
lowers-none is_there p (msg.Change (Closed n slot at)) f = (f.0).most

-- and comes after each record
pub all-before-it : (is_there : StreamId → Bool) (p : Past) (m : Msg) → MayFollow is_there p m → AllByRecursion (ComesBefore m) p.records
all-before-it is_there p (msg.Rec r) f = every p.records
  where
    every : (rs : List Record) → AllByRecursion (λ (r : Record). Unit {0}) rs
    every [] = tt
    every (r ∷ rs) = (tt, every rs)
all-before-it is_there p (msg.Advance wm) f = every p.records
  where
    every : (rs : List Record) → AllByRecursion (λ (r : Record). Unit {0}) rs
    every [] = tt
    every (r ∷ rs) = (tt, every rs)
all-before-it is_there p (msg.Change (Opened n slot at plan)) f = (f.0).records
all-before-it is_there p (msg.Change (Closed n slot at)) f = (f.0).records

-- the holders of a past that live have no end
pub unended-all : (p : Past) → IsPast p → AllByRecursion IsUnended p.holders
unended-all p i = All-by IsHolder IsUnended (λ h s. s.unended) p.holders i.holders

-- when a change may come
pub change-after : (is_there : StreamId → Bool) (p : Past) (c : Change) → MayFollow is_there p (msg.Change c) → TimeMayFollow p (time_of c)
change-after is_there p (Opened n slot at plan) f = f.0
change-after is_there p (Closed n slot at) f = f.0
