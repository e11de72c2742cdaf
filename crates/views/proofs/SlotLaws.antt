-- Who owns a slot and which records it has: what a change leaves of that, and where the owner is the live query.
use Rattle.std.proofs.Common.{◌≡◌, ℕ, ◌^◌, ◌<◌, ◌&&◌, nat_lt, nat_le, eqb, Bool, true, false, cond, Option, Some, List, [], ◌∷◌, ◌++◌, map}
use Rattle.std.proofs.Common.{refl, sym, ap, subst, ◌∙◌}
use Rattle.std.proofs.lemmas.Bool.{and_parts, and_left, and_right, both_ways, lt-ltb, le-ltb, lt-leb, le-leb, eq-eqb, eqb-true}
use Rattle.std.specs.List.{find, range_with_len, AllByRecursion}
use Rattle.as_base.specs.declared.item.Record.{Record}
use Rattle.as_base.specs.declared.message.Change.{Change}
use Rattle.as_base.specs.declared.message.Change.TheVariants.{Opened, Closed}
use Rattle.as_base.specs.Stream.{place_of}
use Rattle.as_base.specs.Query.{holds_all}
use Rattle.views.specs.Query.{Query, is_live, closed}
use Rattle.views.specs.Message.{changed}
use Rattle.views.specs.View.{reads, bounds_for, is_mine}
use Rattle.views.specs.Slots.{Holder, opened_holder, closed_holder, held, queries_of, lives_at, has_slot, owner, has_mine, set_of}
use Rattle.views.specs.IsHolder.{time_of, begun, live_holder, IsUnended, IsSettled, AreNotBothLive, LiveAlone, IsAmong}
use Rattle.views.proofs.ListLaws.{All-push}
use Rattle.views.proofs.NumberLaws.{ended}

-- ---- a query that is closed

-- what holds of a query as it is, and of it ended where it lives, holds of it closed
pub closed-by : (P : Query → Type 0) (n at : ℕ) (q : Query) → (is_live n q ≡ true → P (ended at q)) → P q → P (closed n at q)
closed-by P n at q dead same = go (is_live n q) refl
  where
    go : (b : Bool) → is_live n q ≡ b → P (cond b (ended at q) q)
    go true e = dead e
    go false e = same

-- a live query ends after t
pub still-lives : (n t : ℕ) (h : Holder) → IsUnended h → t < 2 ^ 62 → is_live n h.query ≡ true → t < h.query.to
still-lives n t h u low live = subst (λ end. t < end) (sym (u.lasts (and_parts (eqb h.query.n n) h.query.live live).1)) low

-- and has the same life up to t if it ends at another time after t
pub lives-ended : (t to at : ℕ) → t < to → t < at → nat_lt t at ≡ nat_lt t to
lives-ended t to at before early = lt-ltb t at early ∙ sym (lt-ltb t to before)

pub lives-closed : (n at t : ℕ) (h : Holder) → IsUnended h → t < at → t < 2 ^ 62 → lives_at (closed n at h.query) t ≡ lives_at h.query t
lives-closed n at t h u early low =
    closed-by (λ q. lives_at q t ≡ lives_at h.query t) n at h.query
    (λ live. ap (λ b. nat_le h.query.from t && b) (lives-ended t h.query.to at (still-lives n t h u low live) early)) refl

begun-closed : (n at : ℕ) (h : Holder) → begun (Some (closed_holder n at h)) ≡ begun (Some h)
begun-closed n at h = closed-by (λ q. begun (Some (record { query = q; slot = h.slot })) ≡ begun (Some h)) n at h.query (λ live. refl) refl

mine-closed : (n at : ℕ) (r : Record) (h : Holder) → IsUnended h → r.given.time < at → r.given.time < 2 ^ 62
    → has_mine r (Some (closed_holder n at h)) ≡ has_mine r (Some h)
mine-closed n at r h u early low =
    closed-by (λ q. is_mine q r.given.stream r ≡ is_mine h.query r.given.stream r) n at h.query
    (λ live. ap
    (λ b. reads h.query.plan r.given.stream && eqb (place_of r.given.stream) (place_of r.given.stream)
    && nat_le h.query.from r.given.time && b && holds_all (bounds_for h.query.plan r.given.stream) r.given)
    (lives-ended r.given.time h.query.to at (still-lives n r.given.time h u low live) early)) refl

-- ---- the queries of holders

queries-opened : (hs : List Holder) (h : Holder) → queries_of (hs ++ h ∷ []) ≡ queries_of hs ++ h.query ∷ []
queries-opened [] h = refl
queries-opened (g ∷ hs) h = ap (λ l. g.query ∷ l) (queries-opened hs h)

queries-closed : (n at : ℕ) (hs : List Holder) → queries_of (map (closed_holder n at) hs) ≡ map (closed n at) (queries_of hs)
queries-closed n at [] = refl
queries-closed n at (h ∷ hs) = ap (λ l. closed n at h.query ∷ l) (queries-closed n at hs)

-- a change does to them what it does to a view's
pub queries-held : (hs : List Holder) (c : Change) → queries_of (held hs c) ≡ changed (queries_of hs) c
queries-held hs (Opened n s at plan) = queries-opened hs (opened_holder n s at plan)
queries-held hs (Closed n s at) = queries-closed n at hs

-- ---- owners after a change

-- what is the same of each holder closed is the same of the owner
owner-closed : {X : Type 0} (f : Option Holder → X) (n at t slot : ℕ) (hs : List Holder)
    → ((h : Holder) → IsUnended h → f (Some (closed_holder n at h)) ≡ f (Some h))
    → AllByRecursion IsUnended hs → t < at → t < 2 ^ 62 → f (owner (map (closed_holder n at) hs) t slot) ≡ f (owner hs t slot)
owner-closed f n at t slot [] same u early low = refl
owner-closed f n at t slot (h ∷ hs) same u early low =
    ap (λ b. f (cond (eqb h.slot slot && b) (Some (closed_holder n at h)) (owner (map (closed_holder n at) hs) t slot)))
    (lives-closed n at t h u.0 early low)
    ∙ either (eqb h.slot slot && lives_at h.query t) (owner-closed f n at t slot hs same u.1 early low)
  where
    either : (b : Bool) → f (owner (map (closed_holder n at) hs) t slot) ≡ f (owner hs t slot)
        → f (cond b (Some (closed_holder n at h)) (owner (map (closed_holder n at) hs) t slot)) ≡ f (cond b (Some h) (owner hs t slot))
    either true rest = same h u.0
    either false rest = rest

find-push : {X : Type 0} (p : X → Bool) (xs : List X) (x : X) → p x ≡ false → find p (xs ++ x ∷ []) ≡ find p xs
find-push p [] x e = ap (λ b. cond b (Some x) (find p [])) e
find-push p (y ∷ xs) x e = ap (λ o. cond (p y) (Some y) o) (find-push p xs x e)

-- a query that is opened owns no slot before
owner-opened : (hs : List Holder) (t slot : ℕ) (h : Holder) → t < h.query.from → owner (hs ++ h ∷ []) t slot ≡ owner hs t slot
owner-opened hs t slot h early =
    find-push (has_slot t slot) hs h
    (and_right (eqb h.slot slot) (lives_at h.query t)
    (and_left (nat_le h.query.from t) (nat_lt t h.query.to) (lt-leb h.query.from t early)))

-- a change leaves of each owner before it by which query it is
pub owner-held : (hs : List Holder) (c : Change) (t slot : ℕ) → AllByRecursion IsUnended hs → t < time_of c → t < 2 ^ 62
    → begun (owner (held hs c) t slot) ≡ begun (owner hs t slot)
owner-held hs (Opened n s at plan) t slot u early low = ap begun (owner-opened hs t slot (opened_holder n s at plan) early)
owner-held hs (Closed n s at) t slot u early low = owner-closed begun n at t slot hs (λ h v. begun-closed n at h) u early low

-- and whether an earlier record belongs to it
mine-held : (hs : List Holder) (c : Change) (r : Record) (slot : ℕ) → AllByRecursion IsUnended hs → r.given.time < time_of c
    → r.given.time < 2 ^ 62
    → has_mine r (owner (held hs c) r.given.time slot) ≡ has_mine r (owner hs r.given.time slot)
mine-held hs (Opened n s at plan) r slot u early low = ap (has_mine r) (owner-opened hs r.given.time slot (opened_holder n s at plan) early)
mine-held hs (Closed n s at) r slot u early low =
    owner-closed (has_mine r) n at r.given.time slot hs (λ h v. mine-closed n at r h v early low) u early low

map-as : {X Y : Type 0} (f g : X → Y) (xs : List X) → ((x : X) → f x ≡ g x) → map f xs ≡ map g xs
map-as f g [] h = refl
map-as f g (x ∷ xs) h = ap (λ y. y ∷ map f xs) (h x) ∙ ap (λ l. g x ∷ l) (map-as f g xs h)

pub set_of-held : (hs : List Holder) (c : Change) (r : Record) → AllByRecursion IsUnended hs → r.given.time < time_of c
    → r.given.time < 2 ^ 62 → set_of (held hs c) r ≡ set_of hs r
set_of-held hs c r u early low =
    map-as (λ slot. has_mine r (owner (held hs c) r.given.time slot)) (λ slot. has_mine r (owner hs r.given.time slot))
    (range_with_len 0 512) (λ slot. mine-held hs c r slot u early low)

-- ---- live queries keep without an end

All-closed : (n at : ℕ) (hs : List Holder) → AllByRecursion IsUnended hs → AllByRecursion IsUnended (map (closed_holder n at) hs)
All-closed n at [] u = tt
All-closed n at (h ∷ hs) u = (one, All-closed n at hs u.1)
  where
    one : IsUnended (closed_holder n at h)
    one = record {
      lasts = closed-by (λ q. q.live ≡ true → q.to ≡ 2 ^ 62) n at h.query (λ live dead. absurd (both_ways false refl dead)) (u.0).lasts;
    }

pub Unended-held : (hs : List Holder) (c : Change) → AllByRecursion IsUnended hs → AllByRecursion IsUnended (held hs c)
Unended-held hs (Opened n s at plan) u = All-push IsUnended hs (opened_holder n s at plan) u (record { lasts = λ live. refl })
Unended-held hs (Closed n s at) u = All-closed n at hs u

-- ---- where all changes came

live-lives : (t : ℕ) (h : Holder) → t < 2 ^ 62 → IsSettled t h → lives_at h.query t ≡ h.query.live
live-lives t h low s = go h.query.live refl
  where
    go : (b : Bool) → h.query.live ≡ b → lives_at h.query t ≡ b
    go true e =
        ap (λ b. b && nat_lt t h.query.to) (le-leb h.query.from t s.begins)
        ∙ lt-ltb t h.query.to (subst (λ end. t < end) (sym (s.lasts e)) low)
    go false e = and_right (nat_le h.query.from t) (nat_lt t h.query.to) (le-ltb t h.query.to (s.ends e))

-- the owner is the first that lives
pub owner-live : (hs : List Holder) (t slot : ℕ) → t < 2 ^ 62 → AllByRecursion (IsSettled t) hs → owner hs t slot ≡ live_holder hs slot
owner-live [] t slot low s = refl
owner-live (h ∷ hs) t slot low s =
    ap (λ b. cond (eqb h.slot slot && b) (Some h) (owner hs t slot)) (live-lives t h low s.0)
    ∙ ap (λ o. cond (eqb h.slot slot && h.query.live) (Some h) o) (owner-live hs t slot low s.1)

All-at : {X : Type 0} (P : X → Type 0) (front : List X) (x : X) (back : List X) → AllByRecursion P (front ++ x ∷ back) → P x
All-at P [] x back a = a.0
All-at P (y ∷ front) x back a = All-at P front x back a.1

-- of two that do not both live in one slot, the first does not if the second does
not-first : (g h : Holder) → AreNotBothLive g h → h.query.live ≡ true → (eqb g.slot h.slot && g.query.live) ≡ false
not-first g h apart live = go (eqb g.slot h.slot) g.query.live refl refl
  where
    go : (b l : Bool) → eqb g.slot h.slot ≡ b → g.query.live ≡ l → (b && l) ≡ false
    go true true e f = absurd (both_ways h.query.live (apart (eqb-true g.slot h.slot e) f) live)
    go true false e f = refl
    go false l e f = refl

alone-in : (front : List Holder) (h : Holder) (back : List Holder) → LiveAlone (front ++ h ∷ back) → h.query.live ≡ true
    → live_holder (front ++ h ∷ back) h.slot ≡ Some h
alone-in [] h back a live =
    ap (λ b. cond (b && h.query.live) (Some h) (live_holder back h.slot)) (eq-eqb h.slot h.slot refl)
    ∙ ap (λ b. cond b (Some h) (live_holder back h.slot)) live
alone-in (g ∷ front) h back a live =
    ap (λ b. cond b (Some g) (live_holder (front ++ h ∷ back) h.slot)) (not-first g h (All-at (AreNotBothLive g) front h back a.0) live)
    ∙ alone-in front h back a.1 live

-- and where no two of a slot live, it is any that lives
pub owner-alone : (hs : List Holder) (h : Holder) (t : ℕ) → t < 2 ^ 62 → AllByRecursion (IsSettled t) hs → LiveAlone hs → IsAmong h hs
    → h.query.live ≡ true → owner hs t h.slot ≡ Some h
owner-alone hs h t low s a (front, back, is) live =
    owner-live hs t h.slot low s
    ∙ subst (λ (l : List Holder). live_holder l h.slot ≡ Some h) (sym is) (alone-in front h back (subst LiveAlone is a) live)
