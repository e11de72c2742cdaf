-- What is not needed stays so: no message makes a query want what it did not want before.
use Rattle.std.proofs.Common.{◌≡◌, ◌⊎◌, inl, inr, ℕ, ◌+◌, ◌≤◌, ◌<◌, ◌^◌, ◌&&◌, ◌||◌, nat_lt, nat_le, eqb, min, Bool, true, false, List, [], ◌∷◌, ◌++◌, map, refl, sym, ap, ◌∙◌, ⊎_elim, arith}
use Rattle.std.proofs.lemmas.Bool.{and_parts, and_left, both_ways, lt-ltb, lt-leb, ltb-true}
use Rattle.std.specs.List.{list_any, AllByRecursion}
use Rattle.as_base.specs.declared.item.Record.{Record}
use Rattle.as_base.specs.declared.message.Change.TheVariants.{Opened, Closed}
use Rattle.as_base.specs.declared.message.Msg.{Msg}
use Rattle.as_base.specs.declared.message.Msg.TheVariants as msg
use Rattle.as_base.specs.declared.query.Kind.{Kind}
use Rattle.as_base.specs.declared.query.Kind.TheVariants.{Select, Sum, Count, Join}
use Rattle.as_base.specs.declared.stream.StreamId.{StreamId}
use Rattle.as_base.specs.Windows.{end_of, last_window}
use Rattle.views.specs.IsHolder.{IsUnended}
use Rattle.views.specs.Query.{Query, closed}
use Rattle.views.specs.Slots.{Holder, opened_holder, closed_holder}
use Rattle.as_base.specs.Stream.{place_of}
use Rattle.as_base.specs.Query.{holds_all}
use Rattle.views.specs.View.{is_mine, reads, bounds_for}
use Rattle.views.proofs.NumberLaws.{ended}
use Rattle.views.proofs.SlotLaws.{closed-by, still-lives, lives-ended}
use Rattle.contents.specs.IsPast.{ComesBefore, LowersNoMark}
use Rattle.contents.specs.Kept.{wants, needs, is_needed}
use Rattle.contents.specs.Past.{Past, followed, mark_of, mark_for}

or_case : (a b : Bool) → (a || b) ≡ true → (a ≡ true) ⊎ (b ≡ true)
or_case true b e = inl refl
or_case false b e = inr e

pub or_left : (a b : Bool) → a ≡ true → (a || b) ≡ true
or_left true b e = refl
or_left false b e = absurd (both_ways false refl e)

pub or_right : (a b : Bool) → b ≡ true → (a || b) ≡ true
or_right true b e = refl
or_right false b e = e

pub true_and : (a b : Bool) → a ≡ true → b ≡ true → (a && b) ≡ true
true_and true b e f = f
true_and false b e f = absurd (both_ways false refl e)

-- what one of some has, it had before: each of them had it
pub any-before : {X : Type 0} (p q : X → Bool) (xs : List X) → AllByRecursion (λ x. p x ≡ true → q x ≡ true) xs → list_any p xs ≡ true → list_any q xs ≡ true
any-before p q [] h e = e
any-before p q (x ∷ xs) h e = ⊎_elim
    (λ here. or_left (q x) (list_any q xs) (h.0 here))
    (λ behind. or_right (q x) (list_any q xs) (any-before p q xs h.1 behind))
    (or_case (p x) (list_any p xs) e)

-- a lower bound below a higher one
pub lt_weaker : (a b x y : ℕ) → a ≤ b → x ≤ y → nat_lt b x ≡ true → nat_lt a y ≡ true
lt_weaker a b x y low high e = lt-ltb a y (let l = ltb-true b x e in omega (arith, l, low, high))

-- ---- an advance

pub mark_for-up : (marks wm : List ℕ) (q : Query) → ((s : StreamId) → mark_of marks s ≤ mark_of wm s) → mark_for marks q ≤ mark_for wm q
mark_for-up marks wm q up = let a = up q.plan.left in let b = up q.plan.right in omega (arith, a, b)

wants-before : (kind : Kind) (marks wm : List ℕ) (q : Query) (t : ℕ) → mark_for marks q ≤ mark_for wm q → wants kind wm q t ≡ true → wants kind marks q t ≡ true
wants-before Select marks wm q t up e = lt_weaker (mark_for marks q) (mark_for wm q) (t + 1) (t + 1) up (omega arith) e
wants-before (Sum c) marks wm q t up e = e
wants-before Count marks wm q t up e = e
wants-before Join marks wm q t up e =
    let end : ℕ = min (end_of q.plan.win (last_window q.plan.win t)) q.to in
    lt_weaker (mark_for marks q) (mark_for wm q) end end up (omega arith) e

needs-before : (marks wm : List ℕ) (r : Record) → ((s : StreamId) → mark_of marks s ≤ mark_of wm s) → (h : Holder) → needs wm r h.query ≡ true → needs marks r h.query ≡ true
needs-before marks wm r up h e =
    let a = and_parts (is_mine h.query r.given.stream r) (wants h.query.plan.kind wm h.query r.given.time) e in
    true_and (is_mine h.query r.given.stream r) (wants h.query.plan.kind marks h.query r.given.time) a.0
    (wants-before h.query.plan.kind marks wm h.query r.given.time (mark_for-up marks wm h.query up) a.1)

-- ---- a closing

wants-closed : (kind : Kind) (marks : List ℕ) (q : Query) (at t : ℕ) → at ≤ q.to → wants kind marks (ended at q) t ≡ true → wants kind marks q t ≡ true
wants-closed Select marks q at t less e = e
wants-closed (Sum c) marks q at t less e = e
wants-closed Count marks q at t less e = e
wants-closed Join marks q at t less e =
    let end : ℕ = end_of q.plan.win (last_window q.plan.win t) in
    lt_weaker (mark_for marks q) (mark_for marks q) (min end at) (min end q.to) (omega arith) (omega (arith, less)) e

-- an earlier record belongs to a query that was closed just where it did before
pub mine-closed : (n at : ℕ) (r : Record) (h : Holder) → IsUnended h → r.given.time < at → r.given.time < 2 ^ 62
    → is_mine (closed n at h.query) r.given.stream r ≡ is_mine h.query r.given.stream r
mine-closed n at r h u early low =
    closed-by (λ q. is_mine q r.given.stream r ≡ is_mine h.query r.given.stream r) n at h.query
    (λ live. ap
    (λ b. reads h.query.plan r.given.stream && eqb (place_of r.given.stream) (place_of r.given.stream)
    && nat_le h.query.from r.given.time && b && holds_all (bounds_for h.query.plan r.given.stream) r.given)
    (lives-ended r.given.time h.query.to at (still-lives n r.given.time h u low live) early)) refl

needs-closed : (marks : List ℕ) (r : Record) (n at : ℕ) (h : Holder) → IsUnended h → r.given.time < at → at ≤ 2 ^ 62 → r.given.time < 2 ^ 62
    → needs marks r (closed n at h.query) ≡ true → needs marks r h.query ≡ true
needs-closed marks r n at h u early most low =
    let mine = mine-closed n at r h u early low in
    go mine
  where
    go : is_mine (closed n at h.query) r.given.stream r ≡ is_mine h.query r.given.stream r → needs marks r (closed n at h.query) ≡ true → needs marks r h.query ≡ true
    go = closed-by (λ q. is_mine q r.given.stream r ≡ is_mine h.query r.given.stream r → needs marks r q ≡ true → needs marks r h.query ≡ true) n at h.query
        (λ live same e.
        let a = and_parts (is_mine (ended at h.query) r.given.stream r) (wants h.query.plan.kind marks (ended at h.query) r.given.time) e in
        let end : h.query.to ≡ 2 ^ 62 = u.lasts (and_parts (eqb h.query.n n) h.query.live live).1 in
        true_and (is_mine h.query r.given.stream r) (wants h.query.plan.kind marks h.query r.given.time) (sym same ∙ a.0)
        (wants-closed h.query.plan.kind marks h.query at r.given.time (omega (arith, end, most)) a.1))
        (λ same e. e)

any-map : {X Y : Type 0} (p : Y → Bool) (f : X → Y) (xs : List X) → list_any p (map f xs) ≡ list_any (λ x. p (f x)) xs
any-map p f [] = refl
any-map p f (x ∷ xs) = ap (λ b. p (f x) || b) (any-map p f xs)

All-by : {X : Type 0} (P Q : X → Type 0) → ((x : X) → P x → Q x) → (xs : List X) → AllByRecursion P xs → AllByRecursion Q xs
All-by P Q f [] a = tt
All-by P Q f (x ∷ xs) a = (f x a.0, All-by P Q f xs a.1)

needed-closed : (marks : List ℕ) (r : Record) (n at : ℕ) (hs : List Holder) → AllByRecursion IsUnended hs → r.given.time < at → at ≤ 2 ^ 62 → r.given.time < 2 ^ 62
    → list_any (λ (h : Holder). needs marks r h.query) (map (closed_holder n at) hs) ≡ true → list_any (λ (h : Holder). needs marks r h.query) hs ≡ true
needed-closed marks r n at hs u early most low e =
    any-before (λ (h : Holder). needs marks r (closed n at h.query)) (λ (h : Holder). needs marks r h.query) hs
    (All-by IsUnended (λ (h : Holder). needs marks r (closed n at h.query) ≡ true → needs marks r h.query ≡ true) (λ h v. needs-closed marks r n at h v early most low) hs u)
    (sym (any-map (λ (h : Holder). needs marks r h.query) (closed_holder n at) hs) ∙ e)

-- ---- an opening

-- a query that is opened later has no such record
pub not-yet : (q : Query) (r : Record) → r.given.time < q.from → is_mine q r.given.stream r ≡ false
not-yet q r late =
    dead (reads q.plan r.given.stream) (eqb (place_of r.given.stream) (place_of r.given.stream)) (nat_le q.from r.given.time)
    (nat_lt r.given.time q.to) (holds_all (bounds_for q.plan r.given.stream) r.given) (lt-leb q.from r.given.time late)
  where
    dead : (a b c d e : Bool) → c ≡ false → (a && b && c && d && e) ≡ false
    dead false b c d e h = refl
    dead true false c d e h = refl
    dead true true true d e h = absurd (both_ways false refl (sym h))
    dead true true false d e h = refl

pub any-push : {X : Type 0} (p : X → Bool) (xs : List X) (x : X) → p x ≡ false → list_any p (xs ++ x ∷ []) ≡ list_any p xs
any-push p [] x e = ap (λ b. b || false) e
any-push p (y ∷ xs) x e = ap (λ b. p y || b) (any-push p xs x e)

-- ---- all messages

-- A record that is needed after a message that comes after it was needed before.
pub needed-before : (p : Past) (r : Record) (m : Msg) → AllByRecursion IsUnended p.holders → r.given.time < 2 ^ 62
    → ComesBefore m r → LowersNoMark p m → is_needed (followed p m) r ≡ true → is_needed p r ≡ true
needed-before p r (msg.Rec x) u low early up e = e
needed-before p r (msg.Advance wm) u low early up e =
    any-before (λ (h : Holder). needs wm r h.query) (λ (h : Holder). needs p.marks r h.query) p.holders
    (All-by (λ h. Unit {0}) (λ (h : Holder). needs wm r h.query ≡ true → needs p.marks r h.query ≡ true) (λ h a. needs-before p.marks wm r up h) p.holders (every p.holders)) e
  where
    every : (hs : List Holder) → AllByRecursion (λ h. Unit {0}) hs
    every [] = tt
    every (h ∷ hs) = (tt, every hs)
needed-before p r (msg.Change (Opened n slot at plan)) u low early up e =
    sym (any-push (λ (h : Holder). needs p.marks r h.query) p.holders (opened_holder n slot at plan)
    (and_left (is_mine (opened_holder n slot at plan).query r.given.stream r) _ (not-yet (opened_holder n slot at plan).query r early))) ∙ e
needed-before p r (msg.Change (Closed n slot at)) u low early up e = needed-closed p.marks r n at p.holders u early up low e
