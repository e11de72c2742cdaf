-- What one more item does to the front, the watermarks and the end of each stream, and to the changelog time.
use Rattle.std.proofs.Common.{◌≡◌, ℕ, ◌≤◌, ◌||◌, ◌&&◌, not, max, eqb, Bool, true, false, true≢false, cond, ◌⊎◌, inl, inr, ⊎_elim, eq-eqb, subst, List, [], ◌∷◌, ◌++◌, map, get_or, set, refl, sym, ap, ap₂, ◌∙◌, append-nil, arith}
use Rattle.std.specs.List.{filter, list_any}
use Rattle.std.proofs.lemmas.List.Elements.{filter-append}
use Rattle.std.proofs.lemmas.List.Folds.{list_any-append}
use Rattle.as_base.specs.declared.config.Config.{Config}
use Rattle.as_base.specs.declared.stream.StreamId.{StreamId}
use Rattle.as_base.specs.declared.stream.StreamId.TheVariants.{A, B, C, D}
use Rattle.as_base.specs.declared.item.Item.{Item}
use Rattle.as_base.specs.declared.item.Item.TheVariants.{Rec, Mark, End, Create, Delete, Bad}
use Rattle.as_base.specs.Config.{is_configured}
use Rattle.as_base.specs.Stream.{streams, place_of}
use Rattle.session.specs.Acceptance.{is_on, is_end, up_to_end, counting, time_of, mark_of, tick_after, greatest, front, top_mark, has_ended, is_open, seen_on, changelog_time}
use Rattle.session.specs.declared.session.Clock.{Clock}
use Rattle.session.specs.Session.{clock_of}
use Rattle.views.proofs.ListLaws.{cond_same}

-- ---- the items that count

-- the item counts on the stream after the items h
abbrev pub counts : Config → List Item → StreamId → Item → Bool
counts c h s x = is_on s x && is_open c h s

up_to_end-push : (h : List Item) (x : Item) → list_any is_end (up_to_end h) ≡ false → up_to_end (h ++ x ∷ []) ≡ up_to_end h ++ x ∷ []
up_to_end-push [] x e = cond_same (is_end x) (x ∷ [])
up_to_end-push (Rec g ∷ h) x e = ap (λ l. Rec g ∷ l) (up_to_end-push h x e)
up_to_end-push (Mark s t ∷ h) x e = ap (λ l. Mark s t ∷ l) (up_to_end-push h x e)
up_to_end-push (End s ∷ h) x e = absurd (true≢false e)
up_to_end-push (Create text ∷ h) x e = ap (λ l. Create text ∷ l) (up_to_end-push h x e)
up_to_end-push (Delete n ∷ h) x e = ap (λ l. Delete n ∷ l) (up_to_end-push h x e)
up_to_end-push (Bad cause ∷ h) x e = ap (λ l. Bad cause ∷ l) (up_to_end-push h x e)

up_to_end-ended : (h : List Item) (x : Item) → list_any is_end (up_to_end h) ≡ true → up_to_end (h ++ x ∷ []) ≡ up_to_end h
up_to_end-ended [] x e = absurd (true≢false (sym e))
up_to_end-ended (Rec g ∷ h) x e = ap (λ l. Rec g ∷ l) (up_to_end-ended h x e)
up_to_end-ended (Mark s t ∷ h) x e = ap (λ l. Mark s t ∷ l) (up_to_end-ended h x e)
up_to_end-ended (End s ∷ h) x e = refl
up_to_end-ended (Create text ∷ h) x e = ap (λ l. Create text ∷ l) (up_to_end-ended h x e)
up_to_end-ended (Delete n ∷ h) x e = ap (λ l. Delete n ∷ l) (up_to_end-ended h x e)
up_to_end-ended (Bad cause ∷ h) x e = ap (λ l. Bad cause ∷ l) (up_to_end-ended h x e)

-- one more item of the stream, as it is configured or not, and has ended or not
up_to_end-more : (configured : Bool) (h : List Item) (x : Item)
    → cond configured (up_to_end (h ++ x ∷ [])) []
    ≡ cond (configured && not (list_any is_end (cond configured (up_to_end h) []))) (cond configured (up_to_end h) [] ++ x ∷ []) (cond configured (up_to_end h) [])
up_to_end-more false h x = refl
up_to_end-more true h x = go (list_any is_end (up_to_end h)) refl
  where
    go : (b : Bool) → list_any is_end (up_to_end h) ≡ b → up_to_end (h ++ x ∷ []) ≡ cond (not b) (up_to_end h ++ x ∷ []) (up_to_end h)
    go true e = up_to_end-ended h x e
    go false e = up_to_end-push h x e

-- one more item counts on a stream, or changes nothing there
pub counting-push : (c : Config) (h : List Item) (x : Item) (s : StreamId) → counting c s (h ++ x ∷ []) ≡ cond (counts c h s x) (counting c s h ++ x ∷ []) (counting c s h)
counting-push c h x s =
    ap (λ l. cond (is_configured c s) (up_to_end l) []) (filter-append (is_on s) h (x ∷ []))
    ∙ go (is_on s x)
  where
    go : (on : Bool) → cond (is_configured c s) (up_to_end (filter (is_on s) h ++ cond on (x ∷ []) [])) []
        ≡ cond (on && is_open c h s) (counting c s h ++ x ∷ []) (counting c s h)
    go true = up_to_end-more (is_configured c s) (filter (is_on s) h) x
    go false = ap (λ l. cond (is_configured c s) (up_to_end l) []) (append-nil (filter (is_on s) h))

greatest-push : (f : Item → ℕ) (h : List Item) (x : Item) → greatest f (h ++ x ∷ []) ≡ max (greatest f h) (f x)
greatest-push f [] x = omega arith
greatest-push f (y ∷ h) x = let e = greatest-push f h x in omega (arith, e)

greatest-counting : (f : Item → ℕ) (c : Config) (h : List Item) (x : Item) (s : StreamId)
    → greatest f (counting c s (h ++ x ∷ [])) ≡ cond (counts c h s x) (max (greatest f (counting c s h)) (f x)) (greatest f (counting c s h))
greatest-counting f c h x s = ap (greatest f) (counting-push c h x s) ∙ go (counts c h s x)
  where
    go : (b : Bool) → greatest f (cond b (counting c s h ++ x ∷ []) (counting c s h)) ≡ cond b (max (greatest f (counting c s h)) (f x)) (greatest f (counting c s h))
    go true = greatest-push f (counting c s h) x
    go false = refl

pub front-push : (c : Config) (h : List Item) (x : Item) (s : StreamId) → front c (h ++ x ∷ []) s ≡ cond (counts c h s x) (max (front c h s) (time_of x)) (front c h s)
front-push c h x s = greatest-counting time_of c h x s

pub top_mark-push : (c : Config) (h : List Item) (x : Item) (s : StreamId) → top_mark c (h ++ x ∷ []) s ≡ cond (counts c h s x) (max (top_mark c h s) (mark_of x)) (top_mark c h s)
top_mark-push c h x s = greatest-counting mark_of c h x s

pub seen_on-push : (c : Config) (h : List Item) (x : Item) (s : StreamId) → seen_on c (h ++ x ∷ []) s ≡ cond (counts c h s x) (max (seen_on c h s) (tick_after x)) (seen_on c h s)
seen_on-push c h x s = greatest-counting tick_after c h x s

pub has_ended-push : (c : Config) (h : List Item) (x : Item) (s : StreamId) → has_ended c (h ++ x ∷ []) s ≡ cond (counts c h s x) (has_ended c h s || is_end x) (has_ended c h s)
has_ended-push c h x s = ap (list_any is_end) (counting-push c h x s) ∙ go (counts c h s x)
  where
    or_false : (a b : Bool) → (a || (b || false)) ≡ (a || b)
    or_false true b = refl
    or_false false true = refl
    or_false false false = refl

    go : (b : Bool) → list_any is_end (cond b (counting c s h ++ x ∷ []) (counting c s h)) ≡ cond b (has_ended c h s || is_end x) (has_ended c h s)
    go true = list_any-append is_end (counting c s h) (x ∷ []) ∙ or_false (has_ended c h s) (is_end x)
    go false = refl

-- no items count on a stream of none
pub counting-none : (c : Config) (s : StreamId) → counting c s [] ≡ []
counting-none c s = cond_same (is_configured c s) []

-- ---- the clocks of the four streams

-- the clocks of the four streams
abbrev pub clocks_of : Config → List Item → List Clock
clocks_of c h = map (clock_of c h) streams

-- the clock of a stream, among those of the four
pub clock-at : (c : Config) (h : List Item) (s : StreamId) (d : Clock) → get_or (clocks_of c h) (place_of s) d ≡ clock_of c h s
clock-at c h A d = refl
clock-at c h B d = refl
clock-at c h C d = refl
clock-at c h D d = refl

pub clocks-are : {x x' y y' z z' w w' : Clock} → x ≡ x' → y ≡ y' → z ≡ z' → w ≡ w' → x ∷ y ∷ z ∷ w ∷ [] ≡ x' ∷ y' ∷ z' ∷ w' ∷ []
clocks-are {x} {x'} {y} {y'} {z} {z'} {w} {w'} a b c d =
    ap₂ (λ p l. p ∷ l) a (ap₂ (λ p l. p ∷ l) b (ap₂ (λ p l. p ∷ l) c (ap (λ p. p ∷ []) d)))

-- the clocks are as they were where each is
pub clocks-same : (c : Config) (h h' : List Item) → ((s : StreamId) → clock_of c h' s ≡ clock_of c h s) → clocks_of c h' ≡ clocks_of c h
clocks-same c h h' same = clocks-are (same A) (same B) (same C) (same D)

-- the clocks are as they were but for one stream
pub clocks-set : (c : Config) (h h' : List Item) (s : StreamId) (k : Clock) → clock_of c h' s ≡ k → ((r : StreamId) → eqb (place_of s) (place_of r) ≡ false → clock_of c h' r ≡ clock_of c h r) → clocks_of c h' ≡ set (clocks_of c h) (place_of s) k
clocks-set c h h' A k here other = clocks-are here (other B refl) (other C refl) (other D refl)
clocks-set c h h' B k here other = clocks-are (other A refl) here (other C refl) (other D refl)
clocks-set c h h' C k here other = clocks-are (other A refl) (other B refl) here (other D refl)
clocks-set c h h' D k here other = clocks-are (other A refl) (other B refl) (other C refl) here

-- no stream counts an item before the first
pub clock-none : (c : Config) (s : StreamId) → clock_of c [] s ≡ record { front = 0; mark = 0; ended = false }
clock-none c s = ap (λ l. record { front = greatest time_of l; mark = greatest mark_of l; ended = list_any is_end l }) (counting-none c s)

abbrev clock_with : ℕ → ℕ → Bool → Clock
clock_with f m e = record { front = f; mark = m; ended = e }

clocks_alike : {f f' m m' : ℕ} {e e' : Bool} → f ≡ f' → m ≡ m' → e ≡ e' → clock_with f m e ≡ clock_with f' m' e'
clocks_alike {f} {f'} {m} {m'} {e} {e'} p q r = ap (λ f. clock_with f m e) p ∙ ap (λ m. clock_with f' m e) q ∙ ap (λ e. clock_with f' m' e) r

-- the clock of a stream after one more item
pub clock-push : (c : Config) (h : List Item) (x : Item) (s : StreamId)
    → clock_of c (h ++ x ∷ []) s ≡ cond (counts c h s x) (record { front = max (front c h s) (time_of x); mark = max (top_mark c h s) (mark_of x); ended = has_ended c h s || is_end x }) (clock_of c h s)
clock-push c h x s =
    clocks_alike (front-push c h x s) (top_mark-push c h x s) (has_ended-push c h x s)
    ∙ go (counts c h s x)
  where
    go : (b : Bool) → clock_with (cond b (max (front c h s) (time_of x)) (front c h s)) (cond b (max (top_mark c h s) (mark_of x)) (top_mark c h s)) (cond b (has_ended c h s || is_end x) (has_ended c h s))
        ≡ cond b (record { front = max (front c h s) (time_of x); mark = max (top_mark c h s) (mark_of x); ended = has_ended c h s || is_end x }) (clock_of c h s)
    go true = refl
    go false = refl

-- ---- greatest numbers

greatest-le : (f g : Item → ℕ) → ((x : Item) → f x ≤ g x) → (h : List Item) → greatest f h ≤ greatest g h
greatest-le f g each [] = omega arith
greatest-le f g each (x ∷ h) = let a = each x in let b = greatest-le f g each h in omega (arith, a, b)

mark_of-le : (x : Item) → mark_of x ≤ time_of x
mark_of-le (Rec g) = omega arith
mark_of-le (Mark s t) = omega arith
mark_of-le (End s) = omega arith
mark_of-le (Create text) = omega arith
mark_of-le (Delete n) = omega arith
mark_of-le (Bad cause) = omega arith

time_of-le : (x : Item) → time_of x ≤ tick_after x
time_of-le (Rec g) = omega arith
time_of-le (Mark s t) = omega arith
time_of-le (End s) = omega arith
time_of-le (Create text) = omega arith
time_of-le (Delete n) = omega arith
time_of-le (Bad cause) = omega arith

-- no watermark is above the front
pub top_mark-front : (c : Config) (h : List Item) (s : StreamId) → top_mark c h s ≤ front c h s
top_mark-front c h s = greatest-le mark_of time_of mark_of-le (counting c s h)

-- the front was seen
pub front-seen : (c : Config) (h : List Item) (s : StreamId) → front c h s ≤ seen_on c h s
front-seen c h s = greatest-le time_of tick_after time_of-le (counting c s h)

-- ---- an item that changes no clock

-- the item changes nothing on the stream
pub record IsStill (c : Config) (h : List Item) (x : Item) (s : StreamId) : Type 0 where
  pub clock : clock_of c (h ++ x ∷ []) s ≡ clock_of c h s
  pub seen : seen_on c (h ++ x ∷ []) s ≡ seen_on c h s

pub still-quiet : (c : Config) (h : List Item) (x : Item) (s : StreamId) → counts c h s x ≡ false → IsStill c h x s
still-quiet c h x s quiet = record {
  clock = clock-push c h x s ∙ ap (λ b. cond b (record { front = max (front c h s) (time_of x); mark = max (top_mark c h s) (mark_of x); ended = has_ended c h s || is_end x }) (clock_of c h s)) quiet;
  seen = seen_on-push c h x s ∙ ap (λ b. cond b (max (seen_on c h s) (tick_after x)) (seen_on c h s)) quiet;
}

-- an item of another stream
pub still-other : (c : Config) (h : List Item) (x : Item) (s : StreamId) → is_on s x ≡ false → IsStill c h x s
still-other c h x s off = still-quiet c h x s (ap (λ b. b && is_open c h s) off)

or_false : (a b : Bool) → b ≡ false → (a || b) ≡ a
or_false true b e = refl
or_false false b e = e

-- an item that nothing of is new
pub still-low : (c : Config) (h : List Item) (x : Item) (s : StreamId) → time_of x ≤ front c h s → mark_of x ≤ top_mark c h s → tick_after x ≤ seen_on c h s → is_end x ≡ false → IsStill c h x s
still-low c h x s low mark tick going = record { clock = clock-push c h x s ∙ go (counts c h s x); seen = seen_on-push c h x s ∙ at (counts c h s x) }
  where
    go : (b : Bool) → cond b (record { front = max (front c h s) (time_of x); mark = max (top_mark c h s) (mark_of x); ended = has_ended c h s || is_end x }) (clock_of c h s) ≡ clock_of c h s
    go true = clocks_alike (omega (arith, low)) (omega (arith, mark)) (or_false (has_ended c h s) (is_end x) going)
    go false = refl

    at : (b : Bool) → cond b (max (seen_on c h s) (tick_after x)) (seen_on c h s) ≡ seen_on c h s
    at true = omega (arith, tick)
    at false = refl

pub clocks-still : (c : Config) (h : List Item) (x : Item) → ((s : StreamId) → IsStill c h x s) → clocks_of c (h ++ x ∷ []) ≡ clocks_of c h
clocks-still c h x still = clocks-same c h (h ++ x ∷ []) (λ s. (still s).clock)

pub changelog-still : (c : Config) (h : List Item) (x : Item) → ((s : StreamId) → IsStill c h x s) → changelog_time c (h ++ x ∷ []) ≡ changelog_time c h
changelog-still c h x still =
    let a = (still A).seen in let b = (still B).seen in let d = (still C).seen in let e = (still D).seen in
    ap₂ max a (ap₂ max b (ap₂ max d e))

-- two streams are one, or their places differ
pub same_or_other : (s r : StreamId) → (s ≡ r) ⊎ (eqb (place_of s) (place_of r) ≡ false)
same_or_other A A = inl refl
same_or_other A B = inr refl
same_or_other A C = inr refl
same_or_other A D = inr refl
same_or_other B A = inr refl
same_or_other B B = inl refl
same_or_other B C = inr refl
same_or_other B D = inr refl
same_or_other C A = inr refl
same_or_other C B = inr refl
same_or_other C C = inl refl
same_or_other C D = inr refl
same_or_other D A = inr refl
same_or_other D B = inr refl
same_or_other D C = inr refl
same_or_other D D = inl refl

-- the item is of stream s, and no other
abbrev pub IsOf : StreamId → Item → Type 0
IsOf s x = (r : StreamId) → is_on r x ≡ eqb (place_of s) (place_of r)

-- an item is still on every stream where it is on its own
pub still-all : (c : Config) (h : List Item) (x : Item) (s : StreamId) → IsOf s x → IsStill c h x s → (r : StreamId) → IsStill c h x r
still-all c h x s on still r =
    ⊎_elim (λ same. subst (IsStill c h x) same still) (λ other. still-other c h x r (on r ∙ other)) (same_or_other s r)

and_false : (b : Bool) → (b && false) ≡ false
and_false true = refl
and_false false = refl

-- an item of a stream that is not open changes nothing
pub still-closed : (c : Config) (h : List Item) (x : Item) (s : StreamId) → is_open c h s ≡ false → IsStill c h x s
still-closed c h x s closed = still-quiet c h x s (ap (λ b. is_on s x && b) closed ∙ and_false (is_on s x))

-- ---- an item that counts on its stream

pub counts-open : (c : Config) (h : List Item) (x : Item) (s : StreamId) → IsOf s x → is_open c h s ≡ true → counts c h s x ≡ true
counts-open c h x s on open_is = ap (λ b. b && is_open c h s) (on s ∙ eq-eqb (place_of s) (place_of s) refl) ∙ open_is

-- the clocks after it
pub clocks-counted : (c : Config) (h : List Item) (x : Item) (s : StreamId) (k : Clock) → IsOf s x → is_open c h s ≡ true
    → max (front c h s) (time_of x) ≡ k.front → max (top_mark c h s) (mark_of x) ≡ k.mark → (has_ended c h s || is_end x) ≡ k.ended
    → clocks_of c (h ++ x ∷ []) ≡ set (clocks_of c h) (place_of s) k
clocks-counted c h x s k on open_is front_is mark_is ended_is =
    clocks-set c h (h ++ x ∷ []) s k
    (clock-push c h x s
    ∙ ap (λ b. cond b (record { front = max (front c h s) (time_of x); mark = max (top_mark c h s) (mark_of x); ended = has_ended c h s || is_end x }) (clock_of c h s)) (counts-open c h x s on open_is)
    ∙ clocks_alike front_is mark_is ended_is)
    (λ r other. (still-other c h x r (on r ∙ other)).clock)

-- the changelog time after it
pub changelog-counted : (c : Config) (h : List Item) (x : Item) (s : StreamId) → IsOf s x → is_open c h s ≡ true
    → changelog_time c (h ++ x ∷ []) ≡ max (changelog_time c h) (tick_after x)
changelog-counted c h x s on open_is = go s here other
  where
    here : seen_on c (h ++ x ∷ []) s ≡ max (seen_on c h s) (tick_after x)
    here = seen_on-push c h x s ∙ ap (λ b. cond b (max (seen_on c h s) (tick_after x)) (seen_on c h s)) (counts-open c h x s on open_is)

    other : (r : StreamId) → eqb (place_of s) (place_of r) ≡ false → seen_on c (h ++ x ∷ []) r ≡ seen_on c h r
    other r apart = (still-other c h x r (on r ∙ apart)).seen

    go : (s : StreamId) → seen_on c (h ++ x ∷ []) s ≡ max (seen_on c h s) (tick_after x) → ((r : StreamId) → eqb (place_of s) (place_of r) ≡ false → seen_on c (h ++ x ∷ []) r ≡ seen_on c h r)
        → changelog_time c (h ++ x ∷ []) ≡ max (changelog_time c h) (tick_after x)
    go A here other = let a = here in let b = other B refl in let d = other C refl in let e = other D refl in omega (arith, a, b, d, e)
    go B here other = let a = other A refl in let b = here in let d = other C refl in let e = other D refl in omega (arith, a, b, d, e)
    go C here other = let a = other A refl in let b = other B refl in let d = here in let e = other D refl in omega (arith, a, b, d, e)
    go D here other = let a = other A refl in let b = other B refl in let d = other C refl in let e = here in omega (arith, a, b, d, e)
