-- Where slices begin: at the last change, or at the last edge of an owner.
use Rattle.std.proofs.Common.{◌≡◌, inl, inr, ℕ, zero, suc, ◌^◌, ◌<◌, ◌≤◌, ◌&&◌, nat_le, nat_lt, eqb, max, Bool, true, false, cond}
use Rattle.std.proofs.Common.{Some, List, [], ◌∷◌, ◌++◌, map, take, refl, sym, ap, subst, ◌∙◌, arith}
use Rattle.std.proofs.lemmas.Bool.{and_parts, and_right, both_ways, cases_lt, le-leb, lt-leb, le-ltb, lt-ltb, eq-eqb, eqb-true}
use Rattle.std.specs.List.{list_any, fold, AllByRecursion}
use Rattle.as_base.specs.declared.message.Change.{Change}
use Rattle.as_base.specs.declared.message.Change.TheVariants.{Opened, Closed}
use Rattle.as_base.specs.declared.stream.StreamId.{StreamId}
use Rattle.as_base.specs.Windows.{last_edge}
use Rattle.views.specs.View.{reads}
use Rattle.views.specs.Slots.{Holder, opened_holder, closed_holder, held, lives_at, is_windowed, up_to, edge_by, cut}
use Rattle.views.specs.IsHolder.{time_of, live_holder, IsUnended, IsSettled, LiveAlone}
use Rattle.views.proofs.ListLaws.{All-push, All-map}
use Rattle.views.proofs.NumberLaws.{ended}
use Rattle.views.proofs.SlotLaws.{Unended-held}
use Rattle.views.proofs.CutLaws.{cut-held}
use Rattle.changelog.specs.Changes.{times_of, until, owner_from, last_or, edge_of, greatest_below}
use Rattle.changelog.specs.Orderly.{named, is_named, Suits, MayFollow, MayAllFollow}
use Rattle.changelog.proofs.EdgeLaws.{greatest_below-le, greatest_below-same}
use Rattle.changelog.proofs.NumberLaws.{one-more, none-more}
use Rattle.changelog.proofs.HolderLaws.{AreFine, unended-by, settled-later, fine-held, free-none, free-beside, rest-any, live-held, until-none}

-- ---- the greatest of what numbers have

greatest-at : (f : ℕ → ℕ) (n k : ℕ) → k < n → f k ≤ greatest_below f n
unfolding greatest_below
greatest-at f zero k within = absurd (omega (arith, within))
greatest-at f (suc n) k within = elim (cases_lt k n) [
  | inl before ↦ let a = greatest-at f n k before in omega (arith, a)
  | inr last ↦ let is : k ≡ n = omega (arith, within, last) in let same : f k ≡ f n = ap f is in omega (arith, same)
]

greatest-up : (f g : ℕ → ℕ) (n : ℕ) → ((k : ℕ) → f k ≤ g k) → greatest_below f n ≤ greatest_below g n
unfolding greatest_below
greatest-up f g zero up = omega arith
greatest-up f g (suc n) up = let a = greatest-up f g n up in let b = up n in omega (arith, a, b)

-- ---- a cut is made by turns and edges

-- the greatest of the times at most t at which queries began or ended
abbrev turns_of : List Holder → ℕ → ℕ
turns_of [] t = 0
turns_of (h ∷ hs) t = max (max (up_to t h.query.from) (up_to t h.query.to)) (turns_of hs t)

-- the greatest of the last edges of queries that live at t
abbrev edges_of : List Holder → StreamId → ℕ → ℕ
edges_of [] s t = 0
edges_of (h ∷ hs) s t = max (edge_by s t h.query) (edges_of hs s t)

cut-parts : (hs : List Holder) (s : StreamId) (t : ℕ) → cut hs s t ≡ max (turns_of hs t) (edges_of hs s t)
cut-parts [] s t = omega arith
cut-parts (h ∷ hs) s t = let e = cut-parts hs s t in omega (arith, e)

-- ---- the last turn is the last change

up_to-here : (t time : ℕ) → time ≤ t → up_to t time ≡ time
up_to-here t time came = ap (λ b. cond b time 0) (le-leb time t came)

up_to-most : (t time most : ℕ) → time ≤ most → up_to t time ≤ most
up_to-most t time most low = go (nat_le time t)
  where
    go : (b : Bool) → cond b time 0 ≤ most
    go true = low
    go false = omega arith

end-most : (t last : ℕ) (h : Holder) → t < 2 ^ 62 → IsSettled last h → up_to t h.query.to ≤ last
end-most t last h low a = go h.query.live refl
  where
    go : (b : Bool) → h.query.live ≡ b → up_to t h.query.to ≤ last
    go true e =
        let none : up_to t h.query.to ≡ 0 =
        ap (λ b. cond b h.query.to 0) (lt-leb h.query.to t (subst (λ end. t < end) (sym (a.lasts e)) low)) in
        omega (arith, none)
    go false e = up_to-most t h.query.to last (a.ends e)

turns-most : (t last : ℕ) (hs : List Holder) → t < 2 ^ 62 → AllByRecursion (IsSettled last) hs → turns_of hs t ≤ last
turns-most t last [] low a = omega arith
turns-most t last (h ∷ hs) low a =
    let from = up_to-most t h.query.from last (a.0).begins in
    let to = end-most t last h low a.0 in
    let rest = turns-most t last hs low a.1 in
    omega (arith, from, to, rest)

turns-opened : (t : ℕ) (hs : List Holder) (h : Holder) → h.query.from ≤ t → h.query.from ≤ turns_of (hs ++ h ∷ []) t
turns-opened t [] h came = let a = up_to-here t h.query.from came in omega (arith, a)
turns-opened t (g ∷ hs) h came = let a = turns-opened t hs h came in omega (arith, a)

turns-closed : (t n at : ℕ) (hs : List Holder) → at ≤ t → list_any (is_named n) hs ≡ true
    → at ≤ turns_of (map (closed_holder n at) hs) t
turns-closed t n at [] came one = absurd (both_ways false refl one)
turns-closed t n at (h ∷ hs) came one = go (is_named n h) refl (turns-closed t n at hs came)
  where
    go : (b : Bool) → is_named n h ≡ b
        → (list_any (is_named n) hs ≡ true → at ≤ turns_of (map (closed_holder n at) hs) t)
        → at ≤ max (max (up_to t (cond b (ended at h.query) h.query).from) (up_to t (cond b (ended at h.query) h.query).to))
        (turns_of (map (closed_holder n at) hs) t)
    go true e rest = let a = up_to-here t at came in omega (arith, a)
    go false e rest = let a = rest (rest-any (is_named n) h hs e one) in omega (arith, a)

turns-least : (t : ℕ) (hs : List Holder) (c : Change) → Suits hs c → time_of c ≤ t → time_of c ≤ turns_of (held hs c) t
turns-least t hs (Opened n slot at plan) suits came = turns-opened t hs (opened_holder n slot at plan) came
turns-least t hs (Closed n slot at) suits came = turns-closed t n at hs came suits.one

turns-held : (t : ℕ) (hs : List Holder) (c : Change) → AreFine (time_of c) (held hs c) → Suits hs c → time_of c ≤ t → t < 2 ^ 62
    → turns_of (held hs c) t ≡ time_of c
turns-held t hs c fine suits came low =
    let most = turns-most t (time_of c) (held hs c) low fine.settled in
    let least = turns-least t hs c suits came in
    omega (arith, most, least)

-- ---- the last edge is that of an owner

abbrev edge_in : StreamId → ℕ → List Holder → ℕ → ℕ
edge_in s t hs slot = edge_of s t (named (live_holder hs slot))

-- a holder to which all came lives where its mark says so, and has its edge then
edge-settled : (s : StreamId) (t : ℕ) (h : Holder) → t < 2 ^ 62 → IsSettled t h → (b : Bool) → h.query.live ≡ b
    → edge_by s t h.query ≡ cond b (edge_of s t (named (Some h))) 0
edge-settled s t h low a b e =
    ap (λ b. cond (b && is_windowed h.query.plan && reads h.query.plan s) (last_edge h.query.plan.win t) 0) (lives b e) ∙ edge b
  where
    lives : (b : Bool) → h.query.live ≡ b → lives_at h.query t ≡ b
    lives true live = ap (λ b. b && nat_lt t h.query.to) (le-leb h.query.from t a.begins) ∙ lt-ltb t h.query.to (subst (λ end. t < end) (sym (a.lasts live)) low)
    lives false dead = and_right (nat_le h.query.from t) (nat_lt t h.query.to) (le-ltb t h.query.to (a.ends dead))

    edge : (b : Bool) → cond (b && is_windowed h.query.plan && reads h.query.plan s) (last_edge h.query.plan.win t) 0
        ≡ cond b (edge_of s t (named (Some h))) 0
    edge true = refl
    edge false = refl

edges-least : (s : StreamId) (t slot : ℕ) (hs : List Holder) → t < 2 ^ 62 → AllByRecursion (IsSettled t) hs
    → edge_in s t hs slot ≤ edges_of hs s t
edges-least s t slot [] low a = omega arith
edges-least s t slot (h ∷ hs) low a = go (eqb h.slot slot && h.query.live) refl (edges-least s t slot hs low a.1)
  where
    go : (b : Bool) → (eqb h.slot slot && h.query.live) ≡ b → edge_in s t hs slot ≤ edges_of hs s t
        → edge_of s t (named (cond b (Some h) (live_holder hs slot))) ≤ max (edge_by s t h.query) (edges_of hs s t)
    go true e rest =
        let same = edge-settled s t h low a.0 true (and_parts (eqb h.slot slot) h.query.live e).1 in omega (arith, same)
    go false e rest = omega (arith, rest)

-- a holder more takes nothing from the others
edge-up : (s : StreamId) (t slot : ℕ) (h : Holder) (hs : List Holder) → LiveAlone (h ∷ hs)
    → edge_in s t hs slot ≤ edge_in s t (h ∷ hs) slot
edge-up s t slot h hs alone = go (eqb h.slot slot && h.query.live) refl
  where
    go : (b : Bool) → (eqb h.slot slot && h.query.live) ≡ b
        → edge_in s t hs slot ≤ edge_of s t (named (cond b (Some h) (live_holder hs slot)))
    go true e =
        let both = and_parts (eqb h.slot slot) h.query.live e in
        let none : edge_in s t hs slot ≡ 0 =
        ap (λ o. edge_of s t (named o)) (free-none slot hs (free-beside slot h hs alone.0 (eqb-true h.slot slot both.0) both.1)) in
        omega (arith, none)
    go false e = omega arith

own-edge : (s : StreamId) (t : ℕ) (h : Holder) (hs : List Holder) → t < 2 ^ 62 → IsSettled t h
    → edge_by s t h.query ≤ edge_in s t (h ∷ hs) h.slot
own-edge s t h hs low a = go h.query.live refl
  where
    go : (b : Bool) → h.query.live ≡ b → edge_by s t h.query ≤ edge_in s t (h ∷ hs) h.slot
    go true e =
        let edge = edge-settled s t h low a true e in
        let mine : edge_in s t (h ∷ hs) h.slot ≡ edge_of s t (named (Some h)) =
        ap (λ b. edge_of s t (named (cond (b && h.query.live) (Some h) (live_holder hs h.slot)))) (eq-eqb h.slot h.slot refl)
        ∙ ap (λ b. edge_of s t (named (cond b (Some h) (live_holder hs h.slot)))) e in
        omega (arith, edge, mine)
    go false e = let none = edge-settled s t h low a false e in omega (arith, none)

edges-most : (s : StreamId) (t : ℕ) (hs : List Holder) → t < 2 ^ 62 → AllByRecursion (IsSettled t) hs → LiveAlone hs
    → AllByRecursion (λ (h : Holder). h.slot < 512) hs → edges_of hs s t ≤ greatest_below (edge_in s t hs) 512
edges-most s t [] low a alone within = omega arith
edges-most s t (h ∷ hs) low a alone within =
    let own = own-edge s t h hs low a.0 in
    let at = greatest-at (edge_in s t (h ∷ hs)) 512 h.slot within.0 in
    let rest = edges-most s t hs low a.1 alone.1 within.1 in
    let up = greatest-up (edge_in s t hs) (edge_in s t (h ∷ hs)) 512 (λ slot. edge-up s t slot h hs alone) in
    omega (arith, own, at, rest, up)

-- where all changes came, the slice begins at the last of them or at an owner's edge
cut-fine : (s : StreamId) (t last : ℕ) (hs : List Holder) → last ≤ t → t < 2 ^ 62 → AreFine last hs
    → AllByRecursion (λ (h : Holder). h.slot < 512) hs → turns_of hs t ≡ last
    → max last (greatest_below (edge_in s t hs) 512) ≡ cut hs s t
cut-fine s t last hs came low fine within turns =
    let settled = settled-later last t hs came fine.settled in
    let parts = cut-parts hs s t in
    let most = edges-most s t hs low settled fine.alone within in
    let least = greatest_below-le (edge_in s t hs) (edges_of hs s t) 512 (λ slot. edges-least s t slot hs low settled) in
    omega (arith, parts, most, least, turns)

-- ---- all changes

within-held : (hs : List Holder) (c : Change) (last : ℕ) → MayFollow last hs c → AllByRecursion (λ (h : Holder). h.slot < 512) hs
    → AllByRecursion (λ (h : Holder). h.slot < 512) (held hs c)
within-held hs (Opened n slot at plan) last follows within =
    All-push (λ (h : Holder). h.slot < 512) hs (opened_holder n slot at plan) within follows.within
within-held hs (Closed n slot at) last follows within = All-map (λ (h : Holder). h.slot < 512) (closed_holder n at) hs within

cut-later : (s : StreamId) (t last : ℕ) (hs : List Holder) (cs : List Change) → t < last → t < 2 ^ 62 → AllByRecursion IsUnended hs
    → MayAllFollow last hs cs → cut (fold held hs cs) s t ≡ cut hs s t
cut-later s t last hs [] early low u follow = refl
cut-later s t last hs (c ∷ cs) early low u follow =
    let later : last ≤ time_of c = (follow.0).time in
    let past : t < time_of c = omega (arith, early, later) in
    cut-later s t (time_of c) (held hs c) cs past low (Unended-held hs c u) follow.1 ∙ cut-held hs c s t u past low

-- where the slice begins by so many of the changes
abbrev start_from : StreamId → ℕ → ℕ → List Holder → List Change → ℕ → ℕ
start_from s t last hs cs k =
    max (last_or last (take k (times_of cs)))
    (greatest_below (λ slot. edge_of s t (owner_from (named (live_holder hs slot)) (take k cs) slot)) 512)

start-more : (s : StreamId) (t last : ℕ) (hs : List Holder) (c : Change) (cs : List Change) (k : ℕ) → LiveAlone hs → Suits hs c
    → start_from s t last hs (c ∷ cs) (suc k) ≡ start_from s t (time_of c) (held hs c) cs k
start-more s t last hs c cs k alone suits =
    ap (λ edge. max (last_or (time_of c) (take k (times_of cs))) edge)
    (greatest_below-same
    (λ slot. edge_of s t (owner_from (named (live_holder hs slot)) (take (suc k) (c ∷ cs)) slot))
    (λ slot. edge_of s t (owner_from (named (live_holder (held hs c) slot)) (take k cs) slot)) 512
    (λ slot. ap (λ o. edge_of s t (owner_from o (take k cs) slot)) (sym (live-held hs c slot alone suits))))

pub starts-from : (s : StreamId) (t last : ℕ) (hs : List Holder) (cs : List Change) → last ≤ t → t < 2 ^ 62 → AreFine last hs
    → AllByRecursion (λ (h : Holder). h.slot < 512) hs → turns_of hs t ≡ last → MayAllFollow last hs cs
    → start_from s t last hs cs (until t (times_of cs)) ≡ cut (fold held hs cs) s t
starts-from s t last hs [] came low fine within turns follow = cut-fine s t last hs came low fine within turns
starts-from s t last hs (c ∷ cs) came low fine within turns follow = elim (cases_lt t (time_of c)) [
  | inl early ↦ ap (start_from s t last hs (c ∷ cs))
      (none-more t (time_of c) (times_of cs) early ∙ until-none t (time_of c) (held hs c) cs early follow.1)
      ∙ cut-fine s t last hs came low fine within turns
      ∙ sym (cut-held hs c s t (unended-by last hs fine.settled) early low)
      ∙ sym (cut-later s t (time_of c) (held hs c) cs early low (Unended-held hs c (unended-by last hs fine.settled)) follow.1)
  | inr late ↦ let after = fine-held last hs c fine follow.0 in
      ap (start_from s t last hs (c ∷ cs)) (one-more t (time_of c) (times_of cs) late)
      ∙ start-more s t last hs c cs (until t (times_of cs)) fine.alone (follow.0).suits
      ∙ starts-from s t (time_of c) (held hs c) cs late low after (within-held hs c last follow.0 within)
      (turns-held t hs c after (follow.0).suits late low) follow.1
]
