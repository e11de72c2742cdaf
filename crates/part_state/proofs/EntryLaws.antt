-- The queries that run, after a change and after an advance.
use Rattle.std.proofs.Common.{◌≡◌, ◌⊎◌, inl, inr, ℕ, ◌≤◌, ◌<◌, ◌&&◌, ◌||◌, nat_lt, eqb, Bool, cond, true, false, List, [], ◌∷◌, ◌++◌, zero, suc, ◌+◌, map, set, get_or, take, drop, length, refl, sym, ap, ap₂, ◌∙◌, arith}
use Rattle.std.proofs.lemmas.Bool.{and_right, or_parts, or_cases, lt-ltb, ltb-true}
use Rattle.std.proofs.lemmas.List.{take-append-le, take_all}
use Rattle.std.proofs.lemmas.List.Edits.{map_over_more}
use Rattle.as_base.specs.declared.message.Change.{Change}
use Rattle.as_base.specs.declared.message.Change.TheVariants.{Opened, Closed}
use Rattle.views.specs.Slots.{Holder, opened_holder, closed_holder, held}
use Rattle.views.proofs.ListLaws.{filter-within}
use Rattle.as_base.specs.declared.stream.StreamId.{StreamId}
use Rattle.contents.specs.Past.{mark_of, mark_for}
use Rattle.contents.proofs.NeedLaws.{mark_for-up}
use Rattle.contents.proofs.KeptLaws.{filter-append}
use Rattle.part_state.specs.declared.entries.Entry.{Entry}
use Rattle.part_state.specs.Entries.{holder_of, holders_in, closed_entry, IsSafe, AreSafe, is_running, running}

-- an element that is there, whatever stands for one that is not
pub any-default : {X : Type 0} (xs : List X) (i : ℕ) (d e : X) → i < length xs → get_or xs i d ≡ get_or xs i e
any-default [] i d e l = absurd (omega (arith, l))
any-default (x ∷ xs) zero d e l = refl
any-default (x ∷ xs) (suc i) d e l = any-default xs i d e (omega (arith, l))

-- closing leaves a query that runs no more
closed-not : (marks : List ℕ) (n at : ℕ) (h : Holder) → is_running marks h ≡ false → closed_holder n at h ≡ h
closed-not marks n at h e = ap (λ b. record { query = cond b (record { n = h.query.n; plan = h.query.plan; from = h.query.from; to = at; live = false }) h.query; slot = h.slot })
    (and_right (eqb h.query.n n) h.query.live (or_parts h.query.live (nat_lt (mark_for marks h.query) h.query.to) e).0)

closed-run : (marks : List ℕ) (n at : ℕ) (hs : List Holder) → running marks (map (closed_holder n at) (running marks hs)) ≡ running marks (map (closed_holder n at) hs)
closed-run marks n at [] = refl
closed-run marks n at (h ∷ hs) = go (is_running marks h) refl (closed-run marks n at hs)
  where
    go : (b : Bool) → is_running marks h ≡ b → running marks (map (closed_holder n at) (running marks hs)) ≡ running marks (map (closed_holder n at) hs)
        → running marks (map (closed_holder n at) (cond b (h ∷ running marks hs) (running marks hs))) ≡ running marks (closed_holder n at h ∷ map (closed_holder n at) hs)
    go true e rest = ap (λ l. cond (is_running marks (closed_holder n at h)) (closed_holder n at h ∷ l) l) rest
    go false e rest = rest ∙ sym (ap (λ b. cond b (closed_holder n at h ∷ running marks (map (closed_holder n at) hs)) (running marks (map (closed_holder n at) hs)))
        (ap (is_running marks) (closed-not marks n at h e) ∙ e))

-- What runs after a change is what runs of that which ran before it.
pub running-held : (marks : List ℕ) (hs : List Holder) (c : Change) → running marks (held (running marks hs) c) ≡ running marks (held hs c)
running-held marks hs (Opened n slot at plan) =
    filter-append (is_running marks) (running marks hs) (opened_holder n slot at plan ∷ [])
    ∙ ap (λ l. l ++ running marks (opened_holder n slot at plan ∷ [])) (filter-within (is_running marks) (is_running marks) hs (λ x e. e))
    ∙ sym (filter-append (is_running marks) hs (opened_holder n slot at plan ∷ []))
running-held marks hs (Closed n slot at) = closed-run marks n at hs

-- ---- entries

-- a list after its elements were written
pub written : {X : Type 0} (len : ℕ) (new old : List X) → len ≡ length new → take len (new ++ drop (length new) old) ≡ new
written len new old long = take-append-le len new (drop (length new) old) (omega (arith, long)) ∙ take_all len new (omega (arith, long))

-- closing entries is closing queries
pub holders-closed : (n at : ℕ) (es : List Entry) → holders_in (map (closed_entry n at) es) ≡ map (closed_holder n at) (holders_in es)
holders-closed n at [] = refl
holders-closed n at (e ∷ es) = ap₂ (λ h l. h ∷ l) (one (eqb e.n n && e.live)) (holders-closed n at es)
  where
    one : (b : Bool) → holder_of (cond b (record { n = e.n; slot = e.slot; plan = e.plan; from = e.from; to = at; live = false }) e)
        ≡ record { query = cond b (record { n = e.n; plan = e.plan; from = e.from; to = at; live = false }) (holder_of e).query; slot = e.slot }
    one true = refl
    one false = refl

pub safe-closed : (n at : ℕ) (es : List Entry) → AreSafe es → AreSafe (map (closed_entry n at) es)
safe-closed n at [] a = tt
safe-closed n at (e ∷ es) a = (one (eqb e.n n && e.live), safe-closed n at es a.1)
  where
    one : (b : Bool) → IsSafe (cond b (record { n = e.n; slot = e.slot; plan = e.plan; from = e.from; to = at; live = false }) e)
    one true = record { slot = a.0.slot; window = a.0.window }
    one false = a.0

long-still : {X : Type 0} (f : X → X) (i : ℕ) (xs : List X) → length (map f (take i xs) ++ drop i xs) ≡ length xs
long-still f zero xs = refl
long-still f (suc i) [] = refl
long-still f (suc i) (x ∷ xs) = ap suc (long-still f i xs)

-- one entry more is closed
pub close-step : (d : Entry) (n at : ℕ) (old cur : List Entry) (i : ℕ) (new : Entry) → i < length old → new ≡ closed_entry n at (get_or cur i d)
    → cur ≡ map (closed_entry n at) (take i old) ++ drop i old → set cur i new ≡ map (closed_entry n at) (take (i + 1) old) ++ drop (i + 1) old
close-step d n at old cur i new l is was =
    let long : length cur ≡ length old = ap length was ∙ long-still (closed_entry n at) i old in
    let x : Entry = get_or cur i d in
    ap (set cur i) is ∙ map_over_more (closed_entry n at) old cur i x l was (any-default cur i d x (omega (arith, l, long)))

-- What runs by later watermarks ran by the former ones.
pub running-later : (marks wm : List ℕ) (hs : List Holder) → ((s : StreamId) → mark_of marks s ≤ mark_of wm s) → running wm (running marks hs) ≡ running wm hs
running-later marks wm hs up = filter-within (is_running wm) (is_running marks) hs (λ h e. later h (or_cases h.query.live (nat_lt (mark_for wm h.query) h.query.to) e))
  where
    or-end : (b : Bool) → (b || true) ≡ true
    or-end true = refl
    or-end false = refl

    later : (h : Holder) → (h.query.live ≡ true) ⊎ (nat_lt (mark_for wm h.query) h.query.to ≡ true) → is_running marks h ≡ true
    later h (inl e) = ap (λ b. b || nat_lt (mark_for marks h.query) h.query.to) e
    later h (inr e) =
        let u = mark_for-up marks wm h.query up in let l = ltb-true (mark_for wm h.query) h.query.to e in
        ap (λ b. h.query.live || b) (lt-ltb (mark_for marks h.query) h.query.to (omega (arith, u, l))) ∙ or-end h.query.live
