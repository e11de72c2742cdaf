-- What a change makes of the live holders, and that the owners in an epoch are those that live.
use Rattle.std.proofs.Common.{◌≡◌, inl, inr, ℕ, ◌^◌, ◌<◌, ◌≤◌, ◌&&◌, ◌||◌, eqb, Bool, true, false, cond}
use Rattle.std.proofs.Common.{Option, Some, None, List, [], ◌∷◌, ◌++◌, map, take, refl, sym, ap, ◌∙◌, arith}
use Rattle.std.proofs.lemmas.Bool.{and_parts, and_left, and_right, or_from, both_ways, false_from_ne_true}
use Rattle.std.proofs.lemmas.Bool.{cases_lt, eqb-true}
use Rattle.std.specs.List.{list_any, fold, AllByRecursion}
use Rattle.as_base.specs.declared.message.Change.{Change}
use Rattle.as_base.specs.declared.message.Change.TheVariants.{Opened, Closed}
use Rattle.as_base.specs.declared.query.Plan.{Plan}
use Rattle.views.specs.Slots.{Holder, opened_holder, closed_holder, held, owner}
use Rattle.views.specs.IsHolder.{time_of, Begun, begun, live_holder, IsUnended, IsSettled, AreNotBothLive, LiveAlone}
use Rattle.views.proofs.ListLaws.{All-by, All-push, All-map, cond_same}
use Rattle.views.proofs.NumberLaws.{ended}
use Rattle.views.proofs.SlotLaws.{closed-by, owner-held, owner-live, Unended-held}
use Rattle.changelog.specs.Changes.{slot_of, opened_by, times_of, until, owner_from}
use Rattle.changelog.proofs.NumberLaws.{one-more, none-more}
use Rattle.changelog.specs.Orderly.{named, owner_at, is_named, IsFree, Suits, MayFollow, MayAllFollow}

-- ---- what changes keep of the holders

-- All that was to come to them came by the time, and of each slot at most one lives.
pub record AreFine (last : ℕ) (hs : List Holder) : Type 0 where
  pub settled : AllByRecursion (IsSettled last) hs
  pub alone : LiveAlone hs

pub unended-by : (last : ℕ) (hs : List Holder) → AllByRecursion (IsSettled last) hs → AllByRecursion IsUnended hs
unended-by last hs s = All-by (IsSettled last) IsUnended (λ h a. record { lasts = a.lasts }) hs s

pub settled-later : (last t : ℕ) (hs : List Holder) → last ≤ t → AllByRecursion (IsSettled last) hs → AllByRecursion (IsSettled t) hs
settled-later last t hs late s = All-by (IsSettled last) (IsSettled t) one hs s
  where
    one : (h : Holder) → IsSettled last h → IsSettled t h
    one h a = record {
      begins = (let b = a.begins in omega (arith, b, late));
      lasts = a.lasts;
      ends = λ dead. (let b = a.ends dead in omega (arith, b, late));
    }

settled-closed : (n at : ℕ) (h : Holder) → IsSettled at h → IsSettled at (closed_holder n at h)
settled-closed n at h s = record {
  begins = closed-by (λ q. q.from ≤ at) n at h.query (λ live. s.begins) s.begins;
  lasts = closed-by (λ q. q.live ≡ true → q.to ≡ 2 ^ 62) n at h.query (λ live dead. absurd (both_ways false refl dead)) s.lasts;
  ends = closed-by (λ q. q.live ≡ false → q.to ≤ at) n at h.query (λ live dead. omega arith) s.ends;
}

settled-held : (last : ℕ) (hs : List Holder) (c : Change) → last ≤ time_of c → AllByRecursion (IsSettled last) hs
    → AllByRecursion (IsSettled (time_of c)) (held hs c)
settled-held last hs (Opened n s at plan) late a =
    All-push (IsSettled at) hs (opened_holder n s at plan) (settled-later last at hs late a)
    (record { begins = omega arith; lasts = λ live. refl; ends = λ dead. absurd (both_ways true dead refl) })
settled-held last hs (Closed n s at) late a =
    All-map (IsSettled at) (closed_holder n at) hs
    (All-by (IsSettled at) (λ h. IsSettled at (closed_holder n at h)) (settled-closed n at) hs (settled-later last at hs late a))

-- a holder that is closed lives only where it lived
apart-closed : (n at : ℕ) (g h : Holder) → AreNotBothLive g h → AreNotBothLive (closed_holder n at g) (closed_holder n at h)
apart-closed n at g h apart same live =
    closed-by (λ q. q.live ≡ false) n at h.query (λ named. refl)
    (apart same
    (closed-by (λ q. q.live ≡ true → g.query.live ≡ true) n at g.query (λ named dead. absurd (both_ways false refl dead)) (λ e. e) live))

alone-closed : (n at : ℕ) (hs : List Holder) → LiveAlone hs → LiveAlone (map (closed_holder n at) hs)
alone-closed n at [] a = tt
alone-closed n at (h ∷ hs) a = (
  All-map (AreNotBothLive (closed_holder n at h)) (closed_holder n at) hs
      (All-by (AreNotBothLive h) (λ g. AreNotBothLive (closed_holder n at h) (closed_holder n at g)) (apart-closed n at h) hs a.0),
  alone-closed n at hs a.1,
)

alone-push : (hs : List Holder) (h : Holder) → LiveAlone hs → IsFree h.slot hs → LiveAlone (hs ++ h ∷ [])
alone-push [] h a free = (tt, tt)
alone-push (g ∷ hs) h a free = (
  All-push (AreNotBothLive g) hs h a.0 (λ same live. absurd (both_ways g.query.live (free.0 same) live)),
  alone-push hs h a.1 free.1,
)

alone-held : (hs : List Holder) (c : Change) → LiveAlone hs → Suits hs c → LiveAlone (held hs c)
alone-held hs (Opened n s at plan) a suits = alone-push hs (opened_holder n s at plan) a suits
alone-held hs (Closed n s at) a suits = alone-closed n at hs a

pub fine-held : (last : ℕ) (hs : List Holder) (c : Change) → AreFine last hs → MayFollow last hs c → AreFine (time_of c) (held hs c)
fine-held last hs c fine follows = record {
  settled = settled-held last hs c follows.time fine.settled;
  alone = alone-held hs c fine.alone follows.suits;
}

-- ---- the live holder of a slot after a change

not-here : (slot : ℕ) (h : Holder) → (h.slot ≡ slot → h.query.live ≡ false) → (eqb h.slot slot && h.query.live) ≡ false
not-here slot h free = go (eqb h.slot slot) refl
  where
    go : (b : Bool) → eqb h.slot slot ≡ b → (b && h.query.live) ≡ false
    go true e = free (eqb-true h.slot slot e)
    go false e = refl

pub free-none : (slot : ℕ) (hs : List Holder) → IsFree slot hs → live_holder hs slot ≡ None
free-none slot [] free = refl
free-none slot (h ∷ hs) free = ap (λ b. cond b (Some h) (live_holder hs slot)) (not-here slot h free.0) ∙ free-none slot hs free.1

-- beside a live holder of the slot the others of it do not live
pub free-beside : (slot : ℕ) (h : Holder) (hs : List Holder) → AllByRecursion (AreNotBothLive h) hs → h.slot ≡ slot → h.query.live ≡ true
    → IsFree slot hs
free-beside slot h hs apart here live =
    All-by (AreNotBothLive h) (λ (g : Holder). g.slot ≡ slot → g.query.live ≡ false) (λ g a there. a (here ∙ sym there) live) hs apart

live-opened : (hs : List Holder) (h : Holder) (slot : ℕ) → h.query.live ≡ true → IsFree h.slot hs
    → named (live_holder (hs ++ h ∷ []) slot) ≡ cond (eqb h.slot slot) (named (Some h)) (named (live_holder hs slot))
live-opened [] h slot live free = ap (λ b. named (cond (eqb h.slot slot && b) (Some h) None)) live ∙ go (eqb h.slot slot)
  where
    go : (b : Bool) → named (cond (b && true) (Some h) None) ≡ cond b (named (Some h)) None
    go true = refl
    go false = refl
live-opened (g ∷ hs) h slot live free =
    go (eqb g.slot slot && g.query.live) (eqb h.slot slot) refl refl (live-opened hs h slot live free.1)
  where
    go : (b e : Bool) → (eqb g.slot slot && g.query.live) ≡ b → eqb h.slot slot ≡ e
        → named (live_holder (hs ++ h ∷ []) slot) ≡ cond e (named (Some h)) (named (live_holder hs slot))
        → named (cond b (Some g) (live_holder (hs ++ h ∷ []) slot))
        ≡ cond e (named (Some h)) (named (cond b (Some g) (live_holder hs slot)))
    go false e p q rest = rest
    go true true p q rest =
        let both = and_parts (eqb g.slot slot) g.query.live p in
        absurd (both_ways g.query.live (free.0 (eqb-true g.slot slot both.0 ∙ sym (eqb-true h.slot slot q))) both.1)
    go true false p q rest = refl

-- the holder has the slot, if it lives and has the number
abbrev IsThere : ℕ → ℕ → Holder → Type 0
IsThere n slot h = is_named n h ≡ true → h.slot ≡ slot

-- the holder has the number, if it lives and has the slot
abbrev IsOnly : ℕ → ℕ → Holder → Type 0
IsOnly n slot h = h.slot ≡ slot → h.query.live ≡ true → is_named n h ≡ true

none-named : (n slot : ℕ) (hs : List Holder) → IsFree slot hs → AllByRecursion (IsThere n slot) hs
    → list_any (is_named n) hs ≡ false
none-named n slot [] free each = refl
none-named n slot (h ∷ hs) free each =
    or_from (is_named n h) (list_any (is_named n) hs)
    (false_from_ne_true (is_named n h)
    (λ e. both_ways h.query.live (free.0 (each.0 e)) (and_parts (eqb h.query.n n) h.query.live e).1))
    (none-named n slot hs free.1 each.1)

pub rest-any : (p : Holder → Bool) (h : Holder) (hs : List Holder) → p h ≡ false → list_any p (h ∷ hs) ≡ true → list_any p hs ≡ true
rest-any p h hs e any = sym (ap (λ b. b || list_any p hs) e) ∙ any

-- what lives in the slot has the number
alone-named : (n slot : ℕ) (hs : List Holder) → LiveAlone hs → list_any (is_named n) hs ≡ true
    → AllByRecursion (IsThere n slot) hs
    → AllByRecursion (IsOnly n slot) hs
alone-named n slot [] a one each = tt
alone-named n slot (h ∷ hs) a one each = go (is_named n h) refl (alone-named n slot hs a.1)
  where
    go : (b : Bool) → is_named n h ≡ b
        → (list_any (is_named n) hs ≡ true → AllByRecursion (IsThere n slot) hs
        → AllByRecursion (IsOnly n slot) hs)
        → AllByRecursion (IsOnly n slot) (h ∷ hs)
    go true e rest = (
      (λ here live. e),
      All-by (λ (g : Holder). g.slot ≡ slot → g.query.live ≡ false)
          (IsOnly n slot) (λ g free here live. absurd (both_ways g.query.live (free here) live)) hs
          (free-beside slot h hs a.0 (each.0 e) (and_parts (eqb h.query.n n) h.query.live e).1),
    )
    go false e rest =
        let more = rest-any (is_named n) h hs e one in (
          (λ here live. absurd (both_ways (list_any (is_named n) hs)
              (none-named n slot hs (free-beside slot h hs a.0 here live) each.1) more)),
          rest more each.1,
        )

live-closed : (n at s slot : ℕ) (hs : List Holder) → AllByRecursion (IsThere n s) hs
    → AllByRecursion (IsOnly n s) hs
    → named (live_holder (map (closed_holder n at) hs) slot) ≡ cond (eqb s slot) None (named (live_holder hs slot))
live-closed n at s slot [] there here = sym (cond_same (eqb s slot) None)
live-closed n at s slot (h ∷ hs) there here = go (is_named n h) (eqb s slot) refl refl (live-closed n at s slot hs there.1 here.1)
  where
    -- one that is ended is passed over
    passed : named (cond (eqb h.slot slot && false) (Some (record { query = ended at h.query; slot = h.slot }))
        (live_holder (map (closed_holder n at) hs) slot)) ≡ named (live_holder (map (closed_holder n at) hs) slot)
    passed =
        ap
        (λ b. named (cond b (Some (record { query = ended at h.query; slot = h.slot })) (live_holder (map (closed_holder n at) hs) slot)))
        (and_right (eqb h.slot slot) false refl)

    go : (b e : Bool) → is_named n h ≡ b → eqb s slot ≡ e
        → named (live_holder (map (closed_holder n at) hs) slot) ≡ cond e None (named (live_holder hs slot))
        → named (cond (eqb h.slot slot && (cond b (ended at h.query) h.query).live)
        (Some (record { query = cond b (ended at h.query) h.query; slot = h.slot })) (live_holder (map (closed_holder n at) hs) slot))
        ≡ cond e None (named (cond (eqb h.slot slot && h.query.live) (Some h) (live_holder hs slot)))
    go true true p q rest = passed ∙ rest
    go true false p q rest =
        passed
        ∙ rest
        ∙ sym (ap (λ b. named (cond b (Some h) (live_holder hs slot)))
        (and_left (eqb h.slot slot) h.query.live (ap (λ m. eqb m slot) (there.0 p) ∙ q)))
    go false true p q rest =
        ap (λ b. named (cond b (Some h) (live_holder (map (closed_holder n at) hs) slot)))
        (not-here slot h (λ same. false_from_ne_true h.query.live
        (λ live. both_ways (is_named n h) p (here.0 (same ∙ sym (eqb-true s slot q)) live)))) ∙ rest
    go false false p q rest = either (eqb h.slot slot && h.query.live)
      where
        either : (b : Bool) → named (cond b (Some h) (live_holder (map (closed_holder n at) hs) slot))
            ≡ named (cond b (Some h) (live_holder hs slot))
        either true = refl
        either false = rest

pub live-held : (hs : List Holder) (c : Change) (slot : ℕ) → LiveAlone hs → Suits hs c
    → named (live_holder (held hs c) slot) ≡ cond (eqb (slot_of c) slot) (opened_by c) (named (live_holder hs slot))
live-held hs (Opened n s at plan) slot a free = live-opened hs (opened_holder n s at plan) slot refl free
live-held hs (Closed n s at) slot a names = live-closed n at s slot hs names.each (alone-named n s hs a names.one names.each)

-- ---- changes after a time

pub until-none : (t last : ℕ) (hs : List Holder) (cs : List Change) → t < last → MayAllFollow last hs cs → until t (times_of cs) ≡ 0
until-none t last hs [] early follow = refl
until-none t last hs (c ∷ cs) early follow =
    let later : last ≤ time_of c = (follow.0).time in
    let past : t < time_of c = omega (arith, early, later) in
    none-more t (time_of c) (times_of cs) past ∙ until-none t (time_of c) (held hs c) cs past follow.1

abbrev short : Option Begun → Option (ℕ × Plan)
short None = None
short (Some b) = Some (b.n, b.plan)

short-begun : (o : Option Holder) → short (begun o) ≡ named o
short-begun None = refl
short-begun (Some h) = refl

named-by : (a b : Option Holder) → begun a ≡ begun b → named a ≡ named b
named-by a b e = sym (short-begun a) ∙ ap short e ∙ short-begun b

owner-later : (t slot last : ℕ) (hs : List Holder) (cs : List Change) → t < last → t < 2 ^ 62 → AllByRecursion IsUnended hs
    → MayAllFollow last hs cs → owner_at (fold held hs cs) t slot ≡ owner_at hs t slot
owner-later t slot last hs [] early low u follow = refl
owner-later t slot last hs (c ∷ cs) early low u follow =
    let later : last ≤ time_of c = (follow.0).time in
    let past : t < time_of c = omega (arith, early, later) in
    owner-later t slot (time_of c) (held hs c) cs past low (Unended-held hs c u) follow.1
    ∙ named-by (owner (held hs c) t slot) (owner hs t slot) (owner-held hs c t slot u past low)

-- ---- owners

pub owners-from : (t slot last : ℕ) (hs : List Holder) (cs : List Change) → last ≤ t → t < 2 ^ 62 → AreFine last hs
    → MayAllFollow last hs cs
    → owner_from (named (live_holder hs slot)) (take (until t (times_of cs)) cs) slot ≡ owner_at (fold held hs cs) t slot
owners-from t slot last hs [] came low fine follow = sym (ap named (owner-live hs t slot low (settled-later last t hs came fine.settled)))
owners-from t slot last hs (c ∷ cs) came low fine follow = elim (cases_lt t (time_of c)) [
  | inl early ↦ ap (λ k. owner_from (named (live_holder hs slot)) (take k (c ∷ cs)) slot)
      (none-more t (time_of c) (times_of cs) early ∙ until-none t (time_of c) (held hs c) cs early follow.1)
      ∙ sym (ap named (owner-live hs t slot low (settled-later last t hs came fine.settled)))
      ∙ sym (named-by (owner (held hs c) t slot) (owner hs t slot) (owner-held hs c t slot (unended-by last hs fine.settled) early low))
      ∙ sym (owner-later t slot (time_of c) (held hs c) cs early low (Unended-held hs c (unended-by last hs fine.settled)) follow.1)
  | inr late ↦ ap (λ k. owner_from (named (live_holder hs slot)) (take k (c ∷ cs)) slot) (one-more t (time_of c) (times_of cs) late)
      ∙ sym (ap (λ o. owner_from o (take (until t (times_of cs)) cs) slot) (live-held hs c slot fine.alone (follow.0).suits))
      ∙ owners-from t slot (time_of c) (held hs c) cs late low (fine-held last hs c fine follow.0) follow.1
]
