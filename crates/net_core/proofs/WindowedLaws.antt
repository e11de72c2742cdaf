-- Fragments of windows: what is made of them goes through the windows, and what they have of one of them is what the parts have of it.
use Rattle.std.proofs.Common.{◌≡◌, ◌⊎◌, inl, inr, ℕ, ◌≤◌, ◌<◌, ◌||◌, eqb, Bool, cond, true, false, true≢false, List, [], ◌∷◌, ◌++◌, map, refl, sym, ap, ap₂, ◌∙◌, arith}
use Rattle.std.specs.List.{flat_map, AllByRecursion}
use Rattle.std.proofs.lemmas.Bool.{eqb-true, eq-eqb, ne_eqb, cases_lt, or_parts}
use Rattle.std.proofs.lemmas.List.Folds.{flat_map-map}
use Rattle.as_base.specs.declared.fragment.Fragment.{Fragment}
use Rattle.as_base.specs.declared.query.Kind.{Kind}
use Rattle.as_base.specs.declared.query.Kind.TheVariants.{Select, Sum, Count, Join}
use Rattle.as_base.specs.declared.query.Plan.{Plan}
use Rattle.views.specs.Passed.{rising_once}
use Rattle.views.proofs.ListLaws.{All-by, All-every, All-map, filter-all, filter-none, flat_map-same}
use Rattle.views.proofs.RisingLaws.{Rises, All-put_once, Rises-rising_once, list_any-rising_once}
use Rattle.contents.specs.Free.{member, Once}
use Rattle.result_router.specs.Merge.{window_text, text_for, piece_with, piece_for}
use Rattle.result_router.specs.Rising.{with_key, by_rising, start_of}
use Rattle.result_router.specs.Rows.{rows_as, rows_for}
use Rattle.net_core.specs.Due.{piece_of}
use Rattle.net_core.proofs.PartedLaws.{filter-flat_map, flat_map-none, flat_map-every, All-flat_map, member-below, one-of}

-- ---- rising numbers

first-member : (k : ℕ) (ks : List ℕ) → member k (k ∷ ks) ≡ true
first-member k ks = ap (λ b. b || member k ks) (eq-eqb k k refl)

rest-member : (k n : ℕ) (ns : List ℕ) → ¬ (n ≡ k) → member k (n ∷ ns) ≡ member k ns
rest-member k n ns apart = ap (λ b. b || member k ns) (ne_eqb n k apart)

-- what is among numbers that begin with a lower one is among the others
others : (n : ℕ) (ns js : List ℕ) → AllByRecursion (λ j. n < j) js → AllByRecursion (λ j. member j (n ∷ ns) ≡ true) js → AllByRecursion (λ j. member j ns ≡ true) js
others n ns [] l m = tt
others n ns (j ∷ js) l m = let up = l.0 in (sym (rest-member j n ns (λ e. omega (arith, e, up))) ∙ m.0, others n ns js l.1 m.1)

fewer : {Y : Type 0} (g : ℕ → List Y) (k : ℕ) (ks js : List ℕ) → AllByRecursion (λ j. k < j) js → AllByRecursion (λ j. member j (k ∷ ks) ≡ false → g j ≡ []) js → AllByRecursion (λ j. member j ks ≡ false → g j ≡ []) js
fewer g k ks [] l m = tt
fewer g k ks (j ∷ js) l m = let up = l.0 in ((λ none. m.0 (rest-member j k ks (λ f. omega (arith, f, up)) ∙ none)), fewer g k ks js l.1 m.1)

lifted : (n k : ℕ) (ks : List ℕ) → n ≤ k → AllByRecursion (λ j. k < j) ks → AllByRecursion (λ j. n < j) ks
lifted n k ks le h = All-by (λ j. k < j) (λ j. n < j) (λ j up. omega (arith, le, up)) ks h

-- A walk along rising numbers is one along others, if these have all of the first, and nothing is given for any more.
pub walk-same : {Y : Type 0} (g : ℕ → List Y) (ks ns : List ℕ) → Rises ks → Rises ns → AllByRecursion (λ k. member k ns ≡ true) ks → AllByRecursion (λ n. member n ks ≡ false → g n ≡ []) ns
    → flat_map g ks ≡ flat_map g ns
walk-same g [] ns h r a b = sym (flat_map-none g ns (All-by (λ n. false ≡ false → g n ≡ []) (λ n. g n ≡ []) (λ n e. e refl) ns b))
walk-same g (k ∷ ks) [] h r a b = absurd (true≢false (sym a.0))
walk-same g (k ∷ ks) (n ∷ ns) h r a b = elim (cases_lt n k) [
  | inl low ↦ (let later : AllByRecursion (λ j. n < j) (k ∷ ks) = (low, lifted n k ks (omega (arith, low)) h.0) in
      walk-same g (k ∷ ks) ns h r.1 (others n ns (k ∷ ks) later a) b.1
      ∙ ap (λ l. l ++ flat_map g ns) (sym (b.0 (member-below n (k ∷ ks) later))))
  | inr high ↦ elim (cases_lt k n) [
    | inl low ↦ absurd (true≢false (sym a.0 ∙ member-below k (n ∷ ns) (low, lifted k n ns (omega (arith, low)) r.0)))
    | inr low ↦ (let e : k ≡ n = omega (arith, low, high) in
        ap₂ (λ x y. x ++ y) (ap g e)
        (walk-same g ks ns h.1 r.1 (others n ns ks (lifted n k ks low h.0) a.1) (fewer g k ks ns (lifted k n ns high r.0) b.1)))
  ]
]

-- ---- what is made of fragments

with-none : (key : Fragment → ℕ) (k : ℕ) (fs : List Fragment) → member k (map key fs) ≡ false → with_key key k fs ≡ []
with-none key k [] e = refl
with-none key k (f ∷ fs) e = let p = or_parts (eqb (key f) k) (member k (map key fs)) e in ap (λ b. cond b (f ∷ with_key key k fs) (with_key key k fs)) p.0 ∙ with-none key k fs p.1

-- what holds of each number
pub All-rising : (P : ℕ → Type 0) (ks : List ℕ) → AllByRecursion P ks → AllByRecursion P (rising_once ks)
All-rising P [] h = tt
All-rising P (k ∷ ks) h = All-put_once P k (rising_once ks) h.0 (All-rising P ks h.1)

-- what is made goes through any rising numbers that have that of each fragment
pub made-through : {Y : Type 0} (key : Fragment → ℕ) (make : List Fragment → List Y) (fs : List Fragment) (ns : List ℕ) → make [] ≡ [] → Rises ns → AllByRecursion (λ f. member (key f) ns ≡ true) fs
    → by_rising key make fs ≡ flat_map (λ k. make (with_key key k fs)) ns
made-through key make fs ns none rise all =
    walk-same (λ k. make (with_key key k fs)) (rising_once (map key fs)) ns (Rises-rising_once (map key fs)) rise
    (All-rising (λ k. member k ns ≡ true) (map key fs) (All-map (λ k. member k ns ≡ true) key fs all))
    (All-every (λ n. member n (rising_once (map key fs)) ≡ false → make (with_key key n fs) ≡ [])
    (λ n absent. ap make (with-none key n fs (sym (list_any-rising_once (λ d. eqb d n) (map key fs)) ∙ absent)) ∙ none) ns)

-- ---- fragments of windows

-- the fragment is of this query, with this plan
pub record IsOf (n : ℕ) (plan : Plan) (f : Fragment) : Type 0 where
  pub number : f.n ≡ n
  pub plan_is : f.plan ≡ plan

rows-none : (kind : Kind) (plan : Plan) (start : ℕ) → rows_as kind plan start [] ≡ []
rows-none Select plan start = refl
rows-none (Sum c) plan start = refl
rows-none Count plan start = refl
rows-none Join plan start = refl

-- the rows of fragments of one query and window
pub rows-of : (n : ℕ) (plan : Plan) (start : ℕ) (fs : List Fragment) → AllByRecursion (IsOf n plan) fs → AllByRecursion (λ f. f.start ≡ start) fs → rows_for fs ≡ rows_as plan.kind plan start fs
rows-of n plan start [] is at = sym (rows-none plan.kind plan start)
rows-of n plan start (f ∷ fs) is at = ap₂ (λ p s. rows_as p.kind p s (f ∷ fs)) is.0.plan_is at.0

-- the piece of fragments of one query
pub piece-of : (n : ℕ) (plan : Plan) (fs : List Fragment) → AllByRecursion (IsOf n plan) fs → piece_for fs ≡ piece_of n (text_for fs)
piece-of n plan [] is = refl
piece-of n plan (f ∷ fs) is = ap (λ m. piece_with m (text_for (f ∷ fs))) is.0.number ∙ go (text_for (f ∷ fs))
  where
    go : (bytes : List ℕ) → piece_with n bytes ≡ piece_of n bytes
    go [] = refl
    go (b ∷ bytes) = refl

module _ (begin : ℕ → ℕ) (apart : (j k : ℕ) → j < k → begin j < begin k) (make : ℕ → ℕ → List Fragment) (begins : (p k : ℕ) → AllByRecursion (λ f. f.start ≡ begin k) (make p k)) (windows : ℕ → List ℕ) where
  -- what parts have of their windows
  abbrev pub windowed : List ℕ → List Fragment
  windowed ps = flat_map (λ p. flat_map (make p) (windows p)) ps

  begin-same : (j k : ℕ) → eqb (begin j) (begin k) ≡ eqb j k
  begin-same j k = elim (cases_lt j k) [
    | inl low ↦ (let a = apart j k low in ne_eqb (begin j) (begin k) (λ e. omega (arith, a, e)) ∙ sym (ne_eqb j k (λ e. omega (arith, low, e))))
    | inr high ↦ elim (cases_lt k j) [
      | inl low ↦ (let a = apart k j low in ne_eqb (begin j) (begin k) (λ e. omega (arith, a, e)) ∙ sym (ne_eqb j k (λ e. omega (arith, low, e))))
      | inr low ↦ (let e : j ≡ k = omega (arith, low, high) in eq-eqb (begin j) (begin k) (ap begin e) ∙ sym (eq-eqb j k e))
    ]
  ]

  keep : (b : Bool) (s : ℕ) (fs : List Fragment) → AllByRecursion (λ f. eqb f.start s ≡ b) fs → with_key start_of s fs ≡ cond b fs []
  keep true s fs h = filter-all (λ f. eqb (start_of f) s) fs h
  keep false s fs h = filter-none (λ f. eqb (start_of f) s) fs h

  one-window : (p j k : ℕ) → with_key start_of (begin k) (make p j) ≡ cond (eqb j k) (make p k) []
  one-window p j k =
      keep (eqb j k) (begin k) (make p j) (All-by (λ (f : Fragment). f.start ≡ begin j) (λ (f : Fragment). eqb f.start (begin k) ≡ eqb j k) (λ f e. ap (λ s. eqb s (begin k)) e ∙ begin-same j k) (make p j) (begins p j))
      ∙ same (eqb j k) refl
    where
      same : (b : Bool) → eqb j k ≡ b → cond b (make p j) [] ≡ cond b (make p k) []
      same true e = ap (make p) (eqb-true j k e)
      same false e = refl

  -- what parts have of a window, of those of them that have it
  pub with-window : (k : ℕ) (ps : List ℕ) → ((p : ℕ) → Once (windows p)) → with_key start_of (begin k) (windowed ps) ≡ flat_map (λ p. cond (member k (windows p)) (make p k) []) ps
  with-window k ps once =
      filter-flat_map (λ f. eqb (start_of f) (begin k)) (λ p. flat_map (make p) (windows p)) ps
      ∙ flat_map-every (λ p. with_key start_of (begin k) (flat_map (make p) (windows p))) (λ p. cond (member k (windows p)) (make p k) []) ps
      (λ p. filter-flat_map (λ f. eqb (start_of f) (begin k)) (make p) (windows p)
      ∙ flat_map-every (λ j. with_key start_of (begin k) (make p j)) (λ j. cond (eqb j k) (make p k) []) (windows p) (λ j. one-window p j k)
      ∙ one-of k (windows p) (make p k) (once p))

  -- where the others have nothing of it
  pub at-window : (k : ℕ) (ps : List ℕ) → ((p : ℕ) → Once (windows p)) → ((p : ℕ) → member k (windows p) ≡ false → make p k ≡ []) → with_key start_of (begin k) (windowed ps) ≡ flat_map (λ p. make p k) ps
  at-window k ps once none =
      with-window k ps once
      ∙ flat_map-every (λ p. cond (member k (windows p)) (make p k) []) (λ p. make p k) ps (λ p. kept p (member k (windows p)) refl)
    where
      kept : (p : ℕ) (b : Bool) → member k (windows p) ≡ b → cond b (make p k) [] ≡ make p k
      kept p true e = refl
      kept p false e = sym (none p e)

  Rises-begins : (ks : List ℕ) → Rises ks → Rises (map begin ks)
  Rises-begins [] h = tt
  Rises-begins (k ∷ ks) h = (All-map (λ s. begin k < s) begin ks (All-by (λ j. k < j) (λ j. begin k < begin j) (λ j low. apart k j low) ks h.0), Rises-begins ks h.1)

  member-begins : (k : ℕ) (ks : List ℕ) → member (begin k) (map begin ks) ≡ member k ks
  member-begins k [] = refl
  member-begins k (j ∷ ks) = ap₂ (λ a b. a || b) (begin-same j k) (member-begins k ks)

  -- the text goes through any rising windows that have those of the parts
  pub text-through : (ps ks : List ℕ) → ((p : ℕ) → Once (windows p)) → AllByRecursion (λ k. (p : ℕ) → member k (windows p) ≡ false → make p k ≡ []) ks → Rises ks → ((p : ℕ) → AllByRecursion (λ k. member k ks ≡ true) (windows p))
      → text_for (windowed ps) ≡ flat_map (λ k. window_text (flat_map (λ p. make p k) ps)) ks
  text-through ps ks once none rise all =
      made-through start_of window_text (windowed ps) (map begin ks) refl (Rises-begins ks rise)
      (All-flat_map (λ f. member (start_of f) (map begin ks) ≡ true) (λ p. flat_map (make p) (windows p)) ps
      (All-every (λ p. AllByRecursion (λ f. member (start_of f) (map begin ks) ≡ true) (flat_map (make p) (windows p)))
      (λ p. All-flat_map (λ f. member (start_of f) (map begin ks) ≡ true) (make p) (windows p)
      (All-by (λ k. member k ks ≡ true) (λ k. AllByRecursion (λ f. member (start_of f) (map begin ks) ≡ true) (make p k))
      (λ k e. All-by (λ (f : Fragment). f.start ≡ begin k) (λ (f : Fragment). member f.start (map begin ks) ≡ true) (λ f s. ap (λ t. member t (map begin ks)) s ∙ member-begins k ks ∙ e) (make p k) (begins p k))
      (windows p) (all p))) ps))
      ∙ flat_map-map (λ s. window_text (with_key start_of s (windowed ps))) begin ks
      ∙ flat_map-same (λ k. window_text (with_key start_of (begin k) (windowed ps))) (λ k. window_text (flat_map (λ p. make p k) ps)) ks
      (All-by (λ k. (p : ℕ) → member k (windows p) ≡ false → make p k ≡ []) (λ k. window_text (with_key start_of (begin k) (windowed ps)) ≡ window_text (flat_map (λ p. make p k) ps))
      (λ k e. ap window_text (at-window k ps once e)) ks none)

  -- of no other start there is any
  pub with-start : (s : ℕ) (fs : List Fragment) → AllByRecursion (λ f. (k : ℕ) × (f.start ≡ begin k)) fs → (with_key start_of s fs ≡ []) ⊎ ((k : ℕ) × (s ≡ begin k))
  with-start s [] h = inl refl
  with-start s (f ∷ fs) h = go (eqb f.start s) refl (with-start s fs h.1)
    where
      go : (b : Bool) → eqb f.start s ≡ b → (with_key start_of s fs ≡ []) ⊎ ((k : ℕ) × (s ≡ begin k)) → (cond b (f ∷ with_key start_of s fs) (with_key start_of s fs) ≡ []) ⊎ ((k : ℕ) × (s ≡ begin k))
      go true e rest = inr (h.0.0, sym (eqb-true f.start s e) ∙ h.0.1)
      go false e rest = rest
