-- Laws of steps that may change places.
use Rattle.std.proofs.Common.{◌≡◌, inl, inr, ℕ, ◌==◌, ◌&&◌, ◌||◌, Bool, cond, true, false, List, [], ◌∷◌, ◌++◌, length, suc, refl, sym, ap, ◌∙◌, append-nil, arith}
use Rattle.std.proofs.lemmas.List.Sums.{fold-append}
use Rattle.std.proofs.lemmas.Bool.{eqb-true, eq-eqb, ne_eqb, cases_eq, or_parts}
use Rattle.std.specs.List.{fold, filter, flat_map, AllByRecursion}
use Rattle.contents.specs.Free.{Free, Same, member, Once}

pub eq_turn : (c d : ℕ) → (d == c) ≡ (c == d)
eq_turn c d = elim (cases_eq c d) [ inl e ↦ eq-eqb d c (sym e) ∙ sym (eq-eqb c d e) | inr n ↦ ne_eqb d c (λ e. n (sym e)) ∙ sym (ne_eqb c d n) ]

module _ {X B : Type 0} {step : B → X → B} where
  pub equal : {xs ys : List X} → xs ≡ ys → Same step xs ys
  equal e = record { same = λ b. ap (fold step b) e }

  pub own : (xs : List X) → Same step xs xs
  own xs = record { same = λ b. refl }

  pub then : {xs ys zs : List X} → Same step xs ys → Same step ys zs → Same step xs zs
  then f g = record { same = λ b. f.same b ∙ g.same b }

  pub back : {xs ys : List X} → Same step xs ys → Same step ys xs
  back f = record { same = λ b. sym (f.same b) }

  pub both : {xs xs' ys ys' : List X} → Same step xs xs' → Same step ys ys' → Same step (xs ++ ys) (xs' ++ ys')
  both {xs = xs} {xs' = xs'} {ys = ys} {ys' = ys'} f g = record { same = λ b. fold-append step b xs ys ∙ ap (λ c. fold step c ys) (f.same b) ∙ g.same (fold step b xs') ∙ sym (fold-append step b xs' ys') }

  -- lists that are the same for each element
  pub each_same : {Y : Type 0} (f g : Y → List X) (ys : List Y) → AllByRecursion (λ y. Same step (f y) (g y)) ys → Same step (flat_map f ys) (flat_map g ys)
  each_same f g [] h = own []
  each_same f g (y ∷ ys) h = both h.0 (each_same f g ys h.1)

  pub every_same : {Y : Type 0} (f g : Y → List X) (ys : List Y) → ((y : Y) → Same step (f y) (g y)) → Same step (flat_map f ys) (flat_map g ys)
  every_same f g [] h = own []
  every_same f g (y ∷ ys) h = both (h y) (every_same f g ys h)

module _ {X : Type 0} where
  abbrev nothing : {Y : Type 0} → Y → List X
  nothing y = []

  none : {Y : Type 0} (ys : List Y) → flat_map nothing ys ≡ []
  none [] = refl
  none (y ∷ ys) = none ys

  where_step : {Y : Type 0} (f : Y → List X) (p : Y → Bool) (y : Y) (ys : List Y) (b : Bool) → flat_map f (filter p ys) ≡ flat_map (λ y. cond (p y) (f y) []) ys
      → flat_map f (cond b (y ∷ filter p ys) (filter p ys)) ≡ cond b (f y) [] ++ flat_map (λ y. cond (p y) (f y) []) ys
  where_step f p y ys true h = ap (λ l. f y ++ l) h
  where_step f p y ys false h = h

  -- what the elements that pass give
  pub where_same : {Y : Type 0} (f : Y → List X) (p : Y → Bool) (ys : List Y) → flat_map f (filter p ys) ≡ flat_map (λ y. cond (p y) (f y) []) ys
  where_same f p [] = refl
  where_same f p (y ∷ ys) = where_step f p y ys (p y) (where_same f p ys)

  none_of : (k : ℕ) (cs : List ℕ) (xs : List X) → member k cs ≡ false → flat_map (λ c. cond (c == k) xs []) cs ≡ []
  none_of k [] xs e = refl
  none_of k (c ∷ cs) xs e = let p = or_parts (c == k) (member k cs) e in ap (λ b. cond b xs [] ++ flat_map (λ c. cond (c == k) xs []) cs) p.0 ∙ none_of k cs xs p.1

  one_step : (k c : ℕ) (cs : List ℕ) (xs : List X) (b : Bool) → (c == k) ≡ b → member c cs ≡ false → flat_map (λ c. cond (c == k) xs []) cs ≡ cond (member k cs) xs []
      → cond b xs [] ++ flat_map (λ c. cond (c == k) xs []) cs ≡ cond (b || member k cs) xs []
  one_step k c cs xs true e n h = ap (λ l. xs ++ l) (none_of k cs xs (ap (λ n. member n cs) (sym (eqb-true c k e)) ∙ n)) ∙ append-nil xs
  one_step k c cs xs false e n h = h

  one_of : (k : ℕ) (cs : List ℕ) (xs : List X) → Once cs → flat_map (λ c. cond (c == k) xs []) cs ≡ cond (member k cs) xs []
  one_of k [] xs o = refl
  one_of k (c ∷ cs) xs o = one_step k c cs xs (c == k) refl o.0 (one_of k cs xs o.1)

  if_walk : (a : Bool) (k : ℕ) (cs : List ℕ) (xs : List X) → Once cs → flat_map (λ c. cond (a && c == k) xs []) cs ≡ cond (a && member k cs) xs []
  if_walk true k cs xs o = one_of k cs xs o
  if_walk false k cs xs o = none cs

module _ {X B : Type 0} (step : B → X → B) (free : Free step) where
  -- a first step may as well come last
  pub fold_last : (b : B) (x : X) (xs : List X) → fold step (step b x) xs ≡ step (fold step b xs) x
  fold_last b x [] = refl
  fold_last b x (y ∷ xs) = ap (λ c. fold step c xs) (free b x y) ∙ fold_last (step b y) x xs

  fold_turn : (b : B) (xs ys : List X) → fold step (fold step b xs) ys ≡ fold step (fold step b ys) xs
  fold_turn b [] ys = refl
  fold_turn b (x ∷ xs) ys = fold_turn (step b x) xs ys ∙ ap (λ c. fold step c xs) (fold_last b x ys)

  pub turn : (xs ys : List X) → Same step (xs ++ ys) (ys ++ xs)
  turn xs ys = record { same = λ b. fold-append step b xs ys ∙ fold_turn b xs ys ∙ sym (fold-append step b ys xs) }

  four : (ks bs cs ds : List X) → Same step ((ks ++ bs) ++ (cs ++ ds)) ((ks ++ cs) ++ (bs ++ ds))
  four ks bs cs ds = record {
    same = λ b.
        fold-append step b (ks ++ bs) (cs ++ ds) ∙ ap (λ c. fold step c (cs ++ ds)) (fold-append step b ks bs) ∙ fold-append step (fold step (fold step b ks) bs) cs ds
        ∙ ap (λ c. fold step c ds) (fold_turn (fold step b ks) bs cs)
        ∙ sym (fold-append step b (ks ++ cs) (bs ++ ds) ∙ ap (λ c. fold step c (bs ++ ds)) (fold-append step b ks cs) ∙ fold-append step (fold step (fold step b ks) cs) bs ds);
  }

  -- each element gives two lists
  pub in_two : {Y : Type 0} (f g : Y → List X) (ys : List Y) → Same step (flat_map (λ y. f y ++ g y) ys) (flat_map f ys ++ flat_map g ys)
  in_two f g [] = own []
  in_two f g (y ∷ ys) = then (both (own (f y ++ g y)) (in_two f g ys)) (four (f y) (g y) (flat_map f ys) (flat_map g ys))

  -- two walks, one in the other, may change places
  pub swap : {Y Z : Type 0} (f : Y → Z → List X) (ys : List Y) (zs : List Z) → Same step (flat_map (λ y. flat_map (f y) zs) ys) (flat_map (λ z. flat_map (λ y. f y z) ys) zs)
  swap f [] zs = equal (sym (none zs))
  swap f (y ∷ ys) zs = then (both (own (flat_map (f y) zs)) (swap f ys zs)) (back (in_two (f y) (λ z. flat_map (λ y. f y z) ys) zs))

  -- the elements walked by their keys are those with one of these keys
  pub by_keys : {Y : Type 0} (f : Y → List X) (p : Y → Bool) (key : Y → ℕ) (cs : List ℕ) (ys : List Y) → Once cs
      → Same step (flat_map (λ c. flat_map f (filter (λ y. p y && c == key y) ys)) cs) (flat_map (λ y. cond (p y && member (key y) cs) (f y) []) ys)
  by_keys f p key cs ys o =
      then (every_same (λ c. flat_map f (filter (λ y. p y && c == key y) ys)) (λ c. flat_map (λ y. cond (p y && c == key y) (f y) []) ys) cs (λ c. equal (where_same f (λ y. p y && c == key y) ys)))
      (then (swap (λ c y. cond (p y && c == key y) (f y) []) cs ys)
      (every_same (λ y. flat_map (λ c. cond (p y && c == key y) (f y) []) cs) (λ y. cond (p y && member (key y) cs) (f y) []) ys (λ y. equal (if_walk (p y) (key y) cs (f y) o))))

  -- likewise for two elements
  pub by_both_keys : {Y : Type 0} (f : Y → Y → List X) (p p' : Y → Bool) (key : Y → ℕ) (cs ds : List ℕ) (ys : List Y) → Once cs → Once ds
      → Same step (flat_map (λ c. flat_map (λ d. flat_map (λ y. flat_map (f y) (filter (λ z. p' z && d == key z) ys)) (filter (λ y. p y && c == key y) ys)) ds) cs)
      (flat_map (λ y. cond (p y && member (key y) cs) (flat_map (λ z. cond (p' z && member (key z) ds) (f y z) []) ys) []) ys)
  by_both_keys f p p' key cs ds ys o o' =
      then (every_same (λ c. flat_map (λ d. flat_map (λ y. flat_map (f y) (filter (λ z. p' z && d == key z) ys)) (filter (λ y. p y && c == key y) ys)) ds) (λ c. flat_map (λ y. flat_map (λ z. cond (p' z && member (key z) ds) (f y z) []) ys) (filter (λ y. p y && c == key y) ys)) cs
      (λ c. then (swap (λ d y. flat_map (f y) (filter (λ z. p' z && d == key z) ys)) ds (filter (λ y. p y && c == key y) ys))
      (every_same (λ y. flat_map (λ d. flat_map (f y) (filter (λ z. p' z && d == key z) ys)) ds) (λ y. flat_map (λ z. cond (p' z && member (key z) ds) (f y z) []) ys) (filter (λ y. p y && c == key y) ys)
      (λ y. by_keys (f y) p' key ds ys o'))))
      (by_keys (λ y. flat_map (λ z. cond (p' z && member (key z) ds) (f y z) []) ys) p key cs ys o)

  cover_one : (F : ℕ → List X) (c : ℕ) (ds : List ℕ) (b : Bool) → member c ds ≡ b → Once ds → ((F c ≡ [] → ⊥) → member c ds ≡ true) → flat_map (λ d. cond (d == c) (F c) []) ds ≡ F c
  cover_one F c ds true e o h = one_of c ds (F c) o ∙ ap (λ b. cond b (F c) []) e
  cover_one F c ds false e o h = one_of c ds (F c) o ∙ ap (λ b. cond b (F c) []) e ∙ nil_or (F c) (λ n. absurd (let z : true ≡ false = sym (h n) ∙ e in (cc)))
    where
      nil_or : (l : List X) → ((l ≡ [] → ⊥) → ⊥) → [] ≡ l
      nil_or [] k = refl
      nil_or (x ∷ l) k = absurd (k (λ e. (let z : suc (length l) ≡ 0 = ap length e in omega (arith, z))))

  swap_key : (F : ℕ → List X) (c d : ℕ) (b : Bool) → (d == c) ≡ b → cond b (F c) [] ≡ cond b (F d) []
  swap_key F c d true e = ap F (sym (eqb-true d c e))
  swap_key F c d false e = refl

  -- which of two lists of keys is walked does not matter, where both have each key that gives something
  pub two_covers : (F : ℕ → List X) (cs ds : List ℕ) → Once cs → Once ds → ((c : ℕ) → (F c ≡ [] → ⊥) → member c cs ≡ true) → ((c : ℕ) → (F c ≡ [] → ⊥) → member c ds ≡ true) → Same step (flat_map F cs) (flat_map F ds)
  two_covers F cs ds o o' h k =
      then (every_same F (λ c. flat_map (λ d. cond (d == c) (F c) []) ds) cs (λ c. equal (sym (cover_one F c ds (member c ds) refl o' (k c)))))
      (then (swap (λ c d. cond (d == c) (F c) []) cs ds)
      (every_same (λ d. flat_map (λ c. cond (d == c) (F c) []) cs) F ds (λ d. then (every_same (λ c. cond (d == c) (F c) []) (λ c. cond (c == d) (F d) []) cs (λ c. equal (swap_key F c d (d == c) refl ∙ ap (λ b. cond b (F d) []) (eq_turn c d)))) (equal (cover_one F d cs (member d cs) refl o (h d))))))
