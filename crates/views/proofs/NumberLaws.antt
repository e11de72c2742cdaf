-- What the numbers of queries do: at most one has each number.
use Rattle.std.proofs.Common.{◌≡◌, ℕ, ◌+◌, ◌≤◌, ◌<◌, eqb, ◌&&◌, ◌||◌, Bool, true, false, true≢false, inl, inr, cond, zero, suc, List, [], ◌∷◌, ◌++◌, map, length, get_or, drop, refl, sym, ap, ap₂, ◌∙◌, append-nil, add-one, add-zero, arith}
use Rattle.std.specs.List.{flat_map, list_any, range_with_len, AllByRecursion}
use Rattle.std.proofs.lemmas.Bool.{ne_eqb, eqb-true, or_cases, and_parts}
use Rattle.std.proofs.lemmas.List.{map-append, length_push}
use Rattle.std.proofs.lemmas.Grind.{flat_map-append}
use Rattle.std.proofs.lemmas.List.Folds.{flat_map-map}
use Rattle.views.specs.Query.{Query, is_live, closed}
use Rattle.views.proofs.ListLaws.{All-by, flat_map-same, cond_same}

-- the queries are numbered one after another
abbrev pub IsNumbered : ℕ → List Query → Type 0
IsNumbered k queries = map (λ (q : Query). q.n) queries ≡ range_with_len k (length queries)

pub first-number : (k : ℕ) (q : Query) (qs : List Query) → IsNumbered k (q ∷ qs) → q.n ≡ k
first-number k q qs e = ap (λ l. get_or l 0 0) e

pub rest-numbered : (k : ℕ) (q : Query) (qs : List Query) → IsNumbered k (q ∷ qs) → IsNumbered (k + 1) qs
rest-numbered k q qs e = ap (λ l. drop 1 l) e

-- what a function gives for the query of number n
abbrev pub of_number : {X : Type 0} → ℕ → (Query → List X) → List Query → List X
of_number n f queries = flat_map (λ (q : Query). cond (eqb q.n n) (f q) []) queries

pub of_number-none : {X : Type 0} (n : ℕ) (f : Query → List X) (k : ℕ) (qs : List Query) → IsNumbered k qs → n < k → of_number n f qs ≡ []
of_number-none n f k [] e low = refl
of_number-none n f k (q ∷ qs) e low =
    let is = first-number k q qs e in
    ap (λ b. cond b (f q) [] ++ of_number n f qs) (ne_eqb q.n n (λ same. omega (arith, is, same)))
    ∙ of_number-none n f (k + 1) qs (rest-numbered k q qs e) (omega (arith, low))

both_ends : {X : Type 0} (a b c d e : List X) → c ≡ [] → d ≡ [] → e ≡ [] → (a ++ b) ++ c ≡ (a ++ d) ++ (b ++ e)
both_ends a b c d e p q r = rw (p, q, r) (rw (append-nil (a ++ b), append-nil a, append-nil b) refl)

-- what follows for each query follows for the one of number n
pub of_number-both : {X : Type 0} (n : ℕ) (f g : Query → List X) (k : ℕ) (qs : List Query) → IsNumbered k qs → of_number n (λ q. f q ++ g q) qs ≡ of_number n f qs ++ of_number n g qs
of_number-both n f g k [] e = refl
of_number-both n f g k (q ∷ qs) e = go (eqb q.n n) refl (of_number-both n f g (k + 1) qs (rest-numbered k q qs e))
  where
    go : (b : Bool) → eqb q.n n ≡ b → of_number n (λ q. f q ++ g q) qs ≡ of_number n f qs ++ of_number n g qs
        → cond b (f q ++ g q) [] ++ of_number n (λ q. f q ++ g q) qs ≡ (cond b (f q) [] ++ of_number n f qs) ++ (cond b (g q) [] ++ of_number n g qs)
    go false is rest = rest
    go true is rest =
        let low : n < k + 1 = let a = eqb-true q.n n is in let b = first-number k q qs e in omega (arith, a, b) in
        let next = rest-numbered k q qs e in
        both_ends (f q) (g q) _ _ _ (of_number-none n (λ q. f q ++ g q) (k + 1) qs next low) (of_number-none n f (k + 1) qs next low) (of_number-none n g (k + 1) qs next low)

-- one number more
pub range-push : (k n : ℕ) → range_with_len k (n + 1) ≡ range_with_len k n ++ (k + n) ∷ []
range-push k n = ap (range_with_len k) (add-one n) ∙ go k n
  where
    go : (k n : ℕ) → range_with_len k (suc n) ≡ range_with_len k n ++ (k + n) ∷ []
    go k zero = ap (λ m. m ∷ []) (sym (add-zero k))
    go k (suc n) = let e : (k + 1) + n ≡ k + suc n = omega arith in ap (λ l. k ∷ l) (go (k + 1) n ∙ ap (λ m. range_with_len (k + 1) n ++ m ∷ []) e)

-- one more query, with the next number
pub IsNumbered-push : (k : ℕ) (qs : List Query) (q : Query) → IsNumbered k qs → q.n ≡ k + length qs → IsNumbered k (qs ++ q ∷ [])
IsNumbered-push k qs q e is =
    map-append (λ (q : Query). q.n) qs (q ∷ [])
    ∙ ap₂ (λ l m. l ++ m ∷ []) e is
    ∙ sym (range-push k (length qs))
    ∙ ap (range_with_len k) (sym (length_push qs q))

-- the numbers begin with the first
pub numbers-from : (k : ℕ) (qs : List Query) → IsNumbered k qs → AllByRecursion (λ (q : Query). k ≤ q.n) qs
numbers-from k [] e = tt
numbers-from k (q ∷ qs) e =
    let is = first-number k q qs e in (
      omega (arith, is),
      All-by (λ (q : Query). k + 1 ≤ q.n) (λ (q : Query). k ≤ q.n) (λ q h. omega (arith, h)) qs (numbers-from (k + 1) qs (rest-numbered k q qs e)),
    )

none-numbered : (P : Query → Bool) (n : ℕ) (qs : List Query) → AllByRecursion (λ (q : Query). n < q.n) qs → list_any (λ (q : Query). eqb q.n n && P q) qs ≡ false
none-numbered P n [] h = refl
none-numbered P n (q ∷ qs) h =
    let above = h.0 in
    ap (λ b. (b && P q) || list_any (λ (q : Query). eqb q.n n && P q) qs) (ne_eqb q.n n (λ same. omega (arith, above, same))) ∙ none-numbered P n qs h.1

-- where a query of this number passes a test, each of this number does
pub each-numbered : (P : Query → Bool) (n k : ℕ) (qs : List Query) → IsNumbered k qs → list_any (λ (q : Query). eqb q.n n && P q) qs ≡ true → AllByRecursion (λ (q : Query). eqb q.n n ≡ true → P q ≡ true) qs
each-numbered P n k [] e some = tt
each-numbered P n k (q ∷ qs) e some = elim (or_cases (eqb q.n n && P q) (list_any (λ (q : Query). eqb q.n n && P q) qs) some) [ inl here ↦ at_first here | inr later ↦ at_later later (each-numbered P n (k + 1) qs (rest-numbered k q qs e) later) ]
  where
    first : q.n ≡ k
    first = first-number k q qs e

    above : AllByRecursion (λ (q : Query). k + 1 ≤ q.n) qs
    above = numbers-from (k + 1) qs (rest-numbered k q qs e)

    at_first : (eqb q.n n && P q) ≡ true → AllByRecursion (λ (q : Query). eqb q.n n ≡ true → P q ≡ true) (q ∷ qs)
    at_first here =
        let parts = and_parts (eqb q.n n) (P q) here in
        let same = eqb-true q.n n parts.0 in (
          λ is. parts.1,
          All-by (λ (q : Query). k + 1 ≤ q.n) (λ (q : Query). eqb q.n n ≡ true → P q ≡ true) (λ r h is. let other = eqb-true r.n n is in absurd (omega (arith, h, other, same, first))) qs above,
        )

    at_later : list_any (λ (q : Query). eqb q.n n && P q) qs ≡ true → AllByRecursion (λ (q : Query). eqb q.n n ≡ true → P q ≡ true) qs → AllByRecursion (λ (q : Query). eqb q.n n ≡ true → P q ≡ true) (q ∷ qs)
    at_later later rest = (
      λ is.
          let same = eqb-true q.n n is in
          absurd (true≢false (sym later ∙ none-numbered P n qs (All-by (λ (q : Query). k + 1 ≤ q.n) (λ (q : Query). n < q.n) (λ r h. omega (arith, h, same, first)) qs above))),
      rest,
    )

-- where a query of this number lives, each of this number does
pub each-lives : (n k : ℕ) (qs : List Query) → IsNumbered k qs → list_any (is_live n) qs ≡ true → AllByRecursion (λ (q : Query). eqb q.n n ≡ true → q.live ≡ true) qs
each-lives n k qs e some = each-numbered (λ (q : Query). q.live) n k qs e some

-- ---- what is the same for the query of number n

-- what is the same for each query of number n
pub of_number-where : {X : Type 0} (n : ℕ) (f g : Query → List X) (qs : List Query) → AllByRecursion (λ (q : Query). eqb q.n n ≡ true → f q ≡ g q) qs → of_number n f qs ≡ of_number n g qs
of_number-where n f g qs h =
    flat_map-same (λ (q : Query). cond (eqb q.n n) (f q) []) (λ (q : Query). cond (eqb q.n n) (g q) []) qs
    (All-by (λ (q : Query). eqb q.n n ≡ true → f q ≡ g q) (λ (q : Query). cond (eqb q.n n) (f q) [] ≡ cond (eqb q.n n) (g q) []) (λ q e. go q (eqb q.n n) refl e) qs h)
  where
    go : (q : Query) (b : Bool) → eqb q.n n ≡ b → (eqb q.n n ≡ true → f q ≡ g q) → cond b (f q) [] ≡ cond b (g q) []
    go q true is e = e is
    go q false is e = refl

-- what is the same for each query
pub of_number-same : {X : Type 0} (n : ℕ) (f g : Query → List X) (qs : List Query) → AllByRecursion (λ q. f q ≡ g q) qs → of_number n f qs ≡ of_number n g qs
of_number-same n f g qs h = of_number-where n f g qs (All-by (λ q. f q ≡ g q) (λ (q : Query). eqb q.n n ≡ true → f q ≡ g q) (λ q e is. e) qs h)

-- a query more, of which there is nothing
pub of_number-opened : {X : Type 0} (n : ℕ) (f : Query → List X) (qs : List Query) (q : Query) → f q ≡ [] → of_number n f (qs ++ q ∷ []) ≡ of_number n f qs
of_number-opened n f qs q none =
    flat_map-append (λ (q : Query). cond (eqb q.n n) (f q) []) qs (q ∷ [])
    ∙ ap (λ l. of_number n f qs ++ (cond (eqb q.n n) l [] ++ [])) none
    ∙ ap (λ l. of_number n f qs ++ (l ++ [])) (cond_same (eqb q.n n) [])
    ∙ append-nil (of_number n f qs)

-- ---- queries that are closed

-- the query, dead, whose life ends at the time
abbrev pub ended : ℕ → Query → Query
ended at q = record { n = q.n; plan = q.plan; from = q.from; to = at; live = false }

pub closed-number : (n at : ℕ) (q : Query) → (closed n at q).n ≡ q.n
closed-number n at q = go (is_live n q)
  where
    go : (b : Bool) → (cond b (ended at q) q).n ≡ q.n
    go true = refl
    go false = refl

pub closed-numbers : (n at : ℕ) (qs : List Query) → map (λ (q : Query). q.n) (map (closed n at) qs) ≡ map (λ (q : Query). q.n) qs
closed-numbers n at [] = refl
closed-numbers n at (q ∷ qs) = ap₂ (λ k l. k ∷ l) (closed-number n at q) (closed-numbers n at qs)

-- what is the same for each query when one is closed
pub of_number-closed : {X : Type 0} (m n at : ℕ) (f g : Query → List X) (qs : List Query) → AllByRecursion (λ q. f (closed n at q) ≡ g q) qs → of_number m f (map (closed n at) qs) ≡ of_number m g qs
of_number-closed m n at f g qs h =
    flat_map-map (λ (q : Query). cond (eqb q.n m) (f q) []) (closed n at) qs
    ∙ flat_map-same (λ (q : Query). cond (eqb (closed n at q).n m) (f (closed n at q)) []) (λ (q : Query). cond (eqb q.n m) (g q) []) qs
    (All-by (λ q. f (closed n at q) ≡ g q) (λ (q : Query). cond (eqb (closed n at q).n m) (f (closed n at q)) [] ≡ cond (eqb q.n m) (g q) [])
    (λ q e. ap₂ (λ k l. cond (eqb k m) l []) (closed-number n at q) e) qs h)
