-- Going over the slots of a set, and taking a step for each: cells added, or slots cleared.
use Rattle.std.proofs.Common.{◌≡◌, inl, inr, ℕ, zero, suc, ◌+◌, ◌≤◌, ◌<◌, ◌^◌, ◌==◌, ◌&&◌, not, Bool, cond, true, false, true≢false, List, [], ◌∷◌, get_or, set, replicate, refl, sym, ap, ap₂, subst, ◌∙◌, arith}
use Rattle.std.proofs.lemmas.Bool.{cases_eq, eq-eqb, ne_eqb}
use Rattle.std.proofs.lemmas.List.{get_or-set_same, get_or-set_other, length-replicate}
use Rattle.as_base.specs.declared.fragment.Cell.{Cell}
use Rattle.slot_walk.specs.Walk.{IsTaken}
use Rattle.group_table.specs.Cells.{add_in, sums, count_at}
use Rattle.group_table.specs.Steps.{HaveSome}

-- the slots of a set without those that are left
abbrev pub passed : List Bool → List Bool → List Bool
passed [] left = []
passed (b ∷ bs) [] = b ∷ bs
passed (b ∷ bs) (l ∷ ls) = (b && not l) ∷ passed bs ls

-- The step was taken for the slots of a set but those that are left.
pub record AreStepping {X : Type 0} (step : X → X) (old new : ℕ → X) (slots left : List Bool) : Type 0 where
  pub among : (s : ℕ) → get_or left s false ≡ true → get_or slots s false ≡ true
  pub cells : (s : ℕ) → new s ≡ cond (get_or (passed slots left) s false) (step (old s)) (old s)

has-passed : (xs ls : List Bool) (s : ℕ) → get_or (passed xs ls) s false ≡ (get_or xs s false && not (get_or ls s false))
has-passed [] ls s = refl
has-passed (b ∷ bs) [] s = whole (get_or (b ∷ bs) s false)
  where
    whole : (t : Bool) → t ≡ (t && true)
    whole true = refl
    whole false = refl
has-passed (b ∷ bs) (l ∷ ls) zero = refl
has-passed (b ∷ bs) (l ∷ ls) (suc s) = has-passed bs ls s

none-and : (t : Bool) → (t && not t) ≡ false
none-and true = refl
none-and false = refl

and-false : (t : Bool) → (t && false) ≡ false
and-false true = refl
and-false false = refl

and-true : (t : Bool) → (t && true) ≡ t
and-true true = refl
and-true false = refl

first-of : (t u : Bool) → (t && u) ≡ true → t ≡ true
first-of true u e = refl
first-of false u e = absurd (true≢false (sym e))

pub out-same : (xs : List Bool) (slot : ℕ) → get_or (set xs slot false) slot false ≡ false
out-same [] slot = refl
out-same (x ∷ xs) zero = refl
out-same (x ∷ xs) (suc slot) = out-same xs slot

pub out-other : (xs : List Bool) (slot s : ℕ) → (s == slot) ≡ false → get_or (set xs slot false) s false ≡ get_or xs s false
out-other [] slot s e = refl
out-other (x ∷ xs) zero zero e = absurd (true≢false e)
out-other (x ∷ xs) zero (suc s) e = refl
out-other (x ∷ xs) (suc slot) zero e = refl
out-other (x ∷ xs) (suc slot) (suc s) e = out-other xs slot s (ne_eqb s slot (λ at. true≢false (sym (eq-eqb (suc s) (suc slot) (ap suc at)) ∙ e)))

module _ {X : Type 0} (step : X → X) (old : ℕ → X) (slots : List Bool) where
  -- no step was taken yet
  pub each-begin : (new : ℕ → X) (left : List Bool) → ((s : ℕ) → new s ≡ old s) → left ≡ slots → AreStepping step old new slots left
  each-begin new left same is = record {
    among = λ s e. ap (λ l. get_or l s false) (sym is) ∙ e;
    cells = λ s. same s ∙ sym (ap (λ t. cond t (step (old s)) (old s)) (has-passed slots left s ∙ ap (λ l. get_or slots s false && not (get_or l s false)) is ∙ none-and (get_or slots s false)));
  }

  module _ (now : ℕ → X) (left : List Bool) (h : AreStepping step old now slots left) where
    -- a slot that is left has what it had
    pub each-same : (slot : ℕ) → get_or left slot false ≡ true → now slot ≡ old slot
    each-same slot e = h.cells slot ∙ ap (λ t. cond t (step (old slot)) (old slot)) (has-passed slots left slot ∙ ap (λ t. get_or slots slot false && not t) e ∙ and-false (get_or slots slot false))

    -- one step more
    pub each-step : (next : ℕ → X) (rest : List Bool) (slot : ℕ) → IsTaken left rest slot → ((s : ℕ) → next s ≡ cond (s == slot) (step (now s)) (now s)) → AreStepping step old next slots rest
    each-step next rest slot k e = record {
      among = λ s on. elim (cases_eq s slot) [
        | inl at ↦ absurd (true≢false (sym on ∙ ap (λ n. get_or rest n false) at ∙ ap (λ l. get_or l slot false) k.gone ∙ out-same left slot))
        | inr n ↦ h.among s (sym (ap (λ l. get_or l s false) k.gone ∙ out-other left slot s (ne_eqb s slot n)) ∙ on)
      ];
      cells = λ s. elim (cases_eq s slot) [
        | inl at ↦
            let here : next slot ≡ step (old slot) = e slot ∙ ap (λ t. cond t (step (now slot)) (now slot)) (eq-eqb slot slot refl) ∙ ap step (each-same slot k.was) in
            let on : get_or (passed slots rest) slot false ≡ true = has-passed slots rest slot ∙ ap₂ (λ t u. t && not u) (h.among slot k.was) (ap (λ l. get_or l slot false) k.gone ∙ out-same left slot) in
            subst (λ n. next n ≡ cond (get_or (passed slots rest) n false) (step (old n)) (old n)) (sym at)
            (here ∙ sym (ap (λ t. cond t (step (old slot)) (old slot)) on))
        | inr n ↦
            let off = ne_eqb s slot n in
            let same : get_or (passed slots left) s false ≡ get_or (passed slots rest) s false =
            has-passed slots left s ∙ sym (has-passed slots rest s ∙ ap (λ t. get_or slots s false && not t) (ap (λ l. get_or l s false) k.gone ∙ out-other left slot s off)) in
            e s ∙ ap (λ t. cond t (step (now s)) (now s)) off ∙ h.cells s ∙ ap (λ t. cond t (step (old s)) (old s)) same
      ];
    }

    -- all steps were taken
    pub each-done : ((s : ℕ) → get_or left s false ≡ false) → (s : ℕ) → now s ≡ cond (get_or slots s false) (step (old s)) (old s)
    each-done none s = h.cells s ∙ ap (λ t. cond t (step (old s)) (old s)) (has-passed slots left s ∙ ap (λ t. get_or slots s false && not t) (none s) ∙ and-true (get_or slots s false))

-- a cell was added to some
pub each-some : (old now next : ℕ → List Cell) (slots left : List Bool) (c : Cell) → AreStepping (λ l. add_in l c) old now slots left → ((s : ℕ) → next s ≡ now s) → HaveSome old next slots c
each-some old now next slots left c h same = record {
  which = passed slots left;
  among = λ s e. first-of (get_or slots s false) (not (get_or left s false)) (sym (has-passed slots left s) ∙ e);
  cells = λ s. same s ∙ h.cells s;
}

-- there is room in a slot that is left
pub each-room : (old now : ℕ → List Cell) (slots left rest : List Bool) (c : Cell) (slot : ℕ) → AreStepping (λ l. add_in l c) old now slots left → IsTaken left rest slot
    → ((s : ℕ) → get_or slots s false ≡ true → count_at (old s) c.group + c.count ≤ 2 ^ 62) → count_at (now slot) c.group + c.count ≤ 2 ^ 62
each-room old now slots left rest c slot h k few =
    let a = few slot (h.among slot k.was) in
    let b = ap (λ l. count_at l c.group) (each-same (λ l. add_in l c) old slots now left h slot k.was) in
    omega (arith, a, b)

-- the sums where some slots were cleared
pub sums-dropped : (old now : ℕ → List Cell) (slots : List Bool) (s : ℕ) → now s ≡ cond (get_or slots s false) [] (old s) → sums (now s) ≡ cond (get_or slots s false) [] (sums (old s))
sums-dropped old now slots s h = ap sums h ∙ go (get_or slots s false)
  where
    go : (t : Bool) → sums (cond t [] (old s)) ≡ cond t [] (sums (old s))
    go true = refl
    go false = refl

none-at : (k s : ℕ) → get_or (replicate k false) s false ≡ false
none-at zero s = refl
none-at (suc k) zero = refl
none-at (suc k) (suc s) = none-at k s

-- a set of one slot
pub only-one : (slots : List Bool) (k slot s : ℕ) → slots ≡ set (replicate k false) slot true → slot < k → get_or slots s false ≡ (s == slot)
only-one slots k slot s is low = ap (λ l. get_or l s false) is ∙ elim (cases_eq s slot) [
  | inl at ↦ ap (λ n. get_or (set (replicate k false) slot true) n false) at ∙ get_or-set_same (replicate k false) slot true false (let a = length-replicate {A = Bool} k false in omega (arith, a, low)) ∙ sym (eq-eqb s slot at)
  | inr n ↦ get_or-set_other (replicate k false) slot s true false n ∙ none-at k s ∙ sym (ne_eqb s slot n)
]

-- nothing was added
pub each-none : (old new : ℕ → List Cell) (slots : List Bool) (c : Cell) → ((s : ℕ) → new s ≡ old s) → HaveSome old new slots c
each-none old new slots c same = record { which = []; among = λ s on. absurd (true≢false (sym on)); cells = same }
