-- What holds of the entries of a log goes along with `++`.
use Rattle.std.proofs.Common.{◌≡◌, Bool, false, List, [], ◌∷◌, ◌++◌, sym, ◌∙◌, subst, append-nil}
use Rattle.std.proofs.lemmas.Bool.{false≢true}
use Rattle.as_outside.specs.declared.entry.Entry.{Entry}
use Rattle.as_outside.specs.Entries.{HasNo, BeforeEach}

pub HasNo-append : (is_picked : Entry → Bool) (a b : List Entry) → HasNo is_picked a → HasNo is_picked b → HasNo is_picked (a ++ b)
HasNo-append is_picked [] b ha hb = hb
HasNo-append is_picked (e ∷ a) b ha hb = (ha.0, HasNo-append is_picked a b ha.1 hb)

-- a test that picks less
pub HasNo-fewer : (is_picked is_fewer : Entry → Bool) → ((e : Entry) → is_picked e ≡ false → is_fewer e ≡ false) → (log : List Entry)
    → HasNo is_picked log → HasNo is_fewer log
HasNo-fewer is_picked is_fewer fewer [] h = tt
HasNo-fewer is_picked is_fewer fewer (e ∷ log) h = (fewer e h.0, HasNo-fewer is_picked is_fewer fewer log h.1)

pub BeforeEach-append : (is_picked : Entry → Bool) (P : List Entry → Type 0) (a b : List Entry) → BeforeEach is_picked P a
    → BeforeEach is_picked (λ before. P (a ++ before)) b → BeforeEach is_picked P (a ++ b)
BeforeEach-append is_picked P [] b ha hb = hb
BeforeEach-append is_picked P (e ∷ a) b ha hb = (ha.0, BeforeEach-append is_picked (λ before. P (e ∷ before)) a b ha.1 hb)

BeforeEach-none : (is_picked : Entry → Bool) (P : List Entry → Type 0) (log : List Entry) → HasNo is_picked log → BeforeEach is_picked P log
BeforeEach-none is_picked P [] none = tt
BeforeEach-none is_picked P (e ∷ log) none = (λ picked. absurd (false≢true (sym none.0 ∙ picked)), BeforeEach-none is_picked (λ before. P (e ∷ before)) log none.1)

-- entries follow that are not picked
pub BeforeEach-quiet : (is_picked : Entry → Bool) (P : List Entry → Type 0) (a b : List Entry) → BeforeEach is_picked P a
    → HasNo is_picked b → BeforeEach is_picked P (a ++ b)
BeforeEach-quiet is_picked P a b h none = BeforeEach-append is_picked P a b h (BeforeEach-none is_picked (λ before. P (a ++ before)) b none)

-- one entry follows
pub BeforeEach-one : (is_picked : Entry → Bool) (P : List Entry → Type 0) (a : List Entry) (e : Entry) → BeforeEach is_picked P a → P a
    → BeforeEach is_picked P (a ++ e ∷ [])
BeforeEach-one is_picked P a e h holds = BeforeEach-append is_picked P a (e ∷ []) h (λ _. subst P (sym (append-nil a)) holds, tt)
