-- Records in order stand by time, also those that a filter leaves.
use Rattle.std.proofs.Common.{◌≡◌, ℕ, ◌≤◌, ◌&&◌, ◌||◌, nat_lt, eqb, Bool, true, false, cond, List, [], ◌∷◌, ◌++◌, map, arith}
use Rattle.std.specs.List.{filter, AllByRecursion}
use Rattle.std.proofs.lemmas.Bool.Decides.{nat_tests}
use Rattle.as_base.specs.declared.item.Given.{Given}
use Rattle.as_base.specs.declared.item.Record.{Record}
use Rattle.views.specs.Order.{comes_before, InOrder}
use Rattle.views.proofs.ListLaws.{All-by, All-push, All-filter, All-map}

-- the records stand by time
abbrev pub NeverFalls : List Given → Type 0
NeverFalls [] = Unit {0}
NeverFalls (g ∷ gs) = AllByRecursion (λ (later : Given). g.time ≤ later.time) gs × NeverFalls gs

pub InOrder-filter : (p : Record → Bool) (rs : List Record) → InOrder rs → InOrder (filter p rs)
InOrder-filter p [] h = tt
InOrder-filter p (r ∷ rs) h = go (p r) (InOrder-filter p rs h.1)
  where
    go : (b : Bool) → InOrder (filter p rs) → InOrder (cond b (r ∷ filter p rs) (filter p rs))
    go true rest = (All-filter (λ s. comes_before r s ≡ true) p rs h.0, rest)
    go false rest = rest

pub InOrder-push : (rs : List Record) (r : Record) → InOrder rs → AllByRecursion (λ s. comes_before s r ≡ true) rs → InOrder (rs ++ r ∷ [])
InOrder-push [] r h before = (tt, tt)
InOrder-push (s ∷ rs) r h before = (All-push (λ t. comes_before s t ≡ true) rs r h.0 before.0, InOrder-push rs r h.1 before.1)

not_later : (a b m n : ℕ) → (nat_lt a b || (eqb a b && nat_lt m n)) ≡ true → a ≤ b
not_later a b m n h = grind (arith, nat_tests)

-- records in order stand by time
pub NeverFalls-given : (rs : List Record) → InOrder rs → NeverFalls (map (λ (r : Record). r.given) rs)
NeverFalls-given [] h = tt
NeverFalls-given (r ∷ rs) h = (
  All-map (λ (later : Given). r.given.time ≤ later.time) (λ (s : Record). s.given) rs
      (All-by (λ s. comes_before r s ≡ true) (λ (s : Record). r.given.time ≤ s.given.time) (λ s before. not_later r.given.time s.given.time r.seq s.seq before) rs h.0),
  NeverFalls-given rs h.1,
)
