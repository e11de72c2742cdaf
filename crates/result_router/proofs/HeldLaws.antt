-- What is held of the parts once it is let go.
use Rattle.std.proofs.Common.{◌≡◌, ℕ, ◌+◌, ◌<◌, Option, Some, None, List, [], ◌∷◌, ◌++◌, length, drop, set, replicate, zero, suc, refl, sym, ap, subst, ◌∙◌, add-one, arith}
use Rattle.as_base.specs.declared.fragment.Reply.{Reply}
use Rattle.result_router.specs.Held.{fragments_of}
use Rattle.result_router.specs.Sound.{AreSound}

nothing-held : (n : ℕ) → fragments_of (replicate n None) ≡ []
nothing-held zero = refl
nothing-held (suc n) = nothing-held n

-- parts without a reply have no fragments
pub nothing-sound : (n : ℕ) (held : List (Option Reply)) → held ≡ replicate n None → AreSound (fragments_of held)
nothing-sound n held is = subst AreSound (sym (ap fragments_of is ∙ nothing-held n)) (record { each = tt; few = λ n start g. omega arith })

-- one reply more is let go
pub let_go : (i : ℕ) (held : List (Option Reply)) → i < length held → set (replicate i None ++ drop i held) i None ≡ replicate (i + 1) None ++ drop (i + 1) held
let_go i held within = go i held within ∙ ap (λ n. replicate n None ++ drop n held) (sym (add-one i))
  where
    go : (i : ℕ) (held : List (Option Reply)) → i < length held → set (replicate i None ++ drop i held) i None ≡ replicate (suc i) None ++ drop (suc i) held
    go i [] within = absurd (omega (arith, within))
    go zero (h ∷ held) within = refl
    go (suc i) (h ∷ held) within = ap (λ l. None ∷ l) (go i held (omega (arith, within)))
