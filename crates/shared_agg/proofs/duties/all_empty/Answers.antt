use Rattle.std.proofs.Common.{◌≡◌, List, ◌∷◌, refl, ap₂}
use Rattle.shared_agg.specs.declared.duties.Class.{Class}
use Rattle.shared_agg.proofs.duties.all_empty.Goals as goal

then : {x y : Class} {xs ys : List Class} → x ≡ y → xs ≡ ys → (x ∷ xs) ≡ (y ∷ ys)
then e es = ap₂ (λ (z : Class) zs. z ∷ zs) e es

pub returns : goal.returns
returns c =
    then c.empty.ensures (then c.empty-2.ensures (then c.empty-3.ensures (then c.empty-4.ensures (then c.empty-5.ensures
    (then c.empty-6.ensures (then c.empty-7.ensures (then c.empty-8.ensures (then c.empty-9.ensures (then c.empty-10.ensures
    (then c.empty-11.ensures (then c.empty-12.ensures (then c.empty-13.ensures (then c.empty-14.ensures (then c.empty-15.ensures
    (then c.empty-16.ensures (then c.empty-17.ensures (then c.empty-18.ensures (then c.empty-19.ensures (then c.empty-20.ensures
    (then c.empty-21.ensures (then c.empty-22.ensures (then c.empty-23.ensures (then c.empty-24.ensures (then c.empty-25.ensures
    (then c.empty-26.ensures (then c.empty-27.ensures (then c.empty-28.ensures (then c.empty-29.ensures (then c.empty-30.ensures
    refl)))))))))))))))))))))))))))))
