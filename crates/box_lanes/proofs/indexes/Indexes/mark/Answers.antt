use Rattle.std.proofs.Common.{◌≡◌, ℕ, ℤ, List, Bool, true, false, ◌&&◌, true≢false, refl, sym, subst, to_z, of_z, w64, arith}
use Rattle.std.proofs.lemmas.Int.{ints, to_z-of_z}
use Rattle.as_base.specs.Query.{at}
use Rattle.box_lanes.specs.declared.start.Start.{Start}
use Rattle.box_lanes.specs.Index.{IsMarked}
use Rattle.box_lanes.proofs.indexes.Indexes.mark.Goals as goal

parts : (a b : Bool) → (a && b) ≡ true → (a ≡ true) × (b ≡ true)
parts true true e = (refl, refl)
parts true false e = absurd (true≢false (sym e))
parts false b e = absurd (true≢false (sym e))

between : (slot : ℕ) (on : Bool) (old new : List Start) (x y low high : ℤ) → x ≡ low → y ≡ high → IsMarked slot x y on old new → IsMarked slot low high on old new
between slot on old new x y low high e f made = subst (λ z. IsMarked slot z high on old new) e (subst (λ z. IsMarked slot x z on old new) f made)

pub returns : goal.returns
returns c =
    let b = c.args.b.now in
    let s = c.args.slot in
    let old = c.args.self.now in
    let l0 : to_z w64 (of_z w64 (at b.lo 0)) ≡ at b.lo 0 = grind (arith, ints, to_z-of_z) in
    let h0 : to_z w64 (of_z w64 (at b.hi 0)) ≡ at b.hi 0 = grind (arith, ints, to_z-of_z) in
    let l1 : to_z w64 (of_z w64 (at b.lo 1)) ≡ at b.lo 1 = grind (arith, ints, to_z-of_z) in
    let h1 : to_z w64 (of_z w64 (at b.hi 1)) ≡ at b.hi 1 = grind (arith, ints, to_z-of_z) in
    let l2 : to_z w64 (of_z w64 (at b.lo 2)) ≡ at b.lo 2 = grind (arith, ints, to_z-of_z) in
    let h2 : to_z w64 (of_z w64 (at b.hi 2)) ≡ at b.hi 2 = grind (arith, ints, to_z-of_z) in
    let l3 : to_z w64 (of_z w64 (at b.lo 3)) ≡ at b.lo 3 = grind (arith, ints, to_z-of_z) in
    let h3 : to_z w64 (of_z w64 (at b.hi 3)) ≡ at b.hi 3 = grind (arith, ints, to_z-of_z) in
    let l4 : to_z w64 (of_z w64 (at b.lo 4)) ≡ at b.lo 4 = grind (arith, ints, to_z-of_z) in
    let h4 : to_z w64 (of_z w64 (at b.hi 4)) ≡ at b.hi 4 = grind (arith, ints, to_z-of_z) in
    λ e.
    let d = parts _ _ e in
    let c3 = parts _ _ d.0 in
    let c2 = parts _ _ c3.0 in
    let c1 = parts _ _ c2.0 in
    let c0 = parts _ _ c1.0 in
    record {
      whole = c0.0;
      key = between s c.args.on old.key c.mark-key.new.self _ _ (at b.lo 0) (at b.hi 0) l0 h0 (c.mark-key.ensures c0.1);
      first = between s c.args.on old.v1 c.mark-v1.new.self _ _ (at b.lo 1) (at b.hi 1) l1 h1 (c.mark-v1.ensures c1.1);
      second = between s c.args.on old.v2 c.mark-v2.new.self _ _ (at b.lo 2) (at b.hi 2) l2 h2 (c.mark-v2.ensures c2.1);
      third = between s c.args.on old.v3 c.mark-v3.new.self _ _ (at b.lo 3) (at b.hi 3) l3 h3 (c.mark-v3.ensures c3.1);
      fourth = between s c.args.on old.v4 c.mark-v4.new.self _ _ (at b.lo 4) (at b.hi 4) l4 h4 (c.mark-v4.ensures d.1);
    }
