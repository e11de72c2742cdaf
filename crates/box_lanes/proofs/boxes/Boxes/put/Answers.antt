use Rattle.std.proofs.Common.{◌≡◌, length, set, sym, ap, ap₂, ◌∙◌, to_z, of_z, w64, arith}
use Rattle.std.proofs.lemmas.Int.{ints, to_z-of_z}
use Rattle.as_base.specs.Query.{at}
use Rattle.box_lanes.specs.Parts.{boxes_of}
use Rattle.box_lanes.proofs.BoxLaws.{length-boxes_of, boxes_of-set, box_of-parts, part}
use Rattle.box_lanes.proofs.boxes.Boxes.put.Goals as goal

pub returns-clause-slots : goal.returns-clause-slots
returns-clause-slots c = ap length (sym c.self.view_is) ∙ length-boxes_of c.self.inside.key c.self.inside.v1 c.self.inside.v2 c.self.inside.v3 c.self.inside.v4

pub returns-clause-value : goal.returns-clause-value
returns-clause-value c =
    let b = c.args.b.now in
    let i = c.args.slot in
    let f = c.self.inside in
    let long : length b.lo ≡ 5 = omega arith in
    let wide : length b.hi ≡ 5 = omega arith in
    let l0 : to_z w64 (of_z w64 (at b.lo 0)) ≡ at b.lo 0 = grind (arith, ints, to_z-of_z) in
    let h0 : to_z w64 (of_z w64 (at b.hi 0)) ≡ at b.hi 0 = grind (arith, ints, to_z-of_z) in
    let l1 : to_z w64 (of_z w64 (at b.lo 1)) ≡ at b.lo 1 = grind (arith, ints, to_z-of_z) in
    let h1 : to_z w64 (of_z w64 (at b.hi 1)) ≡ at b.hi 1 = grind (arith, ints, to_z-of_z) in
    let l2 : to_z w64 (of_z w64 (at b.lo 2)) ≡ at b.lo 2 = grind (arith, ints, to_z-of_z) in
    let h2 : to_z w64 (of_z w64 (at b.hi 2)) ≡ at b.hi 2 = grind (arith, ints, to_z-of_z) in
    let l3 : to_z w64 (of_z w64 (at b.lo 3)) ≡ at b.lo 3 = grind (arith, ints, to_z-of_z) in
    let h3 : to_z w64 (of_z w64 (at b.hi 3)) ≡ at b.hi 3 = grind (arith, ints, to_z-of_z) in
    let l4 : to_z w64 (of_z w64 (at b.lo 4)) ≡ at b.lo 4 = grind (arith, ints, to_z-of_z) in
    let h4 : to_z w64 (of_z w64 (at b.hi 4)) ≡ at b.hi 4 = grind (arith, ints, to_z-of_z) in
    (λ t. boxes_of (c.put.ensures.value t) (c.put-2.ensures.value t) (c.put-3.ensures.value t) (c.put-4.ensures.value t) (c.put-5.ensures.value t))
    ∙ (λ t. boxes_of (set f.key i (record { low = l0 t; high = h0 t })) (set f.v1 i (record { low = l1 t; high = h1 t })) (set f.v2 i (record { low = l2 t; high = h2 t })) (set f.v3 i (record { low = l3 t; high = h3 t })) (set f.v4 i (record { low = l4 t; high = h4 t })))
    ∙ boxes_of-set f.key f.v1 f.v2 f.v3 f.v4 i (part b 0) (part b 1) (part b 2) (part b 3) (part b 4) c.self.invariant c.requires
    ∙ ap₂ (λ xs x. set xs i x) c.self.view_is (box_of-parts b long wide)
