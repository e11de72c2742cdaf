use Rattle.std.proofs.Common.{◌≡◌, ◌+◌, ◌<◌, ◌∷◌, [], List, ℤ, length, get_or, sym, ap, ap₂, ◌∙◌, to_z, of_z, w64, arith}
use Rattle.std.specs.Simd.Lanes.{mask_l}
use Rattle.std.proofs.lemmas.Int.{ints, to_z-of_z}
use Rattle.as_base.specs.Query.{at, holds_all}
use Rattle.as_base.specs.declared.query.Bounds.{Bounds}
use Rattle.box_lanes.specs.Parts.{Interval, nothing, empty, is_inside}
use Rattle.box_lanes.proofs.BoxLaws.{length-boxes_of, get_or-boxes_of}
use Rattle.box_lanes.proofs.Lanes.{lanes_of, bits_of_five}
use Rattle.box_lanes.proofs.boxes.Boxes.two.Goals as goal

pub returns-clause-slots : goal.returns-clause-slots
returns-clause-slots c = ap length (sym c.self.view_is) ∙ length-boxes_of c.self.inside.key c.self.inside.v1 c.self.inside.v2 c.self.inside.v3 c.self.inside.v4

pub returns-clause-value : goal.returns-clause-value
returns-clause-value c =
    let f = c.self.inside in
    let g = c.args.g.now in
    let i = c.args.slot in
    let first : i < 64 = omega (arith, c.requires) in
    let e0 : to_z w64 (of_z w64 g.key) ≡ g.key = grind (arith, ints, to_z-of_z) in
    let e1 : to_z w64 (of_z w64 (at g.v 0)) ≡ at g.v 0 = grind (arith, ints, to_z-of_z) in
    let e2 : to_z w64 (of_z w64 (at g.v 1)) ≡ at g.v 1 = grind (arith, ints, to_z-of_z) in
    let e3 : to_z w64 (of_z w64 (at g.v 2)) ≡ at g.v 2 = grind (arith, ints, to_z-of_z) in
    let e4 : to_z w64 (of_z w64 (at g.v 3)) ≡ at g.v 3 = grind (arith, ints, to_z-of_z) in
    let r0 : c.two-5.result ≡ lanes_of f.key i g.key = c.two-5.ensures.value ∙ ap (lanes_of f.key i) e0 in
    let r1 : c.two.result ≡ lanes_of f.v1 i (at g.v 0) = c.two.ensures.value ∙ ap (lanes_of f.v1 i) e1 in
    let r2 : c.two-2.result ≡ lanes_of f.v2 i (at g.v 1) = c.two-2.ensures.value ∙ ap (lanes_of f.v2 i) e2 in
    let r3 : c.two-3.result ≡ lanes_of f.v3 i (at g.v 2) = c.two-3.ensures.value ∙ ap (lanes_of f.v3 i) e3 in
    let r4 : c.two-4.result ≡ lanes_of f.v4 i (at g.v 3) = c.two-4.ensures.value ∙ ap (lanes_of f.v4 i) e4 in
    let in_slot = λ (xs : List Interval) (z : ℤ). is_inside (get_or xs i nothing) z in
    let in_next = λ (xs : List Interval) (z : ℤ). is_inside (get_or xs (i + 1) nothing) z in
    rw (r0, r1, r2, r3, r4) (
    bits_of_five (in_slot f.key g.key) (in_slot f.v1 (at g.v 0)) (in_slot f.v2 (at g.v 1)) (in_slot f.v3 (at g.v 2)) (in_slot f.v4 (at g.v 3)) (in_next f.key g.key) (in_next f.v1 (at g.v 0)) (in_next f.v2 (at g.v 1)) (in_next f.v3 (at g.v 2)) (in_next f.v4 (at g.v 3))
    ∙ ap₂ (λ (p q : Bounds). mask_l (holds_all p g ∷ holds_all q g ∷ [])) (sym (get_or-boxes_of f.key f.v1 f.v2 f.v3 f.v4 i first)) (sym (get_or-boxes_of f.key f.v1 f.v2 f.v3 f.v4 (i + 1) c.requires))
    ∙ ap (λ (xs : List Bounds). mask_l (holds_all (get_or xs i empty) g ∷ holds_all (get_or xs (i + 1) empty) g ∷ [])) c.self.view_is)
