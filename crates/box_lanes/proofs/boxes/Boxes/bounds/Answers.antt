use Rattle.std.proofs.Common.{◌≡◌, get_or, length, ℤ, FitsSigned, to_z, of_z, w64, rules, sym, ap, ap₂, ◌∙◌}
use Rattle.std.proofs.lemmas.Int.{to_z-of_z}
use Rattle.box_lanes.specs.Parts.{Interval, box_of, empty}
use Rattle.box_lanes.proofs.BoxLaws.{length-boxes_of, get_or-boxes_of}
use Rattle.box_lanes.proofs.boxes.Boxes.bounds.Goals as goal

whole : (z : ℤ × ℤ) (i : Interval) → FitsSigned w64 z.0 → FitsSigned w64 z.1 → i ≡ record { low = z.0; high = z.1 } → ◌≡◌ {A = Interval} (record { low = to_z w64 (of_z w64 z.0); high = to_z w64 (of_z w64 z.1) }) i
whole z i fits wide e = ap₂ (λ (x y : ℤ). let j : Interval = record { low = x; high = y } in j) (to_z-of_z w64 z.0 fits) (to_z-of_z w64 z.1 wide) ∙ sym e

pub returns-clause-slots : goal.returns-clause-slots
returns-clause-slots c = ap length (sym c.self.view_is) ∙ length-boxes_of c.self.inside.key c.self.inside.v1 c.self.inside.v2 c.self.inside.v3 c.self.inside.v4

pub returns-clause-value : goal.returns-clause-value
returns-clause-value c =
    let f = c.self.inside in
    let k = whole c.interval-key.result _ (search rules) (search rules) c.interval-key.ensures.value in
    let p = whole c.interval-v1.result _ (search rules) (search rules) c.interval-v1.ensures.value in
    let q = whole c.interval-v2.result _ (search rules) (search rules) c.interval-v2.ensures.value in
    let r = whole c.interval-v3.result _ (search rules) (search rules) c.interval-v3.ensures.value in
    let s = whole c.interval-v4.result _ (search rules) (search rules) c.interval-v4.ensures.value in
    (λ t. box_of (k t) (p t) (q t) (r t) (s t))
    ∙ sym (get_or-boxes_of f.key f.v1 f.v2 f.v3 f.v4 c.args.slot c.requires)
    ∙ ap (λ xs. get_or xs c.args.slot empty) c.self.view_is
