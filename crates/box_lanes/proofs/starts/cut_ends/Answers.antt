use Rattle.std.proofs.Common.{pos, ◌+ℤ◌, FitsSigned, rules, subst, ap, ◌∙◌, w64}
use Rattle.std.proofs.lemmas.Int.{to_z-of_z}
use Rattle.box_lanes.specs.Index.{HasStart}
use Rattle.box_lanes.proofs.starts.cut_ends.Goals as goal

pub returns-clause-made : goal.returns-clause-made
returns-clause-made c =
    let fits : FitsSigned w64 c.in-Some.past = search rules in
    λ e.
    let one = c.cut.ensures.made c.if-not-cut.false in
    let two = c.cut-2.ensures.made e in
    let next = to_z-of_z w64 c.in-Some.past fits ∙ c.in-Some.ensures.some ∙ ap (λ z. z +ℤ pos 1) (to_z-of_z w64 c.args.high c.ranges.high) in
    record {
      first = two.kept c.args.low (subst (λ z. HasStart z c.cut.new.starts.items) (to_z-of_z w64 c.args.low c.ranges.low) one.here);
      past = λ lt. subst (λ z. HasStart z c.cut-2.new.starts.items) next two.here;
      same = λ v. two.same v ∙ one.same v;
    }
