use Rattle.std.proofs.Common.{◌≡◌, eqb, ap, ap₂, ◌∙◌}
use Rattle.std.proofs.lemmas.Result.{IfOk-weaker}
use Rattle.as_base.specs.Stream.{place_of}
use Rattle.views.specs.Pairs.{by_numbers}
use Rattle.shared_join.specs.Joins.{lane_of, shown_in, met_of}
use Rattle.shared_join.specs.Window.{window_of, lane_shown}
use Rattle.shared_join.proofs.joins.Joins.window.Goals as goal

pub returns : goal.returns
unfolding met_of shown_in
returns c =
    let a = c.args.a.now in
    let b = c.args.b.now in
    let lane : c.lane-lane.result.now ≡ lane_of c.args.self.now a.stream b.stream = c.lane-lane.ensures ∙ ap₂ (lane_of c.args.self.now) c.stream.ensures c.stream-2.ensures in
    let turned : eqb c.place_of.result c.place_of-2.result ≡ eqb (place_of c.args.left) (place_of b.stream) =
    ap₂ eqb c.place_of.ensures.place (c.place_of-2.ensures.place ∙ ap place_of c.stream-3.ensures) in
    IfOk-weaker c.couples_of.result _ _ (λ couples is. is ∙ ap₂ (λ l t. by_numbers (lane_shown (window_of c.args.slot c.args.from c.args.to t) l a b)) lane turned) c.couples_of.ensures
