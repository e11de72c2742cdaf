use Rattle.std.proofs.Common.{◌++◌, [], refl, sym, ◌∙◌, subst, append_assoc, append-nil}
use Rattle.as_outside.proofs.MakesLaws.{makes_none, makes_after}
use Rattle.team.proofs.team.take_all.Goals as goal

pub loop-preserved : goal.loop-preserved
loop-preserved g c =
    let was = c.loop.invariant in
    let take = c.take-took.ensures in
    let h = c.args.hall.now in
    let h' = c.loop.hall in
    let h'' = c.take-took.new.self in
    record {
      next = (tt, tt);
      same = c.nudge-stepped.ensures ∙ was.same;
      inbox = take.inbox ∙ was.inbox;
      name = take.name ∙ was.name;
      keeps = take.keeps;
      stands = λ config calls before.
          let one = was.stands config calls before in
          let two = take.stands config (calls ++ one.calls) one.holds in
          record {
            calls = one.calls ++ two.calls;
            makes = makes_after (g.H.Hall.seen h) (g.H.Hall.seen h') (g.H.Hall.seen h'') one.calls two.calls one.makes two.makes;
            holds = subst (g.H.Hall.stands h'' config) (append_assoc calls one.calls two.calls) two.holds;
          };
    }

pub loop-init : goal.loop-init
loop-init g c =
    let h = c.args.hall.now in
    record {
      next = (tt, tt);
      same = refl;
      inbox = refl;
      name = refl;
      keeps = c.requires.keeps;
      stands = λ config calls before. record {
        calls = [];
        makes = makes_none (g.H.Hall.seen h);
        holds = subst (g.H.Hall.stands h config) (sym (append-nil calls)) before;
      };
    }
