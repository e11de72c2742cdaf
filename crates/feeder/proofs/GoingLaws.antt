-- From one state of a feeder to a later one.
use Rattle.std.proofs.Common.{◌≡◌, ℕ, ◌+◌, Option, None, Some, List, [], ◌∷◌, ◌++◌, refl, sym, ap, ◌∙◌, arith, append_assoc, append-nil, subst}
use Rattle.std.specs.Option.{option_to_list}
use Rattle.inbox.specs.declared.load.Load.{Load}
use Rattle.as_outside.specs.Sources.{SourceSeen}
use Rattle.as_outside.proofs.SourceLaws.{pulls_none, pulls_after}
use Rattle.feeder.specs.declared.maker.Maker.{Maker}
use Rattle.feeder.specs.Maker.{IsIn, HasLoads, failed_in}
use Rattle.as_outside.specs.declared.source.Source as source
use Rattle.inbox.specs.Passes.{offered}
use Rattle.feeder.specs.declared.feeder.Feeder.{Feeder}
use Rattle.feeder.specs.Going.{HasMadeMore, GoesOn, IsLater}

-- nothing was pulled
pub none_more : (seen : SourceSeen) (limit : ℕ) (given : List ℕ) (failed : ℕ) (m : Maker) (offered : List Load) →
    HasLoads limit given seen.left m offered → failed ≡ failed_in m.phase → HasMadeMore seen seen limit given failed m offered
none_more seen limit given failed m offered loads faults = record {
  more = [];
  faults = 0;
  pulls = pulls_none seen;
  made = record {
    loads = subst (λ g. HasLoads limit g seen.left m offered) (sym (append-nil given)) loads;
    faults = omega (arith, faults);
  };
}

-- the loads are the same, one of which was offered
pub goes_equal : (seen : SourceSeen) (m m' : Maker) (o o' : List Load) → m'.phase ≡ m.phase → m'.cutter ≡ m.cutter → m'.waiting ≡ m.waiting → m'.most ≡ m.most
    → o ++ option_to_list m.next ≡ o' ++ option_to_list m'.next → GoesOn seen seen m m' o o'
goes_equal seen m m' o o' phase cutter waiting most same limit given failed was =
    none_more seen limit given failed m' o'
    (rw (phase, cutter, waiting, most) (subst (λ l. IsIn m.phase m.cutter m.waiting m.most limit given seen.left l) same was.loads))
    (was.faults ∙ ap failed_in (sym phase))

-- a load was offered
pub same_offered : (n n' : Option Load) (o o' : List Load) (load : Load) → n ≡ Some load → n' ≡ None → o' ≡ o ++ load ∷ [] → o ++ option_to_list n ≡ o' ++ option_to_list n'
same_offered n n' o o' load is none more =
    ap (λ x. o ++ option_to_list x) is ∙ sym more ∙ sym (append-nil o') ∙ ap (λ x. o' ++ option_to_list x) (sym none)

-- a load came back
pub same_back : (n n' : Option Load) (o o' : List Load) (load : Load) → n ≡ Some load → n' ≡ Some load → o' ≡ o → o ++ option_to_list n ≡ o' ++ option_to_list n'
same_back n n' o o' load is back same = ap (λ x. o ++ option_to_list x) (is ∙ sym back) ∙ ap (λ x. x ++ option_to_list n') (sym same)

pub goes_refl : (seen : SourceSeen) (m : Maker) (o : List Load) → GoesOn seen seen m m o o
goes_refl seen m o limit given failed was = none_more seen limit given failed m o was.loads was.faults

pub goes_after : (a b c : SourceSeen) (m n p : Maker) (o q r : List Load) → GoesOn a b m n o q → GoesOn b c n p q r → GoesOn a c m p o r
goes_after a b c m n p o q r first second limit given failed was =
    let one = first limit given failed was in
    let two = second limit (given ++ one.more) (failed + one.faults) one.made in
    record {
      more = one.more ++ two.more;
      faults = one.faults + two.faults;
      pulls = pulls_after a b c one.more two.more one.faults two.faults one.pulls two.pulls;
      made = record {
        loads = subst (λ g. HasLoads limit g c.left p r) (append_assoc given one.more two.more) two.made.loads;
        faults = omega (arith, two.made.faults);
      };
    }

pub later_refl : {F : Type 0} (s : source.Ghosts F) (a : Feeder F) → IsLater s a a
later_refl s a = ((refl, refl), goes_refl (s.seen a.source) a.maker (offered a.pass))

pub later_after : {F : Type 0} (s : source.Ghosts F) (a b c : Feeder F) → IsLater s a b → IsLater s b c → IsLater s a c
later_after s a b c first second = (
  (second.0.0 ∙ first.0.0, second.0.1 ∙ first.0.1),
  goes_after (s.seen a.source) (s.seen b.source) (s.seen c.source) a.maker b.maker c.maker (offered a.pass) (offered b.pass) (offered c.pass) first.1 second.1,
)
