use Rattle.std.proofs.Common.{refl, ap, ◌∙◌, arith}
use Rattle.shared_agg.specs.declared.aggs.Cache.{Cache}
use Rattle.shared_agg.proofs.AggLaws.{all-renewed, some-renewed}
use Rattle.shared_agg.proofs.aggs.turn_to.Goals as goal
use Rattle.shared_agg.proofs.aggs.turn_to.Goals.{then-cache-first, else-cache-first}

pub returns-then-cache-epoch : goal.returns-then-cache-epoch
returns-then-cache-epoch c = λ cs stands was kept le. (was, c.if-cache-epoch.true)

pub returns : goal.returns
returns c = λ cs stands was kept le. (
  record {
    duties = elim c.if-cache-first.branch [
      | then-cache-first w ↦
          ap (λ (k : Cache). k.duties) w.cache-is
          ∙ all-renewed c.args.epochs.now cs c.args.epoch c.args.cache.now.duties w.renew_all.new.duties c.args.cache.now.epoch stands kept was.duties w.renew_all.ensures
      | else-cache-first w ↦
          ap (λ (k : Cache). k.duties) w.cache-is
          ∙ w.renew_those.ensures
          ∙ some-renewed c.args.epochs.now cs c.args.cache.now.epoch c.args.epoch w.min.result w.max.result w.slots_between-slots.result.now c.args.cache.now.duties
          stands (omega (arith, c.first.ensures, w.if-cache-first.false)) kept was.epoch le w.min.ensures w.max.ensures
          w.slots_between-slots.ensures.within (λ k l h. w.slots_between-slots.ensures.slots cs stands k l h) was.duties
    ];
    epoch = le;
  },
  refl,
)
