use Rattle.std.proofs.Common.{◌≡◌, ◌≤◌, List, length, sym, ap, subst, ◌∙◌}
use Rattle.std.proofs.lemmas.Result.{on_ok_weaker, on_err_weaker}
use Rattle.as_base.specs.declared.message.Change.{Change}
use Rattle.as_base.specs.Stream.{place_of}
use Rattle.changelog.specs.BySlot.{by_slot}
use Rattle.changelog.specs.EpochsFor.{EpochsFor, IsKept}
use Rattle.shared_agg.specs.Duties.{duty_of}
use Rattle.shared_agg.specs.Aggs.{cache_at, IsCacheFor, AggsFor}
use Rattle.shared_agg.proofs.AggLaws.{added-at, partly-at, turned}
use Rattle.shared_agg.proofs.aggs.Aggs.add.Goals as goal
use Rattle.shared_agg.proofs.aggs.Aggs.add.Goals.{After-self-2-1}

-- the stream's cache was turned to the epoch
own : (c : After-self-2-1) (cs : List Change) → EpochsFor c.args.epochs.now cs → AggsFor c.args.self.now cs → IsKept c.args.epochs.now c.args.epoch
    → c.args.epoch ≤ length cs → IsCacheFor (cache_at c.turn_at.new.caches c.place_of-place.result) cs × ((cache_at c.turn_at.new.caches c.place_of-place.result).epoch ≡ c.args.epoch)
own c cs stands was kept le =
    c.turn_at.ensures.stands cs stands (subst (λ n. IsCacheFor (cache_at c.args.self.now.caches n) cs) (sym c.place_of-place.ensures.place) (was.caches c.args.s)) kept le

-- so its duties are those of the owners
are : (c : After-self-2-1) (cs : List Change) → EpochsFor c.args.epochs.now cs → AggsFor c.args.self.now cs → IsKept c.args.epochs.now c.args.epoch
    → c.args.epoch ≤ length cs → c.duties_at-duties.result.now ≡ by_slot duty_of cs c.args.epoch
are c cs stands was kept le =
    let k = own c cs stands was kept le in
    c.duties_at-duties.ensures ∙ k.0.duties ∙ ap (by_slot duty_of cs) k.1

pub returns-clause-stands : goal.returns-clause-stands
returns-clause-stands c = λ cs stands was kept le.
    turned c.args.self.now (record { caches = c.turn_at.new.caches; lanes = c.add_at.new.lanes }) cs c.place_of-place.result
    (own c cs stands was kept le).0 c.turn_at.ensures.others was

pub returns-clause-cells : goal.returns-clause-cells
returns-clause-cells c =
    on_ok_weaker c.add_at.result (λ fed cs stands was kept le t. added-at c.args.r.now.given c.args.set.now cs c.args.epoch c.args.start c.place_of-place.result
    (place_of c.args.s) (place_of t) c.duties_at-duties.result.now c.args.self.now.lanes c.add_at.new.lanes c.place_of-place.ensures.place
    (are c cs stands was kept le) fed c.add_at.ensures.lanes)
    c.add_at.ensures.fed

pub returns-clause-own : goal.returns-clause-own
returns-clause-own c =
    on_err_weaker c.add_at.result (λ part cs stands was kept le. partly-at c.args.r.now.given c.args.set.now cs c.args.epoch c.args.start c.place_of-place.result
    c.args.s c.duties_at-duties.result.now c.args.self.now (record { caches = c.turn_at.new.caches; lanes = c.add_at.new.lanes }) c.place_of-place.ensures.place
    (are c cs stands was kept le) part)
    c.add_at.ensures.own
