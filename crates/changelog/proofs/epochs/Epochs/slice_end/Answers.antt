use Rattle.std.proofs.Common.{◌≡◌, ◌≤◌, ◌<◌, ◌^◌, min, get_or, drop, sym, subst, ◌∙◌, arith}
use Rattle.changelog.specs.Changes.{until}
use Rattle.changelog.proofs.EndKeepLaws.{slice-while, slice-next, edges-after}
use Rattle.changelog.proofs.NumberLaws.{until-first}
use Rattle.changelog.proofs.epochs.Epochs.slice_end.Goals as goal

pub returns-clause-same : goal.returns-clause-same
returns-clause-same c = λ cs k asked u le below.
    let e = c.args.self.now in
    let count = c.count_until-count.result in
    let seen = c.deref.result.now in
    let change : c.time_from-change.result ≡ min (get_or seen count (2 ^ 62)) (2 ^ 62) =
    subst (λ ns. c.time_from-change.result ≡ min (get_or ns count (2 ^ 62)) (2 ^ 62)) (c.deref-2.ensures.value ∙ sym c.deref.ensures.value) c.time_from-change.ensures in
    slice-while e.last e.floor e.times.items seen e.table.items c.deref-3.result.now cs c.args.s c.epoch_at-epoch.result count c.args.time u c.time_from-change.result c.next_edges.result c.min.result
    k.0 asked c.deref.ensures.value c.count_until-count.ensures.within c.count_until-count.ensures.later c.count_until-count.ensures.earlier (c.epoch_at-epoch.ensures cs k asked)
    change c.deref-3.ensures.value c.next_edges.ensures c.min.ensures le below

pub returns-clause-next : goal.returns-clause-next
returns-clause-next c = λ cs k asked most.
    let e = c.args.self.now in
    let count = c.count_until-count.result in
    let seen = c.deref.result.now in
    let change : c.time_from-change.result ≡ min (get_or seen count (2 ^ 62)) (2 ^ 62) =
    subst (λ ns. c.time_from-change.result ≡ min (get_or ns count (2 ^ 62)) (2 ^ 62)) (c.deref-2.ensures.value ∙ sym c.deref.ensures.value) c.time_from-change.ensures in
    let first = until-first seen count c.args.time (2 ^ 62) c.requires c.count_until-count.ensures.later in
    let edges = edges-after c.deref-3.result.now c.args.s c.epoch_at-epoch.result c.args.time c.requires in
    let le : c.args.time ≤ c.min.result = omega (arith, c.requires, c.min.ensures, change, c.next_edges.ensures, first, edges) in
    slice-next e.last e.floor e.times.items seen e.table.items c.deref-3.result.now cs c.args.s c.epoch_at-epoch.result count c.args.time c.time_from-change.result c.next_edges.result c.min.result
    k.0 asked c.deref.ensures.value c.count_until-count.ensures.within c.count_until-count.ensures.later c.count_until-count.ensures.earlier (c.epoch_at-epoch.ensures cs k asked)
    change c.deref-3.ensures.value c.next_edges.ensures c.min.ensures le most

pub returns-clause-after : goal.returns-clause-after
returns-clause-after c =
    let time = c.args.time in
    let count = c.count_until-count.result in
    let seen = c.deref-2.result.now in
    let later : until time (drop count seen) ≡ 0 = subst (λ ns. until time (drop count ns) ≡ 0) (c.deref.ensures.value ∙ sym c.deref-2.ensures.value) c.count_until-count.ensures.later in
    let change : time < get_or seen count (2 ^ 62) = until-first seen count time (2 ^ 62) c.requires later in
    let edges = edges-after c.deref-3.result.now c.args.s c.epoch_at-epoch.result time c.requires in
    omega (arith, c.requires, c.min.ensures, c.time_from-change.ensures, c.next_edges.ensures, change, edges)
