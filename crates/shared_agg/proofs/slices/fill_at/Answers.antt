use Rattle.std.proofs.Common.{ap, subst, arith}
use Rattle.std.proofs.lemmas.Result.{on_ok_weaker}
use Rattle.group_table.specs.Cells.{count_at}
use Rattle.group_table.specs.Tables.{cells_at}
use Rattle.shared_agg.specs.declared.slices.Slice.{Slice}
use Rattle.shared_agg.specs.Fill.{due, IsFed, IsPartlyFed}
use Rattle.shared_agg.specs.Slices.{HasGot, HasGrown}
use Rattle.shared_agg.proofs.SliceLaws.{count-of, changed-set}
use Rattle.shared_agg.proofs.slices.fill_at.Goals as goal

pub fill-requires : goal.fill-requires
fill-requires c = λ slot group.
    let a = count-of c.args.slices.now.items c.args.place c.index_mut.result.now slot group c.requires.within in
    let b = ap (λ (s : Slice). count_at (cells_at s.table slot) group) c.index_mut.ensures.value in
    let f = c.requires.few slot group in
    omega (arith, a, b, f)

pub returns-clause-fed : goal.returns-clause-fed
returns-clause-fed c =
    let adds = due c.args.g.now c.args.set.now c.args.duties.now in
    let was = c.index_mut.result.now in
    on_ok_weaker c.fill.result (λ fed. changed-set (HasGot adds) c.args.slices.now.items c.args.place was
    (record { start = was.start; epoch = was.epoch; table = c.fill.new.table }) c.requires.within (record {
      start = ap (λ (s : Slice). s.start) c.index_mut.ensures.value;
      epoch = ap (λ (s : Slice). s.epoch) c.index_mut.ensures.value;
      fed = subst (λ (s : Slice). IsFed s.table c.fill.new.table adds) c.index_mut.ensures.value fed;
    })) c.fill.ensures.fed

pub returns-clause-partly : goal.returns-clause-partly
returns-clause-partly c =
    let adds = due c.args.g.now c.args.set.now c.args.duties.now in
    let was = c.index_mut.result.now in
    changed-set (HasGrown adds) c.args.slices.now.items c.args.place was
    (record { start = was.start; epoch = was.epoch; table = c.fill.new.table }) c.requires.within (record {
      start = ap (λ (s : Slice). s.start) c.index_mut.ensures.value;
      epoch = ap (λ (s : Slice). s.epoch) c.index_mut.ensures.value;
      partly = subst (λ (s : Slice). IsPartlyFed s.table c.fill.new.table adds) c.index_mut.ensures.value c.fill.ensures.partly;
    })
