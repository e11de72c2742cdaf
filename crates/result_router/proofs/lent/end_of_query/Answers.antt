use Rattle.std.proofs.Common.{◌≡◌, nat_le, get_or, sym, ap, subst, rules}
use Rattle.std.specs.Borrow.{Bor}
use Rattle.std.proofs.lemmas.List.Sorted.{IsPartitionPoint-from_clause}
use Rattle.as_base.specs.declared.fragment.Fragment.{Fragment}
use Rattle.result_router.specs.Merge.{piece_for}
use Rattle.result_router.specs.Rising.{number_of}
use Rattle.result_router.specs.Sound.{AreSoundOfQuery}
use Rattle.result_router.proofs.CutLaws.{IsCutAt, partitioned, after, taken, made}
use Rattle.result_router.proofs.SoundLaws.{sound-query}
use Rattle.result_router.proofs.lent.end_of_query.Goals as goal

first : (c : goal.After-partition_point) → c.index-fragments-from.result.now.n ≡ number_of (get_or c.args.fragments.now c.args.from c.index-fragments-from.result).now
first c = ap (λ (b : Bor Fragment). number_of b.now) c.index-fragments-from.is

cut : (c : goal.After-partition_point) → IsCutAt (λ (b : Bor Fragment). nat_le (number_of b.now) c.index-fragments-from.result.now.n) c.args.fragments.now c.partition_point.result
cut c =
    IsPartitionPoint-from_clause (λ (b : Bor Fragment). nat_le (number_of b.now) c.index-fragments-from.result.now.n) _ _ c.partition_point.ensures.partitioned
    (partitioned number_of c.index-fragments-from.result.now.n c.args.fragments.now c.requires.order) (λ a r f k. search rules)

pub returns-clause-within : goal.returns-clause-within
returns-clause-within c = (after number_of c.args.fragments.now c.args.from c.partition_point.result _ c.index-fragments-from.result c.requires.within c.requires.order (first c) (cut c), c.partition_point.ensures.bound)

pub returns-clause-value : goal.returns-clause-value
returns-clause-value c = made number_of c.args.fragments.now c.args.from c.partition_point.result _ c.index-fragments-from.result c.requires.within c.requires.order (first c) (cut c) piece_for

pub returns-clause-sound : goal.returns-clause-sound
returns-clause-sound c = λ h.
    subst AreSoundOfQuery (sym (taken number_of c.args.fragments.now c.args.from c.partition_point.result _ c.index-fragments-from.result c.requires.within c.requires.order (first c) (cut c)))
    (sound-query c.index-fragments-from.result.now.n c.args.from c.args.fragments.now h)
