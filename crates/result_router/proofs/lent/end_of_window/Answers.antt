use Rattle.std.proofs.Common.{◌≡◌, nat_le, get_or, sym, ap, subst, rules}
use Rattle.std.specs.Borrow.{Bor}
use Rattle.std.proofs.lemmas.List.Sorted.{IsPartitionPoint-from_clause}
use Rattle.as_base.specs.declared.fragment.Fragment.{Fragment}
use Rattle.result_router.specs.Merge.{window_text}
use Rattle.result_router.specs.Rising.{start_of}
use Rattle.result_router.specs.Sound.{AreSoundOfWindow}
use Rattle.result_router.proofs.CutLaws.{IsCutAt, partitioned, after, taken, made}
use Rattle.result_router.proofs.SoundLaws.{sound-window}
use Rattle.result_router.proofs.lent.end_of_window.Goals as goal

first : (c : goal.After-partition_point) → c.index-fragments-from.result.now.start ≡ start_of (get_or c.args.fragments.now c.args.from c.index-fragments-from.result).now
first c = ap (λ (b : Bor Fragment). start_of b.now) c.index-fragments-from.is

cut : (c : goal.After-partition_point) → IsCutAt (λ (b : Bor Fragment). nat_le (start_of b.now) c.index-fragments-from.result.now.start) c.args.fragments.now c.partition_point.result
cut c =
    IsPartitionPoint-from_clause (λ (b : Bor Fragment). nat_le (start_of b.now) c.index-fragments-from.result.now.start) _ _ c.partition_point.ensures.partitioned
    (partitioned start_of c.index-fragments-from.result.now.start c.args.fragments.now c.requires.order) (λ a r f k. search rules)

pub returns-clause-within : goal.returns-clause-within
returns-clause-within c = (after start_of c.args.fragments.now c.args.from c.partition_point.result _ c.index-fragments-from.result c.requires.within c.requires.order (first c) (cut c), c.partition_point.ensures.bound)

pub returns-clause-value : goal.returns-clause-value
returns-clause-value c = made start_of c.args.fragments.now c.args.from c.partition_point.result _ c.index-fragments-from.result c.requires.within c.requires.order (first c) (cut c) window_text

pub returns-clause-sound : goal.returns-clause-sound
returns-clause-sound c = λ h.
    subst AreSoundOfWindow (sym (taken start_of c.args.fragments.now c.args.from c.partition_point.result _ c.index-fragments-from.result c.requires.within c.requires.order (first c) (cut c)))
    (sound-window c.index-fragments-from.result.now.start c.args.from c.args.fragments.now h)
