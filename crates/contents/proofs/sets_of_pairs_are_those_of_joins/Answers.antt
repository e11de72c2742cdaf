use Rattle.std.proofs.Common.{◌≡◌, max, min, List, subst, sym}
use Rattle.views.specs.Slots.{Holder, cut}
use Rattle.changelog.specs.Changes.{epoch_at}
use Rattle.changelog_set.specs.Sets.{has, unchanged}
use Rattle.views.proofs.ListLaws.{All-by}
use Rattle.contents.specs.IsPast.{IsHolder}
use Rattle.contents.specs.Pairs.{is_quiet}
use Rattle.contents.specs.Touched.{touched}
use Rattle.contents.proofs.PairLaws.{IsForward, paired-is}
use Rattle.contents.proofs.TouchLaws.{names-orderly, rises-orderly, quiet-is, epoch-by_cut}
use Rattle.contents.proofs.sets_of_pairs_are_those_of_joins.Goals as goal

pub returns-clause-both : goal.returns-clause-both
returns-clause-both c p slot r s i = paired-is p.holders slot r s i.apart (All-by IsHolder IsForward (λ h a. a.forward) p.holders i.holders)

pub returns-clause-quiet : goal.returns-clause-quiet
returns-clause-quiet c p slot t u i l soon =
    subst (λ (hs : List Holder). is_quiet hs slot t u ≡ has slot (unchanged (touched p.changes) (epoch_at p.changes (min t u)) (epoch_at p.changes (max t u)))) (sym i.made)
    (quiet-is p.changes slot t u l soon (rises-orderly p.changes i.orderly) (names-orderly p.changes i.orderly))

pub returns-clause-epoch : goal.returns-clause-epoch
returns-clause-epoch c p s t i l =
    subst (λ (hs : List Holder). epoch_at p.changes (cut hs s t) ≡ epoch_at p.changes t) (sym i.made) (epoch-by_cut p.changes s t l (names-orderly p.changes i.orderly))
