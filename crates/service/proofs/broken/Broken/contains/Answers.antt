use Rattle.std.proofs.Common.{subst, ◌∙◌}
use Rattle.std.specs.List.Sorted.{IsBinarySearchResult}
use Rattle.std.specs.Ordering.{nat_cmp}
use Rattle.service.proofs.BrokenLaws.{contained}
use Rattle.service.proofs.broken.Broken.contains.Goals as goal

pub returns : goal.returns
returns c =
    let n = c.args.n in
    c.is_ok.ensures.value
    ∙ contained c.args.self.now.numbers.items n c.binary_search.result (subst (λ l. IsBinarySearchResult (λ y. nat_cmp y n) l c.binary_search.result) c.deref.ensures.value c.binary_search.ensures.position) c.args.self.now.rising
