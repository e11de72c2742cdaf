use Rattle.std.proofs.Common.{◌≡◌, Ok, Err, rules, sym, subst, arith}
use Rattle.std.specs.List.{insert}
use Rattle.std.specs.List.Sorted.{IsStrictlyIncreasing, IsBinarySearchResult}
use Rattle.std.specs.Ordering.{nat_cmp}
use Rattle.service.proofs.BrokenLaws.{found_or_not, found-old, rising-insert}
use Rattle.service.proofs.broken.Broken.add.Goals as goal

pub invariant_of-self : goal.invariant_of-self
invariant_of-self c =
    let xs = c.args.self.now.numbers.items in
    let n = c.args.n in
    let place = c.in-Err.place in
    let at = found_or_not xs n (Err place) (subst (λ l. IsBinarySearchResult (λ y. nat_cmp y n) l (Err place)) c.deref.ensures.value c.in-Err.ensures.position) c.args.self.now.rising in
    let all : c.insert.new.self.items ≡ insert xs place n = search rules in
    record { rising = subst IsStrictlyIncreasing (sym all) (rising-insert xs n place at.0 at.1 at.2 c.args.self.now.rising) }

pub returns-in-Ok-clause-listed : goal.returns-in-Ok-clause-listed
returns-in-Ok-clause-listed c = λ none.
    let n = c.args.n in
    let some = found-old c.args.self.now.numbers.items n _ (subst (λ l. IsBinarySearchResult (λ y. nat_cmp y n) l (Ok c.in-Ok.field-0)) c.deref.ensures.value c.in-Ok.ensures.position) c.args.self.now.rising in
    absurd (omega (arith, some, none))
