use Rattle.std.proofs.Common.{◌≡◌, [], ◌∷◌, ◌++◌, length, ap, ◌∙◌, arith}
use Rattle.std.proofs.lemmas.List.{length-append}
use Rattle.changelog.specs.EpochsFor.{spans_of}
use Rattle.changelog.proofs.TableLaws.{spans_of-more}
use Rattle.changelog.proofs.epochs.fill.Goals as goal

pub slots-preserved : goal.slots-preserved
slots-preserved c =
    let old = c.slots.table.items in
    let is : c.push.new.self.items ≡ old ++ [] ∷ [] = c.in_ok-push.ensures.items ∙ ap (λ xs. old ++ xs ∷ []) c.new.ensures in
    let long : length c.push.new.self.items ≡ length (old ++ [] ∷ []) = ap length is in (
      (λ other. ap (λ table. spans_of table other) is ∙ spans_of-more old other ∙ c.slots.invariant.0 other),
      omega (arith, long, length-append old ([] ∷ []), c.slots.invariant.1, c.slots-test.true, c.slots.table.ok.0),
    )
