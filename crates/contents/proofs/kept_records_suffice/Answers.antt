use Rattle.std.proofs.Common.{true, ◌≡◌, [], refl}
use Rattle.as_base.specs.declared.item.Record.{Record}
use Rattle.contents.specs.Past.{no_past}
use Rattle.contents.proofs.PastLaws.{IsPast-first}
use Rattle.contents.proofs.StepLaws.{suffice-from, among-from}
use Rattle.contents.proofs.kept_records_suffice.Goals as goal

pub returns-clause-needed : goal.returns-clause-needed
returns-clause-needed c is_there ms a = suffice-from is_there no_past [] ms IsPast-first (λ P all. tt) a refl

pub returns-clause-among : goal.returns-clause-among
returns-clause-among c ms test = among-from (λ s. true) no_past [] ms (λ P all. tt) (λ (r : Record). test r ≡ true)
