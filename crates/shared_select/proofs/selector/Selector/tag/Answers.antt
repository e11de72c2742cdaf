use Rattle.std.proofs.Common.{◌∙◌}
use Rattle.shared_select.proofs.SelectLaws.{tagged, tagged-set_of}
use Rattle.shared_select.proofs.selector.Selector.tag.Goals as goal

pub returns-clause-owners : goal.returns-clause-owners
returns-clause-owners c cs stands same = c.select.ensures.value ∙ tagged cs c.args.self.now.epoch c.args.self.now.stream _ _ c.args.g.now stands c.all.ensures same

pub returns-clause-set : goal.returns-clause-set
returns-clause-set c cs r stands same orderly given low at =
    c.select.ensures.value
    ∙ tagged cs c.args.self.now.epoch c.args.self.now.stream _ _ c.args.g.now stands c.all.ensures same
    ∙ tagged-set_of cs c.args.self.now.epoch c.args.g.now r orderly given low at
