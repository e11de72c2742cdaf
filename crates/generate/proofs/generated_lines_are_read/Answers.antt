use Rattle.as_lineform.proofs.SpellingLaws.{item_of-item_text}
use Rattle.generate.specs.Generated.{generated}
use Rattle.generate.proofs.LineLaws.{spelled}
use Rattle.generate.proofs.generated_lines_are_read.Goals as goal

pub returns-clause-spelled : goal.returns-clause-spelled
returns-clause-spelled c = spelled

pub returns-clause-read : goal.returns-clause-read
returns-clause-read c = λ number i streams few. item_of-item_text (generated number i streams) (spelled number i streams few)
