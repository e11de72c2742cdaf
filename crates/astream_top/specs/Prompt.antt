-- Promptness: all that is due is out before more is pulled.
use Rattle.std.specs.Prelude.{List}
use Rattle.as_base.specs.declared.config.Config.{Config}
use Rattle.as_outside.specs.declared.entry.Entry.{Entry}
use Rattle.as_outside.specs.Log.{is_pull, pulled}
use Rattle.as_outside.specs.Entries.{BeforeEach}
use Rattle.as_lineform.specs.Lines.{lines}
use Rattle.service.specs.Due.{IsDue}

-- what is due for the whole lines that these calls pulled is out
abbrev pub IsDueSoFar : Config → List Entry → Type 0
IsDueSoFar c calls = IsDue c (lines (pulled calls)) calls

-- Before each pull, also a failed one, all that was due for the whole lines pulled so far was out.
abbrev pub Prompt : Config → List Entry → Type 0
Prompt c calls = BeforeEach is_pull (IsDueSoFar c) calls
