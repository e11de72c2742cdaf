-- The exit status of a program.
use Rattle.std.specs.Prelude.{ℕ}
use Rattle.as_outside.specs.declared.report.Status.{Status}
use Rattle.as_outside.specs.declared.report.Status.TheVariants.{Done, NoMemory, Usage, ReadFault, AnswerFault, OutputBroken, TooLong, JournalFault}

-- the exit status that stands for how a run ended
abbrev pub code : Status → ℕ
code Done = 0
code NoMemory = 1
code Usage = 2
code ReadFault = 3
code AnswerFault = 4
code OutputBroken = 5
code TooLong = 6
code JournalFault = 7
