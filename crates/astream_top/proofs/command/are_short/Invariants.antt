use Rattle.std.proofs.Common.{◌≡◌, ◌+◌, map, length, take, string_bytes}
use Rattle.as_words.specs.Words.{spaced}
use Rattle.astream_top.proofs.command.are_short.Given as goal

abbrev pub invariant-loop-word : goal.invariant-loop-word
invariant-loop-word l = l.room + length (spaced (map string_bytes (take l.word-index l.words))) ≡ 4090
