use Rattle.std.proofs.Common.{◌≡◌, ◌++◌, length, take, drop}
use Rattle.std.specs.Simd.Lanes.{zip2}
use Rattle.box_lanes.proofs.BlockLaws.{word_selected}
use Rattle.box_lanes.proofs.blocks.Blocks.select.Given as goal

abbrev pub invariant-loop-place : goal.invariant-loop-place
invariant-loop-place l = record {
  eight : length l.words ≡ 8;
  so_far : l.words ≡ zip2 (word_selected l.g) (take l.place l.self-inside.blocks.items) (take l.place l.initial.words) ++ drop l.place l.initial.words;
}
