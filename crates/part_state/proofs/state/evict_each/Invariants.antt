use Rattle.std.proofs.Common.{◌≡◌, ◌<◌, ◌≤◌, ℕ, get_or}
use Rattle.part_state.specs.declared.reader.Reader.{Reader}
use Rattle.part_state.specs.Reader.{IsEvicted}
use Rattle.part_state.proofs.state.evict_each.Given as goal

abbrev pub invariant-loop-reader : goal.invariant-loop-reader
invariant-loop-reader l =
    ((k : ℕ) (d : Reader) → k < l.reader-index → IsEvicted l.entries l.marks (get_or l.initial.readers k d) (get_or l.readers k d))
    × ((k : ℕ) (d : Reader) → l.reader-index ≤ k → get_or l.readers k d ≡ get_or l.initial.readers k d)
