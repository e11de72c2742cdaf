use Rattle.std.proofs.Common.{ℕ, List, ◌<◌, ◌-◌, take, length}
use Rattle.std.specs.List.{AllByRecursion}
use Rattle.as_base.specs.Times.{times}
use Rattle.as_outside.specs.declared.entry.Entry.{Entry}
use Rattle.service.specs.Broken.{HasRoom}
use Rattle.service.specs.Served.{HasServed, with_pieces}
use Rattle.service.specs.Stop.{Continues}
use Rattle.service.proofs.delivery.put_all.Given as goal

abbrev pub invariant-loop-piece : goal.invariant-loop-piece
invariant-loop-piece g l = record {
  calls : (numbers : List ℕ) (text : ℕ → List ℕ) (spoken : List ℕ) (calls : List Entry) → HasServed numbers text spoken l.initial.broken.numbers.items calls →
      AllByRecursion (λ p. 0 < times p.n numbers) l.pieces →
      Continues (g.S.Shelf.seen l.initial.shelf) (g.S.Shelf.seen l.shelf) calls (HasServed numbers (with_pieces text (take l.piece-index l.pieces)) spoken l.broken.numbers.items);
  room : HasRoom l.broken (length l.pieces - l.piece-index);
}
