use Rattle.std.proofs.Common.{◌<◌, ◌+◌, ◌≡◌, [], ◌∷◌, take, sym, subst, refl, take_all, arith}
use Rattle.as_base.specs.Times.{times}
use Rattle.service.specs.Served.{HasServed, with_pieces}
use Rattle.service.proofs.GoesLaws.{no_call, then, weaker}
use Rattle.service.proofs.ServedLaws.{served-same, no_pieces, one_more, All-at}
use Rattle.service.proofs.delivery.put_all.Goals as goal

pub loop-piece-init : goal.loop-piece-init
loop-piece-init g c = record {
  calls = λ numbers text spoken calls h known.
      let broken = c.args.broken.now.numbers.items in
      no_call _ calls (HasServed numbers (with_pieces text []) spoken broken) (served-same numbers numbers text (with_pieces text []) spoken broken calls refl (no_pieces text) h);
  room = omega (arith, c.requires);
}

pub loop-piece-preserved : goal.loop-piece-preserved
loop-piece-preserved g c =
    let pieces = c.args.pieces.now in
    let i = c.loop-piece.piece-index in
    let p = c.piece-item.result in
    record {
      calls = λ numbers text spoken calls h known.
          let so-far = with_pieces text (take i pieces) in
          let next = with_pieces text (take (i + 1) pieces) in
          let broken = c.put.new.broken.numbers.items in
          let is-known : 0 < times p.n numbers = subst (λ q. 0 < times q.n numbers) (sym c.piece-item.is) (All-at (λ p. 0 < times p.n numbers) pieces i p known c.loop-piece-test.true) in
          then _ _ _ calls (HasServed numbers so-far spoken c.loop-piece.broken.numbers.items) (HasServed numbers next spoken broken) (c.loop-piece.invariant.calls numbers text spoken calls h known)
          (λ all t. weaker _ _ all (HasServed numbers (with_pieces so-far (p ∷ [])) spoken broken) (HasServed numbers next spoken broken)
          (λ l u. served-same numbers numbers (with_pieces so-far (p ∷ [])) next spoken broken l refl (one_more text i pieces p c.loop-piece-test.true c.piece-item.is) u)
          (c.put.ensures.calls numbers so-far spoken all t is-known));
      room = omega (arith, c.loop-piece.invariant.room, c.put.ensures.room.0, c.put.ensures.room.1, c.loop-piece-test.true);
    }

pub returns : goal.returns
returns g c = λ numbers text spoken calls h known.
    let pieces = c.args.pieces.now in
    let i = c.loop-piece.piece-index in
    let all : take i pieces ≡ pieces = take_all i pieces (omega (arith, c.loop-piece-test.false)) in
    let broken = c.loop-piece.broken.numbers.items in
    weaker _ _ calls (HasServed numbers (with_pieces text (take i pieces)) spoken broken) (HasServed numbers (with_pieces text pieces) spoken broken)
    (λ l u. subst (λ ps. HasServed numbers (with_pieces text ps) spoken broken l) all u) (c.loop-piece.invariant.calls numbers text spoken calls h known)
