use Rattle.std.proofs.Common.{◌≡◌, ◌++◌, [], List, refl, sym, ap, ◌∙◌, append_assoc, append-nil, subst}
use Rattle.as_base.specs.declared.config.Config.{Config}
use Rattle.as_base.specs.declared.item.Item.{Item}
use Rattle.as_base.specs.declared.stream.StreamId.TheVariants.{A, B, C, D}
use Rattle.as_words.specs.Prefix.{IsPrefix}
use Rattle.session.specs.Shut.{end_of, shut}
use Rattle.session.specs.Answers.{answers}
use Rattle.session.proofs.ShutLaws.{ends-shut, answers-end}
use Rattle.service.specs.Processor.{HasTaken, IsLeftBefore, IsLeftAmongEnds}
use Rattle.service.specs.Stop.{Goes}
use Rattle.service.proofs.GoesLaws.{goes_out, goes_weaker, then, weaker}
use Rattle.service.proofs.ProcessedLaws.{left_among}
use Rattle.service.proofs.processor.Processor.end_all.Goals as goal

-- the items, and some of the ends that follow them
module _ (d : Config) (h : List Item) where
  abbrev one : List Item
  one = h ++ end_of d h A

  abbrev two : List Item
  two = one ++ end_of d one B

  abbrev three : List Item
  three = two ++ end_of d two C

  abbrev four : List Item
  four = three ++ end_of d three D

  after : (a b : List Item) → IsPrefix h a → IsPrefix h (a ++ b)
  after a b h' = (h'.0 ++ b, ap (λ q. q ++ b) h'.1 ∙ append_assoc h h'.0 b)

  before : (a b : List Item) → IsPrefix (a ++ b) (shut d h) → IsPrefix a (shut d h)
  before a b rest = (b ++ rest.0, rest.1 ∙ append_assoc a b rest.0)

  three-part : IsPrefix three (shut d h)
  three-part = (end_of d three D, sym (ends-shut d h))

  two-part : IsPrefix two (shut d h)
  two-part = before two (end_of d two C) three-part

  one-part : IsPrefix one (shut d h)
  one-part = before one (end_of d one B) two-part

  none-part : IsPrefix h (shut d h)
  none-part = before h (end_of d h A) one-part

  one-past : IsPrefix h one
  one-past = (end_of d h A, refl)

  two-past : IsPrefix h two
  two-past = after one (end_of d one B) one-past

  three-past : IsPrefix h three
  three-past = after two (end_of d two C) two-past

  one-silent : answers d one ≡ answers d h
  one-silent = answers-end d h A

  two-silent : answers d two ≡ answers d h
  two-silent = answers-end d one B ∙ one-silent

  three-silent : answers d three ≡ answers d h
  three-silent = answers-end d two C ∙ two-silent

pub returns-in_err-end : goal.returns-in_err-end
returns-in_err-end g c = λ d lines h calls before.
    let p = c.end.new.self in
    let s = c.in_err-end.field-0.0 in
    goes_out _ _ calls _ s (HasTaken g.E.QueryEngine d p lines (shut d h)) (IsLeftAmongEnds d p lines h) c.from_residual.ensures.1
    (weaker _ _ calls (IsLeftBefore d p lines h s) (IsLeftAmongEnds d p lines h s) (λ l u. left_among p lines h h s l ([], sym (append-nil h)) (none-part d h) refl u)
    (c.in_err-end.ensures.calls d lines h calls before))

pub returns-in_err-end-2 : goal.returns-in_err-end-2
returns-in_err-end-2 g c = λ d lines h calls before.
    let p = c.end-2.new.self in
    let s = c.in_err-end-2.field-0.0 in
    goes_out _ _ calls _ s (HasTaken g.E.QueryEngine d p lines (shut d h)) (IsLeftAmongEnds d p lines h) c.from_residual-in_err-end-2.ensures.1
    (then _ _ _ calls (HasTaken g.E.QueryEngine d c.end.new.self lines (one d h)) (IsLeftAmongEnds d p lines h s) (c.in_ok-end.ensures.calls d lines h calls before)
    (λ all t. weaker _ _ all (IsLeftBefore d p lines (one d h) s) (IsLeftAmongEnds d p lines h s) (λ l u. left_among p lines h (one d h) s l (one-past d h) (one-part d h) (one-silent d h) u)
    (c.in_err-end-2.ensures.calls d lines (one d h) all t)))

pub returns-in_err-end-3 : goal.returns-in_err-end-3
returns-in_err-end-3 g c = λ d lines h calls before.
    let p = c.end-3.new.self in
    let s = c.in_err-end-3.field-0.0 in
    goes_out _ _ calls _ s (HasTaken g.E.QueryEngine d p lines (shut d h)) (IsLeftAmongEnds d p lines h) c.from_residual-in_err-end-3.ensures.1
    (then _ _ _ calls (HasTaken g.E.QueryEngine d c.end.new.self lines (one d h)) (IsLeftAmongEnds d p lines h s) (c.in_ok-end.ensures.calls d lines h calls before)
    (λ all t. then _ _ _ all (HasTaken g.E.QueryEngine d c.end-2.new.self lines (two d h)) (IsLeftAmongEnds d p lines h s) (c.in_ok-end-2.ensures.calls d lines (one d h) all t)
    (λ all t. weaker _ _ all (IsLeftBefore d p lines (two d h) s) (IsLeftAmongEnds d p lines h s) (λ l u. left_among p lines h (two d h) s l (two-past d h) (two-part d h) (two-silent d h) u)
    (c.in_err-end-3.ensures.calls d lines (two d h) all t))))

pub returns : goal.returns
returns g c = λ d lines h calls before.
    let e = g.E.QueryEngine in
    let p = c.end-4.new.self in
    let Ends = Goes c.end-4.result (HasTaken e d p lines (shut d h)) (IsLeftAmongEnds d p lines h) in
    then _ _ _ calls (HasTaken e d c.end.new.self lines (one d h)) Ends (c.in_ok-end.ensures.calls d lines h calls before)
    (λ all t. then _ _ _ all (HasTaken e d c.end-2.new.self lines (two d h)) Ends (c.in_ok-end-2.ensures.calls d lines (one d h) all t)
    (λ all t. then _ _ _ all (HasTaken e d c.end-3.new.self lines (three d h)) Ends (c.in_ok-end-3.ensures.calls d lines (two d h) all t)
    (λ all t. weaker _ _ all (Goes c.end-4.result (HasTaken e d p lines (four d h)) (IsLeftBefore d p lines (three d h))) Ends
    (goes_weaker c.end-4.result (HasTaken e d p lines (four d h)) (HasTaken e d p lines (shut d h)) (IsLeftBefore d p lines (three d h)) (IsLeftAmongEnds d p lines h)
    (λ l u. subst (λ q. HasTaken e d p lines q l) (ends-shut d h) u)
    (λ s l u. left_among p lines h (three d h) s l (three-past d h) (three-part d h) (three-silent d h) u))
    (c.end-4.ensures.calls d lines (three d h) all t))))
