use Rattle.std.proofs.Common.{rules, ◌≡◌, ℕ, Bool, List, ◌∙◌, nat_eq, sym, ap, ap₂}
use lib.Pointwise.{pointwise}
use Rattle.queryset_lanes.specs.Words.{slots_of, words_of, IsWords}
use Rattle.queryset_lanes.specs.Inverse.{words_of-slots_of}
use Rattle.queryset_lanes.proofs.QuerySetPartialEq.eq.Goals as goal

-- two sets are compared by their words
by_words : (a b : List Bool) (x y : List ℕ) (r : Bool) → r ≡ pointwise nat_eq x y → slots_of x ≡ a → IsWords x → slots_of y ≡ b → IsWords y → r ≡ pointwise nat_eq (words_of a) (words_of b)
by_words a b x y r e ea ix eb iy = e ∙ ap₂ (pointwise nat_eq) (sym (ap words_of (sym ea) ∙ words_of-slots_of x ix)) (sym (ap words_of (sym eb) ∙ words_of-slots_of y iy))

pub returns : goal.returns
returns c = search (rules, by_words)
