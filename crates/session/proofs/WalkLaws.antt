-- Walks along items, with one more item.
use Rattle.std.proofs.Common.{◌≡◌, List, [], ◌∷◌, ◌++◌, refl, sym, ap, ◌∙◌, append_assoc}
use Rattle.std.specs.Prelude.{option_to_list}
use Rattle.std.proofs.lemmas.List.{append-nil}
use Rattle.as_base.specs.declared.item.Item.{Item}
use Rattle.as_base.specs.declared.config.Config.{Config}
use Rattle.session.specs.Answers.{walk, answer_to, answers}

-- one more item adds what it gives by all the items before it
pub walk-push : {X : Type 0} (f : List Item → Item → List X) (before h : List Item) (x : Item) → walk f before (h ++ x ∷ []) ≡ walk f before h ++ f (before ++ h) x
walk-push f before [] x = rw (append-nil, append-nil) refl
walk-push f before (y ∷ h) x =
    ap (λ l. f before y ++ l) (walk-push f (before ++ y ∷ []) h x)
    ∙ ap (λ b. f before y ++ (walk f (before ++ y ∷ []) h ++ f b x)) (append_assoc before (y ∷ []) h)
    ∙ sym (append_assoc (f before y) (walk f (before ++ y ∷ []) h) (f (before ++ y ∷ h) x))

-- one more item adds its answer, if it has one
pub answers-push : (c : Config) (h : List Item) (x : Item) → answers c (h ++ x ∷ []) ≡ answers c h ++ option_to_list (answer_to c h x)
answers-push c h x = walk-push (λ before y. option_to_list (answer_to c before y)) [] h x
