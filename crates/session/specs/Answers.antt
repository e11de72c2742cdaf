-- The answers to a list of items.
use Rattle.std.specs.Prelude.{◌+◌, Option, Some, None, option_to_list, List, [], ◌∷◌, ◌++◌, length}
use Rattle.as_base.specs.declared.config.Config.{Config}
use Rattle.as_base.specs.declared.item.Item.{Item}
use Rattle.as_base.specs.declared.item.Item.TheVariants.{Rec, Mark, End, Create, Delete, Bad}
use Rattle.as_base.specs.declared.answer.Word.{Word}
use Rattle.as_base.specs.declared.answer.Word.TheVariants.{Created, Deleted}
use Rattle.as_base.specs.declared.answer.Answer.{Answer}
use Rattle.session.specs.Acceptance.{changelog_time}
use Rattle.session.specs.Book.{book, refusal}

-- what each item gives, by the items before it, one after another
abbrev pub walk : {X : Type 0} → (List Item → Item → List X) → List Item → List Item → List X
walk f before [] = []
walk f before (x ∷ h) = f before x ++ walk f (before ++ x ∷ []) h

-- the word of an accepted item, if it has one: controls alone have
abbrev pub acceptance_word : Config → List Item → Item → Option Word
acceptance_word c h (Create text) = Some (Created (length (book c h) + 1) (changelog_time c h))
acceptance_word c h (Delete n) = Some (Deleted n (changelog_time c h))
acceptance_word c h (Rec g) = None
acceptance_word c h (Mark s t) = None
acceptance_word c h (End s) = None
acceptance_word c h (Bad cause) = None

-- the first word, if there is one, else the other
abbrev pub or_else : Option Word → Option Word → Option Word
or_else (Some w) other = Some w
or_else None other = other

-- the answer with this word to the item after `h`
abbrev pub answered : List Item → Option Word → Option Answer
answered h None = None
answered h (Some w) = Some (record { line = length h + 1; word = w })

-- The answer by the rule to an item after the items `h`: its refusal, or the word of its acceptance, or none.
abbrev pub answer_to : Config → List Item → Item → Option Answer
answer_to c h x = answered h (or_else (refusal c h x) (acceptance_word c h x))

-- The answers to the items, in order; an item may have none.
abbrev pub answers : Config → List Item → List Answer
answers c h = walk (λ before x. option_to_list (answer_to c before x)) [] h
