-- What a session decides of an item.
use Rattle.std.specs.Prelude.{ℕ, ◌≡◌, Some, None, Result, Ok, Err, List}
use Rattle.as_base.specs.declared.config.Config.{Config}
use Rattle.as_base.specs.declared.answer.Answer.{Answer}
use Rattle.as_base.specs.declared.item.Given.{Given}
use Rattle.as_base.specs.declared.item.Item.{Item}
use Rattle.as_base.specs.declared.message.Msg.TheVariants as msg
use Rattle.session.specs.declared.decision.Decision.{Decision}
use Rattle.session.specs.declared.decision.Decision.TheVariants.{Pass, Told, Acted}
use Rattle.session.specs.Answers.{answer_to}
use Rattle.session.specs.Message.{message}

-- The decision on an item after the items `h`: an accepted item of a stream passes on as its message, without an answer; a
-- refused item is told its answer, and has no message; an accepted creation or deletion has both.
abbrev pub IsDecided : Config → List Item → Item → Decision → Type 0
IsDecided c h x (Pass m) = (message c h x ≡ Some m) × (answer_to c h x ≡ None)
IsDecided c h x (Told a) = (message c h x ≡ None) × (answer_to c h x ≡ Some a)
IsDecided c h x (Acted a change) = (message c h x ≡ Some (msg.Change change)) × (answer_to c h x ≡ Some a)

-- What is decided of a record that is accepted as this line, or that this answer refuses.
abbrev pub decision_on : Given → Result ℕ Answer → Decision
decision_on g (Ok line) = Pass (msg.Rec (record { seq = line; given = g }))
decision_on g (Err a) = Told a
