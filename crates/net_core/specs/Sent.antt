-- What the items send to each part.
use Rattle.std.specs.Prelude.{ℕ, ◌==◌, if◌then◌else◌, Bool, true, Option, Some, None, List, [], ◌∷◌}
use Rattle.as_base.specs.declared.config.Config.{Config}
use Rattle.as_base.specs.declared.item.Item.{Item}
use Rattle.as_base.specs.declared.item.Record.{Record}
use Rattle.as_base.specs.declared.message.Msg.{Msg}
use Rattle.as_base.specs.declared.message.Msg.TheVariants as msg
use Rattle.key_partition.specs.Part.{part_of}
use Rattle.session.specs.Answers.{walk}
use Rattle.session.specs.Message.{message}

-- the record goes to part p: its key does
abbrev pub goes_to : Config → ℕ → Record → Bool
goes_to c p r = part_of r.given.key c.parts == p

-- the message goes to part p: advances and changes go to every part
abbrev pub is_for : Config → ℕ → Msg → Bool
is_for c p (msg.Rec r) = goes_to c p r
is_for c p (msg.Advance wm) = true
is_for c p (msg.Change change) = true

-- of a message, if there is one, what goes to part p
abbrev pub addressed : Config → ℕ → Option Msg → List Msg
addressed c p None = []
addressed c p (Some m) = if is_for c p m then m ∷ [] else []

-- what the item sends to part p after the items `h`: its message, if it is accepted
abbrev pub sent_by : Config → List Item → Item → ℕ → List Msg
sent_by c h x p = addressed c p (message c h x)

-- What the items send to part p, in order.
abbrev pub sent : Config → List Item → ℕ → List Msg
sent c h p = walk (λ before x. sent_by c before x p) [] h
