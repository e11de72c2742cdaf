-- The machine of all schedules: items, and two numbers for each part.
use Rattle.std.specs.Prelude.{ℕ, ◌+◌, ◌-◌, ◌==◌, nat_lt, min, if◌then◌else◌, Bool, true, false, Option, Some, None, List, [], ◌∷◌, ◌++◌}
use Rattle.std.specs.Prelude.{length, take, get_or, set, replicate, count_by}
use Rattle.std.specs.List.{find, range_with_len}
use Rattle.as_base.specs.declared.config.Config.{Config}
use Rattle.as_base.specs.declared.answer.Answer.{Answer}
use Rattle.as_base.specs.declared.answer.Piece.{Piece}
use Rattle.as_base.specs.declared.item.Item.{Item}
use Rattle.as_base.specs.declared.item.Item.TheVariants.{Rec, Mark, End, Create, Delete, Bad}
use Rattle.as_base.specs.declared.message.Msg.{Msg}
use Rattle.as_base.specs.declared.message.Msg.TheVariants as msg
use Rattle.key_partition.specs.Part.{part_of}
use Rattle.session.specs.Answers.{answer_to}
use Rattle.net_core.specs.Due.{dues}
use Rattle.net_core.specs.Sent.{sent}

-- ---- events and outcomes

-- An item comes; a part takes the next message that waits for it; the next reply of a part is gathered.
pub data Event : Type 0 where
  Arrive : Item → Event
  Turn : ℕ → Event
  Gather : ℕ → Event

-- Of a turn: no message waits, or as many replies wait to be gathered as there is room for, or the part took a message.
pub data TurnOutcome : Type 0 where
  Idle : TurnOutcome
  BackFull : TurnOutcome
  Did : TurnOutcome

-- An item came, with its answer, or may not come yet, since this part has no room; a turn; of a gathering: no reply waits, or
-- it waits for those of other parts, or it was taken, and these pieces are due.
pub data Outcome : Type 0 where
  Arrived : Option Answer → Outcome
  Blocked : ℕ → Outcome
  Turned : TurnOutcome → Outcome
  Nothing : Outcome
  Held : Outcome
  Took : List Piece → Outcome

-- ---- positions

-- The items that came; how many messages each part has taken; and how many of its replies were gathered.
pub record Position : Type 0 where
  pub items : List Item
  pub taken : List ℕ
  pub gathered : List ℕ

-- before the first event
abbrev pub start : Config → Position
start c = record { items = []; taken = replicate c.parts 0; gathered = replicate c.parts 0 }

-- how many messages were sent to the part
abbrev pub sent_to : Config → Position → ℕ → ℕ
sent_to c z p = length (sent c z.items p)

-- how many of them it has taken
abbrev pub taken_by : Position → ℕ → ℕ
taken_by z p = get_or z.taken p 0

-- the message is an advance, which a part replies to
abbrev pub is_advance : Msg → Bool
is_advance (msg.Rec r) = false
is_advance (msg.Advance wm) = true
is_advance (msg.Change change) = false

-- how often the part has replied: once to each advance that it has taken
abbrev pub replies_of : Config → Position → ℕ → ℕ
replies_of c z p = count_by is_advance (take (taken_by z p) (sent c z.items p))

-- how many of its replies were gathered
abbrev pub gathered_of : Position → ℕ → ℕ
gathered_of z p = get_or z.gathered p 0

-- the least of the numbers; 0 of none
abbrev pub least : List ℕ → ℕ
least [] = 0
least (n ∷ []) = n
least (n ∷ m ∷ ns) = min n (least (m ∷ ns))

-- how many advances are settled: the replies of all parts to them were gathered
abbrev pub settled : Position → ℕ
settled z = least z.gathered

-- ---- arrivals

-- the parts that the item may go to, whether it will be accepted or not
abbrev pub targets : Config → Item → List ℕ
targets c (Rec g) = part_of g.key c.parts ∷ []
targets c (Mark s t) = range_with_len 0 c.parts
targets c (End s) = range_with_len 0 c.parts
targets c (Create text) = range_with_len 0 c.parts
targets c (Delete n) = range_with_len 0 c.parts
targets c (Bad cause) = []

-- as many messages wait for the part as there is room for
abbrev pub is_full : Config → Position → ℕ → Bool
is_full c z p = sent_to c z p - taken_by z p == c.lane

-- the first of the item's parts that has no room for a message
abbrev pub blocker : Config → Position → Item → Option ℕ
blocker c z x = find (is_full c z) (targets c x)

abbrev pub arrival : Config → Position → Item → Option ℕ → Outcome
arrival c z x (Some p) = Blocked p
arrival c z x None = Arrived (answer_to c z.items x)

abbrev pub after_arrival : Position → Item → Option ℕ → Position
after_arrival z x (Some p) = z
after_arrival z x None = record { items = z.items ++ x ∷ []; taken = z.taken; gathered = z.gathered }

-- ---- turns

abbrev pub turn_of : Config → Position → ℕ → TurnOutcome
turn_of c z p =
    if taken_by z p == sent_to c z p then Idle
    else (if replies_of c z p - gathered_of z p == c.lane then BackFull else Did)

abbrev pub after_turn : Position → ℕ → TurnOutcome → Position
after_turn z p Idle = z
after_turn z p BackFull = z
after_turn z p Did = record { items = z.items; taken = set z.taken p (taken_by z p + 1); gathered = z.gathered }

-- ---- gatherings

-- whether a gathering takes a reply, and why not
pub data Reach : Type 0 where
  NoReply : Reach
  Early : Reach
  Next : Reach

abbrev pub reach : Config → Position → ℕ → Reach
reach c z p =
    if replies_of c z p == gathered_of z p then NoReply
    else (if nat_lt (settled z) (gathered_of z p) then Early else Next)

-- one reply more of the part was gathered
abbrev pub with_reply : Position → ℕ → Position
with_reply z p = record { items = z.items; taken = z.taken; gathered = set z.gathered p (gathered_of z p + 1) }

-- what is due where the number of settled advances rises from one to the other: what the last of them makes due
abbrev pub settles : Config → List Item → ℕ → ℕ → List Piece
settles c h before now = if now == before then [] else get_or (dues c h) (now - 1) []

abbrev pub gathering : Config → Position → ℕ → Reach → Outcome
gathering c z p NoReply = Nothing
gathering c z p Early = Held
gathering c z p Next = Took (settles c z.items (settled z) (settled (with_reply z p)))

abbrev pub after_gathering : Position → ℕ → Reach → Position
after_gathering z p NoReply = z
after_gathering z p Early = z
after_gathering z p Next = with_reply z p

-- ---- schedules

-- what comes of an event
abbrev pub outcome : Config → Position → Event → Outcome
outcome c z (Arrive x) = arrival c z x (blocker c z x)
outcome c z (Turn p) = Turned (turn_of c z p)
outcome c z (Gather p) = gathering c z p (reach c z p)

-- the position after it
abbrev pub next : Config → Position → Event → Position
next c z (Arrive x) = after_arrival z x (blocker c z x)
next c z (Turn p) = after_turn z p (turn_of c z p)
next c z (Gather p) = after_gathering z p (reach c z p)

-- What comes of the events, one after another.
abbrev pub outcomes : Config → Position → List Event → List Outcome
outcomes c z [] = []
outcomes c z (e ∷ events) = outcome c z e ∷ outcomes c (next c z e) events

-- The position after them.
abbrev pub run : Config → Position → List Event → Position
run c z [] = z
run c z (e ∷ events) = run c (next c z e) events
