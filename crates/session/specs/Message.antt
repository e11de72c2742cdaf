-- What an accepted item is to the parts of an engine.
use Rattle.std.specs.Prelude.{◌+◌, if◌then◌else◌, Option, Some, None, List, [], ◌∷◌, ◌++◌, map, length}
use Rattle.std.specs.Result.{result_ok}
use Rattle.as_base.specs.Stream.{streams}
use Rattle.as_base.specs.declared.config.Config.{Config}
use Rattle.as_base.specs.declared.item.Item.{Item}
use Rattle.as_base.specs.declared.item.Item.TheVariants.{Rec, Mark, End, Create, Delete, Bad}
use Rattle.as_base.specs.declared.message.Change.TheVariants.{Opened, Closed}
use Rattle.as_base.specs.declared.message.Msg.{Msg}
use Rattle.as_base.specs.declared.message.Msg.TheVariants as msg
use Rattle.as_base.specs.declared.query.Plan.{Plan}
use Rattle.session.specs.Acceptance.{watermark, changelog_time}
use Rattle.session.specs.Planned.{plan_for}
use Rattle.session.specs.Book.{book, accepts}
use Rattle.session.specs.Holders.{holders, least_free, slot_of}

-- the watermarks of the four streams after the items
abbrev pub advance : Config → List Item → Msg
advance c h = msg.Advance (map (watermark c h) streams)

-- the change that a creation brings about, if its text has a plan
abbrev pub opening : Config → List Item → Option Plan → Option Msg
opening c h None = None
opening c h (Some plan) = Some (msg.Change (Opened (length (book c h) + 1) (least_free c (holders c h)) (changelog_time c h) plan))

-- the message of an item, were it accepted after the items `h`
abbrev pub message_of : Config → List Item → Item → Option Msg
message_of c h (Rec g) = Some (msg.Rec (record { seq = length h + 1; given = g }))
message_of c h (Mark s t) = Some (advance c (h ++ Mark s t ∷ []))
message_of c h (End s) = Some (advance c (h ++ End s ∷ []))
message_of c h (Create text) = opening c h (result_ok (plan_for c text))
message_of c h (Delete n) = Some (msg.Change (Closed n (slot_of (holders c h) n) (changelog_time c h)))
message_of c h (Bad cause) = None

-- The message of an item after the items `h`, if it is accepted.
abbrev pub message : Config → List Item → Item → Option Msg
message c h x = if accepts c h x then message_of c h x else None
