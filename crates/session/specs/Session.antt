-- What a session stands for.
use Rattle.std.specs.Prelude.{◌≡◌, if◌then◌else◌, List, [], ◌∷◌, map, length}
use Rattle.std.specs.List.{flat_map}
use Rattle.as_base.specs.Stream.{streams}
use Rattle.as_base.specs.declared.config.Config.{Config}
use Rattle.as_base.specs.declared.item.Item.{Item}
use Rattle.as_base.specs.declared.stream.StreamId.{StreamId}
use Rattle.session.specs.declared.session.Clock.{Clock}
use Rattle.session.specs.declared.session.Seat.{Seat}
use Rattle.session.specs.declared.session.Session.{Session}
use Rattle.session.specs.Acceptance.{front, top_mark, has_ended, changelog_time}
use Rattle.session.specs.Book.{book}
use Rattle.session.specs.Holders.{Holder, holders, slots_of}

-- the front and the greatest mark of a stream, and whether it has ended
abbrev pub clock_of : Config → List Item → StreamId → Clock
clock_of c h s = record { front = front c h s; mark = top_mark c h s; ended = has_ended c h s }

-- the seat of a query that lives
abbrev pub seat_of : Holder → List Seat
seat_of h = if h.query.live then (record { n = h.query.n; slot = h.slot }) ∷ [] else []

-- The session was made for these streams and slots, and stands for the items: how many they are, the clocks of the four
-- streams, the changelog time, how many queries were made, the slots that are held, and the live queries by number.
pub record StandsFor (c : Config) (s : Session) (h : List Item) : Type 0 where
  pub configured : s.streams ≡ c.streams
  pub items : s.items ≡ length h
  pub clocks : s.clocks ≡ map (clock_of c h) streams
  pub changelog_time : s.changelog_time ≡ changelog_time c h
  pub made : s.made ≡ length (book c h)
  pub slots : s.slots ≡ slots_of c (holders c h)
  pub live : s.live.items ≡ flat_map seat_of (holders c h)
