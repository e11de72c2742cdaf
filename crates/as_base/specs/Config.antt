-- The ranges of a configuration, and which streams it has.
use Rattle.std.specs.Prelude.{ℕ, nat_le, nat_lt, ◌&&◌, Bool}
use Rattle.as_base.specs.declared.config.Config.{Config}
use Rattle.as_base.specs.declared.stream.StreamId.{StreamId}
use Rattle.as_base.specs.Stream.{place_of}

-- the number is in the range, both ends included
abbrev pub is_among : ℕ → ℕ → ℕ → Bool
is_among least n most = nat_le least n && nat_le n most

-- 2 to 4 streams, 1 to 512 slots, 1 to 64 parts, room for 1 to 65,536 messages
abbrev pub fits : Config → Bool
fits c = is_among 2 c.streams 4 && is_among 1 c.slots 512 && is_among 1 c.parts 64 && is_among 1 c.lane 65536

-- the stream is among the configured ones, the first of a to d
abbrev pub is_configured : Config → StreamId → Bool
is_configured c s = nat_lt (place_of s) c.streams
