-- A query and its slot as the parts have them.
use Rattle.session.specs.Holders as session
use Rattle.views.specs.Slots.{Holder}

-- the holder as the parts have it
abbrev pub in_part : session.Holder → Holder
in_part h = record { query = h.query; slot = h.slot }
