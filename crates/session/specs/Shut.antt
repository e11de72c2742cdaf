-- The items and the ends that follow them.
use Rattle.std.specs.Prelude.{if◌then◌else◌, List, [], ◌∷◌, ◌++◌}
use Rattle.std.specs.List.{flat_map}
use Rattle.as_base.specs.Stream.{streams}
use Rattle.as_base.specs.declared.config.Config.{Config}
use Rattle.as_base.specs.declared.stream.StreamId.{StreamId}
use Rattle.as_base.specs.declared.item.Item.{Item}
use Rattle.as_base.specs.declared.item.Item.TheVariants.{End}
use Rattle.session.specs.Acceptance.{is_open}

-- the end of the stream, if it is open
abbrev pub end_of : Config → List Item → StreamId → List Item
end_of c h s = if is_open c h s then End s ∷ [] else []

-- The items, and then the end of each stream that is open, in the order of the streams.
abbrev pub shut : Config → List Item → List Item
shut c h = h ++ flat_map (end_of c h) streams
