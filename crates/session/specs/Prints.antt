-- Which items may add to the outputs.
use Rattle.std.specs.Prelude.{◌&&◌, Bool, true, false, List}
use Rattle.as_base.specs.declared.config.Config.{Config}
use Rattle.as_base.specs.declared.item.Item.{Item}
use Rattle.as_base.specs.declared.item.Item.TheVariants.{Rec, Mark, End, Create, Delete, Bad}
use Rattle.session.specs.Book.{accepts}

-- the item is a watermark or the end of a stream
abbrev pub is_mark_or_end : Item → Bool
is_mark_or_end (Mark s t) = true
is_mark_or_end (End s) = true
is_mark_or_end (Rec g) = false
is_mark_or_end (Create text) = false
is_mark_or_end (Delete n) = false
is_mark_or_end (Bad cause) = false

-- The item may add to outputs after the items `h`: it is an accepted watermark or end.
abbrev pub prints : Config → List Item → Item → Bool
prints c h x = accepts c h x && is_mark_or_end x
