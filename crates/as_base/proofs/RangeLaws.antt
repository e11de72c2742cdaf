-- An item that a line may spell has its times, its number and its text in range.
use Rattle.as_base.specs.declared.item.Item.{Item}
use Rattle.as_base.specs.declared.item.Item.TheVariants.{Rec, Mark, End, Create, Delete, Bad}
use Rattle.as_base.specs.Range.{InRange, IsSpelled}

pub InRange-spelled : (item : Item) → IsSpelled item → InRange item
InRange-spelled (Rec g) h = h.0
InRange-spelled (Mark s t) h = h
InRange-spelled (End s) h = h
InRange-spelled (Create t) h = h
InRange-spelled (Delete n) h = h
InRange-spelled (Bad c) h = h
