-- What a soak of generated lines comes to, and what is said of it.
use Rattle.std.specs.Prelude.{ℕ, ◌≡◌, List, ◌++◌, map, length, codes, decimal}
use Rattle.std.specs.List.{range_with_len}
use Rattle.as_base.specs.declared.config.Config.{Config}
use Rattle.as_base.specs.declared.item.Item.{Item}
use Rattle.session.specs.Book.{book}
use Rattle.session.specs.Shut.{shut}
use Rattle.generate.specs.Generated.{generated}
use Rattle.service.specs.declared.engine.QueryEngine as engine
use Rattle.soak.specs.Tally.{deletions, refusals, rows_due, bytes_due, IsTallyOf}
use Rattle.soak.specs.declared.soak.Soak.{Soak}

-- what so many generated lines say, over the first streams
abbrev pub items_of : ℕ → ℕ → ℕ → List Item
items_of number lines streams = map (λ i. generated number i streams) (range_with_len 1 lines)

-- a line of a name and a number
abbrev pub counted : List ℕ → ℕ → List ℕ
counted name n = name ++ codes " " ++ decimal n ++ codes "\n"

-- What is said of the items: how many they are, how many queries they made and deleted, how many of them are refused, and
-- how many rows and bytes the outputs have once the streams have ended.
abbrev pub soak_text : Config → List Item → List ℕ
soak_text c h =
    counted (codes "lines") (length h) ++ counted (codes "created") (length (book c h)) ++ counted (codes "deleted") (deletions c h)
    ++ counted (codes "refused") (refusals c h) ++ counted (codes "rows") (rows_due c (shut c h)) ++ counted (codes "bytes") (bytes_due c (shut c h))
    ++ counted (codes "done") (length h)

-- The engine has taken the items, and the tally is theirs.
pub record HasSoaked {E : Type 0} (e : engine.Ghosts E) (c : Config) (s : Soak E) (h : List Item) : Type 0 where
  pub config : e.config s.engine ≡ c
  pub stands : e.stands s.engine h
  pub tally : IsTallyOf c h s.tally
