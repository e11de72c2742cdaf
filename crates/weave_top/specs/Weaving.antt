-- What the words of a call ask for.
use Rattle.std.specs.Prelude.{ℕ, ◌≡◌, ◌≤◌, ◌^◌, true, if◌then◌else◌, Option, Some, None, List, [], ◌∷◌}
use Rattle.as_base.specs.Config.{fits}
use Rattle.as_base.specs.declared.config.Config.{Config}
use Rattle.options.specs.declared.option.NumberOption.{NumberOption}
use Rattle.options.specs.declared.option.NumberOption.TheVariants.{Streams, Slots, MaxBytes, Inbox}
use Rattle.options.specs.Options.{are_pairs, number, config_of}
use Rattle.weave_top.specs.declared.weaving.Weaving.{Weaving}

-- the options of a weave
abbrev pub weave_options : List NumberOption
weave_options = Streams ∷ Slots ∷ MaxBytes ∷ Inbox ∷ []

-- the weave of this configuration, which takes at most so many bytes of each source, over an inbox with so much room
abbrev pub weave_of : Option Config → Option ℕ → Option ℕ → Option Weaving
weave_of (Some c) (Some limit) (Some room) = Some (record { config = c; limit = limit; room = room })
weave_of _ _ _ = None

-- what the words ask for: options alone, well given
abbrev pub weaving_of : List (List ℕ) → Option Weaving
weaving_of words =
    if are_pairs weave_options words then weave_of (config_of (number Streams words) (number Slots words)) (number MaxBytes words) (number Inbox words) else None

-- its numbers are in their ranges
pub record IsWeaving (w : Weaving) : Type 0 where
  pub config : fits w.config ≡ true
  pub limit : w.limit ≤ 2 ^ 40
  pub some : 1 ≤ w.room
  pub room : w.room ≤ 65536
