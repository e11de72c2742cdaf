-- What the words of a call ask for.
use Rattle.std.specs.Prelude.{ℕ, Bool, ◌&&◌, nat_le, length, if◌then◌else◌, Option, Some, None, List, [], ◌∷◌, codes}
use Rattle.std.specs.Option.{option_map}
use Rattle.std.specs.List.{list_all}
use Rattle.std.specs.Str.{bytes_eq}
use Rattle.as_words.specs.Words.{is_word, joined}
use Rattle.as_base.specs.declared.config.Config.{Config}
use Rattle.options.specs.declared.option.NumberOption.{NumberOption}
use Rattle.options.specs.declared.option.NumberOption.TheVariants.{Streams, Slots, MaxBytes, Number, Lines}
use Rattle.options.specs.Options.{are_pairs, number, config_of}
use Rattle.astream_top.specs.declared.command.Command.{Command}
use Rattle.astream_top.specs.declared.command.Command.TheVariants.{Run, Soak, Generate, Explain}

-- each is one word, and with one space between two they have at most 4,089 bytes
abbrev pub are_text : List (List ℕ) → Bool
are_text words = list_all is_word words && nat_le (length (joined words)) 4089

-- the text that the words make, with one space between two, if they are those of a query text
abbrev pub text_of_words : List (List ℕ) → Option (List ℕ)
text_of_words words = if are_text words then Some (joined words) else None

-- the options of `run`
abbrev pub run_options : List NumberOption
run_options = Streams ∷ Slots ∷ MaxBytes ∷ []

-- the run of this configuration that takes at most so many bytes
abbrev pub run_of : Option Config → Option ℕ → Option Command
run_of (Some c) (Some limit) = Some (Run c limit)
run_of _ _ = None

-- what `run` is asked for by its options, if they are well given
abbrev pub run_with : List (List ℕ) → Option Command
run_with words =
    if are_pairs run_options words then run_of (config_of (number Streams words) (number Slots words)) (number MaxBytes words) else None

-- the options of `soak`
abbrev pub soak_options : List NumberOption
soak_options = Number ∷ Lines ∷ Streams ∷ Slots ∷ []

-- the soak of this configuration, of so many lines that come of the number
abbrev pub soak_of : Option Config → Option ℕ → Option ℕ → Option Command
soak_of (Some c) (Some number) (Some lines) = Some (Soak c number lines)
soak_of _ _ _ = None

-- what `soak` is asked for by its options, if they are well given
abbrev pub soak_with : List (List ℕ) → Option Command
soak_with words =
    if are_pairs soak_options words then soak_of (config_of (number Streams words) (number Slots words)) (number Number words) (number Lines words) else None

-- the options of `generate`
abbrev pub generate_options : List NumberOption
generate_options = Number ∷ Lines ∷ Streams ∷ []

-- so many lines that come of the number, over so many streams
abbrev pub generate_of : Option ℕ → Option ℕ → Option ℕ → Option Command
generate_of (Some number) (Some lines) (Some streams) = Some (Generate number lines streams)
generate_of _ _ _ = None

-- what `generate` is asked for by its options, if they are well given
abbrev pub generate_with : List (List ℕ) → Option Command
generate_with words =
    if are_pairs generate_options words then generate_of (number Number words) (number Lines words) (number Streams words) else None

-- what the words ask for: `run`, `soak` or `generate` with its options, or `explain` with the words of a query text
abbrev pub command_of : List (List ℕ) → Option Command
command_of [] = None
command_of (word ∷ words) =
    if bytes_eq word (codes "run") then run_with words
    else (if bytes_eq word (codes "soak") then soak_with words
    else (if bytes_eq word (codes "generate") then generate_with words
    else (if bytes_eq word (codes "explain") then option_map Explain (text_of_words words) else None)))

-- an explanation is asked for
abbrev pub IsExplanation : Option Command → Type 0
IsExplanation (Some (Explain text)) = Unit {0}
IsExplanation _ = ⊥

-- what is asked for only says something: no line is pulled, and no output is begun
abbrev pub OnlySays : Command → Type 0
OnlySays (Run c limit) = ⊥
OnlySays _ = Unit {0}
