-- The options that take a number, and what the words after a command's name say of them: pairs of a name and a value.
use Rattle.std.specs.Prelude.{ℕ, ◌≤◌, ◌&&◌, ◌^◌, nat_le, Bool, true, false, if◌then◌else◌, Option, Some, None, List, [], ◌∷◌, ◌++◌, codes}
use Rattle.std.specs.Option.{option_and_then}
use Rattle.std.specs.List.{list_any}
use Rattle.std.specs.Str.{bytes_eq}
use Rattle.as_words.specs.Number.{natural}
use Rattle.as_base.specs.declared.config.Config.{Config}
use Rattle.options.specs.declared.option.NumberOption.{NumberOption}
use Rattle.options.specs.declared.option.NumberOption.TheVariants.{Streams, Slots, MaxBytes, Inbox, Number, Lines}
use Rattle.options.specs.declared.option.Span.{Span}

-- the name of an option
abbrev pub name_of : NumberOption → List ℕ
name_of Streams = codes "--streams"
name_of Slots = codes "--slots"
name_of MaxBytes = codes "--max-bytes"
name_of Inbox = codes "--inbox"
name_of Number = codes "--number"
name_of Lines = codes "--lines"

-- the least and the greatest number of an option, and the one where it is not given; none where it has to be
abbrev pub span_of : NumberOption → Span
span_of Streams = record { least = 2; greatest = 4; default = Some 4 }
span_of Slots = record { least = 1; greatest = 512; default = Some 64 }
span_of MaxBytes = record { least = 0; greatest = 2 ^ 40; default = Some (2 ^ 40) }
span_of Inbox = record { least = 1; greatest = 65536; default = Some 256 }
span_of Number = record { least = 0; greatest = 9223372036854775807; default = None }
span_of Lines = record { least = 0; greatest = 10000000; default = None }

-- an option has this name
abbrev pub is_known : List NumberOption → List ℕ → Bool
is_known known name = list_any (λ o. bytes_eq (name_of o) name) known

-- The words are pairs of a known option's name and a value.
abbrev pub are_pairs : List NumberOption → List (List ℕ) → Bool
are_pairs known [] = true
are_pairs known (name ∷ []) = false
are_pairs known (name ∷ value ∷ words) = is_known known name && are_pairs known words

-- the values that such words give to a name
abbrev pub values_of : List ℕ → List (List ℕ) → List (List ℕ)
values_of name [] = []
values_of name (word ∷ []) = []
values_of name (word ∷ value ∷ words) = (if bytes_eq word name then value ∷ [] else []) ++ values_of name words

-- the number is within the span, both ends included
abbrev pub IsWithin : Span → ℕ → Type 0
IsWithin s n = (s.least ≤ n) × (n ≤ s.greatest)

-- the number, if it is within the span
abbrev pub in_span : Span → ℕ → Option ℕ
in_span s n = if nat_le s.least n && nat_le n s.greatest then Some n else None

-- the number that the word spells, if it is within the span
abbrev pub within : Span → List ℕ → Option ℕ
within s word = option_and_then (in_span s) (natural (2 ^ 64) word)

-- the number by the values given: the default where there are none, that of the one value, and none where there are more
abbrev pub number_by : Span → List (List ℕ) → Option ℕ
number_by s [] = s.default
number_by s (value ∷ []) = within s value
number_by s (value ∷ other ∷ values) = None

-- The option's number by such words.
abbrev pub number : NumberOption → List (List ℕ) → Option ℕ
number o words = number_by (span_of o) (values_of (name_of o) words)

-- a configuration of so many streams and slots; work is not spread over parts yet
abbrev pub config_of : Option ℕ → Option ℕ → Option Config
config_of (Some streams) (Some slots) = Some (record { streams = streams; slots = slots; parts = 4; lane = 1024 })
config_of _ _ = None
