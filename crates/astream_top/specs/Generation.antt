-- What the commands `generate` and `soak` say.
use Rattle.std.specs.Prelude.{ℕ, ◌≡◌, ◌≤◌, ◌<◌, ◌+◌, List, [], ◌∷◌, ◌++◌, map, codes}
use Rattle.std.specs.List.{range_with_len}
use Rattle.as_words.specs.Prefix.{IsPrefix}
use Rattle.as_base.specs.declared.config.Config.{Config}
use Rattle.as_outside.specs.declared.entry.Entry.{Entry}
use Rattle.as_outside.specs.declared.entry.Entry.TheVariants.{Said, SayFailed}
use Rattle.as_outside.specs.declared.report.Status.{Status}
use Rattle.as_outside.specs.declared.report.Status.TheVariants as status
use Rattle.generate.specs.Generated.{line_of}
use Rattle.soak.specs.Soaked.{items_of, soak_text}
use Rattle.astream_top.specs.Says.{SaysOnce}

-- line i of those that come of the number, with its line feed
abbrev pub ended_line : ℕ → ℕ → ℕ → List ℕ
ended_line number streams i = line_of number i streams ++ codes "\n"

-- the says of the first lines, one each
abbrev pub says_of : ℕ → ℕ → ℕ → List Entry
says_of number streams count = map (λ i. Said (ended_line number streams i)) (range_with_len 1 count)

-- What the calls of `generate` are: so many lines were said, each by one call, and these are all, or the say of the next one
-- failed, or there was no memory for it.
abbrev pub IsGenerated : ℕ → ℕ → ℕ → Status → ℕ → List Entry → Type 0
IsGenerated number lines streams status.Done count calls = (count ≡ lines) × (calls ≡ says_of number streams lines)
IsGenerated number lines streams status.AnswerFault count calls =
    (count < lines) × ((front : List ℕ) × IsPrefix front (ended_line number streams (count + 1)) × (calls ≡ says_of number streams count ++ SayFailed front ∷ []))
IsGenerated number lines streams status.NoMemory count calls = (count < lines) × (calls ≡ says_of number streams count)
IsGenerated number lines streams _ count calls = ⊥

-- a soak took all its lines, or there was no memory for one
abbrev pub HasTakenAll : ℕ → Status → ℕ → Type 0
HasTakenAll lines status.NoMemory count = count ≤ lines
HasTakenAll lines _ count = count ≡ lines

-- What the calls of `soak` are: one say of what the generated lines come to, and so many lines were taken.
abbrev pub IsSoaked : Config → ℕ → ℕ → Status → ℕ → List Entry → Type 0
IsSoaked c number lines s count calls = HasTakenAll lines s count × SaysOnce (soak_text c (items_of number lines c.streams)) s calls
