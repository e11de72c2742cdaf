-- The four streams: their order, and the name of each, written and read.
use Rattle.std.specs.Prelude.{ℕ, Option, List, [], ◌∷◌, codes}
use Rattle.as_words.specs.Words.{pick}
use Rattle.as_base.specs.declared.stream.StreamId.{StreamId}
use Rattle.as_base.specs.declared.stream.StreamId.TheVariants.{A, B, C, D}

-- all streams, in order
abbrev pub streams : List StreamId
streams = A ∷ B ∷ C ∷ D ∷ []

-- the place of a stream in their order, from 0
abbrev pub place_of : StreamId → ℕ
place_of A = 0
place_of B = 1
place_of C = 2
place_of D = 3

-- the name of a stream
abbrev pub stream_name : StreamId → List ℕ
stream_name A = codes "a"
stream_name B = codes "b"
stream_name C = codes "c"
stream_name D = codes "d"

-- the stream of this name
abbrev pub stream_named : List ℕ → Option StreamId
stream_named word = pick stream_name streams word
