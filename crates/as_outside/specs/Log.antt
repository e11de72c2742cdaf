-- What the calls of a log moved: the bytes pulled and said, and what each output holds.
use Rattle.std.specs.Prelude.{ℕ, ◌==◌, ◌||◌, if◌then◌else◌, Bool, true, false, List, [], ◌∷◌, ◌++◌}
use Rattle.std.specs.List.{flat_map, sum_by}
use Rattle.as_outside.specs.declared.entry.Entry.{Entry}
use Rattle.as_outside.specs.declared.entry.Entry.TheVariants.{Pulled, PullFailed, Said, SayFailed, Noted, NoteFailed, Begun, BeginFailed, Put, PutFailed}

abbrev pub pulled_by : Entry → List ℕ
pulled_by (Pulled bytes) = bytes
pulled_by _ = []

-- the bytes pulled, in order
abbrev pub pulled : List Entry → List ℕ
pulled log = flat_map pulled_by log

abbrev pub said_by : Entry → List ℕ
said_by (Said bytes) = bytes
said_by (SayFailed bytes) = bytes
said_by _ = []

-- the bytes said, in order, those of a failed say too
abbrev pub said : List Entry → List ℕ
said log = flat_map said_by log

-- the call is a pull, failed or not
abbrev pub is_pull : Entry → Bool
is_pull (Pulled bytes) = true
is_pull PullFailed = true
is_pull _ = false

-- the call is a note, failed or not
abbrev pub is_note : Entry → Bool
is_note (Noted bytes) = true
is_note (NoteFailed bytes) = true
is_note _ = false

-- the call is a cue, a pull or a note: all that is due has to be out before it
abbrev pub is_cue : Entry → Bool
is_cue e = is_pull e || is_note e

-- the call is a begin of an output or a put on one, failed or not
abbrev pub is_on_output : Entry → Bool
is_on_output (Begun n) = true
is_on_output (BeginFailed n) = true
is_on_output (Put n bytes) = true
is_on_output (PutFailed n bytes) = true
is_on_output _ = false

-- 1 where the call is a begin of output n, failed or not
abbrev pub begun_by : ℕ → Entry → ℕ
begun_by n (Begun m) = if m == n then 1 else 0
begun_by n (BeginFailed m) = if m == n then 1 else 0
begun_by n _ = 0

-- how often output n was begun
abbrev pub begins : ℕ → List Entry → ℕ
begins n log = sum_by (begun_by n) log

-- 1 where the call is a put on output n, failed or not
abbrev pub put_by : ℕ → Entry → ℕ
put_by n (Put m bytes) = if m == n then 1 else 0
put_by n (PutFailed m bytes) = if m == n then 1 else 0
put_by n _ = 0

-- how often something was put on output n
abbrev pub puts : ℕ → List Entry → ℕ
puts n log = sum_by (put_by n) log

-- what output n holds after a call, if it held these bytes before
abbrev pub held_after : ℕ → List ℕ → Entry → List ℕ
held_after n bytes (Begun m) = if m == n then [] else bytes
held_after n bytes (Put m added) = if m == n then bytes ++ added else bytes
held_after n bytes (PutFailed m added) = if m == n then bytes ++ added else bytes
held_after n bytes _ = bytes

-- what it holds after these calls, if it held these bytes before
abbrev pub held_from : ℕ → List ℕ → List Entry → List ℕ
held_from n bytes [] = bytes
held_from n bytes (e ∷ log) = held_from n (held_after n bytes e) log

-- the bytes that output n holds: those put since it was begun
abbrev pub held : ℕ → List Entry → List ℕ
held n log = held_from n [] log
