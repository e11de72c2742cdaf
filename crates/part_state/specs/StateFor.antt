-- For which messages a state stands.
use Rattle.std.specs.Prelude.{ℕ, nat_lt, Bool, List}
use Rattle.as_base.specs.declared.message.Msg.{Msg}
use Rattle.as_base.specs.declared.stream.StreamId.{StreamId}
use Rattle.as_base.specs.Stream.{place_of}
use Rattle.contents.specs.Kept.{kept}
use Rattle.contents.specs.Orderly.{AreOrderly, MayFollow}
use Rattle.contents.specs.Past.{past_of}
use Rattle.part_state.specs.declared.state.State.{State}
use Rattle.part_state.specs.Standing.{IsStanding}

-- of how many streams the part takes messages
abbrev pub streams_of : State → ℕ
streams_of st = st.streams

-- the stream is one of the first so many
abbrev pub is_there : ℕ → StreamId → Bool
is_there streams s = nat_lt (place_of s) streams

-- The state stands for the messages, which may come one after another.
pub record StateFor (st : State) (ms : List Msg) : Type 0 where
  pub orderly : AreOrderly (is_there (streams_of st)) ms
  pub stands : IsStanding st (past_of ms) (kept ms)

-- it stands for some messages, which this one may follow
abbrev pub MayTake : State → Msg → Type 0
MayTake st m = (ms : List Msg) × (StateFor st ms × MayFollow (is_there (streams_of st)) (past_of ms) m)
