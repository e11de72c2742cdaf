-- What a selector stands for: the bounds that the owners in its epoch set for its stream.
use Rattle.std.specs.Prelude.{◌≡◌, ℕ, List}
use Rattle.as_base.specs.declared.message.Change.{Change}
use Rattle.as_base.specs.declared.stream.StreamId.{StreamId}
use Rattle.shared_select.specs.declared.selector.Selector.{Selector}
use Rattle.shared_select.specs.Wanting.{bounds_in}

-- the stream whose records it tags
abbrev pub stream_of : Selector → StreamId
stream_of s = s.stream

-- the epoch in which it stands
abbrev pub epoch_of : Selector → ℕ
epoch_of s = s.epoch

-- its columns are the bounds that the owners in its epoch set for its stream
abbrev pub SelectorFor : Selector → List Change → Type 0
SelectorFor s cs = s.columns ≡ bounds_in cs s.epoch s.stream

-- A new selector: it stands in epoch 0 of any changes, in which no slot has an owner.
pub record IsNew (s : StreamId) (selector : Selector) : Type 0 where
  pub stream : stream_of selector ≡ s
  pub epoch : epoch_of selector ≡ 0
  pub stands : (cs : List Change) → SelectorFor selector cs
