-- What a part replies to an advance by the items that came before it.
use Rattle.std.specs.Prelude.{ℕ, List}
use Rattle.as_base.specs.declared.config.Config.{Config}
use Rattle.as_base.specs.declared.fragment.Fragment.{Fragment}
use Rattle.as_base.specs.declared.item.Item.{Item}
use Rattle.contents.specs.Past.{past_of}
use Rattle.contents.specs.Reply.{reply_to}
use Rattle.net_core.specs.Sent.{sent}

-- what part p, which took all that it was sent, replies to an advance to these watermarks
abbrev pub replied_by : Config → List Item → List ℕ → ℕ → List Fragment
replied_by c h wm p = (reply_to (past_of (sent c h p)) wm).fragments
