-- What one more item sends, and what a part makes of it.
use Rattle.std.proofs.Common.{◌≡◌, ℕ, List, [], ◌∷◌, ◌++◌, refl, ap, ◌∙◌}
use Rattle.std.specs.List.{fold}
use Rattle.as_base.specs.declared.config.Config.{Config}
use Rattle.as_base.specs.declared.item.Item.{Item}
use Rattle.as_base.specs.declared.message.Msg.{Msg}
use Rattle.contents.specs.Past.{Past, no_past, followed, past_of}
use Rattle.session.proofs.WalkLaws.{walk-push}
use Rattle.net_core.specs.Sent.{sent_by, sent}

pub sent-push : (c : Config) (h : List Item) (x : Item) (p : ℕ) → sent c (h ++ x ∷ []) p ≡ sent c h p ++ sent_by c h x p
sent-push c h x p = walk-push (λ before y. sent_by c before y p) [] h x

past-more : (z : Past) (ms ns : List Msg) → fold followed z (ms ++ ns) ≡ fold followed (fold followed z ms) ns
past-more z [] ns = refl
past-more z (m ∷ ms) ns = past-more (followed z m) ms ns

-- the past after what one more item sends
pub past-sent : (c : Config) (h : List Item) (x : Item) (p : ℕ) → past_of (sent c (h ++ x ∷ []) p) ≡ fold followed (past_of (sent c h p)) (sent_by c h x p)
past-sent c h x p = ap past_of (sent-push c h x p) ∙ past-more no_past (sent c h p) (sent_by c h x p)
