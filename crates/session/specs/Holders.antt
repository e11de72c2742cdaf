-- Which slot each query holds.
use Rattle.std.specs.Prelude.{ℕ, ◌+◌, ◌==◌, ◌&&◌, not, position, unwrap_or, if◌then◌else◌, Bool, Option, Some, None, List, [], ◌∷◌, ◌++◌, map, length}
use Rattle.std.specs.List.{list_any, range_with_len}
use Rattle.std.specs.Result.{result_ok}
use Rattle.as_base.specs.declared.config.Config.{Config}
use Rattle.as_base.specs.declared.item.Item.{Item}
use Rattle.as_base.specs.declared.item.Item.TheVariants.{Rec, Mark, End, Create, Delete, Bad}
use Rattle.as_base.specs.declared.query.Plan.{Plan}
use Rattle.views.specs.Query.{Query, opened, closed}
use Rattle.session.specs.Acceptance.{changelog_time}
use Rattle.session.specs.Planned.{plan_for}
use Rattle.session.specs.Book.{has_slot}

-- a query and the slot that it was given; another may have the slot once it is closed
pub record Holder : Type 0 where
  pub query : Query
  pub slot : ℕ

-- the queries of the holders
abbrev pub queries_of : List Holder → List Query
queries_of holders = map (λ (h : Holder). h.query) holders

-- a live query holds the slot
abbrev pub is_held : List Holder → ℕ → Bool
is_held holders slot = list_any (λ (h : Holder). h.query.live && h.slot == slot) holders

-- of each slot, whether a live query holds it
abbrev pub slots_of : Config → List Holder → List Bool
slots_of c holders = map (is_held holders) (range_with_len 0 c.slots)

-- The least slot that no live query holds; 0 where there is none, and then no query is made.
abbrev pub least_free : Config → List Holder → ℕ
least_free c holders = unwrap_or (position (λ on. not on) (slots_of c holders)) 0

-- the holders with one more, if there is a plan
abbrev pub with_holder : Config → List Holder → Option Plan → ℕ → List Holder
with_holder c holders None at = holders
with_holder c holders (Some plan) at = holders ++ (record { query = opened (length holders + 1) plan at; slot = least_free c holders }) ∷ []

-- the holder, whose query is closed at the time if it lives and has this number
abbrev pub closed_holder : ℕ → ℕ → Holder → Holder
closed_holder n at h = record { query = closed n at h.query; slot = h.slot }

-- the holders after one more item, where `before` came before it
abbrev pub holders_after : Config → List Item → List Holder → Item → List Holder
holders_after c before holders (Create text) =
    if has_slot c (queries_of holders) then with_holder c holders (result_ok (plan_for c text)) (changelog_time c before) else holders
holders_after c before holders (Delete n) = map (closed_holder n (changelog_time c before)) holders
holders_after c before holders (Rec g) = holders
holders_after c before holders (Mark s t) = holders
holders_after c before holders (End s) = holders
holders_after c before holders (Bad cause) = holders

-- the holders after more items, where `before` came before them
abbrev pub holders_from : Config → List Item → List Holder → List Item → List Holder
holders_from c before holders [] = holders
holders_from c before holders (x ∷ h) = holders_from c (before ++ x ∷ []) (holders_after c before holders x) h

-- The queries of the items by number, each with its slot.
abbrev pub holders : Config → List Item → List Holder
holders c h = holders_from c [] [] h

-- the slot of the query with this number, if it lives
abbrev pub slot_of : List Holder → ℕ → ℕ
slot_of [] n = 0
slot_of (h ∷ holders) n = if h.query.live && h.query.n == n then h.slot else slot_of holders n
