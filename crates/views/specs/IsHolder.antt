-- What the laws of slots and slices speak of and ask of holders.
use Rattle.std.specs.Prelude.{ℕ, ◌≡◌, ◌≤◌, ◌^◌, ◌==◌, ◌&&◌, Option, Some, None, List, [], ◌∷◌, ◌++◌, IsTrue, IsFalse}
use Rattle.std.specs.List.{find, AllByRecursion}
use Rattle.as_base.specs.declared.message.Change.{Change}
use Rattle.as_base.specs.declared.message.Change.TheVariants.{Opened, Closed}
use Rattle.as_base.specs.declared.query.Plan.{Plan}
use Rattle.views.specs.Slots.{Holder}

-- when the change comes
abbrev pub time_of : Change → ℕ
time_of (Opened n slot at plan) = at
time_of (Closed n slot at) = at

-- What a query is from its beginning on, whatever becomes of it: its number, its plan, and when it began.
pub record Begun : Type 0 where
  pub n : ℕ
  pub plan : Plan
  pub from : ℕ

-- this of an owner
abbrev pub begun : Option Holder → Option Begun
begun None = None
begun (Some h) = Some (record { n = h.query.n; plan = h.query.plan; from = h.query.from })

-- of the holders of the slot that live, the first
abbrev pub live_holder : List Holder → ℕ → Option Holder
live_holder hs slot = find (λ (h : Holder). h.slot == slot && h.query.live) hs

-- A query that lives has no end yet: its life goes on up to 2^62.
pub record IsUnended (h : Holder) : Type 0 where
  pub lasts : IsTrue h.query.live → h.query.to ≡ 2 ^ 62

-- All that was to come to the query came by the time: it began by then, and either it lives, with no end, or it ended by
-- then.
pub record IsSettled (t : ℕ) (h : Holder) : Type 0 where
  pub begins : h.query.from ≤ t
  pub lasts : IsTrue h.query.live → h.query.to ≡ 2 ^ 62
  pub ends : IsFalse h.query.live → h.query.to ≤ t

-- Of two holders of a slot at most one lives.
abbrev pub AreNotBothLive : Holder → Holder → Type 0
AreNotBothLive g h = g.slot ≡ h.slot → IsTrue g.query.live → IsFalse h.query.live

-- no two holders of a slot live
abbrev pub LiveAlone : List Holder → Type 0
LiveAlone [] = Unit {0}
LiveAlone (h ∷ hs) = AllByRecursion (AreNotBothLive h) hs × LiveAlone hs

-- the holder is one of these
abbrev pub IsAmong : Holder → List Holder → Type 0
IsAmong h hs = (front : List Holder) × (back : List Holder) × (hs ≡ front ++ h ∷ back)
