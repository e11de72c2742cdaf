-- Which changes may come one after another, and who owns a slot by views.
use Rattle.std.specs.Prelude.{ℕ, ◌≡◌, ◌≤◌, ◌<◌, ◌^◌, Bool, Option, Some, None, List, [], ◌∷◌, IsTrue, IsFalse}
use Rattle.std.specs.List.{list_any, AllByRecursion}
use Rattle.as_base.specs.declared.message.Change.{Change}
use Rattle.as_base.specs.declared.message.Change.TheVariants.{Opened, Closed}
use Rattle.as_base.specs.declared.query.Plan.{Plan}
use Rattle.views.specs.Query.{is_live}
use Rattle.views.specs.Slots.{Holder, held, owner}
use Rattle.views.specs.IsHolder.{time_of}
use Rattle.changelog.specs.Changes.{slot_of}

-- the number and the plan of the holder's query
abbrev pub named : Option Holder → Option (ℕ × Plan)
named None = None
named (Some h) = Some (h.query.n, h.query.plan)

-- the number and the plan of the query that has the slot at the time
abbrev pub owner_at : List Holder → ℕ → ℕ → Option (ℕ × Plan)
owner_at hs t slot = named (owner hs t slot)

-- no holder of the slot lives
abbrev pub IsFree : ℕ → List Holder → Type 0
IsFree slot hs = AllByRecursion (λ (h : Holder). h.slot ≡ slot → IsFalse h.query.live) hs

-- the holder's query has this number and lives
abbrev pub is_named : ℕ → Holder → Bool
is_named n h = is_live n h.query

-- Some holder has this number and lives, and each such one has this slot.
pub record IsNamed (n slot : ℕ) (hs : List Holder) : Type 0 where
  pub one : IsTrue (list_any (is_named n) hs)
  pub each : AllByRecursion (λ (h : Holder). IsTrue (is_named n h) → h.slot ≡ slot) hs

-- a slot that is opened is free; one that is closed has a live holder, of the number that the change names
abbrev pub Suits : List Holder → Change → Type 0
Suits hs (Opened n slot at plan) = IsFree slot hs
Suits hs (Closed n slot at) = IsNamed n slot hs

-- The change may come after others, the last of which came at this time, and which made these holders.
pub record MayFollow (last : ℕ) (hs : List Holder) (c : Change) : Type 0 where
  pub time : last ≤ time_of c
  pub most : time_of c ≤ 2 ^ 62
  pub within : slot_of c < 512
  pub suits : Suits hs c

-- each of the changes may come after those before it
abbrev pub MayAllFollow : ℕ → List Holder → List Change → Type 0
MayAllFollow last hs [] = Unit {0}
MayAllFollow last hs (c ∷ cs) = MayFollow last hs c × MayAllFollow (time_of c) (held hs c) cs

-- the changes may come one after another, from none on
abbrev pub IsOrderly : List Change → Type 0
IsOrderly cs = MayAllFollow 0 [] cs
