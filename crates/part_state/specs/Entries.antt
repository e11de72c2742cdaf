-- The queries that a part still has to do with.
use Rattle.std.specs.Prelude.{ℕ, ◌≡◌, ◌<◌, ◌==◌, ◌&&◌, ◌||◌, nat_lt, if◌then◌else◌, Bool, true, false, List, map}
use Rattle.std.specs.List.{filter, AllByRecursion}
use Rattle.as_base.specs.declared.message.Change.{Change}
use Rattle.as_base.specs.declared.message.Change.TheVariants.{Opened, Closed}
use Rattle.as_base.specs.Windows.{fits}
use Rattle.views.specs.Slots.{Holder}
use Rattle.contents.specs.Past.{mark_for}
use Rattle.part_state.specs.declared.entries.Entry.{Entry}

-- the entry as a query with its slot
abbrev pub holder_of : Entry → Holder
holder_of e = record { query = record { n = e.n; plan = e.plan; from = e.from; to = e.to; live = e.live }; slot = e.slot }

-- the entries as queries with their slots
abbrev pub holders_in : List Entry → List Holder
holders_in es = map holder_of es

-- the entry, whose query's life ends at the time if it lives and has this number
abbrev pub closed_entry : ℕ → ℕ → Entry → Entry
closed_entry n at e =
    if e.n == n && e.live then record { n = e.n; slot = e.slot; plan = e.plan; from = e.from; to = at; live = false } else e

-- the slot is one of 512, and the plan's windows are within their limits
pub record IsSafe (e : Entry) : Type 0 where
  pub slot : e.slot < 512
  pub window : fits e.plan.win ≡ true

abbrev pub AreSafe : List Entry → Type 0
AreSafe es = AllByRecursion IsSafe es

-- a change that opens a query gives it windows within their limits
abbrev pub window_fits : Change → Bool
window_fits (Opened n slot at plan) = fits plan.win
window_fits (Closed n slot at) = true

-- the query lives, or its watermark has not reached its end
abbrev pub is_running : List ℕ → Holder → Bool
is_running marks h = h.query.live || nat_lt (mark_for marks h.query) h.query.to

-- the running queries
abbrev pub running : List ℕ → List Holder → List Holder
running marks hs = filter (is_running marks) hs
