-- The six roles at an inbox, and what each has done. Role 0 is the taker, roles 1 to 5 are the feeders.
-- A parcel is a load with the number of its feeder. A view has a place for each role: its list of parcels, or nothing.
use Rattle.std.specs.Prelude.{◌≡◌, ℕ, ◌<◌, ◌+◌, Bool, false, cond, ◌&&◌, ◌||◌, ◌==◌, is_some, Option, Some, None, List, [], ◌∷◌, ◌++◌, map, length, take, slice_index_or, slice_set, ⊤}
use mathlib.Core.Option.{some}
use lib.ListN.{get_elem?}

module _ {X : Type 0} where
  -- the loads of the parcels, in order
  abbrev pub loads : List (ℕ × X) → List X
  loads parcels = map (λ p. p.1) parcels

  -- the loads of one feeder among the parcels, in order
  abbrev pub from : ℕ → List (ℕ × X) → List X
  from feeder [] = []
  from feeder (p ∷ parcels) = cond (p.0 == feeder) (p.1 ∷ from feeder parcels) (from feeder parcels)

  -- each parcel carries the number of a feeder, and a sound load
  abbrev pub AllFed : (X → Type 0) → List (ℕ × X) → Type 0
  AllFed Sound [] = ⊤
  AllFed Sound (p ∷ parcels) = (0 < p.0) × (p.0 < 6) × Sound p.1 × AllFed Sound parcels

  abbrev pub listed : Option (List (ℕ × X)) → List (ℕ × X)
  listed None = []
  listed (Some parcels) = parcels

  -- what the view holds of a role
  abbrev pub part : List (Option (List (ℕ × X))) → ℕ → Option (List (ℕ × X))
  part view role = slice_index_or view role None

  -- the list of a role that the view holds
  abbrev pub list_of : List (Option (List (ℕ × X))) → ℕ → List (ℕ × X)
  list_of view role = listed (part view role)

  abbrev pub HoldsRole : List (Option (List (ℕ × X))) → ℕ → Type 0
  HoldsRole view role = part view role ≡ Some (list_of view role)

  -- every role, with nothing done
  abbrev pub everything : List (Option (List (ℕ × X)))
  everything = Some [] ∷ Some [] ∷ Some [] ∷ Some [] ∷ Some [] ∷ Some [] ∷ []

  -- no role
  abbrev pub nothing : List (Option (List (ℕ × X)))
  nothing = None ∷ None ∷ None ∷ None ∷ None ∷ None ∷ []

  abbrev pub only : ℕ → Option (List (ℕ × X)) → List (Option (List (ℕ × X)))
  only role mine = slice_set nothing role mine

  abbrev pub without : List (Option (List (ℕ × X))) → ℕ → List (Option (List (ℕ × X)))
  without view role = slice_set view role None

  -- the view holds this role and no other
  abbrev pub IsOnly : ℕ → List (Option (List (ℕ × X))) → Type 0
  IsOnly role view = (view ≡ only role (part view role)) × HoldsRole view role

  -- the view when the role has done one parcel more
  abbrev pub added : List (Option (List (ℕ × X))) → ℕ → ℕ × X → List (Option (List (ℕ × X)))
  added view role parcel = slice_set view role (Some (list_of view role ++ parcel ∷ []))

  -- how many roles the view holds
  abbrev pub roles_in : List (Option (List (ℕ × X))) → ℕ
  roles_in [] = 0
  roles_in (mine ∷ view) = cond (is_some mine) 1 0 + roles_in view

  -- both views hold some role
  abbrev pub clash : List (Option (List (ℕ × X))) → List (Option (List (ℕ × X))) → Bool
  clash [] w = false
  clash (mine ∷ v) [] = false
  clash (mine ∷ v) (theirs ∷ w) = (is_some mine && is_some theirs) || clash v w

  abbrev pub either_of : Option (List (ℕ × X)) → Option (List (ℕ × X)) → Option (List (ℕ × X))
  either_of (Some parcels) theirs = Some parcels
  either_of None theirs = theirs

  abbrev pub united : List (Option (List (ℕ × X))) → List (Option (List (ℕ × X))) → List (Option (List (ℕ × X)))
  united [] w = w
  united (mine ∷ v) [] = mine ∷ v
  united (mine ∷ v) (theirs ∷ w) = either_of mine theirs ∷ united v w

  -- the view of a pass that another was joined into; no view at all where both held some role
  abbrev pub both_of : List (Option (List (ℕ × X))) → List (Option (List (ℕ × X))) → List (Option (List (ℕ × X)))
  both_of v w = cond (clash v w) [] (united v w)

  -- each role's list is held by exactly one view: that of the pass which is the role's seat
  abbrev pub Seated : (ℕ → ℕ) → (ℕ → List (ℕ × X)) → List (List (Option (List (ℕ × X)))) → Type 0
  Seated seat lists views =
      ((role : ℕ) → role < 6 → seat role < length views)
      × ((pass : ℕ) (view : List (Option (List (ℕ × X)))) → get_elem? views pass ≡ some view → (role : ℕ) → role < 6 → part view role ≡ cond (pass == seat role) (Some (lists role)) None)
      × ((pass : ℕ) (view : List (Option (List (ℕ × X)))) → get_elem? views pass ≡ some view → length view ≡ 6)

  -- what each feeder offered is its loads among those taken, and then its loads among those in the queue
  abbrev pub Whole : (X → Type 0) → (ℕ → List (ℕ × X)) → List (ℕ × X) → Type 0
  Whole Sound lists items =
      ((feeder : ℕ) → 0 < feeder → feeder < 6 → loads (lists feeder) ≡ from feeder (lists 0 ++ items))
      × AllFed Sound (lists 0 ++ items)

  -- the rule of an inbox for sound loads under a watch, which is of what was taken and of what the queue holds
  abbrev pub Kept : (X → Type 0) → (List (ℕ × X) → List (ℕ × X) → Type 0) → List (ℕ × X) → List (List (Option (List (ℕ × X)))) → Type 0
  Kept Sound sees items views = (seat : ℕ → ℕ) × (lists : ℕ → List (ℕ × X)) × Seated seat lists views × Whole Sound lists items × sees (lists 0) items

  -- a state that the rule allows, in which the queue holds the items and one pass has the view
  abbrev pub Moment : (X → Type 0) → (List (ℕ × X) → List (ℕ × X) → Type 0) → List (Option (List (ℕ × X))) → List (ℕ × X) → Type 0
  Moment Sound sees view items = (pass : ℕ) × (views : List (List (Option (List (ℕ × X))))) × Kept Sound sees items views × (get_elem? views pass ≡ some view)

  -- the watch stays when a feeder that has offered so much adds one more load to a queue that has room
  abbrev pub StaysAtOffer : (List (ℕ × X) → List (ℕ × X) → Type 0) → ℕ → ℕ → List X → X → Type 0
  StaysAtOffer sees room feeder done x = (taken items : List (ℕ × X)) → length items < room → from feeder (taken ++ items) ≡ done → sees taken items → sees taken (items ++ (feeder, x) ∷ [])

  -- the watch stays when the front parcel goes to the taker, who has taken so much
  abbrev pub StaysAtTake : (List (ℕ × X) → List (ℕ × X) → Type 0) → List (ℕ × X) → Type 0
  StaysAtTake sees taken = (x : ℕ × X) (items : List (ℕ × X)) → sees taken (x ∷ items) → sees (taken ++ x ∷ []) items

  -- the parcel stood at the front of the queue, with these behind it, when so much had been taken
  abbrev pub WasFront : (List (ℕ × X) → List (ℕ × X) → Type 0) → List (ℕ × X) → ℕ × X → Type 0
  WasFront sees taken x = (behind : List (ℕ × X)) × sees taken (x ∷ behind)

  -- at a moment at which the feeder had offered so much, the queue held these parcels, and the watch was so
  abbrev pub Saw : (List (ℕ × X) → List (ℕ × X) → Type 0) → ℕ → List X → List (ℕ × X) → Type 0
  Saw sees feeder done items = (taken : List (ℕ × X)) × (from feeder (taken ++ items) ≡ done) × sees taken items

  -- the same of each feeder whose role the view holds
  abbrev pub SawBeside : (List (ℕ × X) → List (ℕ × X) → Type 0) → List (Option (List (ℕ × X))) → List (ℕ × X) → Type 0
  SawBeside sees view items = (feeder : ℕ) → 0 < feeder → feeder < 6 → HoldsRole view feeder → Saw sees feeder (loads (list_of view feeder)) items

  -- the new view holds, of each role that the old one held, the same list
  abbrev pub KeepsRoles : List (Option (List (ℕ × X))) → List (Option (List (ℕ × X))) → Type 0
  KeepsRoles old new = (role : ℕ) (parcels : List (ℕ × X)) → part old role ≡ Some parcels → part new role ≡ Some parcels

  -- of each feeder a prefix of what it offered was taken, each load once, and `left` were not taken
  abbrev pub IsTally : ℕ → List (Option (List (ℕ × X))) → Type 0
  IsTally left view =
      ((feeder : ℕ) → 0 < feeder → feeder < 6 → from feeder (list_of view 0) ≡ take (length (from feeder (list_of view 0))) (loads (list_of view feeder)))
      × (length (list_of view 1) + length (list_of view 2) + length (list_of view 3) + length (list_of view 4) + length (list_of view 5) ≡ length (list_of view 0) + left)
