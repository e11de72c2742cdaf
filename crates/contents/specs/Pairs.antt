-- Pairs of records, and the slots of the joins that have both.
use Rattle.std.specs.Prelude.{ℕ, ◌≡◌, ◌==◌, ◌&&◌, ◌||◌, not, nat_lt, nat_le, min, max, if◌then◌else◌, Bool, true, false, List, [], ◌∷◌}
use Rattle.std.specs.List.{filter, flat_map, list_any, AllByRecursion}
use Rattle.std.specs.Ordering.{int_eq}
use Rattle.as_base.specs.declared.fragment.Couple.{Couple}
use Rattle.shared_agg.specs.Slices.{is_between}
use Rattle.views.specs.Pairs.{couple}
use Rattle.contents.specs.Cells.{is_in_window}
use Rattle.contents.specs.Free.{member}
use Rattle.as_base.specs.declared.item.Record.{Record}
use Rattle.as_base.specs.declared.query.Kind.{Kind}
use Rattle.as_base.specs.declared.query.Kind.TheVariants.{Select, Sum, Count, Join}
use Rattle.as_base.specs.declared.stream.StreamId.{StreamId}
use Rattle.as_base.specs.Windows.{windows_at}
use Rattle.views.specs.Query.{Query}
use Rattle.views.specs.Slots.{Holder, owner, has_mine, cut_of, holds_in_life}
use Rattle.views.specs.View.{reads, is_of, is_mine}
use Rattle.contents.specs.Kept.{is_open_window, slice_at}

-- the number is after the first and not after the second
abbrev pub comes_in : ℕ → ℕ → ℕ → Bool
comes_in t u n = nat_lt t n && nat_le n u

-- the holder has the slot, and began or ended between the two times
abbrev pub stirs : ℕ → ℕ → ℕ → Holder → Bool
stirs slot t u g = g.slot == slot && (comes_in (min t u) (max t u) g.query.from || comes_in (min t u) (max t u) g.query.to)

-- no holder of the slot began or ended between the two times
abbrev pub is_quiet : List Holder → ℕ → ℕ → ℕ → Bool
is_quiet hs slot t u = not (list_any (stirs slot t u) hs)

-- The slot is in the set of a pair: both records belong to its owner, each at its time, and the slot is unchanged between
-- the beginnings of their slices.
abbrev pub is_paired : List Holder → ℕ → Record → Record → Bool
is_paired hs slot r s =
    has_mine r (owner hs r.given.time slot) && has_mine s (owner hs s.given.time slot) && is_quiet hs slot (cut_of hs r) (cut_of hs s)

-- the holder has the slot, and both records belong to it
abbrev pub has_both : ℕ → Record → Record → Holder → Bool
has_both slot r s g = g.slot == slot && is_mine g.query r.given.stream r && is_mine g.query s.given.stream s

-- ---- couples

-- the couple of a left and a right record, or none where their keys differ
abbrev pub match_of : Record → Record → List Couple
match_of r s = if int_eq r.given.key s.given.key then couple r.given s.given ∷ [] else []

-- what a pair of stored records shows to the owner of the slot
abbrev pub shown_to : List Holder → ℕ → Record → Record → List Couple
shown_to hs slot r s = if is_paired hs slot r s then match_of r s else []

-- the couples of the slot between two slices of two streams
abbrev pub couples_at : List Holder → List Record → ℕ → StreamId → StreamId → ℕ → ℕ → List Couple
couples_at hs stored slot a b c d = flat_map (λ (r : Record). flat_map (shown_to hs slot r) (slice_at hs b d stored)) (slice_at hs a c stored)

-- those between the slices that begin within
abbrev pub couples_between : List Holder → List Record → ℕ → StreamId → StreamId → List ℕ → List ℕ → ℕ → ℕ → List Couple
couples_between hs stored slot a b cs ds from to =
    flat_map (λ c. flat_map (couples_at hs stored slot a b c) (filter (is_between from to) ds)) (filter (is_between from to) cs)

-- the couples that a join makes of the records of its window k
abbrev pub window_couples : Query → ℕ → List Record → List Couple
window_couples q k records =
    flat_map (λ (r : Record). flat_map (match_of r) (filter (is_in_window q.plan.right q k) records)) (filter (is_in_window q.plan.left q k) records)

-- each of the records that is of the stream is in one of these slices
abbrev pub AreIn : List Holder → StreamId → List ℕ → List Record → Type 0
AreIn hs s starts records = AllByRecursion (λ r. is_of s r ≡ true → member (cut_of hs r) starts ≡ true) records

-- ---- which slices have met

abbrev pub is_join : Kind → Bool
is_join Join = true
is_join Select = false
is_join (Sum c) = false
is_join Count = false

-- a window of the query that is passed holds both times, within the query's life
abbrev pub passed_both : List ℕ → Query → ℕ → ℕ → Bool
passed_both marks q t u =
    list_any (λ k. holds_in_life q k t && holds_in_life q k u && not (is_open_window marks q k)) (windows_at q.plan.win t)

-- Two slices of two streams have met: a join that reads both streams has a passed window which holds the beginnings of
-- both.
abbrev pub have_met : List ℕ → List Holder → StreamId → StreamId → ℕ → ℕ → Bool
have_met marks hs a b c d =
    list_any (λ (h : Holder). is_join h.query.plan.kind && reads h.query.plan a && reads h.query.plan b && passed_both marks h.query c d) hs
