-- How much is held after messages: records, cells and pairs.
use Rattle.std.specs.Prelude.{ℕ, ◌+◌, ◌&&◌, nat_lt, if◌then◌else◌, Bool, List, [], ◌∷◌, map, length}
use Rattle.std.specs.List.{filter, flat_map, list_any, range_with_len}
use Rattle.std.specs.Ordering.{int_eq}
use Rattle.as_base.specs.declared.fragment.Cell.{Cell}
use Rattle.as_base.specs.declared.fragment.Held.{Held}
use Rattle.as_base.specs.declared.item.Record.{Record}
use Rattle.as_base.specs.declared.message.Msg.{Msg}
use Rattle.as_base.specs.declared.stream.StreamId.{StreamId}
use Rattle.as_base.specs.declared.stream.StreamId.TheVariants.{A, B, C, D}
use Rattle.as_base.specs.Stream.{place_of}
use Rattle.views.specs.Slots.{Holder, cut_of}
use Rattle.views.specs.View.{is_of, is_mine}
use Rattle.contents.specs.Cells.{cells_at}
use Rattle.contents.specs.Free.{member}
use Rattle.contents.specs.Kept.{kept}
use Rattle.contents.specs.Pairs.{is_join, have_met}
use Rattle.contents.specs.Past.{Past, past_of}

-- the numbers, each once
abbrev pub once_each : List ℕ → List ℕ
once_each [] = []
once_each (c ∷ cs) = if member c (once_each cs) then once_each cs else c ∷ once_each cs

-- where the slices begin that the records of the stream are in
abbrev pub cuts_of : Past → StreamId → List ℕ
cuts_of p s = once_each (map (cut_of p.holders) (filter (is_of s) p.records))

-- the cells of all 512 slots in these slices of a stream
abbrev pub cells_in : Past → StreamId → List ℕ → List Cell
cells_in p s starts = flat_map (λ c. flat_map (λ slot. cells_at p s slot c) (range_with_len 0 512)) starts

-- how many cells the slices of a stream have
abbrev pub cells_of : Past → StreamId → ℕ
cells_of p s = length (cells_in p s (cuts_of p s))

-- Two records make a pair: the stream of the first comes before that of the second, their keys are equal, some join has both,
-- and their slices have met, by that join or another one of these streams.
abbrev pub is_pair : Past → Record → Record → Bool
is_pair p r s =
    nat_lt (place_of r.given.stream) (place_of s.given.stream) && int_eq r.given.key s.given.key
    && list_any (λ (h : Holder). is_join h.query.plan.kind && is_mine h.query r.given.stream r && is_mine h.query s.given.stream s) p.holders
    && have_met p.marks p.holders r.given.stream s.given.stream (cut_of p.holders r) (cut_of p.holders s)

-- the pairs of the records that are kept
abbrev pub pairs : Past → List Record → List (Record × Record)
pairs p stored = flat_map (λ (r : Record). flat_map (λ (s : Record). if is_pair p r s then (r, s) ∷ [] else []) stored) stored

-- The records, cells and pairs that are held after messages.
abbrev pub held_after : List Msg → Held
held_after ms =
    let p = past_of ms in
    record {
      records = length (kept ms);
      cells = cells_of p A + cells_of p B + cells_of p C + cells_of p D;
      pairs = length (pairs p (kept ms));
    }
