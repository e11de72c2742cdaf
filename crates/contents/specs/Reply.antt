-- What a part replies to an advance: for each query what its windows hold that the new watermarks pass.
use Rattle.std.specs.Prelude.{ℕ, ◌&&◌, not, Bool, List, [], ◌∷◌}
use Rattle.std.specs.List.{filter, flat_map}
use Rattle.as_base.specs.declared.fragment.Body.{Body}
use Rattle.as_base.specs.declared.fragment.Body.TheVariants as body
use Rattle.as_base.specs.declared.fragment.Cell.{Cell}
use Rattle.as_base.specs.declared.fragment.Couple.{Couple}
use Rattle.as_base.specs.declared.fragment.Fragment.{Fragment}
use Rattle.as_base.specs.declared.fragment.Reply.{Reply}
use Rattle.as_base.specs.declared.item.Record.{Record}
use Rattle.as_base.specs.declared.query.Kind.{Kind}
use Rattle.as_base.specs.declared.query.Kind.TheVariants.{Select, Sum, Count, Join}
use Rattle.as_base.specs.Windows.{start_of}
use Rattle.views.specs.Pairs.{by_numbers}
use Rattle.views.specs.Passed.{windows_of}
use Rattle.views.specs.Query.{Query}
use Rattle.views.specs.Slots.{Holder}
use Rattle.views.specs.View.{is_mine}
use Rattle.contents.specs.Cells.{window_sums}
use Rattle.contents.specs.Kept.{is_open_window, wants}
use Rattle.contents.specs.Pairs.{window_couples}
use Rattle.contents.specs.Past.{Past, view_of}

-- ---- what is passed

-- the watermarks pass window k, which was not passed before
abbrev pub passes : Past → List ℕ → Query → ℕ → Bool
passes p wm q k = is_open_window p.marks q k && not (is_open_window wm q k)

-- the windows that hold a record of the query and that the watermarks pass, by rising number
abbrev pub passing : Past → List ℕ → Query → List ℕ
passing p wm q = filter (passes p wm q) (windows_of (view_of p) q)

-- a selection has the record, and the watermarks pass it
abbrev pub picks : Past → List ℕ → Query → Record → Bool
picks p wm q r = is_mine q q.plan.left r && wants Select p.marks q r.given.time && not (wants Select wm q r.given.time)

-- ---- fragments, none of them empty

abbrev pub fragment : Query → ℕ → Body → Fragment
fragment q start made = record { n = q.n; plan = q.plan; start = start; body = made }

-- the records of a selection
abbrev pub of_records : Query → List Record → List Fragment
of_records q [] = []
of_records q (r ∷ rs) = fragment q 0 (body.Recs (r ∷ rs)) ∷ []

-- the cells of a window of a sum or a count
abbrev pub of_cells : Query → ℕ → List Cell → List Fragment
of_cells q k [] = []
of_cells q k (c ∷ cs) = fragment q (start_of q.plan.win k) (body.Cells (c ∷ cs)) ∷ []

-- the couples of a window of a join
abbrev pub of_couples : Query → ℕ → List Couple → List Fragment
of_couples q k [] = []
of_couples q k (c ∷ cs) = fragment q (start_of q.plan.win k) (body.Couples (c ∷ cs)) ∷ []

-- what a query of this kind has of what the watermarks pass: a selection its records in the order of their lines; a sum or a
-- count the cells of each window; a join the couples of each window, in the order of their numbers
abbrev pub fragments_as : Kind → Past → List ℕ → Query → List Fragment
fragments_as Select p wm q = of_records q (filter (picks p wm q) p.records)
fragments_as (Sum c) p wm q = flat_map (λ k. of_cells q k (window_sums q k p.records)) (passing p wm q)
fragments_as Count p wm q = flat_map (λ k. of_cells q k (window_sums q k p.records)) (passing p wm q)
fragments_as Join p wm q = flat_map (λ k. of_couples q k (by_numbers (window_couples q k p.records))) (passing p wm q)

abbrev pub fragments_for : Past → List ℕ → Holder → List Fragment
fragments_for p wm h = fragments_as h.query.plan.kind p wm h.query

-- What a part with this past replies to an advance to these watermarks: the fragments of all queries, by number and start.
abbrev pub reply_to : Past → List ℕ → Reply
reply_to p wm = record { fragments = flat_map (fragments_for p wm) p.holders }
