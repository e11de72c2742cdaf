-- What the parts have of what watermarks pass for one query, merged, is the text of the rows that become due to it.
use Rattle.std.proofs.Common.{◌≡◌, ℕ, ◌+◌, ◌*◌, ◌<◌, ◌&&◌, ◌||◌, min, nat_lt, nat_le, eqb, not, Bool, cond, true, false, List, [], ◌∷◌, map, refl, sym, ap, ap₂, subst, ◌∙◌, append-nil, arith}
use Rattle.std.specs.List.{filter, flat_map, list_any, AllByRecursion}
use Rattle.std.proofs.lemmas.Bool.{and_parts, and_from, eqb-true, eq-eqb, both_ways, or_right, or_parts}
use Rattle.std.proofs.lemmas.Bool.Decides.{nat_tests}
use Rattle.as_base.specs.declared.fragment.Cell.{Cell}
use Rattle.as_base.specs.declared.fragment.Couple.{Couple}
use Rattle.as_base.specs.declared.fragment.Fragment.{Fragment}
use Rattle.as_base.specs.declared.item.Given.{Given}
use Rattle.as_base.specs.declared.item.Record.{Record}
use Rattle.as_base.specs.declared.message.Msg.TheVariants as msg
use Rattle.as_base.specs.declared.query.Kind.{Kind}
use Rattle.as_base.specs.declared.query.Kind.TheVariants.{Select, Sum, Count, Join}
use Rattle.as_base.specs.declared.query.Plan.{Plan}
use Rattle.as_base.specs.declared.row.Row.TheVariants.{Sel, Agg}
use Rattle.as_base.specs.declared.stream.StreamId.{StreamId}
use Rattle.as_base.specs.Canonical.{IsCanonicalAs}
use Rattle.as_base.specs.Windows.{fits, one_tick, start_of, end_of, in_window}
use Rattle.as_base.proofs.WindowLaws.{moves_on}
use Rattle.group_table.specs.Cells.{sums}
use Rattle.row_text.specs.RowText.{row_text}
use Rattle.row_text.proofs.TextLaws.{text_of_rows}
use Rattle.views.specs.Groups.{group_told}
use Rattle.views.specs.IsView.{IsQuery}
use Rattle.views.specs.Message.{after}
use Rattle.views.specs.Order.{InOrder}
use Rattle.views.specs.Pairs.{by_numbers}
use Rattle.views.specs.Passed.{given_to, within, windows_of, is_passed}
use Rattle.views.specs.Query.{Query}
use Rattle.views.specs.Rows.{pair_row, rows}
use Rattle.views.specs.Rows as views
use Rattle.views.specs.View.{View, is_of, is_mine, query_watermark}
use Rattle.views.proofs.DueLaws.{windows_between, rows_between}
use Rattle.views.proofs.GivenLaws.{mine-parts}
use Rattle.views.proofs.ListLaws.{All-by, All-every, All-both, All-filter, All-passed, filter-same, filter-all, filter-map, filter-filter, filter-within, flat_map-same, list_any-map}
use Rattle.views.proofs.OrderLaws.{NeverFalls, NeverFalls-given, InOrder-filter}
use Rattle.views.proofs.RisingLaws.{Rises, Rises-filter}
use Rattle.views.proofs.WindowLaws.{Rises-windows, list_any-windows}
use Rattle.contents.specs.Cells.{adds_up, share, is_in_window, window_sums}
use Rattle.contents.specs.Free.{member, Once}
use Rattle.contents.specs.Kept.{wants}
use Rattle.contents.specs.Pairs.{match_of, window_couples}
use Rattle.contents.specs.Past.{Past, view_of, mark_for}
use Rattle.contents.specs.Reply.{passes, passing, picks, of_records, of_cells, of_couples, fragments_as}
use Rattle.contents.specs.Rows as contents
use Rattle.contents.proofs.CellLaws.{member-filter}
use Rattle.contents.proofs.JoinLaws.{couples-as-given}
use Rattle.contents.proofs.RowLaws.{rows-of-cells}
use Rattle.result_router.specs.Merge.{window_text, text_for}
use Rattle.result_router.specs.Rising.{with_key, start_of as start_in}
use Rattle.result_router.specs.Rows.{records_in, cells_in, couples_in, records_of, cells_of, couples_of, in_order, told, cell_row, couple_row, record_row, rows_as}
use Rattle.net_core.proofs.PartedLaws.{filter-turn, flat_map-flat_map, flat_map-every, map-flat_map, All-flat_map, once-rising, those, GoTo}
use Rattle.net_core.proofs.WindowedLaws.{IsOf, made-through, rows-of, text-through}
use Rattle.net_core.proofs.MergedCellLaws.{ByKey, merged-sums, merged-couples}
use Rattle.net_core.proofs.PickedLaws.{at_tick, by-ticks, tick-window, merged-records}

-- ---- what fragments are made of

pub of-records : (q : Query) (rs : List Record) → AllByRecursion (IsOf q.n q.plan) (of_records q rs)
of-records q [] = tt
of-records q (r ∷ rs) = (record { number = refl; plan_is = refl }, tt)

pub of-cells : (q : Query) (k : ℕ) (cs : List Cell) → AllByRecursion (IsOf q.n q.plan) (of_cells q k cs)
of-cells q k [] = tt
of-cells q k (c ∷ cs) = (record { number = refl; plan_is = refl }, tt)

pub of-couples : (q : Query) (k : ℕ) (cs : List Couple) → AllByRecursion (IsOf q.n q.plan) (of_couples q k cs)
of-couples q k [] = tt
of-couples q k (c ∷ cs) = (record { number = refl; plan_is = refl }, tt)

records-start : (q : Query) (rs : List Record) → AllByRecursion (λ (f : Fragment). f.start ≡ 0) (of_records q rs)
records-start q [] = tt
records-start q (r ∷ rs) = (refl, tt)

pub cells-start : (q : Query) (k : ℕ) (cs : List Cell) → AllByRecursion (λ (f : Fragment). f.start ≡ start_of q.plan.win k) (of_cells q k cs)
cells-start q k [] = tt
cells-start q k (c ∷ cs) = (refl, tt)

couples-start : (q : Query) (k : ℕ) (cs : List Couple) → AllByRecursion (λ (f : Fragment). f.start ≡ start_of q.plan.win k) (of_couples q k cs)
couples-start q k [] = tt
couples-start q k (c ∷ cs) = (refl, tt)

records-in : (q : Query) (rs : List Record) → records_of (of_records q rs) ≡ rs
records-in q [] = refl
records-in q (r ∷ rs) = append-nil (r ∷ rs)

pub cells-in : (q : Query) (k : ℕ) (cs : List Cell) → cells_of (of_cells q k cs) ≡ cs
cells-in q k [] = refl
cells-in q k (c ∷ cs) = append-nil (c ∷ cs)

couples-in : (q : Query) (k : ℕ) (cs : List Couple) → couples_of (of_couples q k cs) ≡ cs
couples-in q k [] = refl
couples-in q k (c ∷ cs) = append-nil (c ∷ cs)

-- ---- lists

any-filtered : {X : Type 0} (p q : X → Bool) (xs : List X) → list_any p (filter q xs) ≡ true → list_any p xs ≡ true
any-filtered p q [] e = e
any-filtered p q (x ∷ xs) e = go (q x) e (any-filtered p q xs)
  where
    or_more : (a b c : Bool) → (b ≡ true → c ≡ true) → (a || b) ≡ true → (a || c) ≡ true
    or_more true b c f e = refl
    or_more false b c f e = f e

    go : (b : Bool) → list_any p (cond b (x ∷ filter q xs) (filter q xs)) ≡ true → (list_any p (filter q xs) ≡ true → list_any p xs ≡ true) → (p x || list_any p xs) ≡ true
    go true e rest = or_more (p x) (list_any p (filter q xs)) (list_any p xs) rest e
    go false e rest = or_right (p x) (list_any p xs) (rest e)

any-none : {X : Type 0} (p : X → Bool) (xs : List X) → list_any p xs ≡ false → filter p xs ≡ []
any-none p [] e = refl
any-none p (x ∷ xs) e = let h = or_parts (p x) (list_any p xs) e in ap (λ b. cond b (x ∷ filter p xs) (filter p xs)) h.0 ∙ any-none p xs h.1

-- each element is one of all
each-among : {X : Type 0} (xs : List X) → AllByRecursion (λ x. (p : X → Bool) → p x ≡ true → list_any p xs ≡ true) xs
each-among [] = tt
each-among {X} (x ∷ xs) = (
  λ p e. ap (λ b. b || list_any p xs) e,
  All-by (λ y. (p : X → Bool) → p y ≡ true → list_any p xs ≡ true) (λ y. (p : X → Bool) → p y ≡ true → list_any p (x ∷ xs) ≡ true) (λ y h p e. or_right (p x) (list_any p xs) (h p e)) xs (each-among xs),
)

map-every : {X Y : Type 0} (f g : X → Y) → ((x : X) → f x ≡ g x) → (xs : List X) → map f xs ≡ map g xs
map-every f g h [] = refl
map-every f g h (x ∷ xs) = ap₂ (λ y ys. y ∷ ys) (h x) (map-every f g h xs)

map-map : {X Y Z : Type 0} (f : Y → Z) (g : X → Y) (xs : List X) → map f (map g xs) ≡ map (λ x. f (g x)) xs
map-map f g [] = refl
map-map f g (x ∷ xs) = ap (λ l. f (g x) ∷ l) (map-map f g xs)

-- ---- rows

as-cells : (kind : Kind) (p : Plan) (start : ℕ) (fs : List Fragment) → adds_up kind ≡ true → rows_as kind p start fs ≡ map (cell_row p start) (sums (cells_of fs))
as-cells (Sum c) p start fs e = refl
as-cells Count p start fs e = refl
as-cells Select p start fs e = absurd (both_ways false refl e)
as-cells Join p start fs e = absurd (both_ways false refl e)

told-same : (kind : Kind) (cell : Cell) → adds_up kind ≡ true → told kind cell ≡ contents.told_of kind cell
told-same (Sum c) cell e = refl
told-same Count cell e = refl
told-same Select cell e = absurd (both_ways false refl e)
told-same Join cell e = absurd (both_ways false refl e)

-- ---- what is passed

between-same : (a b m : ℕ) → (nat_lt a m && not (nat_lt b m)) ≡ (nat_le m b && not (nat_le m a))
between-same a b m = grind (arith, nat_tests)

starts-rise : (s j k : ℕ) → 0 < s → j < k → j * s < k * s
starts-rise s j k some low = grind arith

module _ (v : View) (wm : List ℕ) (part : Record → ℕ) where
  -- what a part took: the records that go to it
  abbrev pub past_at : ℕ → Past
  past_at n = record { changes = []; holders = []; records = those part v.records n; marks = v.marks }

  abbrev whole : Past
  whole = record { changes = []; holders = []; records = v.records; marks = v.marks }

  module _ (q : Query) (made : IsQuery q) where
    fit : fits q.plan.win ≡ true
    fit = (made.fits).0

    abbrev pub is_new : ℕ → Bool
    is_new k = is_passed (after v (msg.Advance wm)) q k && not (is_passed v q k)

    passes-new : (n k : ℕ) → passes (past_at n) wm q k ≡ is_new k
    passes-new n k = between-same (query_watermark v q) (mark_for wm q) (min (end_of q.plan.win k) q.to)

    pub once-passing : (n : ℕ) → Once (passing (past_at n) wm q)
    once-passing n = once-rising (passing (past_at n) wm q) (Rises-filter (passes (past_at n) wm q) (windows_of (view_of (past_at n)) q) (Rises-windows q.plan.win (given_to (view_of (past_at n)) q q.plan.left)))

    rises : Rises (windows_between v wm q)
    rises = Rises-filter is_new (windows_of v q) (Rises-windows q.plan.win (given_to v q q.plan.left))

    -- a part's windows are windows of the whole
    window-among : (n k : ℕ) → member k (windows_of (view_of (past_at n)) q) ≡ true → member k (windows_of v q) ≡ true
    window-among n k e =
        let holds : Given → Bool = λ g. in_window q.plan.win k g.time in
        let holding : Record → Bool = λ r. in_window q.plan.win k r.given.time in
        list_any-windows q.plan.win (given_to v q q.plan.left) k fit
        ∙ list_any-map holds (λ (r : Record). r.given) (filter (is_mine q q.plan.left) v.records)
        ∙ any-filtered holding (λ r. eqb (part r) n) (filter (is_mine q q.plan.left) v.records)
        (ap (list_any holding) (filter-turn (λ r. eqb (part r) n) (is_mine q q.plan.left) v.records)
        ∙ sym (list_any-map holds (λ (r : Record). r.given) (filter (is_mine q q.plan.left) (those part v.records n)))
        ∙ sym (list_any-windows q.plan.win (given_to (view_of (past_at n)) q q.plan.left) k fit)
        ∙ e)

    passing-among : (n : ℕ) → AllByRecursion (λ k. member k (windows_between v wm q) ≡ true) (passing (past_at n) wm q)
    passing-among n =
        let ks = passing (past_at n) wm q in
        All-by (λ k. (p : ℕ → Bool) → p k ≡ true → list_any p ks ≡ true) (λ k. member k (windows_between v wm q) ≡ true)
        (λ k among.
        let both = and_parts (passes (past_at n) wm q k) (member k (windows_of (view_of (past_at n)) q)) (sym (member-filter (passes (past_at n) wm q) k (windows_of (view_of (past_at n)) q)) ∙ among (λ j. eqb j k) (eq-eqb k k refl)) in
        member-filter is_new k (windows_of v q)
        ∙ and_from (is_new k) (member k (windows_of v q)) (sym (passes-new n k) ∙ both.0) (window-among n k both.1))
        ks (each-among ks)

    -- a part that has no window of a number has no record in it
    pub none-inside : (n k : ℕ) → is_new k ≡ true → member k (passing (past_at n) wm q) ≡ false → filter (is_in_window q.plan.left q k) (those part v.records n) ≡ []
    none-inside n k new absent =
        let holds : Given → Bool = λ g. in_window q.plan.win k g.time in
        let holding : Record → Bool = λ r. in_window q.plan.win k r.given.time in
        let mine : List Record = filter (is_mine q q.plan.left) (those part v.records n) in
        let out : member k (windows_of (view_of (past_at n)) q) ≡ false =
        ap (λ b. b && member k (windows_of (view_of (past_at n)) q)) (sym (passes-new n k ∙ new)) ∙ sym (member-filter (passes (past_at n) wm q) k (windows_of (view_of (past_at n)) q)) ∙ absent in
        sym (filter-filter holding (is_mine q q.plan.left) (those part v.records n))
        ∙ any-none holding mine (sym (list_any-map holds (λ (r : Record). r.given) mine) ∙ sym (list_any-windows q.plan.win (given_to (view_of (past_at n)) q q.plan.left) k fit) ∙ out)

    pub no-cells : (n k : ℕ) → is_new k ≡ true → member k (passing (past_at n) wm q) ≡ false → of_cells q k (window_sums q k (those part v.records n)) ≡ []
    no-cells n k new absent = ap (λ rs. of_cells q k (sums (flat_map (share q.plan) rs))) (none-inside n k new absent)

    no-couples : (n k : ℕ) → is_new k ≡ true → member k (passing (past_at n) wm q) ≡ false → of_couples q k (by_numbers (window_couples q k (those part v.records n))) ≡ []
    no-couples n k new absent = ap (λ rs. of_couples q k (by_numbers (flat_map (λ (r : Record). flat_map (match_of r) (filter (is_in_window q.plan.right q k) (those part v.records n))) rs))) (none-inside n k new absent)

    all-new : AllByRecursion (λ k. is_new k ≡ true) (windows_between v wm q)
    all-new = All-passed is_new (windows_of v q)

    pub begins-rise : (j k : ℕ) → j < k → start_of q.plan.win j < start_of q.plan.win k
    begins-rise j k low = starts-rise q.plan.win.slide j k (moves_on q.plan.win fit) low

    -- the rows of windows, as text
    rows-text : (text : ℕ → List ℕ) → ((k : ℕ) → text k ≡ flat_map row_text (rows v q k)) → flat_map text (windows_between v wm q) ≡ text_of_rows (rows_between v wm q)
    rows-text text same = flat_map-every text (λ k. flat_map row_text (rows v q k)) (windows_between v wm q) same ∙ sym (flat_map-flat_map row_text (rows v q) (windows_between v wm q))

    -- what a part has of a window
    abbrev pub cells_made : ℕ → ℕ → List Fragment
    cells_made n k = of_cells q k (window_sums q k (those part v.records n))

    abbrev couples_made : ℕ → ℕ → List Fragment
    couples_made n k = of_couples q k (by_numbers (window_couples q k (those part v.records n)))

    module _ (ns : List ℕ) (once : Once ns) (all : GoTo part ns v.records) where
      -- ---- sums and counts

      cells-rows : adds_up q.plan.kind ≡ true → (k : ℕ) → window_text (flat_map (λ n. cells_made n k) ns) ≡ flat_map row_text (rows v q k)
      cells-rows adds k =
          let fs : List Fragment = flat_map (λ n. cells_made n k) ns in
          let start : ℕ = start_of q.plan.win k in
          ap (flat_map row_text)
          (rows-of q.n q.plan start fs
          (All-flat_map (IsOf q.n q.plan) (λ n. cells_made n k) ns (All-every (λ n. AllByRecursion (IsOf q.n q.plan) (cells_made n k)) (λ n. of-cells q k (window_sums q k (those part v.records n))) ns))
          (All-flat_map (λ (f : Fragment). f.start ≡ start) (λ n. cells_made n k) ns (All-every (λ n. AllByRecursion (λ (f : Fragment). f.start ≡ start) (cells_made n k)) (λ n. cells-start q k (window_sums q k (those part v.records n))) ns))
          ∙ as-cells q.plan.kind q.plan start fs adds
          ∙ ap (λ cs. map (cell_row q.plan start) (sums cs))
          (flat_map-flat_map (λ (f : Fragment). cells_in f.body) (λ n. cells_made n k) ns
          ∙ flat_map-every (λ n. cells_of (cells_made n k)) (λ n. window_sums q k (those part v.records n)) ns (λ n. cells-in q k (window_sums q k (those part v.records n))))
          ∙ ap (map (cell_row q.plan start)) (merged-sums q k part ns v.records once all)
          ∙ map-every (cell_row q.plan start) (contents.cell_row q.plan k) (λ cell. ap (Agg start (end_of q.plan.win k) (group_told q.plan.group cell.group)) (told-same q.plan.kind cell adds)) (window_sums q k v.records)
          ∙ rows-of-cells whole q k adds)

      cells-text : adds_up q.plan.kind ≡ true → text_for (flat_map (λ n. flat_map (cells_made n) (passing (past_at n) wm q)) ns) ≡ text_of_rows (rows_between v wm q)
      cells-text adds =
          text-through (start_of q.plan.win) begins-rise cells_made (λ n k. cells-start q k (window_sums q k (those part v.records n))) (λ n. passing (past_at n) wm q) ns (windows_between v wm q) once-passing
          (All-by (λ k. is_new k ≡ true) (λ k. (n : ℕ) → member k (passing (past_at n) wm q) ≡ false → cells_made n k ≡ []) (λ k new n absent. no-cells n k new absent) (windows_between v wm q) all-new)
          rises passing-among
          ∙ rows-text (λ k. window_text (flat_map (λ n. cells_made n k) ns)) (cells-rows adds)

      -- ---- joins

      couples-rows : ByKey part → q.plan.kind ≡ Join → (k : ℕ) → window_text (flat_map (λ n. couples_made n k) ns) ≡ flat_map row_text (rows v q k)
      couples-rows by_key join k =
          let fs : List Fragment = flat_map (λ n. couples_made n k) ns in
          let start : ℕ = start_of q.plan.win k in
          ap (flat_map row_text)
          (rows-of q.n q.plan start fs
          (All-flat_map (IsOf q.n q.plan) (λ n. couples_made n k) ns (All-every (λ n. AllByRecursion (IsOf q.n q.plan) (couples_made n k)) (λ n. of-couples q k (by_numbers (window_couples q k (those part v.records n)))) ns))
          (All-flat_map (λ (f : Fragment). f.start ≡ start) (λ n. couples_made n k) ns (All-every (λ n. AllByRecursion (λ (f : Fragment). f.start ≡ start) (couples_made n k)) (λ n. couples-start q k (by_numbers (window_couples q k (those part v.records n)))) ns))
          ∙ ap (λ kind. rows_as kind q.plan start fs) join
          ∙ ap (λ cs. map (couple_row q.plan start) (by_numbers cs))
          (flat_map-flat_map (λ (f : Fragment). couples_in f.body) (λ n. couples_made n k) ns
          ∙ flat_map-every (λ n. couples_of (couples_made n k)) (λ n. by_numbers (window_couples q k (those part v.records n))) ns (λ n. couples-in q k (by_numbers (window_couples q k (those part v.records n)))))
          ∙ ap (map (couple_row q.plan start)) (merged-couples q k part by_key ns v.records once all)
          ∙ ap (λ cs. map (pair_row q.plan k) (by_numbers cs)) (couples-as-given whole q k)
          ∙ sym (ap (λ kind. views.rows_as kind q.plan k (within q.plan.win k (given_to v q q.plan.left)) (within q.plan.win k (given_to v q q.plan.right))) join))

      couples-text : ByKey part → q.plan.kind ≡ Join → text_for (flat_map (λ n. flat_map (couples_made n) (passing (past_at n) wm q)) ns) ≡ text_of_rows (rows_between v wm q)
      couples-text by_key join =
          text-through (start_of q.plan.win) begins-rise couples_made (λ n k. couples-start q k (by_numbers (window_couples q k (those part v.records n)))) (λ n. passing (past_at n) wm q) ns (windows_between v wm q) once-passing
          (All-by (λ k. is_new k ≡ true) (λ k. (n : ℕ) → member k (passing (past_at n) wm q) ≡ false → couples_made n k ≡ []) (λ k new n absent. no-couples n k new absent) (windows_between v wm q) all-new)
          rises passing-among
          ∙ rows-text (λ k. window_text (flat_map (λ n. couples_made n k) ns)) (couples-rows by_key join)

      -- ---- selections

      abbrev pick : Record → Bool
      pick = picks whole wm q

      abbrev picked : List Record
      picked = filter pick v.records

      abbrev records_made : ℕ → List Fragment
      records_made n = of_records q (filter pick (those part v.records n))

      pick-mine : (r : Record) → pick r ≡ true → is_of q.plan.left r ≡ true
      pick-mine r e = (mine-parts q q.plan.left r (and_parts (is_mine q q.plan.left r) (wants Select v.marks q r.given.time) (and_parts (is_mine q q.plan.left r && wants Select v.marks q r.given.time) (not (wants Select wm q r.given.time)) e).0).0).0

      picked-order : InOrder (filter (is_of q.plan.left) v.records) → InOrder picked
      picked-order order = subst InOrder (filter-within pick (is_of q.plan.left) v.records pick-mine) (InOrder-filter pick (filter (is_of q.plan.left) v.records) order)

      records-rows : q.plan.kind ≡ Select → InOrder picked → text_for (flat_map records_made ns) ≡ text_of_rows (map record_row picked)
      records-rows select order =
          let fs : List Fragment = flat_map records_made ns in
          let at : AllByRecursion (λ (f : Fragment). f.start ≡ 0) fs = All-flat_map (λ (f : Fragment). f.start ≡ 0) records_made ns (All-every (λ n. AllByRecursion (λ (f : Fragment). f.start ≡ 0) (records_made n)) (λ n. records-start q (filter pick (those part v.records n))) ns) in
          made-through start_in window_text fs (0 ∷ []) refl (tt, tt) (All-by (λ (f : Fragment). f.start ≡ 0) (λ (f : Fragment). member f.start (0 ∷ []) ≡ true) (λ f e. ap (λ s. member s (0 ∷ [])) e) fs at)
          ∙ append-nil (window_text (with_key start_in 0 fs))
          ∙ ap window_text (filter-all (λ f. eqb (start_in f) 0) fs (All-by (λ (f : Fragment). f.start ≡ 0) (λ (f : Fragment). eqb f.start 0 ≡ true) (λ f e. eq-eqb f.start 0 e) fs at))
          ∙ ap (flat_map row_text)
          (rows-of q.n q.plan 0 fs (All-flat_map (IsOf q.n q.plan) records_made ns (All-every (λ n. AllByRecursion (IsOf q.n q.plan) (records_made n)) (λ n. of-records q (filter pick (those part v.records n))) ns)) at
          ∙ ap (λ kind. rows_as kind q.plan 0 fs) select
          ∙ ap (λ rs. map record_row (in_order rs))
          (flat_map-flat_map (λ (f : Fragment). records_in f.body) records_made ns
          ∙ flat_map-every (λ n. records_of (records_made n)) (λ n. filter pick (those part v.records n)) ns (λ n. records-in q (filter pick (those part v.records n))))
          ∙ ap (map record_row) (sym (merged-records pick part ns v.records once all order)))

    -- ---- what is due to a selection

    abbrev lefts : List Given
    lefts = given_to v q q.plan.left

    ticks-same : (t to a b : ℕ) → t < to → (nat_le (min (t * 1 + 1) to) b && not (nat_le (min (t * 1 + 1) to) a)) ≡ (nat_lt a (t + 1) && not (nat_lt b (t + 1)))
    ticks-same t to a b low = grind (arith, nat_tests)

    and_step : (m a b c : Bool) → (m ≡ true → a ≡ (b && c)) → (m && a) ≡ ((m && b) && c)
    and_step true a b c h = h refl
    and_step false a b c h = refl

    pick-new : q.plan.win ≡ one_tick → (r : Record) → (is_mine q q.plan.left r && is_new r.given.time) ≡ picks whole wm q r
    pick-new tick r =
        and_step (is_mine q q.plan.left r) (is_new r.given.time) (wants Select v.marks q r.given.time) (not (wants Select wm q r.given.time))
        (λ mine. ap (λ w. nat_le (min (end_of w r.given.time) q.to) (mark_for wm q) && not (nat_le (min (end_of w r.given.time) q.to) (query_watermark v q))) tick
        ∙ ticks-same r.given.time q.to (query_watermark v q) (mark_for wm q) (mine-parts q q.plan.left r mine).1)

    new-lefts : q.plan.win ≡ one_tick → filter (λ (g : Given). is_new g.time) lefts ≡ map (λ (r : Record). r.given) (filter (picks whole wm q) v.records)
    new-lefts tick =
        filter-map (λ (g : Given). is_new g.time) (λ (r : Record). r.given) (filter (is_mine q q.plan.left) v.records)
        ∙ ap (map (λ (r : Record). r.given))
        (filter-filter (λ (r : Record). is_new r.given.time) (is_mine q q.plan.left) v.records
        ∙ filter-same (λ r. is_mine q q.plan.left r && is_new r.given.time) (picks whole wm q) v.records (All-every (λ r. (is_mine q q.plan.left r && is_new r.given.time) ≡ picks whole wm q r) (pick-new tick) v.records))

    tick-rows : q.plan.kind ≡ Select → q.plan.win ≡ one_tick → (k : ℕ) → is_new k ≡ true → rows v q k ≡ map (λ g. Sel g) (at_tick (filter (λ (g : Given). is_new g.time) lefts) k)
    tick-rows select tick k new =
        ap (λ kind. views.rows_as kind q.plan k (within q.plan.win k lefts) (within q.plan.win k (given_to v q q.plan.right))) select
        ∙ ap (map (λ g. Sel g))
        (ap (λ w. within w k lefts) tick
        ∙ filter-same (λ (g : Given). in_window one_tick k g.time) (λ (g : Given). eqb g.time k) lefts (All-every (λ (g : Given). in_window one_tick k g.time ≡ eqb g.time k) (λ g. tick-window k g.time) lefts)
        ∙ sym (filter-within (λ (g : Given). eqb g.time k) (λ (g : Given). is_new g.time) lefts (λ g e. ap is_new (eqb-true g.time k e) ∙ new)))

    ticks-among : q.plan.win ≡ one_tick → AllByRecursion (λ (g : Given). member g.time (windows_between v wm q) ≡ true) (filter (λ (g : Given). is_new g.time) lefts)
    ticks-among tick =
        let new : Given → Bool = λ g. is_new g.time in
        let P : Given → Type 0 = λ g. (p : Given → Bool) → p g ≡ true → list_any p lefts ≡ true in
        All-by (λ (g : Given). P g × (is_new g.time ≡ true)) (λ (g : Given). member g.time (windows_between v wm q) ≡ true)
        (λ g both. member-filter is_new g.time (windows_of v q)
        ∙ and_from (is_new g.time) (member g.time (windows_of v q)) both.1
        (list_any-windows q.plan.win lefts g.time fit
        ∙ both.0 (λ (x : Given). in_window q.plan.win g.time x.time) (ap (λ w. in_window w g.time g.time) tick ∙ tick-window g.time g.time ∙ eq-eqb g.time g.time refl)))
        (filter new lefts) (All-both P (λ (g : Given). is_new g.time ≡ true) (filter new lefts) (All-filter P new lefts (each-among lefts)) (All-passed new lefts))

    due-picked : q.plan.kind ≡ Select → q.plan.win ≡ one_tick → InOrder (filter (picks whole wm q) v.records) → rows_between v wm q ≡ map record_row (filter (picks whole wm q) v.records)
    due-picked select tick order =
        let new : List Given = filter (λ (g : Given). is_new g.time) lefts in
        let rs : List Record = filter (picks whole wm q) v.records in
        flat_map-same (rows v q) (λ k. map (λ g. Sel g) (at_tick new k)) (windows_between v wm q) (All-by (λ k. is_new k ≡ true) (λ k. rows v q k ≡ map (λ g. Sel g) (at_tick new k)) (tick-rows select tick) (windows_between v wm q) all-new)
        ∙ sym (map-flat_map (λ g. Sel g) (at_tick new) (windows_between v wm q))
        ∙ ap (map (λ g. Sel g)) (by-ticks new (windows_between v wm q) rises (subst NeverFalls (sym (new-lefts tick)) (NeverFalls-given rs order)) (ticks-among tick) ∙ new-lefts tick)
        ∙ map-map (λ g. Sel g) (λ (r : Record). r.given) rs

    -- ---- a query of any kind

    module _ (ns : List ℕ) (once : Once ns) (all : GoTo part ns v.records) where
      -- what the parts have for the query
      abbrev pub had : List Fragment
      had = flat_map (λ n. fragments_as q.plan.kind (past_at n) wm q) ns

      pub had-text : ByKey part → ((s : StreamId) → InOrder (filter (is_of s) v.records)) → text_for had ≡ text_of_rows (rows_between v wm q)
      had-text by_key order = go q.plan.kind refl made.canonical
        where
          shown : (kind : Kind) → q.plan.kind ≡ kind → had ≡ flat_map (λ n. fragments_as kind (past_at n) wm q) ns
          shown kind is = ap (λ kd. flat_map (λ n. fragments_as kd (past_at n) wm q) ns) is

          go : (kind : Kind) → q.plan.kind ≡ kind → IsCanonicalAs kind q.plan → text_for had ≡ text_of_rows (rows_between v wm q)
          go Select is canonical =
              let ordered = picked-order ns once all (order q.plan.left) in
              ap text_for (shown Select is) ∙ records-rows ns once all is ordered ∙ ap text_of_rows (sym (due-picked is (canonical.2) ordered))
          go (Sum c) is canonical = ap text_for (shown (Sum c) is) ∙ cells-text ns once all (ap adds_up is)
          go Count is canonical = ap text_for (shown Count is) ∙ cells-text ns once all (ap adds_up is)
          go Join is canonical = ap text_for (shown Join is) ∙ couples-text ns once all by_key is
