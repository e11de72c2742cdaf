-- A fault is where no text goes on.
use Rattle.std.proofs.Common.{◌≡◌, ℕ, zero, suc, pos, ◌≤◌, Option, Some, None, Err, List, [], ◌∷◌, ◌++◌, codes, refl, sym, ap, ◌∙◌, subst, arith, append_assoc, append-nil, length, take, drop, ◌+◌, take-append-drop, length-append}
use Rattle.std.specs.Option.{ok_or}
use Rattle.std.specs.Fmt.{digits}
use Rattle.as_base.specs.declared.stream.StreamId.{StreamId}
use Rattle.as_base.specs.declared.stream.StreamId.TheVariants.{A}
use Rattle.as_base.specs.declared.query.Col.TheVariants.{V1}
use Rattle.as_base.specs.declared.query.Group.{Group}
use Rattle.query_text.specs.declared.ast.Op.{Op}
use Rattle.query_text.specs.declared.ast.Op.TheVariants.{Lt}
use Rattle.query_text.specs.declared.tree.Measure.{Measure}
use Rattle.query_text.specs.declared.tree.Window.{Window}
use Rattle.query_text.specs.declared.tree.Stem.{Stem}
use Rattle.query_text.specs.declared.tree.Head.{Head}
use Rattle.query_text.specs.declared.tree.Side.{Side}
use Rattle.query_text.specs.Names.{Word}
use Rattle.query_text.specs.Spelling.{WrittenQuery, query_words, Spells, Begins, IsSyntax}
use Rattle.query_text.proofs.PlaceLaws.{said, Good, led}
use Rattle.std.proofs.lemmas.List.{take-append-le}
use Rattle.query_text.proofs.GrammarLaws.{go_on, stop_at, step_case, spelled-read}
use Rattle.query_text.specs.Places.{with_cond, bare, Place, after_value, step, whole_at, read_from}
use Rattle.query_text.specs.Places.Place.{AtVerb, AtSelected, AtSelectStream, AtSumColumn, AtBy, AtGroup, AtFrom, AtStream, AtJoinLeft, AtJoinRight, AtShape, AtTumble, AtSize, AtSlide, AtLead, AtField, AtOp, AtValue}

-- some text goes on from the next place, so from this one too
back : (p next : Place) (w : Word) → Good p → step p w ≡ Some next → (Good next → Begins (said next)) → Begins (said p)
back p next w good e h =
    let l = led p w next e good in
    let b : Begins (said next) = h l.0 in
    (b.0, w ∷ b.1, (b.2.0, sym (append_assoc (said p) (w ∷ []) b.1) ∙ ap (λ xs. xs ++ b.1) (sym l.1) ∙ b.2.1))

at_lead : (q : WrittenQuery) → Good (AtLead q) → Begins (said (AtLead q))
at_lead q good = (q, [], (good, append-nil (query_words q)))

zero_value : (q : WrittenQuery) (side : Side) (f : ℕ) (op : Op) → step (AtValue q side f op) (codes "0") ≡ Some (after_value q side f op (pos 0))
unfolding digits
zero_value q side f op = refl

zero_tumble : (stem : Stem) → step (AtTumble stem) (codes "0") ≡ Some (AtLead (bare (Head.Windowed stem (Window.Tumble 0))))
unfolding digits
zero_tumble stem = refl

zero_size : (stem : Stem) → step (AtSize stem) (codes "0") ≡ Some (AtSlide stem 0)
unfolding digits
zero_size stem = refl

zero_slide : (stem : Stem) (n : ℕ) → step (AtSlide stem n) (codes "0") ≡ Some (AtLead (bare (Head.Windowed stem (Window.Slide n 0))))
unfolding digits
zero_slide stem n = refl

at_value : (q : WrittenQuery) (side : Side) (f : ℕ) (op : Op) → Good (AtValue q side f op) → Begins (said (AtValue q side f op))
at_value q side f op good = back (AtValue q side f op) (after_value q side f op (pos 0)) (codes "0") good (zero_value q side f op) (at_lead (with_cond q side (record { field = f; op = op; value = pos 0 })))

at_op : (q : WrittenQuery) (side : Side) (f : ℕ) → Good (AtOp q side f) → Begins (said (AtOp q side f))
at_op q side f good = back (AtOp q side f) (AtValue q side f Lt) (codes "<") good refl (at_value q side f Lt)

at_field : (q : WrittenQuery) (side : Side) → Good (AtField q side) → Begins (said (AtField q side))
at_field q side good = back (AtField q side) (AtOp q side 0) (codes "key") good refl (at_op q side 0)

at_slide : (stem : Stem) (n : ℕ) → Good (AtSlide stem n) → Begins (said (AtSlide stem n))
at_slide stem n good = back (AtSlide stem n) (AtLead (bare (Head.Windowed stem (Window.Slide n 0)))) (codes "0") good (zero_slide stem n) (at_lead (bare (Head.Windowed stem (Window.Slide n 0))))

at_size : (stem : Stem) → Begins (said (AtSize stem))
at_size stem = back (AtSize stem) (AtSlide stem 0) (codes "0") tt (zero_size stem) (at_slide stem 0)

at_tumble : (stem : Stem) → Begins (said (AtTumble stem))
at_tumble stem = back (AtTumble stem) (AtLead (bare (Head.Windowed stem (Window.Tumble 0)))) (codes "0") tt (zero_tumble stem) (at_lead (bare (Head.Windowed stem (Window.Tumble 0))))

at_shape : (stem : Stem) → Begins (said (AtShape stem))
at_shape stem = back (AtShape stem) (AtTumble stem) (codes "tumble") tt refl (λ _. at_tumble stem)

at_stream : (m : Measure) (g : Group) → Begins (said (AtStream m g))
at_stream m g = back (AtStream m g) (AtShape (Stem.Grouped m g A)) (codes "a") tt refl (λ _. at_shape (Stem.Grouped m g A))

at_from : (m : Measure) (g : Group) → Begins (said (AtFrom m g))
at_from m g = back (AtFrom m g) (AtStream m g) (codes "from") tt refl (λ _. at_stream m g)

at_group : (m : Measure) → Begins (said (AtGroup m))
at_group m = back (AtGroup m) (AtFrom m Group.Key) (codes "key") tt refl (λ _. at_from m Group.Key)

at_by : (m : Measure) → Begins (said (AtBy m))
at_by m = back (AtBy m) (AtGroup m) (codes "by") tt refl (λ _. at_group m)

at_join_right : (s : StreamId) → Begins (said (AtJoinRight s))
at_join_right s = back (AtJoinRight s) (AtShape (Stem.Joined s A)) (codes "a") tt refl (λ _. at_shape (Stem.Joined s A))

at_select_stream : Begins (said AtSelectStream)
at_select_stream = back AtSelectStream (AtLead (bare (Head.Select A))) (codes "a") tt refl (at_lead (bare (Head.Select A)))

at_selected : Begins (said AtSelected)
at_selected = back AtSelected AtSelectStream (codes "from") tt refl (λ _. at_select_stream)

-- from each good place some text goes on
pub completes : (p : Place) → Good p → Begins (said p)
completes AtVerb good = back AtVerb AtSelected (codes "select") tt refl (λ _. at_selected)
completes AtSelected good = at_selected
completes AtSelectStream good = at_select_stream
completes AtSumColumn good = back AtSumColumn (AtBy (Measure.Sum V1)) (codes "v1") tt refl (λ _. at_by (Measure.Sum V1))
completes (AtBy m) good = at_by m
completes (AtGroup m) good = at_group m
completes (AtFrom m g) good = at_from m g
completes (AtStream m g) good = at_stream m g
completes AtJoinLeft good = back AtJoinLeft (AtJoinRight A) (codes "a") tt refl (λ _. at_join_right A)
completes (AtJoinRight s) good = at_join_right s
completes (AtShape stem) good = at_shape stem
completes (AtTumble stem) good = at_tumble stem
completes (AtSize stem) good = at_size stem
completes (AtSlide stem n) good = at_slide stem n good
completes (AtLead q) good = at_lead q good
completes (AtField q side) good = at_field q side good
completes (AtOp q side f) good = at_op q side f good
completes (AtValue q side f op) good = at_value q side f op good

-- no query is whole at the place where the words end, or the next word leads nowhere
abbrev Stuck : Place → List Word → Type 0
Stuck next [] = whole_at next ≡ None
Stuck next (w ∷ left) = step next w ≡ None

-- the words before the fault, and the place that they led to
abbrev Stopped : Place → List Word → List Word → Type 0
Stopped p ws left =
    (front : List Word) × (next : Place)
    × (ws ≡ front ++ left)
    × Good next
    × (said next ≡ said p ++ front)
    × ((more : List Word) → read_from p (front ++ more) ≡ read_from next more)
    × Stuck next left

not_whole : (o : Option WrittenQuery) (left : List Word) → ok_or o [] ≡ Err left → (o ≡ None) × ([] ≡ left)
not_whole None left e = (refl, cc e)
not_whole (Some q) left e = cc e

stopped : (p : Place) (ws left : List Word) → Good p → read_from p ws ≡ Err left → Stopped p ws left
stopped p [] left good e =
    let s = not_whole (whole_at p) left e in
    ([], p, s.1, good, sym (append-nil (said p)), (λ more. refl), subst (Stuck p) s.1 s.0)
stopped p (w ∷ ws) left good e =
    step_case {P = Stopped p (w ∷ ws) left} (step p w) w ws (Err left) e
    (λ n h k. let l = led p w n h good in
    let r : Stopped n ws left = stopped n ws left l.0 k in
    (w ∷ r.0, r.1, ap (λ xs. w ∷ xs) r.2, r.3, r.4 ∙ ap (λ xs. xs ++ r.0) l.1 ∙ append_assoc (said p) (w ∷ []) r.0, (λ more. go_on p n w (r.0 ++ more) h ∙ r.5 more), r.6))
    (λ h k. let same : (w ∷ ws) ≡ left = cc k in
    ([], p, same, good, sym (append-nil (said p)), (λ more. refl), subst (Stuck p) same h))

Begins-front : (a b : List Word) → Begins (a ++ b) → Begins a
Begins-front a b h = (h.0, b ++ h.1, (h.2.0, sym (append_assoc a b h.1) ∙ h.2.1))

take_one_more : (front : List Word) (w : Word) (left : List Word) (k : ℕ) → k ≡ length front + 1 → take k (front ++ w ∷ left) ≡ front ++ w ∷ []
take_one_more front w left zero e = absurd (omega (arith, e))
take_one_more [] w left (suc k) e = let none : k ≡ 0 = omega (arith, e) in rw none refl
take_one_more (x ∷ front) w left (suc k) e = ap (λ xs. x ∷ xs) (take_one_more front w left k (omega (arith, e)))

take_front : (front left : List Word) (n : ℕ) → n ≤ length front → take n (front ++ left) ≡ take n front
take_front front left n h = take-append-le n front left h

ends_here : (front left : List Word) (next : Place) (k : ℕ) → Stuck next left → ((more : List Word) → read_from AtVerb (front ++ more) ≡ read_from next more)
    → k ≡ length front + 1 → k ≤ length (front ++ left) → Begins (take k (front ++ left)) → ⊥
ends_here front [] next k stuck on e l b = let none : List Word = [] in absurd (omega (arith, e, l, length-append front none))
ends_here front (w ∷ left) next k stuck on e l b =
    let same : (front ++ w ∷ []) ++ b.1 ≡ front ++ (w ∷ b.1) = append_assoc front (w ∷ []) b.1 in
    let spelled : Spells b.0 ((front ++ w ∷ []) ++ b.1) = (b.2.0, ap (λ xs. xs ++ b.1) (sym (take_one_more front w left k e)) ∙ b.2.1) in
    let whole = spelled-read b.0 ((front ++ w ∷ []) ++ b.1) spelled in
    let fault : read_from AtVerb ((front ++ w ∷ []) ++ b.1) ≡ Err (w ∷ b.1) = ap (read_from AtVerb) same ∙ on (w ∷ b.1) ∙ stop_at next w b.1 stuck in
    cc (whole, fault)

-- the words that are left at a fault tell its place
pub fault_place : (ws left : List Word) (k : ℕ) → read_from AtVerb ws ≡ Err left → k + length left ≡ length ws + 1 → IsSyntax k ws
fault_place ws left k e count =
    let s : Stopped AtVerb ws left = stopped AtVerb ws left tt e in
    let parts : length ws ≡ length s.0 + length left = ap length s.2 ∙ length-append s.0 left in
    let front : Begins s.0 = subst Begins s.4 (completes s.1 s.3) in
    record {
      place = (omega (arith, count, parts), omega (arith, count, parts));
      before = λ n h.
          let low : n ≤ length s.0 = omega (arith, h, count, parts) in
          let at : take n ws ≡ take n s.0 = ap (take n) s.2 ∙ take_front s.0 left n low in
          subst Begins (sym at) (Begins-front (take n s.0) (drop n s.0) (subst Begins (sym (take-append-drop n s.0)) front));
      none = λ q h. cc (e, spelled-read q ws h);
      bad = λ h b.
          let here : k ≡ length s.0 + 1 = omega (arith, count, parts) in
          ends_here s.0 left s.1 k s.6 s.5 here (subst (λ (xs : List Word). k ≤ length xs) s.2 h) (subst (λ (xs : List Word). Begins (take k xs)) s.2 b);
    }

pub left_short : (ws left : List Word) → read_from AtVerb ws ≡ Err left → length left ≤ length ws
left_short ws left e =
    let s : Stopped AtVerb ws left = stopped AtVerb ws left tt e in
    omega (arith, ap length s.2, length-append s.0 left)

-- what a fault says, by the numbers of the words
pub fault_by : (ws seen left : List Word) (k total rest : ℕ) → seen ≡ ws → read_from AtVerb seen ≡ Err left → total ≡ length seen → rest ≡ length left → k + rest ≡ total + 1 → IsSyntax k ws
fault_by ws seen left k total rest same e et er sum =
    fault_place ws left k (ap (read_from AtVerb) (sym same) ∙ e) (omega (arith, et, er, sum, ap length same))
