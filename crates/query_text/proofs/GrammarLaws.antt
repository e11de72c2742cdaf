-- The places against the grammar: what is spelled is read, what is read is spelled, and a fault is where no text goes on.
use Rattle.std.proofs.Common.{◌≡◌, ℕ, zero, suc, ◌<◌, ◌≤◌, ◌^◌, Bool, true, false, if◌then◌else◌, Option, Some, None, Result, Ok, Err, List, [], ◌∷◌, ◌++◌, codes, decimal, refl, sym, ap, ◌∙◌, subst, arith, append_assoc, append-nil, option_map, flat_map}
use Rattle.std.specs.Option.{option_map_or, ok_or}
use Rattle.std.specs.Fmt.{signed_decimal}
use Rattle.as_base.specs.declared.stream.StreamId.{StreamId}
use Rattle.as_base.specs.declared.stream.StreamId.TheVariants.{A, B, C, D}
use Rattle.as_base.specs.declared.query.Col.{Col}
use Rattle.as_base.specs.declared.query.Col.TheVariants.{V1, V2, V3, V4}
use Rattle.as_base.specs.declared.query.Group.{Group}
use Rattle.query_text.specs.declared.ast.Op.{Op}
use Rattle.query_text.specs.declared.ast.Op.TheVariants.{Lt, Le, Eq, Ge, Gt}
use Rattle.query_text.specs.declared.ast.Cond.{Cond}
use Rattle.query_text.specs.declared.tree.Measure.{Measure}
use Rattle.query_text.specs.declared.tree.Window.{Window}
use Rattle.query_text.specs.declared.tree.Stem.{Stem}
use Rattle.query_text.specs.declared.tree.Head.{Head}
use Rattle.query_text.specs.declared.tree.Side.{Side}
use Rattle.as_base.specs.Stream.{stream_name, stream_named}
use Rattle.as_words.proofs.NumberLaws.{natural-Some, integer-spelled}
use Rattle.query_text.specs.Spelling.{WrittenQuery, stem_words, window_words, head_words, is_join, opening, cond_words, conds_words, query_words, FitsWindow, FitsHead, FitsCond, FitsConds, FitsRight, FitsText, Spells, IsTreeOf, tree_of}
use Rattle.query_text.specs.declared.ast.Ast.{Ast}
use Rattle.query_text.proofs.PlaceLaws.{lead, said, FitsSide, Good, led, right_joins}
use Rattle.query_text.specs.Names.{Word, column_name, group_name, op_name, field_name, column_named, group_named, op_named, field_named, ticks_of}
use Rattle.query_text.specs.Parsing.{query_with}
use Rattle.query_text.specs.Places.{has_any, side_named, with_cond, bare, Place, after_value, step, whole_at, read_from}
use Rattle.query_text.specs.Places.Place.{AtVerb, AtSelected, AtSelectStream, AtSumColumn, AtBy, AtGroup, AtFrom, AtStream, AtJoinLeft, AtJoinRight, AtShape, AtTumble, AtSize, AtSlide, AtLead, AtField, AtOp, AtValue}

-- one word leads on, or none does
pub go_on : (p next : Place) (w : Word) (more : List Word) → step p w ≡ Some next → read_from p (w ∷ more) ≡ read_from next more
go_on p next w more e = ap (λ o. option_map_or (λ n. read_from n more) o (Err (w ∷ more))) e

pub stop_at : (p : Place) (w : Word) (more : List Word) → step p w ≡ None → read_from p (w ∷ more) ≡ Err (w ∷ more)
stop_at p w more e = ap (λ o. option_map_or (λ n. read_from n more) o (Err (w ∷ more))) e

-- each word is read back
stream_back : (s : StreamId) → stream_named (stream_name s) ≡ Some s
stream_back A = refl
stream_back B = refl
stream_back C = refl
stream_back D = refl

column_back : (c : Col) → column_named (column_name c) ≡ Some c
column_back V1 = refl
column_back V2 = refl
column_back V3 = refl
column_back V4 = refl

group_back : (g : Group) → group_named (group_name g) ≡ Some g
group_back Group.Key = refl
group_back Group.All = refl
group_back (Group.Col V1) = refl
group_back (Group.Col V2) = refl
group_back (Group.Col V3) = refl
group_back (Group.Col V4) = refl

op_back : (op : Op) → op_named (op_name op) ≡ Some op
op_back Lt = refl
op_back Le = refl
op_back Eq = refl
op_back Ge = refl
op_back Gt = refl

field_back : (f : ℕ) → f ≤ 4 → field_named (field_name f) ≡ Some f
field_back zero h = refl
field_back (suc zero) h = refl
field_back (suc (suc zero)) h = refl
field_back (suc (suc (suc zero))) h = refl
field_back (suc (suc (suc (suc zero)))) h = refl
field_back (suc (suc (suc (suc (suc f))))) h = absurd (omega (arith, h))

size_back : (n : ℕ) → n < 2 ^ 63 → ticks_of (decimal n) ≡ Some n
size_back n h = natural-Some (2 ^ 63) n (decimal n) h (omega (arith, h)) refl

left_back : (head : Head) (l : Bool) → side_named head l false (if l then codes "and" else opening head) ≡ Some Side.Left
left_back head true = refl
left_back (Head.Select s) false = refl
left_back (Head.Windowed (Stem.Grouped m g s) w) false = refl
left_back (Head.Windowed (Stem.Joined s t) w) false = refl

right_back : (head : Head) (l r : Bool) → is_join head ≡ true → side_named head l r (if r then codes "and" else codes "right") ≡ Some Side.Right
right_back (Head.Select s) l r j = cc j
right_back (Head.Windowed (Stem.Grouped m g s) w) l r j = cc j
right_back (Head.Windowed (Stem.Joined s t) w) l true j = refl
right_back (Head.Windowed (Stem.Joined s t) w) l false j = refl

side_back : (q : WrittenQuery) (side : Side) → FitsSide q side → side_named q.head (has_any q.left) (has_any q.right) (lead q side) ≡ Some side
side_back q Side.Left h = ap (λ cs. side_named q.head (has_any q.left) (has_any cs) (lead q Side.Left)) h ∙ left_back q.head (has_any q.left)
side_back q Side.Right h = right_back q.head (has_any q.left) (has_any q.right) h

-- the words of each part are read as it
reads_stem : (stem : Stem) (more : List Word) → read_from AtVerb (stem_words stem ++ more) ≡ read_from (AtShape stem) more
reads_stem (Stem.Grouped (Measure.Sum c) g s) more =
    go_on AtVerb AtSumColumn (codes "sum") (column_name c ∷ codes "by" ∷ group_name g ∷ codes "from" ∷ stream_name s ∷ more) refl
    ∙ go_on AtSumColumn (AtBy (Measure.Sum c)) (column_name c) (codes "by" ∷ group_name g ∷ codes "from" ∷ stream_name s ∷ more) (ap (option_map (λ d. AtBy (Measure.Sum d))) (column_back c))
    ∙ go_on (AtBy (Measure.Sum c)) (AtGroup (Measure.Sum c)) (codes "by") (group_name g ∷ codes "from" ∷ stream_name s ∷ more) refl
    ∙ go_on (AtGroup (Measure.Sum c)) (AtFrom (Measure.Sum c) g) (group_name g) (codes "from" ∷ stream_name s ∷ more) (ap (option_map (λ h. AtFrom (Measure.Sum c) h)) (group_back g))
    ∙ go_on (AtFrom (Measure.Sum c) g) (AtStream (Measure.Sum c) g) (codes "from") (stream_name s ∷ more) refl
    ∙ go_on (AtStream (Measure.Sum c) g) (AtShape (Stem.Grouped (Measure.Sum c) g s)) (stream_name s) more (ap (option_map (λ t. AtShape (Stem.Grouped (Measure.Sum c) g t))) (stream_back s))
reads_stem (Stem.Grouped Measure.Count g s) more =
    go_on AtVerb (AtBy Measure.Count) (codes "count") (codes "by" ∷ group_name g ∷ codes "from" ∷ stream_name s ∷ more) refl
    ∙ go_on (AtBy Measure.Count) (AtGroup Measure.Count) (codes "by") (group_name g ∷ codes "from" ∷ stream_name s ∷ more) refl
    ∙ go_on (AtGroup Measure.Count) (AtFrom Measure.Count g) (group_name g) (codes "from" ∷ stream_name s ∷ more) (ap (option_map (λ h. AtFrom Measure.Count h)) (group_back g))
    ∙ go_on (AtFrom Measure.Count g) (AtStream Measure.Count g) (codes "from") (stream_name s ∷ more) refl
    ∙ go_on (AtStream Measure.Count g) (AtShape (Stem.Grouped Measure.Count g s)) (stream_name s) more (ap (option_map (λ t. AtShape (Stem.Grouped Measure.Count g t))) (stream_back s))
reads_stem (Stem.Joined s t) more =
    go_on AtVerb AtJoinLeft (codes "join") (stream_name s ∷ stream_name t ∷ more) refl
    ∙ go_on AtJoinLeft (AtJoinRight s) (stream_name s) (stream_name t ∷ more) (ap (option_map (λ r. AtJoinRight r)) (stream_back s))
    ∙ go_on (AtJoinRight s) (AtShape (Stem.Joined s t)) (stream_name t) more (ap (option_map (λ r. AtShape (Stem.Joined s r))) (stream_back t))

reads_window : (stem : Stem) (w : Window) (more : List Word) → FitsWindow w → read_from (AtShape stem) (window_words w ++ more) ≡ read_from (AtLead (bare (Head.Windowed stem w))) more
reads_window stem (Window.Tumble n) more h =
    go_on (AtShape stem) (AtTumble stem) (codes "tumble") (decimal n ∷ more) refl
    ∙ go_on (AtTumble stem) (AtLead (bare (Head.Windowed stem (Window.Tumble n)))) (decimal n) more (ap (option_map (λ k. AtLead (bare (Head.Windowed stem (Window.Tumble k))))) (size_back n h))
reads_window stem (Window.Slide n m) more h =
    go_on (AtShape stem) (AtSize stem) (codes "slide") (decimal n ∷ decimal m ∷ more) refl
    ∙ go_on (AtSize stem) (AtSlide stem n) (decimal n) (decimal m ∷ more) (ap (option_map (λ k. AtSlide stem k)) (size_back n h.0))
    ∙ go_on (AtSlide stem n) (AtLead (bare (Head.Windowed stem (Window.Slide n m)))) (decimal m) more (ap (option_map (λ k. AtLead (bare (Head.Windowed stem (Window.Slide n k))))) (size_back m h.1))

reads_head : (head : Head) (more : List Word) → FitsHead head → read_from AtVerb (head_words head ++ more) ≡ read_from (AtLead (bare head)) more
reads_head (Head.Select s) more h =
    go_on AtVerb AtSelected (codes "select") (codes "from" ∷ stream_name s ∷ more) refl
    ∙ go_on AtSelected AtSelectStream (codes "from") (stream_name s ∷ more) refl
    ∙ go_on AtSelectStream (AtLead (bare (Head.Select s))) (stream_name s) more (ap (option_map (λ t. AtLead (bare (Head.Select t)))) (stream_back s))
reads_head (Head.Windowed stem w) more h =
    ap (read_from AtVerb) (append_assoc (stem_words stem) (window_words w) more) ∙ reads_stem stem (window_words w ++ more) ∙ reads_window stem w more h

reads_cond : (q : WrittenQuery) (side : Side) (c : Cond) (more : List Word) → FitsSide q side → FitsCond c
    → read_from (AtLead q) (lead q side ∷ (cond_words c ++ more)) ≡ read_from (AtLead (with_cond q side c)) more
reads_cond q side c more h fits =
    go_on (AtLead q) (AtField q side) (lead q side) (field_name c.field ∷ op_name c.op ∷ signed_decimal c.value ∷ more) (ap (option_map (λ r. AtField q r)) (side_back q side h))
    ∙ go_on (AtField q side) (AtOp q side c.field) (field_name c.field) (op_name c.op ∷ signed_decimal c.value ∷ more) (ap (option_map (λ f. AtOp q side f)) (field_back c.field fits.0))
    ∙ go_on (AtOp q side c.field) (AtValue q side c.field c.op) (op_name c.op) (signed_decimal c.value ∷ more) (ap (option_map (λ op. AtValue q side c.field op)) (op_back c.op))
    ∙ go_on (AtValue q side c.field c.op) (after_value q side c.field c.op c.value) (signed_decimal c.value) more (ap (option_map (after_value q side c.field c.op)) (integer-spelled c.value fits.1))

abbrev more_words : List Cond → List Word
more_words cs = flat_map (λ d. codes "and" ∷ cond_words d) cs

has_any-push : (cs : List Cond) (c : Cond) → has_any (cs ++ c ∷ []) ≡ true
has_any-push [] c = refl
has_any-push (d ∷ cs) c = refl

left_more : (head : Head) (left cs : List Cond) (more : List Word) → FitsConds cs → has_any left ≡ true
    → read_from (AtLead (query_with head left [])) (more_words cs ++ more) ≡ read_from (AtLead (query_with head (left ++ cs) [])) more
left_more head left [] more fits some = ap (λ l. read_from (AtLead (query_with head l [])) more) (sym (append-nil left))
left_more head left (c ∷ cs) more fits some =
    ap (λ b. read_from (AtLead (query_with head left [])) ((if b then codes "and" else opening head) ∷ (cond_words c ++ (more_words cs ++ more)))) (sym some)
    ∙ reads_cond (query_with head left []) Side.Left c (more_words cs ++ more) refl fits.0
    ∙ left_more head (left ++ c ∷ []) cs more fits.1 (has_any-push left c)
    ∙ ap (λ l. read_from (AtLead (query_with head l [])) more) (append_assoc left (c ∷ []) cs)

right_more : (head : Head) (left right cs : List Cond) (more : List Word) → is_join head ≡ true → FitsConds cs → has_any right ≡ true
    → read_from (AtLead (query_with head left right)) (more_words cs ++ more) ≡ read_from (AtLead (query_with head left (right ++ cs))) more
right_more head left right [] more j fits some = ap (λ l. read_from (AtLead (query_with head left l)) more) (sym (append-nil right))
right_more head left right (c ∷ cs) more j fits some =
    ap (λ b. read_from (AtLead (query_with head left right)) ((if b then codes "and" else codes "right") ∷ (cond_words c ++ (more_words cs ++ more)))) (sym some)
    ∙ reads_cond (query_with head left right) Side.Right c (more_words cs ++ more) j fits.0
    ∙ right_more head left (right ++ c ∷ []) cs more j fits.1 (has_any-push right c)
    ∙ ap (λ l. read_from (AtLead (query_with head left l)) more) (append_assoc right (c ∷ []) cs)

reads_left : (head : Head) (cs : List Cond) (more : List Word) → FitsConds cs
    → read_from (AtLead (bare head)) (conds_words (opening head) cs ++ more) ≡ read_from (AtLead (query_with head cs [])) more
reads_left head [] more fits = refl
reads_left head (c ∷ cs) more fits =
    reads_cond (bare head) Side.Left c (more_words cs ++ more) refl fits.0 ∙ left_more head (c ∷ []) cs more fits.1 refl

right_fits : (head : Head) (c : Cond) (cs : List Cond) → FitsRight head (c ∷ cs) → FitsConds (c ∷ cs)
right_fits (Head.Select s) c cs h = absurd (cc h)
right_fits (Head.Windowed (Stem.Grouped m g s) w) c cs h = absurd (cc h)
right_fits (Head.Windowed (Stem.Joined s t) w) c cs h = h

reads_right : (head : Head) (left cs : List Cond) → FitsRight head cs
    → read_from (AtLead (query_with head left [])) (conds_words (codes "right") cs) ≡ Ok (query_with head left cs)
reads_right head left [] h = refl
reads_right head left (c ∷ cs) h =
    let fits = right_fits head c cs h in
    let j = right_joins head (c ∷ cs) h refl in
    ap (λ ws. read_from (AtLead (query_with head left [])) (codes "right" ∷ (cond_words c ++ ws))) (sym (append-nil (more_words cs)))
    ∙ reads_cond (query_with head left []) Side.Right c (more_words cs ++ []) j fits.0
    ∙ right_more head left (c ∷ []) cs [] j fits.1 refl

-- what is spelled is read
pub reads : (q : WrittenQuery) → FitsText q → read_from AtVerb (query_words q) ≡ Ok q
reads q h =
    ap (read_from AtVerb) (append_assoc (head_words q.head) (conds_words (opening q.head) q.left) (conds_words (codes "right") q.right))
    ∙ reads_head q.head (conds_words (opening q.head) q.left ++ conds_words (codes "right") q.right) h.0
    ∙ reads_left q.head q.left (conds_words (codes "right") q.right) h.1
    ∙ reads_right q.head q.left q.right h.2

pub spelled-read : (q : WrittenQuery) (ws : List Word) → Spells q ws → read_from AtVerb ws ≡ Ok q
spelled-read q ws h = ap (read_from AtVerb) h.1 ∙ reads q h.0

pub step_case : {P : Type 0} (o : Option Place) (w : Word) (ws : List Word) (r : Result WrittenQuery (List Word)) → option_map_or (λ n. read_from n ws) o (Err (w ∷ ws)) ≡ r
    → ((n : Place) → o ≡ Some n → read_from n ws ≡ r → P) → (o ≡ None → Err (w ∷ ws) ≡ r → P) → P
step_case None w ws r e some none = none refl e
step_case (Some n) w ws r e some none = some n refl e

finish_says : (p : Place) (q : WrittenQuery) → whole_at p ≡ Some q → Good p → FitsText q × (said p ≡ query_words q)
finish_says (AtLead r) q e good =
    let Says : WrittenQuery → Type 0 = λ x. FitsText x × (query_words r ≡ query_words x) in
    let same : r ≡ q = cc e in
    subst Says same (good, refl)
finish_says _ q e good = cc e

ok_whole : (o : Option WrittenQuery) (left : List Word) (q : WrittenQuery) → ok_or o left ≡ Ok q → o ≡ Some q
ok_whole None left q e = cc e
ok_whole (Some r) left q e = cc e

-- what is read is spelled
sound : (p : Place) (ws : List Word) (q : WrittenQuery) → read_from p ws ≡ Ok q → Good p → FitsText q × (said p ++ ws ≡ query_words q)
sound p [] q e good = let s = finish_says p q (ok_whole (whole_at p) [] q e) good in (s.0, append-nil (said p) ∙ s.1)
sound p (w ∷ ws) q e good =
    step_case (step p w) w ws (Ok q) e
    (λ n h k. let l = led p w n h good in
    let s = sound n ws q k l.0 in
    (s.0, sym (append_assoc (said p) (w ∷ []) ws) ∙ ap (λ xs. xs ++ ws) (sym l.1) ∙ s.1))
    (λ h k. cc k)

pub read-spelled : (q : WrittenQuery) (ws : List Word) → read_from AtVerb ws ≡ Ok q → Spells q ws
read-spelled q ws e = sound AtVerb ws q e tt

-- what was read is the tree of the words
pub tree_by : (ws seen : List Word) (ast : Ast) → seen ≡ ws → (q : WrittenQuery) × (read_from AtVerb seen ≡ Ok q) × (ast ≡ tree_of q) → IsTreeOf ast ws
tree_by ws seen ast same h = (h.0, read-spelled h.0 ws (ap (read_from AtVerb) (sym same) ∙ h.1), h.2)
