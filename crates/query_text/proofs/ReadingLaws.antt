-- What the parser takes is what is read from the places.
use Rattle.std.proofs.Common.{◌≡◌, ◌<◌, Bool, Option, Some, None, Result, Ok, Err, List, [], ◌∷◌, codes, length, refl, sym, ap, ap₂, ◌∙◌, subst, arith, option_map}
use Rattle.std.specs.Option.{option_map_or, ok_or}
use Rattle.query_text.specs.declared.ast.Cond.{Cond}
use Rattle.query_text.specs.declared.tree.Measure.{Measure}
use Rattle.query_text.specs.declared.tree.Window.{Window}
use Rattle.query_text.specs.declared.tree.Stem.{Stem}
use Rattle.query_text.specs.declared.tree.Head.{Head}
use Rattle.query_text.specs.declared.tree.Verb.{Verb}
use Rattle.query_text.specs.declared.tree.Shape.{Shape}
use Rattle.query_text.specs.declared.tree.Side.{Side}
use Rattle.as_words.specs.Number.{integer}
use Rattle.as_base.specs.Stream.{stream_named}
use Rattle.query_text.specs.Spelling.{WrittenQuery, tree, tree_of}
use Rattle.query_text.specs.declared.ast.Ast.{Ast}
use Rattle.query_text.specs.Names.{Word, only, verb_named, shape_named, column_named, group_named, op_named, field_named, ticks_of}
use Rattle.query_text.specs.Places.{side_named, has_any, bare, with_cond, Place, after_verb, after_shape, after_value, step, whole_at, read_from}
use Rattle.query_text.specs.Places.Place.{AtVerb, AtSelected, AtSelectStream, AtSumColumn, AtBy, AtGroup, AtFrom, AtStream, AtJoinLeft, AtJoinRight, AtShape, AtTumble, AtSize, AtSlide, AtLead, AtField, AtOp, AtValue}
use Rattle.query_text.specs.Parsing.{◌>>=◌, take_by, take_grouped, take_windows, take_windowed, take_head_after, take_head, take_condition, take_sided, query_with, left_with, right_with}

-- what is read from the place that a part leads to
abbrev pub after : {X : Type 0} → Result (X × List Word) (List Word) → (X → Place) → Result WrittenQuery (List Word)
after r to = r >>= (λ x. read_from (to x.0) x.1)

hop_word : {X : Type 0} (o : Option X) (to : X → Place) (w : Word) (ws : List Word)
    → option_map_or (λ n. read_from n ws) (option_map to o) (Err (w ∷ ws)) ≡ after (option_map_or (λ x. Ok (x, ws)) o (Err (w ∷ ws))) to
hop_word None to w ws = refl
hop_word (Some x) to w ws = refl

-- one word
hop : {X : Type 0} (p : Place) (f : Word → Option X) (to : X → Place) → whole_at p ≡ None → ((w : Word) → step p w ≡ option_map to (f w)) → (ws : List Word)
    → read_from p ws ≡ after (take_by f ws) to
hop p f to none same [] = ap (λ o. ok_or o []) none
hop p f to none same (w ∷ ws) = ap (λ o. option_map_or (λ n. read_from n ws) o (Err (w ∷ ws))) (same w) ∙ hop_word (f w) to w ws

-- one part, and then more
chain : {X Y : Type 0} (r : Result (X × List Word) (List Word)) (k : X × List Word → Result (Y × List Word) (List Word)) (to : Y → Place) (p : X → Place)
    → ((x : X) (ws : List Word) → read_from (p x) ws ≡ after (k (x, ws)) to) → after r p ≡ after (r >>= k) to
chain (Ok x) k to p h = h x.0 x.1
chain (Err l) k to p h = refl

abbrev lead_to : Head → Place
lead_to h = AtLead (bare h)

place_condition : (q : WrittenQuery) (side : Side) (ws : List Word) → read_from (AtField q side) ws ≡ after (take_condition ws) (λ c. AtLead (with_cond q side c))
place_condition q side ws =
    hop (AtField q side) field_named (λ f. AtOp q side f) refl (λ w. refl) ws
    ∙ chain (take_by field_named ws) _ (λ c. AtLead (with_cond q side c)) (λ f. AtOp q side f) (λ f ws1.
    hop (AtOp q side f) op_named (λ op. AtValue q side f op) refl (λ w. refl) ws1
    ∙ chain (take_by op_named ws1) _ (λ c. AtLead (with_cond q side c)) (λ op. AtValue q side f op) (λ op ws2.
    hop (AtValue q side f op) integer (after_value q side f op) refl (λ w. refl) ws2
    ∙ chain (take_by integer ws2) _ (λ c. AtLead (with_cond q side c)) (after_value q side f op) (λ z ws3. refl)))

place_grouped : (m : Measure) (ws : List Word) → read_from (AtBy m) ws ≡ after (take_grouped m ws) (λ stem. AtShape stem)
place_grouped m ws =
    hop (AtBy m) (only (codes "by")) (λ _. AtGroup m) refl (λ w. refl) ws
    ∙ chain (take_by (only (codes "by")) ws) _ (λ stem. AtShape stem) (λ _. AtGroup m) (λ u ws1.
    hop (AtGroup m) group_named (λ g. AtFrom m g) refl (λ w. refl) ws1
    ∙ chain (take_by group_named ws1) _ (λ stem. AtShape stem) (λ g. AtFrom m g) (λ g ws2.
    hop (AtFrom m g) (only (codes "from")) (λ _. AtStream m g) refl (λ w. refl) ws2
    ∙ chain (take_by (only (codes "from")) ws2) _ (λ stem. AtShape stem) (λ _. AtStream m g) (λ u2 ws3.
    hop (AtStream m g) stream_named (λ s. AtShape (Stem.Grouped m g s)) refl (λ w. refl) ws3
    ∙ chain (take_by stream_named ws3) _ (λ stem. AtShape stem) (λ s. AtShape (Stem.Grouped m g s)) (λ s ws4. refl))))

place_windows : (stem : Stem) (shape : Shape) (ws : List Word) → read_from (after_shape stem shape) ws ≡ after (take_windows stem shape ws) lead_to
place_windows stem Shape.Tumble ws =
    hop (AtTumble stem) ticks_of (λ n. lead_to (Head.Windowed stem (Window.Tumble n))) refl (λ w. refl) ws
    ∙ chain (take_by ticks_of ws) _ lead_to (λ n. lead_to (Head.Windowed stem (Window.Tumble n))) (λ n ws1. refl)
place_windows stem Shape.Slide ws =
    hop (AtSize stem) ticks_of (λ n. AtSlide stem n) refl (λ w. refl) ws
    ∙ chain (take_by ticks_of ws) _ lead_to (λ n. AtSlide stem n) (λ n ws1.
    hop (AtSlide stem n) ticks_of (λ m. lead_to (Head.Windowed stem (Window.Slide n m))) refl (λ w. refl) ws1
    ∙ chain (take_by ticks_of ws1) _ lead_to (λ m. lead_to (Head.Windowed stem (Window.Slide n m))) (λ m ws2. refl))

place_windowed : (stem : Stem) (ws : List Word) → read_from (AtShape stem) ws ≡ after (take_windowed stem ws) lead_to
place_windowed stem ws =
    hop (AtShape stem) shape_named (after_shape stem) refl (λ w. refl) ws
    ∙ chain (take_by shape_named ws) (λ s. take_windows stem s.0 s.1) lead_to (after_shape stem) (λ s ws1. place_windows stem s ws1)

place_after : (verb : Verb) (ws : List Word) → read_from (after_verb verb) ws ≡ after (take_head_after verb ws) lead_to
place_after Verb.Select ws =
    hop AtSelected (only (codes "from")) (λ _. AtSelectStream) refl (λ w. refl) ws
    ∙ chain (take_by (only (codes "from")) ws) _ lead_to (λ _. AtSelectStream) (λ u ws1.
    hop AtSelectStream stream_named (λ s. lead_to (Head.Select s)) refl (λ w. refl) ws1
    ∙ chain (take_by stream_named ws1) _ lead_to (λ s. lead_to (Head.Select s)) (λ s ws2. refl))
place_after Verb.Sum ws =
    hop AtSumColumn column_named (λ c. AtBy (Measure.Sum c)) refl (λ w. refl) ws
    ∙ chain (take_by column_named ws) _ lead_to (λ c. AtBy (Measure.Sum c)) (λ c ws1.
    place_grouped (Measure.Sum c) ws1
    ∙ chain (take_grouped (Measure.Sum c) ws1) (λ stem. take_windowed stem.0 stem.1) lead_to (λ stem. AtShape stem) (λ stem ws2. place_windowed stem ws2))
place_after Verb.Count ws =
    place_grouped Measure.Count ws
    ∙ chain (take_grouped Measure.Count ws) (λ stem. take_windowed stem.0 stem.1) lead_to (λ stem. AtShape stem) (λ stem ws2. place_windowed stem ws2)
place_after Verb.Join ws =
    hop AtJoinLeft stream_named (λ s. AtJoinRight s) refl (λ w. refl) ws
    ∙ chain (take_by stream_named ws) _ lead_to (λ s. AtJoinRight s) (λ s ws1.
    hop (AtJoinRight s) stream_named (λ t. AtShape (Stem.Joined s t)) refl (λ w. refl) ws1
    ∙ chain (take_by stream_named ws1) (λ t. take_windowed (Stem.Joined s t.0) t.1) lead_to (λ t. AtShape (Stem.Joined s t)) (λ t ws2. place_windowed (Stem.Joined s t) ws2))

-- the head of a query
pub place_head : (ws : List Word) → read_from AtVerb ws ≡ after (take_head ws) lead_to
place_head ws =
    hop AtVerb verb_named after_verb refl (λ w. refl) ws
    ∙ chain (take_by verb_named ws) (λ v. take_head_after v.0 v.1) lead_to after_verb (λ v ws1. place_after v ws1)

-- one more condition, where a word is left
pub place_sided : (q : WrittenQuery) (w : Word) (ws : List Word)
    → read_from (AtLead q) (w ∷ ws) ≡ after (take_sided q.head (has_any q.left) (has_any q.right) (w ∷ ws)) (λ sc. AtLead (with_cond q sc.0 sc.1))
place_sided q w ws =
    hop_word (side_named q.head (has_any q.left) (has_any q.right) w) (λ side. AtField q side) w ws
    ∙ chain (take_by (side_named q.head (has_any q.left) (has_any q.right)) (w ∷ ws)) _ (λ sc. AtLead (with_cond q sc.0 sc.1)) (λ side. AtField q side) (λ side ws1.
    place_condition q side ws1
    ∙ chain (take_condition ws1) _ (λ sc. AtLead (with_cond q sc.0 sc.1)) (λ c. AtLead (with_cond q side c)) (λ c ws2. refl))

part_less : {X : Type 0} (o : Option X) (w : Word) (ws : List Word) (p : X × List Word) → option_map_or (λ x. Ok (x, ws)) o (Err (w ∷ ws)) ≡ Ok p → length p.1 < length (w ∷ ws)
part_less None w ws p e = cc e
part_less {X} (Some x) w ws p e =
    let Shorter : X × List Word → Type 0 = λ q. length q.1 < length (w ∷ ws) in
    let same : (x, ws) ≡ p = cc e in
    subst Shorter same (omega arith)

-- a word that was taken is gone
taken_less : {X : Type 0} (f : Word → Option X) (ws : List Word) (p : X × List Word) → take_by f ws ≡ Ok p → length p.1 < length ws
taken_less f [] p e = cc e
taken_less f (w ∷ ws) p e = part_less (f w) w ws p e

bind_ok : {X Y E : Type 0} (r : Result X E) (k : X → Result Y E) (y : Y) → (r >>= k) ≡ Ok y → (x : X) × (r ≡ Ok x) × (k x ≡ Ok y)
bind_ok (Ok x) k y e = (x, refl, e)
bind_ok (Err l) k y e = cc e

abbrev read_part : {Y : Type 0} → Y × List Word → Result (Y × List Word) (List Word)
read_part p = Ok p

same_words : {Y : Type 0} (y : Y) (ws : List Word) (p : Y × List Word) → read_part (y, ws) ≡ read_part p → ws ≡ p.1
same_words {Y} y ws p e = let same : (y, ws) ≡ p = cc e in ap (λ (q : Y × List Word). q.1) same

condition_less : (ws : List Word) (p : Cond × List Word) → take_condition ws ≡ Ok p → length p.1 < length ws
condition_less ws p e =
    let f = bind_ok (take_by field_named ws) _ p e in
    let op = bind_ok (take_by op_named f.0.1) _ p f.2 in
    let z = bind_ok (take_by integer op.0.1) _ p op.2 in
    omega (arith, taken_less field_named ws f.0 f.1, taken_less op_named f.0.1 op.0 op.1, taken_less integer op.0.1 z.0 z.1, ap length (same_words _ z.0.1 p z.2))

-- a condition that was read is gone
pub sided_less : (h : Head) (l r : Bool) (ws : List Word) (p : (Side × Cond) × List Word) → take_sided h l r ws ≡ Ok p → length p.1 < length ws
sided_less h l r ws p e =
    let s = bind_ok (take_by (side_named h l r) ws) _ p e in
    let c = bind_ok (take_condition s.0.1) _ p s.2 in
    omega (arith, taken_less (side_named h l r) ws s.0 s.1, condition_less s.0.1 c.0 c.1, ap length (same_words _ c.0.1 p c.2))

made_with : (h : Head) (left right : List Cond) (side : Side) (c : Cond) → with_cond (query_with h left right) side c ≡ query_with h (left_with left side c) (right_with right side c)
made_with h left right Side.Left c = refl
made_with h left right Side.Right c = refl

-- one more condition
pub goes_on : (h : Head) (left right : List Cond) (old new : List Word) (side : Side) (c : Cond) (l r : List Cond) → (old ≡ [] → ⊥)
    → take_sided h (has_any left) (has_any right) old ≡ Ok ((side, c), new) → l ≡ left_with left side c → r ≡ right_with right side c
    → read_from (AtLead (query_with h left right)) old ≡ read_from (AtLead (query_with h l r)) new
goes_on h left right [] new side c l r some e el er = absurd (some refl)
goes_on h left right (w ∷ ws) new side c l r some e el er =
    place_sided (query_with h left right) w ws
    ∙ ap (λ (o : Result ((Side × Cond) × List Word) (List Word)). after o (λ sc. AtLead (with_cond (query_with h left right) sc.0 sc.1))) e
    ∙ ap (λ q. read_from (AtLead q) new) (made_with h left right side c)
    ∙ ap (λ xs. read_from (AtLead (query_with h xs (right_with right side c))) new) (sym el)
    ∙ ap (λ xs. read_from (AtLead (query_with h l xs)) new) (sym er)

-- no more condition
pub goes_wrong : (h : Head) (left right : List Cond) (old new : List Word) → (old ≡ [] → ⊥)
    → take_sided h (has_any left) (has_any right) old ≡ Err new → read_from (AtLead (query_with h left right)) old ≡ Err new
goes_wrong h left right [] new some e = absurd (some refl)
goes_wrong h left right (w ∷ ws) new some e =
    place_sided (query_with h left right) w ws
    ∙ ap (λ (o : Result ((Side × Cond) × List Word) (List Word)). after o (λ sc. AtLead (with_cond (query_with h left right) sc.0 sc.1))) e

-- the head, or the fault in it
pub head_on : (old new : List Word) (h : Head) → take_head old ≡ Ok (h, new) → read_from AtVerb old ≡ read_from (AtLead (query_with h [] [])) new
head_on old new h e = place_head old ∙ ap (λ (o : Result (Head × List Word) (List Word)). after o lead_to) e

pub head_wrong : (old new : List Word) → take_head old ≡ Err new → read_from AtVerb old ≡ Err new
head_wrong old new e = place_head old ∙ ap (λ (o : Result (Head × List Word) (List Word)). after o lead_to) e

-- the same, by lists that the tests were made on
same_sided : (h : Head) (left right ls rs : List Cond) (hl hr : Bool) (ws : List Word) → hl ≡ has_any ls → ls ≡ left → hr ≡ has_any rs → rs ≡ right
    → take_sided h (has_any left) (has_any right) ws ≡ take_sided h hl hr ws
same_sided h left right ls rs hl hr ws a b c d = ap₂ (λ x y. take_sided h x y ws) (sym (a ∙ ap has_any b)) (sym (c ∙ ap has_any d))

pub wrong_by : (h : Head) (left right ls rs : List Cond) (hl hr : Bool) (old new : List Word) → hl ≡ has_any ls → ls ≡ left → hr ≡ has_any rs → rs ≡ right → (old ≡ [] → ⊥)
    → take_sided h hl hr old ≡ Err new → read_from (AtLead (query_with h left right)) old ≡ Err new
wrong_by h left right ls rs hl hr old new a b c d some e = goes_wrong h left right old new some (same_sided h left right ls rs hl hr old a b c d ∙ e)

pub on_by : (h : Head) (left right ls rs : List Cond) (hl hr : Bool) (old new : List Word) (side : Side) (cond : Cond) (l r : List Cond)
    → hl ≡ has_any ls → ls ≡ left → hr ≡ has_any rs → rs ≡ right → (old ≡ [] → ⊥)
    → take_sided h hl hr old ≡ Ok ((side, cond), new) → l ≡ left_with left side cond → r ≡ right_with right side cond
    → read_from (AtLead (query_with h left right)) old ≡ read_from (AtLead (query_with h l r)) new
on_by h left right ls rs hl hr old new side cond l r a b c d some e el er = goes_on h left right old new side cond l r some (same_sided h left right ls rs hl hr old a b c d ∙ e) el er

-- the whole tree
pub whole_read : (h : Head) (old mid : List Word) (l0 r0 l r lc rc : List Cond) (ast : Ast) → take_head old ≡ Ok (h, mid) → l0 ≡ [] → r0 ≡ []
    → read_from (AtLead (query_with h l0 r0)) mid ≡ Ok (query_with h l r) → ast ≡ tree h lc rc → lc ≡ l → rc ≡ r
    → (q : WrittenQuery) × (read_from AtVerb old ≡ Ok q) × (ast ≡ tree_of q)
whole_read h old mid l0 r0 l r lc rc ast e el er read tree_is same_l same_r = (
  query_with h l r,
  head_on old mid h e ∙ ap₂ (λ xs ys. read_from (AtLead (query_with h xs ys)) mid) (sym el) (sym er) ∙ read,
  tree_is ∙ ap₂ (λ xs ys. tree h xs ys) same_l same_r,
)
