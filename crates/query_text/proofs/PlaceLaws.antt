-- What the places know of the words that led to them.
use Rattle.std.proofs.Common.{◌≡◌, ℕ, ◌<◌, ◌≤◌, ◌^◌, Bool, true, false, if◌then◌else◌, Option, Some, None, List, [], ◌∷◌, ◌++◌, codes, decimal, refl, sym, ap, ◌∙◌, subst, ◌⊎◌, inl, inr, ◌&&◌, ◌||◌, arith, bytes_eq, append_assoc, append-nil, option_map}
use Rattle.std.specs.Fmt.{signed_decimal}
use Rattle.std.specs.List.{AllByRecursion}
use Rattle.std.proofs.lemmas.Bool.{cond_both, and_parts}
use Rattle.std.proofs.lemmas.Slice.Eq.{bytes_eq-Decides}
use Rattle.std.proofs.lemmas.Grind.{flat_map-append}
use Rattle.query_text.specs.declared.ast.Cond.{Cond}
use Rattle.query_text.specs.declared.tree.Measure.{Measure}
use Rattle.query_text.specs.declared.tree.Window.{Window}
use Rattle.query_text.specs.declared.tree.Stem.{Stem}
use Rattle.query_text.specs.declared.tree.Head.{Head}
use Rattle.query_text.specs.declared.tree.Verb.{Verb}
use Rattle.query_text.specs.declared.tree.Shape.{Shape}
use Rattle.query_text.specs.declared.tree.Side.{Side}
use Rattle.as_words.specs.Number.{integer}
use Rattle.as_words.specs.Words.{pick}
use Rattle.as_base.specs.Stream.{streams, stream_name, stream_named}
use Rattle.as_words.proofs.WordLaws.{pick-Some}
use Rattle.as_words.proofs.NumberLaws.{spells-natural, spells-integer}
use Rattle.query_text.specs.Spelling.{WrittenQuery, measure_words, stem_words, head_words, is_join, opening, cond_words, conds_words, query_words, FitsWindow, FitsCond, FitsConds, FitsRight, FitsText}
use Rattle.query_text.specs.Names.{Word, verb_name, shape_name, column_name, group_name, op_name, field_name, verbs, shapes, columns, groups, ops, fields, verb_named, shape_named, column_named, group_named, op_named, field_named, ticks_of, only}
use Rattle.query_text.specs.Places.{has_any, side_named, with_cond, bare, Place, after_verb, after_shape, after_value, step}
use Rattle.query_text.specs.Places.Place.{AtVerb, AtSelected, AtSelectStream, AtSumColumn, AtBy, AtGroup, AtFrom, AtStream, AtJoinLeft, AtJoinRight, AtShape, AtTumble, AtSize, AtSlide, AtLead, AtField, AtOp, AtValue}

pick-keeps : {X : Type 0} (P : X → Type 0) (spell : X → Word) (xs : List X) (w : Word) (x : X) → AllByRecursion P xs → pick spell xs w ≡ Some x → P x
pick-keeps P spell [] w x all e = cc e
pick-keeps {X} P spell (y ∷ xs) w x all e =
    cond_both (bytes_eq w (spell y)) (Some y) (pick spell xs w) (λ o. o ≡ Some x → P x)
    (λ h k. let same : y ≡ x = cc k in subst P same all.0)
    (λ h k. pick-keeps P spell xs w x all.1 k) e

only-Some : (k w : Word) (u : Unit {0}) → only k w ≡ Some u → w ≡ k
only-Some k w u =
    cond_both (bytes_eq w k) (Some tt) None (λ o. o ≡ Some u → w ≡ k)
    (λ h e. (bytes_eq-Decides w k).0 h)
    (λ h e. cc e)

map_has : {X Y : Type 0} (P : Y → Type 0) (o : Option X) (g : X → Y) (y : Y) → option_map g o ≡ Some y → ((x : X) → o ≡ Some x → P (g x)) → P y
map_has P None g y e h = cc e
map_has {X} {Y} P (Some x) g y e h = let same : g x ≡ y = cc e in subst P same (h x refl)

-- the word before the next condition of this side
abbrev pub lead : WrittenQuery → Side → Word
lead q Side.Left = if has_any q.left then codes "and" else opening q.head
lead q Side.Right = if has_any q.right then codes "and" else codes "right"

-- the words that led to a place
abbrev pub said : Place → List Word
said AtVerb = []
said AtSelected = codes "select" ∷ []
said AtSelectStream = codes "select" ∷ codes "from" ∷ []
said AtSumColumn = codes "sum" ∷ []
said (AtBy m) = measure_words m
said (AtGroup m) = measure_words m ++ codes "by" ∷ []
said (AtFrom m g) = measure_words m ++ codes "by" ∷ group_name g ∷ []
said (AtStream m g) = measure_words m ++ codes "by" ∷ group_name g ∷ codes "from" ∷ []
said AtJoinLeft = codes "join" ∷ []
said (AtJoinRight s) = codes "join" ∷ stream_name s ∷ []
said (AtShape stem) = stem_words stem
said (AtTumble stem) = stem_words stem ++ codes "tumble" ∷ []
said (AtSize stem) = stem_words stem ++ codes "slide" ∷ []
said (AtSlide stem n) = stem_words stem ++ codes "slide" ∷ decimal n ∷ []
said (AtLead q) = query_words q
said (AtField q side) = query_words q ++ lead q side ∷ []
said (AtOp q side f) = query_words q ++ lead q side ∷ field_name f ∷ []
said (AtValue q side f op) = query_words q ++ lead q side ∷ field_name f ∷ op_name op ∷ []

-- a condition may follow on this side
abbrev pub FitsSide : WrittenQuery → Side → Type 0
FitsSide q Side.Left = q.right ≡ []
FitsSide q Side.Right = is_join q.head ≡ true

-- what is known at a place: the numbers that were read are in their ranges
abbrev pub Good : Place → Type 0
Good (AtSlide stem n) = n < 2 ^ 63
Good (AtLead q) = FitsText q
Good (AtField q side) = FitsText q × FitsSide q side
Good (AtOp q side f) = FitsText q × FitsSide q side × (f ≤ 4)
Good (AtValue q side f op) = FitsText q × FitsSide q side × (f ≤ 4)
Good _ = Unit {0}

-- the place is good, and these words led to it
abbrev pub Led : List Word → Word → Place → Type 0
Led ws w p = Good p × (said p ≡ ws ++ w ∷ [])

led_verb : (w : Word) (v : Verb) → w ≡ verb_name v → Led [] w (after_verb v)
led_verb w Verb.Select h = (tt, ap (λ x. x ∷ []) (sym h))
led_verb w Verb.Sum h = (tt, ap (λ x. x ∷ []) (sym h))
led_verb w Verb.Count h = (tt, ap (λ x. x ∷ []) (sym h))
led_verb w Verb.Join h = (tt, ap (λ x. x ∷ []) (sym h))

led_shape : (stem : Stem) (w : Word) (v : Shape) → w ≡ shape_name v → Led (stem_words stem) w (after_shape stem v)
led_shape stem w Shape.Tumble h = (tt, ap (λ x. stem_words stem ++ x ∷ []) (sym h))
led_shape stem w Shape.Slide h = (tt, ap (λ x. stem_words stem ++ x ∷ []) (sym h))

push : (xs ys : List Word) (w x : Word) → w ≡ x → xs ++ (ys ++ x ∷ []) ≡ xs ++ ys ++ w ∷ []
push xs ys w x h = ap (λ z. xs ++ (ys ++ z ∷ [])) (sym h) ∙ sym (append_assoc xs ys (w ∷ []))

no_conds : (ws : List Word) → ws ++ [] ++ [] ≡ ws
no_conds ws = append-nil (ws ++ []) ∙ append-nil ws

abbrev low_field : ℕ → Type 0
low_field f = f ≤ 4

natural-spelled : (w : Word) (n : ℕ) → ticks_of w ≡ Some n → (n < 2 ^ 63) × (w ≡ decimal n)
natural-spelled w n e = spells-natural (2 ^ 63) n w e

field-spelled : (w : Word) (f : ℕ) → field_named w ≡ Some f → f ≤ 4
field-spelled w f e = pick-keeps low_field field_name fields w f (omega arith, (omega arith, (omega arith, (omega arith, (omega arith, tt))))) e

-- what the word before a condition tells, where there are left conditions, and right ones, or not
abbrev SideSays : Head → Bool → Bool → Word → Side → Type 0
SideSays head l r w Side.Left = (r ≡ false) × ((if l then codes "and" else opening head) ≡ w)
SideSays head l r w Side.Right = ((r ≡ true) ⊎ (is_join head ≡ true)) × ((if r then codes "and" else codes "right") ≡ w)

and_case : (head : Head) (l r : Bool) (w : Word) (side : Side) → w ≡ codes "and" → (if r then Some Side.Right else (if l then Some Side.Left else None)) ≡ Some side → SideSays head l r w side
and_case head l true w Side.Left h e = cc e
and_case head l true w Side.Right h e = (inl refl, sym h)
and_case head true false w Side.Left h e = (refl, sym h)
and_case head true false w Side.Right h e = cc e
and_case head false false w side h e = cc e

right_case : (head : Head) (l r : Bool) (w : Word) (side : Side) → is_join head ≡ true → w ≡ codes "right" → (if r then None else Some Side.Right) ≡ Some side → SideSays head l r w side
right_case head l true w side j h e = cc e
right_case head l false w Side.Left j h e = cc e
right_case head l false w Side.Right j h e = (inr j, sym h)

opening_case : (head : Head) (l r : Bool) (w : Word) (side : Side) → w ≡ opening head → (if l || r then None else Some Side.Left) ≡ Some side → SideSays head l r w side
opening_case head true r w side h e = cc e
opening_case head false true w side h e = cc e
opening_case head false false w Side.Left h e = (refl, sym h)
opening_case head false false w Side.Right h e = cc e

side_says : (head : Head) (l r : Bool) (w : Word) (side : Side) → side_named head l r w ≡ Some side → SideSays head l r w side
side_says head l r w side =
    cond_both (bytes_eq w (codes "and")) _ _ (λ o. o ≡ Some side → SideSays head l r w side)
    (λ h. and_case head l r w side ((bytes_eq-Decides w (codes "and")).0 h))
    (λ h. cond_both (is_join head && bytes_eq w (codes "right")) _ _ (λ o. o ≡ Some side → SideSays head l r w side)
    (λ k. let parts = and_parts (is_join head) (bytes_eq w (codes "right")) k in right_case head l r w side parts.0 ((bytes_eq-Decides w (codes "right")).0 parts.1))
    (λ k. cond_both (bytes_eq w (opening head)) _ _ (λ o. o ≡ Some side → SideSays head l r w side)
    (λ m. opening_case head l r w side ((bytes_eq-Decides w (opening head)).0 m))
    (λ m e. cc e)))

has_any-false : {X : Type 0} (xs : List X) → has_any xs ≡ false → xs ≡ []
has_any-false [] e = refl
has_any-false (x ∷ xs) e = cc e

pub right_joins : (head : Head) (cs : List Cond) → FitsRight head cs → has_any cs ≡ true → is_join head ≡ true
right_joins (Head.Select s) cs fits e = cc (sym e ∙ ap has_any fits)
right_joins (Head.Windowed (Stem.Grouped m g s) w) cs fits e = cc (sym e ∙ ap has_any fits)
right_joins (Head.Windowed (Stem.Joined s t) w) cs fits e = refl

-- the word of a side
led_side : (q : WrittenQuery) (w : Word) (side : Side) → FitsText q → side_named q.head (has_any q.left) (has_any q.right) w ≡ Some side → FitsSide q side × (lead q side ≡ w)
led_side q w Side.Left fits e =
    let says = side_says q.head (has_any q.left) (has_any q.right) w Side.Left e in
    (has_any-false q.right says.0, says.1)
led_side q w Side.Right fits e =
    let says = side_says q.head (has_any q.left) (has_any q.right) w Side.Right e in
    (elim says.0 [ inl h ↦ right_joins q.head q.right fits.2 h | inr h ↦ h ], says.1)

-- the conditions with one more
pub conds_push : (first : Word) (cs : List Cond) (c : Cond) → conds_words first (cs ++ c ∷ []) ≡ conds_words first cs ++ (if has_any cs then codes "and" else first) ∷ cond_words c
conds_push first [] c = ap (λ xs. first ∷ xs) (append-nil (cond_words c))
conds_push first (d ∷ cs) c =
    ap (λ xs. first ∷ (cond_words d ++ xs)) (flat_map-append (λ e. codes "and" ∷ cond_words e) cs (c ∷ []))

FitsConds-push : (cs : List Cond) (c : Cond) → FitsConds cs → FitsCond c → FitsConds (cs ++ c ∷ [])
FitsConds-push [] c h k = (k, tt)
FitsConds-push (d ∷ cs) c h k = (h.0, FitsConds-push cs c h.1 k)

pub with_cond-words : (q : WrittenQuery) (side : Side) (c : Cond) → FitsSide q side → query_words (with_cond q side c) ≡ query_words q ++ lead q side ∷ cond_words c
with_cond-words q Side.Left c h =
    rw h
    (append-nil _
    ∙ ap (λ xs. head_words q.head ++ xs) (conds_push (opening q.head) q.left c)
    ∙ sym (append_assoc (head_words q.head) (conds_words (opening q.head) q.left) (lead q Side.Left ∷ cond_words c))
    ∙ ap (λ xs. xs ++ lead q Side.Left ∷ cond_words c) (sym (append-nil (head_words q.head ++ conds_words (opening q.head) q.left))))
with_cond-words q Side.Right c h =
    ap (λ xs. head_words q.head ++ conds_words (opening q.head) q.left ++ xs) (conds_push (codes "right") q.right c)
    ∙ sym (append_assoc (head_words q.head ++ conds_words (opening q.head) q.left) (conds_words (codes "right") q.right) (lead q Side.Right ∷ cond_words c))

FitsRight-push : (head : Head) (cs : List Cond) (c : Cond) → FitsRight head cs → is_join head ≡ true → FitsCond c → FitsRight head (cs ++ c ∷ [])
FitsRight-push (Head.Select s) cs c h j f = cc j
FitsRight-push (Head.Windowed (Stem.Grouped m g s) w) cs c h j f = cc j
FitsRight-push (Head.Windowed (Stem.Joined s t) w) cs c h j f = FitsConds-push cs c h f

pub with_cond-fits : (q : WrittenQuery) (side : Side) (c : Cond) → FitsText q → FitsSide q side → FitsCond c → FitsText (with_cond q side c)
with_cond-fits q Side.Left c h k f = (h.0, FitsConds-push q.left c h.1 f, h.2)
with_cond-fits q Side.Right c h k f = (h.0, h.1, FitsRight-push q.head q.right c h.2 k f)

windowed_fits : (stem : Stem) (w : Window) → FitsWindow w → FitsText (bare (Head.Windowed stem w))
windowed_fits (Stem.Grouped m g s) w h = (h, tt, refl)
windowed_fits (Stem.Joined s t) w h = (h, tt, tt)

-- a step leads from a good place to a good place, by its word
pub led : (p : Place) (w : Word) (next : Place) → step p w ≡ Some next → Good p → Led (said p) w next
led AtVerb w p e good = map_has (Led [] w) (verb_named w) after_verb p e (λ v h. led_verb w v (pick-Some verb_name verbs w v h))
led AtSelected w p e good = map_has (Led (said AtSelected) w) (only (codes "from") w) (λ _. AtSelectStream) p e (λ u h. (tt, ap (λ x. codes "select" ∷ x ∷ []) (sym (only-Some (codes "from") w u h))))
led AtSelectStream w p e good = map_has (Led (said AtSelectStream) w) (stream_named w) (λ s. AtLead (bare (Head.Select s))) p e (λ s h. ((tt, tt, refl), ap (λ x. codes "select" ∷ codes "from" ∷ x ∷ []) (sym (pick-Some stream_name streams w s h))))
led AtSumColumn w p e good = map_has (Led (said AtSumColumn) w) (column_named w) (λ c. AtBy (Measure.Sum c)) p e (λ c h. (tt, ap (λ x. codes "sum" ∷ x ∷ []) (sym (pick-Some column_name columns w c h))))
led (AtBy m) w p e good = map_has (Led (said (AtBy m)) w) (only (codes "by") w) (λ _. AtGroup m) p e (λ u h. (tt, ap (λ x. measure_words m ++ x ∷ []) (sym (only-Some (codes "by") w u h))))
led (AtGroup m) w p e good = map_has (Led (said (AtGroup m)) w) (group_named w) (λ g. AtFrom m g) p e (λ g h. (tt, push (measure_words m) (codes "by" ∷ []) w (group_name g) (pick-Some group_name groups w g h)))
led (AtFrom m g) w p e good = map_has (Led (said (AtFrom m g)) w) (only (codes "from") w) (λ _. AtStream m g) p e (λ u h. (tt, push (measure_words m) (codes "by" ∷ group_name g ∷ []) w (codes "from") (only-Some (codes "from") w u h)))
led (AtStream m g) w p e good = map_has (Led (said (AtStream m g)) w) (stream_named w) (λ s. AtShape (Stem.Grouped m g s)) p e (λ s h. (tt, push (measure_words m) (codes "by" ∷ group_name g ∷ codes "from" ∷ []) w (stream_name s) (pick-Some stream_name streams w s h)))
led AtJoinLeft w p e good = map_has (Led (said AtJoinLeft) w) (stream_named w) (λ s. AtJoinRight s) p e (λ s h. (tt, ap (λ x. codes "join" ∷ x ∷ []) (sym (pick-Some stream_name streams w s h))))
led (AtJoinRight s) w p e good = map_has (Led (said (AtJoinRight s)) w) (stream_named w) (λ t. AtShape (Stem.Joined s t)) p e (λ t h. (tt, ap (λ x. codes "join" ∷ stream_name s ∷ x ∷ []) (sym (pick-Some stream_name streams w t h))))
led (AtShape stem) w p e good = map_has (Led (said (AtShape stem)) w) (shape_named w) (after_shape stem) p e (λ v h. led_shape stem w v (pick-Some shape_name shapes w v h))
led (AtTumble stem) w p e good = map_has (Led (said (AtTumble stem)) w) (ticks_of w) (λ n. AtLead (bare (Head.Windowed stem (Window.Tumble n)))) p e (λ n h.
    let s = natural-spelled w n h in
    (windowed_fits stem (Window.Tumble n) s.0, no_conds _ ∙ push (stem_words stem) (codes "tumble" ∷ []) w (decimal n) s.1))
led (AtSize stem) w p e good = map_has (Led (said (AtSize stem)) w) (ticks_of w) (λ n. AtSlide stem n) p e (λ n h.
    let s = natural-spelled w n h in
    (s.0, push (stem_words stem) (codes "slide" ∷ []) w (decimal n) s.1))
led (AtSlide stem n) w p e good = map_has (Led (said (AtSlide stem n)) w) (ticks_of w) (λ m. AtLead (bare (Head.Windowed stem (Window.Slide n m)))) p e (λ m h.
    let s = natural-spelled w m h in
    (windowed_fits stem (Window.Slide n m) (good, s.0), no_conds _ ∙ push (stem_words stem) (codes "slide" ∷ decimal n ∷ []) w (decimal m) s.1))
led (AtLead q) w p e good = map_has (Led (said (AtLead q)) w) (side_named q.head (has_any q.left) (has_any q.right) w) (λ side. AtField q side) p e (λ side h.
    let s = led_side q w side good h in
    ((good, s.0), ap (λ x. query_words q ++ x ∷ []) s.1))
led (AtField q side) w p e good = map_has (Led (said (AtField q side)) w) (field_named w) (λ f. AtOp q side f) p e (λ f h.
    ((good.0, good.1, field-spelled w f h), push (query_words q) (lead q side ∷ []) w (field_name f) (pick-Some field_name fields w f h)))
led (AtOp q side f) w p e good = map_has (Led (said (AtOp q side f)) w) (op_named w) (λ op. AtValue q side f op) p e (λ op h.
    (good, push (query_words q) (lead q side ∷ field_name f ∷ []) w (op_name op) (pick-Some op_name ops w op h)))
led (AtValue q side f op) w p e good = map_has (Led (said (AtValue q side f op)) w) (integer w) (after_value q side f op) p e (λ z h.
    let s = spells-integer w z h in
    (with_cond-fits q side _ good.0 good.1 (good.2, s.0), with_cond-words q side _ good.1 ∙ push (query_words q) (lead q side ∷ field_name f ∷ op_name op ∷ []) w (signed_decimal z) s.1))
