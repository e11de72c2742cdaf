-- The canonical text in its parts, and what is read of it.
use Rattle.std.proofs.Common.{decimal, drop, take-append-drop, ◌≡◌, ℕ, zero, suc, ◌<◌, ◌≤◌, ◌+◌, ◌*◌, Bool, true, false, if◌then◌else◌, ℤ, Result, Ok, List, [], ◌∷◌, ◌++◌, length, codes, refl, sym, ap, ap₂, ◌∙◌, arith, append_assoc, append-nil, length-append, flat_map, not, ◌&&◌, take, take_all, get_or}
use Rattle.std.specs.Fmt.{signed_decimal}
use Rattle.std.specs.Ordering.{int_eq}
use Rattle.std.specs.Result.{IsErr}
use denote.Ref.{Bor}
use Rattle.std.proofs.lemmas.Bool.{cond_both, cond-false, and_parts, false_from_ne_true, not_from_false}
use Rattle.std.proofs.lemmas.Bool.Decides.{Decides-int_eq}
use Rattle.std.proofs.lemmas.Int.{ints}
use Rattle.std.proofs.lemmas.List.{take_more, map-append}
use Rattle.std.proofs.lemmas.Grind.{flat_map-append}
use Rattle.as_base.specs.Query.{at}
use Rattle.as_base.specs.Text.{is_text}
use Rattle.as_base.specs.declared.stream.StreamId.{StreamId}
use Rattle.as_base.specs.declared.stream.StreamId.TheVariants.{A, B, C, D}
use Rattle.as_base.specs.declared.query.Bounds.{Bounds}
use Rattle.as_base.specs.declared.query.Col.{Col}
use Rattle.as_base.specs.declared.query.Col.TheVariants.{V1, V2, V3, V4}
use Rattle.as_base.specs.declared.query.Group.{Group}
use Rattle.as_base.specs.declared.query.Kind.{Kind}
use Rattle.as_base.specs.declared.query.Plan.{Plan}
use Rattle.query_text.specs.declared.ast.Op.{Op}
use Rattle.query_text.specs.declared.ast.Op.TheVariants.{Lt, Le, Eq, Ge, Gt}
use Rattle.query_text.specs.declared.ast.Cond.{Cond}
use Rattle.query_text.specs.declared.tree.Measure.{Measure}
use Rattle.query_text.specs.declared.tree.Window.{Window}
use Rattle.query_text.specs.declared.tree.Stem.{Stem}
use Rattle.query_text.specs.declared.tree.Head.{Head}
use Rattle.as_words.specs.Words.{spaced, joined}
use Rattle.as_words.proofs.JoinedLaws.{IsShort, IsShort-decimal, IsShort-signed, spaced-append, joined-append}
use Rattle.as_base.specs.Stream.{stream_name}
use Rattle.query_text.specs.Names.{Word, column_name, group_name, op_name, field_name, fields}
use Rattle.query_text.specs.Spelling.{WrittenQuery, stem_words, window_words, head_words, opening, cond_words, conds_words, query_words, FitsWindow, FitsHead, FitsCond, FitsConds, FitsRight, FitsText, Spells, tree_of}
use Rattle.query_text.specs.Places.{has_any}
use Rattle.query_text.specs.Reading.{text_words}
use Rattle.as_words.specs.Prefix.{IsPrefix}
use Rattle.as_words.specs.Appends.{AppendsPrefix}
use Rattle.as_words.proofs.AppendsLaws.{AppendsPrefix-after, AppendsPrefix-stopped}
use Rattle.query_text.proofs.TextLaws.{one_tree_told}
use Rattle.as_base.specs.Query.{lowest, highest}
use Rattle.query_plan.specs.Planning.{or_word, plan_of_reading, plan_of}
use Rattle.as_base.specs.Canonical.{IsCanonical, FitsPlan}
use Rattle.query_plan.specs.Text.{comparison, words_at, verb_word, names_as, windows_as, conds_of_interval, conds_of_high, conds_of_ends, is_limited, conds_of, head_as, opening_word, right_conds_as, right_words, written_query, canonical_text}
use Rattle.query_plan.proofs.LimitLaws.{conds_of-few}
use Rattle.query_plan.proofs.WordLaws.{AreShort, AreShort-append, short, text_words-joined, is_text-joined}
use Rattle.query_plan.proofs.PlanLaws.{written_query-fits, plan-written_query}

-- the words of each part
stream_is : (s : StreamId) → IsShort (stream_name s)
stream_is A = short (stream_name A) refl
stream_is B = short (stream_name B) refl
stream_is C = short (stream_name C) refl
stream_is D = short (stream_name D) refl

column_is : (c : Col) → IsShort (column_name c)
column_is V1 = short (column_name V1) refl
column_is V2 = short (column_name V2) refl
column_is V3 = short (column_name V3) refl
column_is V4 = short (column_name V4) refl

group_is : (g : Group) → IsShort (group_name g)
group_is Group.Key = short (group_name Group.Key) refl
group_is Group.All = short (group_name Group.All) refl
group_is (Group.Col c) = column_is c

op_is : (op : Op) → IsShort (op_name op)
op_is Lt = short (op_name Lt) refl
op_is Le = short (op_name Le) refl
op_is Eq = short (op_name Eq) refl
op_is Ge = short (op_name Ge) refl
op_is Gt = short (op_name Gt) refl

field_is : (f : ℕ) → f ≤ 4 → IsShort (field_name f)
field_is zero h = short (field_name 0) refl
field_is (suc zero) h = short (field_name 1) refl
field_is (suc (suc zero)) h = short (field_name 2) refl
field_is (suc (suc (suc zero))) h = short (field_name 3) refl
field_is (suc (suc (suc (suc zero)))) h = short (field_name 4) refl
field_is (suc (suc (suc (suc (suc f))))) h = absurd (omega (arith, h))

cond_are : (c : Cond) → FitsCond c → AreShort (cond_words c)
cond_are c h = (field_is c.field h.0, (op_is c.op, (IsShort-signed c.value h.1, tt)))

more_are : (cs : List Cond) → FitsConds cs → AreShort (flat_map (λ d. codes "and" ∷ cond_words d) cs)
more_are [] h = tt
more_are (c ∷ cs) h = (short (codes "and") refl, AreShort-append (cond_words c) (flat_map (λ d. codes "and" ∷ cond_words d) cs) (cond_are c h.0) (more_are cs h.1))

conds_are : (first : Word) (cs : List Cond) → IsShort first → FitsConds cs → AreShort (conds_words first cs)
conds_are first [] f h = tt
conds_are first (c ∷ cs) f h = (f, AreShort-append (cond_words c) (flat_map (λ d. codes "and" ∷ cond_words d) cs) (cond_are c h.0) (more_are cs h.1))

stem_are : (stem : Stem) → AreShort (stem_words stem)
stem_are (Stem.Grouped (Measure.Sum c) g s) =
    (short (codes "sum") refl, (column_is c, (short (codes "by") refl, (group_is g, (short (codes "from") refl, (stream_is s, tt))))))
stem_are (Stem.Grouped Measure.Count g s) = (short (codes "count") refl, (short (codes "by") refl, (group_is g, (short (codes "from") refl, (stream_is s, tt)))))
stem_are (Stem.Joined s t) = (short (codes "join") refl, (stream_is s, (stream_is t, tt)))

window_are : (w : Window) → FitsWindow w → AreShort (window_words w)
window_are (Window.Tumble n) h = (short (codes "tumble") refl, (IsShort-decimal n (omega (arith, h)), tt))
window_are (Window.Slide n m) h = (short (codes "slide") refl, (IsShort-decimal n (omega (arith, h.0)), (IsShort-decimal m (omega (arith, h.1)), tt)))

head_are : (head : Head) → FitsHead head → AreShort (head_words head)
head_are (Head.Select s) h = (short (codes "select") refl, (short (codes "from") refl, (stream_is s, tt)))
head_are (Head.Windowed stem w) h = AreShort-append (stem_words stem) (window_words w) (stem_are stem) (window_are w h)

opening_is : (head : Head) → IsShort (opening head)
opening_is (Head.Select s) = short (codes "where") refl
opening_is (Head.Windowed (Stem.Grouped m g s) w) = short (codes "where") refl
opening_is (Head.Windowed (Stem.Joined s t) w) = short (codes "left") refl

right_are : (head : Head) (cs : List Cond) → FitsRight head cs → AreShort (conds_words (codes "right") cs)
right_are (Head.Select s) cs h = rw h tt
right_are (Head.Windowed (Stem.Grouped m g s) w) cs h = rw h tt
right_are (Head.Windowed (Stem.Joined s t) w) cs h = conds_are (codes "right") cs (short (codes "right") refl) h

-- the words of a query of a text
query_are : (q : WrittenQuery) → FitsText q → AreShort (query_words q)
query_are q h =
    AreShort-append (head_words q.head ++ conds_words (opening q.head) q.left) (conds_words (codes "right") q.right)
    (AreShort-append (head_words q.head) (conds_words (opening q.head) q.left) (head_are q.head h.0) (conds_are (opening q.head) q.left (opening_is q.head) h.1))
    (right_are q.head q.right h.2)

-- how many there are
more_length : (cs : List Cond) → length (flat_map (λ d. codes "and" ∷ cond_words d) cs) ≤ 4 * length cs
more_length [] = omega arith
more_length (c ∷ cs) = omega (arith, more_length cs, length-append (codes "and" ∷ cond_words c) (flat_map (λ d. codes "and" ∷ cond_words d) cs))

conds_length : (first : Word) (cs : List Cond) → length (conds_words first cs) ≤ 4 * length cs
conds_length first [] = omega arith
conds_length first (c ∷ cs) = omega (arith, more_length cs, length-append (first ∷ cond_words c) (flat_map (λ d. codes "and" ∷ cond_words d) cs))

head_length : (head : Head) → length (head_words head) ≤ 9
head_length (Head.Select s) = omega arith
head_length (Head.Windowed (Stem.Grouped (Measure.Sum c) g s) (Window.Tumble n)) = omega arith
head_length (Head.Windowed (Stem.Grouped (Measure.Sum c) g s) (Window.Slide n m)) = omega arith
head_length (Head.Windowed (Stem.Grouped Measure.Count g s) (Window.Tumble n)) = omega arith
head_length (Head.Windowed (Stem.Grouped Measure.Count g s) (Window.Slide n m)) = omega arith
head_length (Head.Windowed (Stem.Joined s t) (Window.Tumble n)) = omega arith
head_length (Head.Windowed (Stem.Joined s t) (Window.Slide n m)) = omega arith

right_few : (k : Kind) (p : Plan) → length (right_conds_as k p) ≤ 10
right_few Kind.Select p = omega arith
right_few (Kind.Sum c) p = omega arith
right_few Kind.Count p = omega arith
right_few Kind.Join p = conds_of-few p.right_bounds

few_words : (p : Plan) → length (query_words (written_query p)) ≤ 99
few_words p =
    let q : WrittenQuery = written_query p in
    omega (
      arith,
      length-append (head_words q.head ++ conds_words (opening q.head) q.left) (conds_words (codes "right") q.right),
      length-append (head_words q.head) (conds_words (opening q.head) q.left),
      head_length q.head,
      conds_length (opening q.head) q.left,
      conds_of-few p.left_bounds,
      conds_length (codes "right") q.right,
      right_few p.kind p,
    )

some_length : (xs ys : List Word) → 0 < length xs → 0 < length (xs ++ ys)
some_length xs ys h = omega (arith, h, length-append xs ys)

head_some : (head : Head) → 0 < length (head_words head)
head_some (Head.Select s) = omega arith
head_some (Head.Windowed (Stem.Grouped (Measure.Sum c) g s) w) = omega arith
head_some (Head.Windowed (Stem.Grouped Measure.Count g s) w) = omega arith
head_some (Head.Windowed (Stem.Joined s t) w) = omega arith

query_some : (q : WrittenQuery) → 0 < length (query_words q)
query_some q =
    some_length (head_words q.head ++ conds_words (opening q.head) q.left) (conds_words (codes "right") q.right)
    (some_length (head_words q.head) (conds_words (opening q.head) q.left) (head_some q.head))

words_back : (ws : List Word) → 0 < length ws → AreShort ws → text_words (joined ws) ≡ ws
words_back [] some h = absurd (omega (arith, some))
words_back (w ∷ ws) some h = text_words-joined w ws h

text_of : (ws : List Word) → 0 < length ws → AreShort ws → length ws ≤ 99 → is_text (joined ws) ≡ true
text_of [] some h few = absurd (omega (arith, some))
text_of (w ∷ ws) some h few = is_text-joined w ws h few

-- the canonical text of a canonical plan in range is planned as this plan
pub plan_of-canonical_text : (p : Plan) → IsCanonical p → FitsPlan p → plan_of 4 (canonical_text p) ≡ Ok p
plan_of-canonical_text p c h =
    let fits : FitsText (written_query p) = written_query-fits p h in
    let spelled : Spells (written_query p) (text_words (canonical_text p)) =
    (fits, words_back (query_words (written_query p)) (query_some (written_query p)) (query_are (written_query p) fits)) in
    ap (plan_of_reading 4) ((one_tree_told (text_words (canonical_text p)) (tree_of (written_query p))).0 (written_query p, spelled, refl))
    ∙ ap or_word (plan-written_query p c h)

-- the canonical text of a plan in range is a query text
pub is_text-canonical_text : (p : Plan) → FitsPlan p → is_text (canonical_text p) ≡ true
is_text-canonical_text p h =
    text_of (query_words (written_query p)) (query_some (written_query p)) (query_are (written_query p) (written_query-fits p h)) (few_words p)

-- the canonical text in its parts
pub opening-head_as : (k : Kind) (p : Plan) → opening (head_as k p) ≡ opening_word k
opening-head_as Kind.Select p = refl
opening-head_as (Kind.Sum c) p = refl
opening-head_as Kind.Count p = refl
opening-head_as Kind.Join p = refl

head_parts : (k : Kind) (p : Plan) → head_words (head_as k p) ≡ verb_word k ∷ names_as k p ++ windows_as k p
head_parts Kind.Select p = refl
head_parts (Kind.Sum c) p = refl
head_parts Kind.Count p = refl
head_parts Kind.Join p = refl

abbrev pub left_text : Plan → List ℕ
left_text p = spaced (conds_words (opening_word p.kind) (conds_of p.left_bounds))

abbrev pub right_text : Plan → List ℕ
right_text p = spaced (right_words p)

pub canonical_text-parts : (p : Plan) → canonical_text p
    ≡ verb_word p.kind ++ spaced (names_as p.kind p) ++ spaced (windows_as p.kind p) ++ left_text p ++ right_text p
canonical_text-parts p =
    let named : List Word = names_as p.kind p in
    let windows : List Word = windows_as p.kind p in
    let left : List Word = conds_words (opening_word p.kind) (conds_of p.left_bounds) in
    let right : List Word = conds_words (codes "right") (right_conds_as p.kind p) in
    ap₂ (λ head w. joined (head ++ conds_words w (conds_of p.left_bounds) ++ right)) (head_parts p.kind p) (opening-head_as p.kind p)
    ∙ joined-append (verb_word p.kind) (named ++ windows ++ left) right
    ∙ ap (λ xs. xs ++ spaced right) (joined-append (verb_word p.kind) (named ++ windows) left)
    ∙ ap (λ xs. xs ++ spaced left ++ spaced right) (joined-append (verb_word p.kind) named windows)
    ∙ ap (λ xs. verb_word p.kind ++ xs ++ spaced windows ++ spaced left ++ spaced right) refl

-- one more field's conditions
abbrev pub lead_after : Word → List Cond → Word
lead_after first cs = if has_any cs then codes "and" else first

conds_and : (cs : List Cond) → conds_words (codes "and") cs ≡ flat_map (λ d. codes "and" ∷ cond_words d) cs
conds_and [] = refl
conds_and (c ∷ cs) = refl

pub conds_words-append : (first : Word) (cs ds : List Cond) → conds_words first (cs ++ ds) ≡ conds_words first cs ++ conds_words (lead_after first cs) ds
conds_words-append first [] ds = refl
conds_words-append first (c ∷ cs) ds =
    ap (λ xs. first ∷ (cond_words c ++ xs)) (flat_map-append (λ d. codes "and" ∷ cond_words d) cs ds ∙ ap (λ xs. flat_map (λ d. codes "and" ∷ cond_words d) cs ++ xs) (sym (conds_and ds)))
    ∙ ap (λ xs. first ∷ xs) (sym (append_assoc (cond_words c) (flat_map (λ d. codes "and" ∷ cond_words d) cs) (conds_words (codes "and") ds)))

lead_twice : (first : Word) (ds : List Cond) → codes "and" ≡ (if has_any ds then codes "and" else codes "and")
lead_twice first [] = refl
lead_twice first (d ∷ ds) = refl

lead_more : (first : Word) (cs ds : List Cond) → lead_after first (cs ++ ds) ≡ (if has_any ds then codes "and" else lead_after first cs)
lead_more first [] ds = refl
lead_more first (c ∷ cs) ds = lead_twice first ds

has_any-ends : (l h : Bool) (c d : Cond) → has_any ((if l then [] else c ∷ []) ++ (if h then [] else d ∷ [])) ≡ not (l && h)
has_any-ends true true c d = refl
has_any-ends true false c d = refl
has_any-ends false true c d = refl
has_any-ends false false c d = refl

no_ends : (lo hi : ℤ) → lo ≡ hi → lo ≡ lowest → hi ≡ highest → ⊥
no_ends lo hi e low high = omega (arith, ints, e, low, high)

int_eq-false : (a b : ℤ) → ¬ (a ≡ b) → int_eq a b ≡ false
int_eq-false a b h = false_from_ne_true (int_eq a b) (λ e. h ((Decides-int_eq a b).0 e))

has_any-interval : (f : ℕ) (lo hi : ℤ) → has_any (conds_of_interval f lo hi) ≡ is_limited lo hi
has_any-interval f lo hi =
    cond_both (int_eq lo hi) (comparison f Eq lo ∷ []) (conds_of_ends f lo hi) (λ cs. has_any cs ≡ is_limited lo hi)
    (λ e. let point : (int_eq lo lowest && int_eq hi highest) ≡ false = false_from_ne_true (int_eq lo lowest && int_eq hi highest) (λ h.
    let parts = and_parts (int_eq lo lowest) (int_eq hi highest) h in
    no_ends lo hi ((Decides-int_eq lo hi).0 e) ((Decides-int_eq lo lowest).0 parts.0) ((Decides-int_eq hi highest).0 parts.1)) in
    sym (not_from_false (int_eq lo lowest && int_eq hi highest) point))
    (λ e. has_any-ends (int_eq lo lowest) (int_eq hi highest) (comparison f Ge lo) (comparison f Le hi))

-- the conditions of the first fields
abbrev pub first_conds : Bounds → ℕ → List Cond
first_conds b n = flat_map (λ f. conds_of_interval f (at b.lo f) (at b.hi f)) (take n fields)

field_at : (i : ℕ) → i < 5 → get_or fields i 0 ≡ i
field_at zero h = refl
field_at (suc zero) h = refl
field_at (suc (suc zero)) h = refl
field_at (suc (suc (suc zero))) h = refl
field_at (suc (suc (suc (suc zero)))) h = refl
field_at (suc (suc (suc (suc (suc i))))) h = absurd (omega (arith, h))

first_conds-more : (b : Bounds) (i : ℕ) → i < 5 → first_conds b (i + 1) ≡ first_conds b i ++ conds_of_interval i (at b.lo i) (at b.hi i)
first_conds-more b i h =
    let W : ℕ → List Cond = λ f. conds_of_interval f (at b.lo f) (at b.hi f) in
    ap (flat_map W) (take_more fields i 0 (omega (arith, h)) ∙ ap (λ g. take i fields ++ g ∷ []) (field_at i h))
    ∙ flat_map-append W (take i fields) (i ∷ [])
    ∙ ap (λ xs. first_conds b i ++ xs) (append-nil (W i))

pub first_conds-all : (b : Bounds) (n : ℕ) → 5 ≤ n → first_conds b n ≡ conds_of b
first_conds-all b n h = ap (flat_map (λ f. conds_of_interval f (at b.lo f) (at b.hi f))) (take_all n fields (omega (arith, h)))

-- one more field
pub conds_more : (b : Bounds) (first lead next : Word) (old now new : List ℕ) (i : ℕ) (lo hi : ℤ) → i < 5 → lo ≡ at b.lo i → hi ≡ at b.hi i
    → now ≡ old ++ spaced (conds_words first (first_conds b i)) → lead ≡ lead_after first (first_conds b i)
    → new ≡ now ++ spaced (conds_words lead (conds_of_interval i lo hi)) → next ≡ (if is_limited lo hi then codes "and" else lead)
    → (new ≡ old ++ spaced (conds_words first (first_conds b (i + 1)))) × (next ≡ lead_after first (first_conds b (i + 1)))
conds_more b first lead next old now new i lo hi h el eh before led on leads =
    let done : List Cond = first_conds b i in
    let more : List Cond = conds_of_interval i (at b.lo i) (at b.hi i) in
    let same : conds_of_interval i lo hi ≡ more = ap₂ (conds_of_interval i) el eh in (
      on ∙ ap (λ xs. xs ++ spaced (conds_words lead (conds_of_interval i lo hi))) before
          ∙ ap₂ (λ w cs. old ++ spaced (conds_words first done) ++ spaced (conds_words w cs)) led same
          ∙ append_assoc old (spaced (conds_words first done)) (spaced (conds_words (lead_after first done) more))
          ∙ ap (λ xs. old ++ xs) (sym (spaced-append (conds_words first done) (conds_words (lead_after first done) more)))
          ∙ ap (λ ws. old ++ spaced ws) (sym (conds_words-append first done more))
          ∙ ap (λ cs. old ++ spaced (conds_words first cs)) (sym (first_conds-more b i h)),
      leads
          ∙ ap₂ (λ t w. if t then codes "and" else w) (sym (has_any-interval i lo hi) ∙ ap has_any same) led
          ∙ sym (lead_more first done more)
          ∙ ap (lead_after first) (sym (first_conds-more b i h)),
    )

-- text, and then more of it
pub appended_after : (old now new text more : List ℕ) → now ≡ old ++ text → new ≡ now ++ more → new ≡ old ++ (text ++ more)
appended_after old now new text more e f = f ∙ ap (λ xs. xs ++ more) e ∙ append_assoc old text more

-- where the call stopped at once, in its second, in its third and in its fourth part, and where the last one ended it
pub stopped_at-once : {E : Type 0} (r : Result (Unit {0}) E) (old new all : List ℕ) → IsErr r → new ≡ old → AppendsPrefix r old new all
stopped_at-once r old new all err e = AppendsPrefix-stopped r old old new [] [] all all err (sym (append-nil old)) refl ([], ([], refl), e ∙ sym (append-nil old))

pub stopped_at-named : {E : Type 0} (p : Plan) (r : Result (Unit {0}) E) (old verb new : List ℕ) → IsErr r → verb ≡ old ++ verb_word p.kind
    → (front : List ℕ) × IsPrefix front (spaced (names_as p.kind p)) × (new ≡ verb ++ front) → AppendsPrefix r old new (canonical_text p)
stopped_at-named p r old verb new err ev h =
    let a = verb_word p.kind in let b = spaced (names_as p.kind p) in let w = spaced (windows_as p.kind p) in
    AppendsPrefix-stopped r old verb new a b (w ++ left_text p ++ right_text p) (canonical_text p) err ev
    (canonical_text-parts p ∙ ap (λ xs. xs ++ right_text p) (append_assoc (a ++ b) w (left_text p)) ∙ append_assoc (a ++ b) (w ++ left_text p) (right_text p)) h

pub stopped_at-windows : {E : Type 0} (p : Plan) (r : Result (Unit {0}) E) (old named new : List ℕ) → IsErr r → named ≡ old ++ (verb_word p.kind ++ spaced (names_as p.kind p))
    → (front : List ℕ) × IsPrefix front (spaced (windows_as p.kind p)) × (new ≡ named ++ front) → AppendsPrefix r old new (canonical_text p)
stopped_at-windows p r old named new err en h =
    let a = verb_word p.kind ++ spaced (names_as p.kind p) in let w = spaced (windows_as p.kind p) in
    AppendsPrefix-stopped r old named new a w (left_text p ++ right_text p) (canonical_text p) err en
    (canonical_text-parts p ∙ append_assoc (a ++ w) (left_text p) (right_text p)) h

pub stopped_at-conds : {E : Type 0} (p : Plan) (r : Result (Unit {0}) E) (first : Word) (old windows new : List ℕ) → IsErr r → first ≡ opening_word p.kind
    → windows ≡ old ++ (verb_word p.kind ++ spaced (names_as p.kind p) ++ spaced (windows_as p.kind p))
    → (front : List ℕ) × IsPrefix front (spaced (conds_words first (conds_of p.left_bounds))) × (new ≡ windows ++ front) → AppendsPrefix r old new (canonical_text p)
stopped_at-conds p r first old windows new err ef ew h =
    let a = verb_word p.kind ++ spaced (names_as p.kind p) ++ spaced (windows_as p.kind p) in
    AppendsPrefix-stopped r old windows new a (spaced (conds_words first (conds_of p.left_bounds))) (right_text p) (canonical_text p) err ew
    (canonical_text-parts p ∙ ap (λ w. a ++ spaced (conds_words w (conds_of p.left_bounds)) ++ right_text p) (sym ef)) h

pub all_parts : {E : Type 0} (p : Plan) (r : Result (Unit {0}) E) (first : Word) (old windows left right : List ℕ) → first ≡ opening_word p.kind
    → windows ≡ old ++ (verb_word p.kind ++ spaced (names_as p.kind p) ++ spaced (windows_as p.kind p)) → left ≡ windows ++ spaced (conds_words first (conds_of p.left_bounds))
    → AppendsPrefix r left right (right_text p) → AppendsPrefix r old right (canonical_text p)
all_parts p r first old windows left right ef ew el h =
    let a = verb_word p.kind ++ spaced (names_as p.kind p) ++ spaced (windows_as p.kind p) in
    let b = spaced (conds_words first (conds_of p.left_bounds)) in
    AppendsPrefix-after r old left right (a ++ b) (right_text p) (canonical_text p) (appended_after old windows left a b ew el)
    (canonical_text-parts p ∙ ap (λ w. a ++ spaced (conds_words w (conds_of p.left_bounds)) ++ right_text p) (sym ef)) h

-- the words of a list, up to one of them, and from there on
abbrev pub no_word : Bor (List ℕ)
no_word = record { ref_ptr = (0, 0); now = [] }

pub words_more : (ws : List (Bor (List ℕ))) (i : ℕ) → i < length ws → spaced (words_at (take (i + 1) ws)) ≡ spaced (words_at (take i ws)) ++ 32 ∷ (get_or ws i no_word).now
words_more ws i h =
    let w : Bor (List ℕ) = get_or ws i no_word in
    ap (λ xs. spaced (words_at xs)) (take_more ws i no_word h)
    ∙ ap spaced (map-append (λ (x : Bor (List ℕ)). x.now) (take i ws) (w ∷ []))
    ∙ spaced-append (words_at (take i ws)) (w.now ∷ [])
    ∙ ap (λ xs. spaced (words_at (take i ws)) ++ 32 ∷ xs) (append-nil w.now)

pub words_split : (ws : List (Bor (List ℕ))) (i : ℕ) → i < length ws
    → spaced (words_at ws) ≡ spaced (words_at (take i ws)) ++ 32 ∷ (get_or ws i no_word).now ++ spaced (words_at (drop (i + 1) ws))
words_split ws i h =
    ap (λ xs. spaced (words_at xs)) (sym (take-append-drop (i + 1) ws))
    ∙ ap spaced (map-append (λ (x : Bor (List ℕ)). x.now) (take (i + 1) ws) (drop (i + 1) ws))
    ∙ spaced-append (words_at (take (i + 1) ws)) (words_at (drop (i + 1) ws))
    ∙ ap (λ xs. xs ++ spaced (words_at (drop (i + 1) ws))) (words_more ws i h)

-- the words of a condition after the word before it, cut before the number
pub cond_split : (lead f o : Word) (c : Cond) → f ≡ field_name c.field → o ≡ op_name c.op → spaced (lead ∷ cond_words c) ≡ 32 ∷ lead ++ spaced (f ∷ o ∷ []) ++ 32 ∷ signed_decimal c.value
cond_split lead f o c ef eo =
    spaced-append (lead ∷ field_name c.field ∷ op_name c.op ∷ []) (signed_decimal c.value ∷ [])
    ∙ ap₂ (λ x y. 32 ∷ lead ++ spaced (x ∷ y ∷ []) ++ spaced (signed_decimal c.value ∷ [])) (sym ef) (sym eo)
    ∙ ap (λ xs. 32 ∷ lead ++ spaced (f ∷ o ∷ []) ++ 32 ∷ xs) (append-nil (signed_decimal c.value))

-- the conditions of an interval with a low end, cut after the first
pub interval_split : (lead : Word) (f : ℕ) (lo hi : ℤ) → ¬ (lo ≡ hi) → ¬ (lo ≡ lowest)
    → spaced (conds_words lead (conds_of_interval f lo hi)) ≡ spaced (lead ∷ cond_words (comparison f Ge lo)) ++ spaced (conds_words (codes "and") (conds_of_high f hi))
interval_split lead f lo hi apart some =
    ap (λ cs. spaced (conds_words lead cs)) (cond-false (int_eq lo hi) (comparison f Eq lo ∷ []) (conds_of_ends f lo hi) (int_eq-false lo hi apart)
    ∙ ap (λ low. low ++ conds_of_high f hi) (cond-false (int_eq lo lowest) [] (comparison f Ge lo ∷ []) (int_eq-false lo lowest some)))
    ∙ spaced-append (lead ∷ cond_words (comparison f Ge lo)) (flat_map (λ d. codes "and" ∷ cond_words d) (conds_of_high f hi))
    ∙ ap (λ ws. spaced (lead ∷ cond_words (comparison f Ge lo)) ++ spaced ws) (sym (conds_and (conds_of_high f hi)))

-- the conditions of all fields, cut after one of them
last_conds : Bounds → ℕ → List Cond
last_conds b n = flat_map (λ f. conds_of_interval f (at b.lo f) (at b.hi f)) (drop n fields)

first_last : (b : Bounds) (n : ℕ) → conds_of b ≡ first_conds b n ++ last_conds b n
unfolding last_conds
first_last b n =
    let W : ℕ → List Cond = λ f. conds_of_interval f (at b.lo f) (at b.hi f) in
    ap (flat_map W) (sym (take-append-drop n fields)) ∙ flat_map-append W (take n fields) (drop n fields)

pub rest_text : Word → Bounds → ℕ → List ℕ
rest_text first b n = spaced (conds_words (lead_after first (first_conds b n)) (last_conds b n))

pub conds_split : (b : Bounds) (first lead : Word) (i : ℕ) (lo hi : ℤ) → i < 5 → lo ≡ at b.lo i → hi ≡ at b.hi i → lead ≡ lead_after first (first_conds b i)
    → spaced (conds_words first (conds_of b)) ≡ spaced (conds_words first (first_conds b i)) ++ spaced (conds_words lead (conds_of_interval i lo hi)) ++ rest_text first b (i + 1)
unfolding rest_text
conds_split b first lead i lo hi h el eh led =
    let done : List Cond = first_conds b i in
    let more : List Cond = conds_of_interval i (at b.lo i) (at b.hi i) in
    let last : List Cond = last_conds b (i + 1) in
    ap (λ cs. spaced (conds_words first cs)) (first_last b (i + 1))
    ∙ ap spaced (conds_words-append first (first_conds b (i + 1)) last)
    ∙ spaced-append (conds_words first (first_conds b (i + 1))) (conds_words (lead_after first (first_conds b (i + 1))) last)
    ∙ ap (λ cs. spaced (conds_words first cs) ++ rest_text first b (i + 1)) (first_conds-more b i h)
    ∙ ap (λ ws. spaced ws ++ rest_text first b (i + 1)) (conds_words-append first done more)
    ∙ ap (λ xs. xs ++ rest_text first b (i + 1)) (spaced-append (conds_words first done) (conds_words (lead_after first done) more))
    ∙ ap₂ (λ w cs. spaced (conds_words first done) ++ spaced (conds_words w cs) ++ rest_text first b (i + 1)) (sym led) (sym (ap₂ (conds_of_interval i) el eh))

-- the words of windows that overlap
pub slide_words : (size slide : ℕ) → spaced (window_words (Window.Slide size slide)) ≡ codes " slide" ++ 32 ∷ decimal size ++ 32 ∷ decimal slide
slide_words size slide = ap (λ xs. codes " slide" ++ 32 ∷ decimal size ++ 32 ∷ xs) (append-nil (decimal slide))
