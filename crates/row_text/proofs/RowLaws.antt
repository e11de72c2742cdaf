-- Rows that fit a plan, taken part by part.
use Rattle.std.proofs.Common.{◌≡◌, ◌↔◌, ℕ, ◌+◌, ◌/◌, ◌%◌, ◌^◌, ◌<◌, ◌≤◌, Bool, true, false, nat_lt, ℤ, pos, negsuc, Option, Some, None, List, [], ◌∷◌, ◌++◌, map, decimal, refl, sym, ap, ap₂, subst, ◌∙◌, arith, append-nil, option_map, IsTrue}
use Rattle.std.specs.Bool.{then_some}
use Rattle.std.specs.Fmt.{signed_decimal}
use Rattle.std.proofs.lemmas.Bool.{ltb-true, lt-ltb}
use Rattle.std.proofs.lemmas.Nat.{div-add-mod'}
use Rattle.std.proofs.Math.Nat.{mul-mod_left}
use Rattle.as_base.specs.Range.{IsTime}
use Rattle.as_base.specs.declared.item.Given.{Given}
use Rattle.as_base.specs.declared.query.Kind.TheVariants.{Select, Join}
use Rattle.as_base.specs.declared.query.Plan.{Plan}
use Rattle.as_base.specs.declared.row.Row.{Row}
use Rattle.as_base.specs.declared.row.Row.TheVariants.{Sel, Agg, Pair}
use Rattle.as_base.specs.declared.stream.StreamId.{StreamId}
use Rattle.as_base.specs.declared.windows.WinSpec.{WinSpec}
use Rattle.as_words.specs.Number.{IsSigned, natural}
use Rattle.row_text.specs.Fits.{FitsRecord, IsStart, FitsWindow, FitsGroup, IsCount, FitsValue, IsWithin, FitsSide, FitsRow}
use Rattle.row_text.specs.RowText.{row_words, group_words, side_words}
use Rattle.row_text.specs.Taking.{Spells, Takes, HasValue, FitsValues, given_words, window_words, natural_words, integer_words}
use Rattle.row_text.proofs.TakingLaws.{Words, same_some, natural_spelled, stopped, after, done}

-- what was taken: a signed number, four of them, a time, the start of a window
abbrev TakesInteger : Option ℤ → Words → Words → Type 0
TakesInteger r old new = Takes IsSigned integer_words r old new

abbrev TakesFour : Option (List ℤ) → Words → Words → Type 0
TakesFour r old new = Takes (FitsValues 4) (map signed_decimal) r old new

abbrev TakesStart : WinSpec → Option ℕ → Words → Words → Type 0
TakesStart win r old new = Takes (λ s. IsTime s × IsStart win s) natural_words r old new

abbrev TakesEnd : WinSpec → ℕ → Option ℕ → Words → Words → Type 0
TakesEnd win start r old new = Takes (λ e. (e ≡ start + win.size) × (e < 2 ^ 64)) natural_words r old new

-- a multiple of the slide is where a window begins
pub start_is : (win : WinSpec) (start : ℕ) (test : Bool) → IsTrue test ↔ (start % win.slide ≡ 0) → IsTrue test ↔ IsStart win start
start_is win start test h = (
  λ t. (start / win.slide, omega (arith, h.0 t, div-add-mod' start win.slide)),
  λ k. h.1 (ap (λ n. n % win.slide) k.1 ∙ mul-mod_left k.0 win.slide),
)

-- a number above 0 is a count
pub count_none : (word : List ℕ) → None ≡ natural (2 ^ 64) word → Spells IsCount signed_decimal None word
count_none word e = record { right = λ z k. cc k; found = missing }
  where
    missing : (z : ℤ) → IsCount z → word ≡ signed_decimal z → None ≡ Some z
    missing (pos n) h w = absurd (cc ((natural_spelled None word e).found n h.1 w))
    missing (negsuc n) h w = absurd h

pub count_some : (word : List ℕ) (n : ℕ) → Some n ≡ natural (2 ^ 64) word → Spells IsCount signed_decimal (then_some (nat_lt 0 n) (pos n)) word
count_some word n e = by_test (nat_lt 0 n) (λ h. ltb-true 0 n h) (λ h. lt-ltb 0 n h)
  where
    number : Spells (λ m. m < 2 ^ 64) (λ m. decimal m) (Some n) word
    number = natural_spelled (Some n) word e

    own : (n < 2 ^ 64) × (word ≡ decimal n)
    own = number.right n refl

    met : (z : ℤ) → IsCount z → word ≡ signed_decimal z → (1 ≤ n) × (pos n ≡ z)
    met (pos m) h w = let same = same_some n m (number.found m h.1 w) in (omega (arith, same, h.0), ap (λ k. pos k) same)
    met (negsuc m) h w = absurd h

    by_test : (test : Bool) → (test ≡ true → 0 < n) → (0 < n → test ≡ true) → Spells IsCount signed_decimal (then_some test (pos n)) word
    by_test true some none = record {
      right = λ z k. subst (λ y. IsCount y × (word ≡ signed_decimal y)) (same_some (pos n) z k) ((omega (arith, some refl), own.0), own.1);
      found = λ z h w. ap (λ y. Some y) (met z h w).1;
    }
    by_test false some none = record {
      right = λ z k. cc k;
      found = λ z h w. absurd (cc (none (omega (arith, (met z h w).0))));
    }

-- a record of its parts
abbrev pub made : StreamId → ℕ → ℤ → List ℤ → Given
made stream time key v = record { stream = stream; time = time; key = key; v = v }

same_made : (g : Given) (stream : StreamId) (time : ℕ) (key : ℤ) (v : List ℤ) → g.stream ≡ stream → time ≡ g.time → key ≡ g.key → v ≡ g.v
    → made stream time key v ≡ g
same_made g stream time key v s t k w = ap₂ (λ a b. made a b key v) (sym s) t ∙ ap₂ (λ a b. made g.stream g.time a b) k w

pub given_taken : (stream : StreamId) (time : ℕ) (key : ℤ) (v : List ℤ) (w0 w1 w2 w3 : Words) → Takes IsTime natural_words (Some time) w0 w1
    → TakesInteger (Some key) w1 w2 → TakesFour (Some v) w2 w3 → Takes (FitsRecord stream) given_words (Some (made stream time key v)) w0 w3
given_taken stream time key v w0 w1 w2 w3 t k n = record {
  right = λ g e.
      let a = t.right time refl in
      let b = k.right key refl in
      let c = n.right v refl in
      subst (λ x. FitsRecord stream x × (w0 ≡ given_words x ++ w3)) (same_some (made stream time key v) g e)
      ((refl, (a.0, b.0, c.0.0, c.0.1)), a.1 ∙ ap (λ ws. decimal time ∷ ws) (b.1 ∙ ap (λ ws. signed_decimal key ∷ ws) c.1));
  found = λ g rest p e.
      let a = t.found g.time (signed_decimal g.key ∷ map signed_decimal g.v ++ rest) p.1.0 e in
      let b = k.found g.key (map signed_decimal g.v ++ rest) p.1.1 a.1 in
      let c = n.found g.v rest (p.1.2, p.1.3) b.1 in
      (ap (λ x. Some x) (same_made g stream time key v p.0 (same_some time g.time a.0) (same_some key g.key b.0) (same_some v g.v c.0)), c.1);
}

-- the time and the values of a record with this key
pub side_taken : (stream : StreamId) (start end time : ℕ) (key : ℤ) (v : List ℤ) (w0 w1 w2 : Words) → IsSigned key
    → Takes (λ t. IsTime t × IsWithin start end t) natural_words (Some time) w0 w1 → TakesFour (Some v) w1 w2
    → Takes (λ (g : Given). FitsSide stream start end g × (g.key ≡ key)) side_words (Some (made stream time key v)) w0 w2
side_taken stream start end time key v w0 w1 w2 signed t n = record {
  right = λ g e.
      let a = t.right time refl in
      let c = n.right v refl in
      subst (λ (x : Given). (FitsSide stream start end x × (x.key ≡ key)) × (w0 ≡ side_words x ++ w2)) (same_some (made stream time key v) g e)
      ((((refl, (a.0.0, signed, c.0.0, c.0.1)), a.0.1), refl), a.1 ∙ ap (λ ws. decimal time ∷ ws) c.1);
  found = λ g rest p e.
      let a = t.found g.time (map signed_decimal g.v ++ rest) (p.0.0.1.0, p.0.1) e in
      let c = n.found g.v rest (p.0.0.1.2, p.0.0.1.3) a.1 in
      (ap (λ x. Some x) (same_made g stream time key v p.0.0.0 (same_some time g.time a.0) (sym p.1) (same_some v g.v c.0)), c.1);
}

-- the two times are the start and the end of a window
abbrev pub FitsEdges : WinSpec → ℕ × ℕ → Type 0
FitsEdges win w = FitsWindow win w.0 w.1

-- what was taken as a window, and as a row that fits
abbrev pub TakesWindow : Plan → Option (ℕ × ℕ) → Words → Words → Type 0
TakesWindow p r old new = Takes (FitsEdges p.win) window_words r old new

abbrev pub TakesRow : Plan → Option Row → Words → Words → Type 0
TakesRow p r old new = Takes (FitsRow p) row_words r old new

-- a window whose start is not there; one whose start is
pub window_none : (win : WinSpec) (old new new' : Words) → TakesStart win None old new → Takes (FitsEdges win) window_words None old new'
window_none win old new new' h =
    stopped (λ s. IsTime s × IsStart win s) natural_words (λ (w : ℕ × ℕ). w.0) (FitsEdges win) window_words (λ w. decimal w.1 ∷ []) old new new' (λ w p. ((p.0, p.1), refl)) h

pub window_then : (win : WinSpec) (start : ℕ) (r : Option ℕ) (old mid new : Words) → TakesStart win (Some start) old mid
    → TakesEnd win start r mid new
    → Takes (FitsEdges win) window_words (option_map {U = ℕ × ℕ} (λ e. (start, e)) r) old new
window_then win start r old mid new h more = record { right = told r more; found = met }
  where
    told : (o : Option ℕ) → TakesEnd win start o mid new → (w : ℕ × ℕ) → option_map {U = ℕ × ℕ} (λ e. (start, e)) o ≡ Some w
        → FitsEdges win w × (old ≡ window_words w ++ new)
    told None m w e = cc e
    told (Some end) m w e =
        let a = h.right start refl in
        let b = m.right end refl in
        subst (λ (x : ℕ × ℕ). FitsEdges win x × (old ≡ window_words x ++ new)) (same_some (start, end) w e)
        ((a.0.0, a.0.1, b.0.0, b.0.1), a.1 ∙ ap (λ ws. decimal start ∷ ws) b.1)

    met : (w : ℕ × ℕ) (rest : Words) → FitsEdges win w → old ≡ window_words w ++ rest → (option_map {U = ℕ × ℕ} (λ e. (start, e)) r ≡ Some w) × (new ≡ rest)
    met w rest p e =
        let a = h.found w.0 (decimal w.1 ∷ rest) (p.0, p.1) e in
        let same = same_some start w.0 a.0 in
        let b = more.found w.1 rest (p.2 ∙ ap (λ s. s + win.size) (sym same), p.3) a.1 in
        (ap (option_map {U = ℕ × ℕ} (λ e. (start, e))) b.0 ∙ ap (λ s. Some (s, w.1)) same, b.1)

-- the parts of a row, and the words behind them
abbrev pub window_in : Row → ℕ × ℕ
window_in (Sel g) = (0, 0)
window_in (Agg start end group value) = (start, end)
window_in (Pair start end left right) = (start, end)

abbrev pub group_in : Row → Option ℤ
group_in (Agg start end group value) = group
group_in _ = None

abbrev pub value_in : Row → ℤ
value_in (Agg start end group value) = value
value_in _ = pos 0

abbrev pub left_in : Row → Given
left_in (Sel g) = g
left_in (Agg start end group value) = made StreamId.A 0 (pos 0) []
left_in (Pair start end left right) = left

abbrev pub right_in : Row → Given
right_in (Sel g) = g
right_in (Agg start end group value) = made StreamId.A 0 (pos 0) []
right_in (Pair start end left right) = right

abbrev pub key_in : Row → ℤ
key_in row = (left_in row).key

abbrev pub behind_window : Row → Words
behind_window (Sel g) = []
behind_window (Agg start end group value) = group_words group ++ signed_decimal value ∷ []
behind_window (Pair start end left right) = signed_decimal left.key ∷ side_words left ++ side_words right

abbrev pub behind_group : Row → Words
behind_group row = signed_decimal (value_in row) ∷ []

abbrev pub behind_key : Row → Words
behind_key row = side_words (left_in row) ++ side_words (right_in row)

abbrev pub behind_left : Row → Words
behind_left row = side_words (right_in row)

abbrev pub behind_all : Row → Words
behind_all row = []

-- the row fits, and has this window; and this group; and this value
abbrev pub HasWindow : Plan → ℕ → ℕ → Row → Type 0
HasWindow p start end row = FitsRow p row × (window_in row ≡ (start, end))

abbrev pub HasGroup : Plan → ℕ → ℕ → Option ℤ → Row → Type 0
HasGroup p start end group row = HasWindow p start end row × (group_in row ≡ group)

abbrev pub HasAll : Plan → ℕ → ℕ → Option ℤ → ℤ → Row → Type 0
HasAll p start end group value row = HasGroup p start end group row × (value_in row ≡ value)

-- what a row of such a kind is
no_selection : (p : Plan) → HasValue p.kind → p.kind ≡ Select → ⊥
no_selection p h e = subst HasValue e h

no_join : (p : Plan) → HasValue p.kind → p.kind ≡ Join → ⊥
no_join p h e = subst HasValue e h

-- what was taken as a group, and as a value
abbrev TakesGroup : Plan → Option (Option ℤ) → Words → Words → Type 0
TakesGroup p r old new = Takes (FitsGroup p.group) group_words r old new

abbrev TakesValue : Plan → Option ℤ → Words → Words → Type 0
TakesValue p r old new = Takes (FitsValue p.kind) integer_words r old new

total_window : (p : Plan) → HasValue p.kind → (x : Row) → FitsRow p x
    → FitsWindow p.win (window_in x).0 (window_in x).1 × (row_words x ≡ window_words (window_in x) ++ behind_window x)
total_window p k (Sel g) h = absurd (no_selection p k h.0)
total_window p k (Agg start end group value) h = (h.0, refl)
total_window p k (Pair start end left right) h = absurd (no_join p k h.0)

total_group : (p : Plan) (start end : ℕ) → HasValue p.kind → (x : Row) → HasWindow p start end x
    → FitsGroup p.group (group_in x) × (behind_window x ≡ group_words (group_in x) ++ behind_group x)
total_group p s e k (Sel g) h = absurd (no_selection p k h.0.0)
total_group p s e k (Agg start end group value) h = (h.0.1, refl)
total_group p s e k (Pair start end left right) h = absurd (no_join p k h.0.0)

total_value : (p : Plan) (start end : ℕ) (group : Option ℤ) → HasValue p.kind → (x : Row) → HasGroup p start end group x
    → FitsValue p.kind (value_in x) × (behind_group x ≡ (signed_decimal (value_in x) ∷ []) ++ behind_all x)
total_value p s e t k (Sel g) h = absurd (no_selection p k h.0.0.0)
total_value p s e t k (Agg start end group value) h = (h.0.0.2, refl)
total_value p s e t k (Pair start end left right) h = absurd (no_join p k h.0.0.0)

total_only : (p : Plan) (start end : ℕ) (group : Option ℤ) (value : ℤ) → HasValue p.kind → (x : Row) → HasAll p start end group value x
    → x ≡ Agg start end group value
total_only p s e t v k (Sel g) h = absurd (no_selection p k h.0.0.0.0)
total_only p s e t v k (Agg start end group value) h =
    let w = h.0.0.1 in
    ap₂ (λ a b. Agg a b group value) (ap (λ (x : ℕ × ℕ). x.0) w) (ap (λ (x : ℕ × ℕ). x.1) w) ∙ ap₂ (λ a b. Agg s e a b) h.0.1 h.1
total_only p s e t v k (Pair start end left right) h = absurd (no_join p k h.0.0.0.0)

-- a total whose window is not there; whose group is not; whose value is not, or is
pub no_window : (p : Plan) (old new new' : Words) → HasValue p.kind → TakesWindow p None old new → TakesRow p None old new'
no_window p old new new' k h = stopped (FitsEdges p.win) window_words window_in (FitsRow p) row_words behind_window old new new' (total_window p k) h

window_before : (p : Plan) (start end : ℕ) (r : Option Row) (old mid new : Words) → HasValue p.kind → TakesWindow p (Some (start, end)) old mid
    → Takes (HasWindow p start end) behind_window r mid new → TakesRow p r old new
window_before p start end r old mid new k h more =
    after (FitsEdges p.win) window_words (start, end) window_in (FitsRow p) row_words behind_window r old mid new (total_window p k) h more

pub no_group : (p : Plan) (start end : ℕ) (old mid new new' : Words) → HasValue p.kind → TakesWindow p (Some (start, end)) old mid
    → TakesGroup p None mid new → TakesRow p None old new'
no_group p start end old mid new new' k h g =
    window_before p start end None old mid new' k h
    (stopped (FitsGroup p.group) group_words group_in (HasWindow p start end) behind_window behind_group mid new new' (total_group p start end k) g)

group_before : (p : Plan) (start end : ℕ) (group : Option ℤ) (r : Option Row) (old mid next new : Words) → HasValue p.kind
    → TakesWindow p (Some (start, end)) old mid
    → TakesGroup p (Some group) mid next → Takes (HasGroup p start end group) behind_group r next new → TakesRow p r old new
group_before p start end group r old mid next new k h g more =
    window_before p start end r old mid new k h
    (after (FitsGroup p.group) group_words group group_in (HasWindow p start end) behind_window behind_group r mid next new (total_group p start end k) g more)

pub no_value : (p : Plan) (start end : ℕ) (group : Option ℤ) (old mid next new new' : Words) → HasValue p.kind
    → TakesWindow p (Some (start, end)) old mid
    → TakesGroup p (Some group) mid next → TakesValue p None next new → TakesRow p None old new'
no_value p start end group old mid next new new' k h g v =
    group_before p start end group None old mid next new' k h g
    (stopped (FitsValue p.kind) integer_words value_in (HasGroup p start end group) behind_group behind_all next new new' (total_value p start end group k) v)

pub total_taken : (p : Plan) (start end : ℕ) (group : Option ℤ) (value : ℤ) (old mid next new : Words) → HasValue p.kind
    → TakesWindow p (Some (start, end)) old mid
    → TakesGroup p (Some group) mid next → TakesValue p (Some value) next new
    → TakesRow p (Some (Agg start end group value)) old new
total_taken p start end group value old mid next new k h g v =
    group_before p start end group (Some (Agg start end group value)) old mid next new k h g
    (after (FitsValue p.kind) integer_words value value_in (HasGroup p start end group) behind_group behind_all (Some (Agg start end group value)) next new new (total_value p start end group k) v
    (done (HasAll p start end group value) (Agg start end group value) new
    (((((h.right (start, end) refl).0, (g.right group refl).0, (v.right value refl).0), refl), refl), refl)
    (total_only p start end group value k)))

-- the row fits, and has this window; and this key; and these records
abbrev pub HasKey : Plan → ℕ → ℕ → ℤ → Row → Type 0
HasKey p start end key row = HasWindow p start end row × (key_in row ≡ key)

abbrev pub HasLeft : Plan → ℕ → ℕ → ℤ → Given → Row → Type 0
HasLeft p start end key left row = HasKey p start end key row × (left_in row ≡ left)

abbrev pub HasBoth : Plan → ℕ → ℕ → ℤ → Given → Given → Row → Type 0
HasBoth p start end key left right row = HasLeft p start end key left row × (right_in row ≡ right)

-- what a row of a join is not
no_pair : {X : Type 0} (p : Plan) → p.kind ≡ Join → p.kind ≡ Select → X
no_pair p k h = cc (k, h)

no_total : (p : Plan) (z : ℤ) → p.kind ≡ Join → FitsValue p.kind z → ⊥
no_total p z k h = subst (λ kind. FitsValue kind z) k h

-- a record of the stream in the window, with this key
abbrev pub FitsSideOf : StreamId → ℕ → ℕ → ℤ → Given → Type 0
FitsSideOf stream start end key g = FitsSide stream start end g × (g.key ≡ key)

-- what was taken as such a record
abbrev TakesSide : StreamId → ℕ → ℕ → ℤ → Option Given → Words → Words → Type 0
TakesSide stream start end key r old new = Takes (FitsSideOf stream start end key) side_words r old new

pair_window : (p : Plan) → p.kind ≡ Join → (x : Row) → FitsRow p x
    → FitsEdges p.win (window_in x) × (row_words x ≡ window_words (window_in x) ++ behind_window x)
pair_window p k (Sel g) h = no_pair p k h.0
pair_window p k (Agg start end group value) h = absurd (no_total p value k h.2)
pair_window p k (Pair start end left right) h = (h.1, refl)

pair_key : (p : Plan) (start end : ℕ) → p.kind ≡ Join → (x : Row) → HasWindow p start end x
    → IsSigned (key_in x) × (behind_window x ≡ (signed_decimal (key_in x) ∷ []) ++ behind_key x)
pair_key p s e k (Sel g) h = no_pair p k h.0.0
pair_key p s e k (Agg start end group value) h = absurd (no_total p value k h.0.2)
pair_key p s e k (Pair start end left right) h = (h.0.2.0.1.1, refl)

in_window : (stream : StreamId) (g : Given) (w v : ℕ × ℕ) → w ≡ v → FitsSide stream w.0 w.1 g → FitsSide stream v.0 v.1 g
in_window stream g w v e h = subst (λ (x : ℕ × ℕ). FitsSide stream x.0 x.1 g) e h

pair_left : (p : Plan) (start end : ℕ) (key : ℤ) → p.kind ≡ Join → (x : Row) → HasKey p start end key x
    → FitsSideOf p.left start end key (left_in x) × (behind_key x ≡ side_words (left_in x) ++ behind_left x)
pair_left p s e key k (Sel g) h = no_pair p k h.0.0.0
pair_left p s e key k (Agg start end group value) h = absurd (no_total p value k h.0.0.2)
pair_left p s e key k (Pair start end left right) h = ((in_window p.left left (start, end) (s, e) h.0.1 h.0.0.2, h.1), refl)

pair_right : (p : Plan) (start end : ℕ) (key : ℤ) (left : Given) → p.kind ≡ Join → (x : Row) → HasLeft p start end key left x
    → FitsSideOf p.right start end key (right_in x) × (behind_left x ≡ side_words (right_in x) ++ behind_all x)
pair_right p s e key l k (Sel g) h = no_pair p k h.0.0.0.0
pair_right p s e key l k (Agg start end group value) h = absurd (no_total p value k h.0.0.0.2)
pair_right p s e key l k (Pair start end left right) h =
    ((in_window p.right right (start, end) (s, e) h.0.0.1 h.0.0.0.3, sym h.0.0.0.4 ∙ h.0.1), sym (append-nil (side_words right)))

pair_only : (p : Plan) (start end : ℕ) (key : ℤ) (left right : Given) → p.kind ≡ Join → (x : Row) → HasBoth p start end key left right x
    → x ≡ Pair start end left right
pair_only p s e key l r k (Sel g) h = no_pair p k h.0.0.0.0.0
pair_only p s e key l r k (Agg start end group value) h = absurd (no_total p value k h.0.0.0.0.2)
pair_only p s e key l r k (Pair start end left right) h =
    let w = h.0.0.0.1 in
    ap₂ (λ a b. Pair a b left right) (ap (λ (x : ℕ × ℕ). x.0) w) (ap (λ (x : ℕ × ℕ). x.1) w) ∙ ap₂ (λ a b. Pair s e a b) h.0.1 h.1

-- a pair whose window is not there; whose key is not; whose left record is not; whose right record is not, or is
pub pair_no_window : (p : Plan) (old new new' : Words) → p.kind ≡ Join → TakesWindow p None old new → TakesRow p None old new'
pair_no_window p old new new' k h = stopped (FitsEdges p.win) window_words window_in (FitsRow p) row_words behind_window old new new' (pair_window p k) h

pair_at : (p : Plan) (start end : ℕ) (r : Option Row) (old mid new : Words) → p.kind ≡ Join → TakesWindow p (Some (start, end)) old mid
    → Takes (HasWindow p start end) behind_window r mid new → TakesRow p r old new
pair_at p start end r old mid new k h more = after (FitsEdges p.win) window_words (start, end) window_in (FitsRow p) row_words behind_window r old mid new (pair_window p k) h more

pub pair_no_key : (p : Plan) (start end : ℕ) (old mid new new' : Words) → p.kind ≡ Join → TakesWindow p (Some (start, end)) old mid
    → TakesInteger None mid new → TakesRow p None old new'
pair_no_key p start end old mid new new' k h z =
    pair_at p start end None old mid new' k h
    (stopped IsSigned integer_words key_in (HasWindow p start end) behind_window behind_key mid new new' (pair_key p start end k) z)

pair_of : (p : Plan) (start end : ℕ) (key : ℤ) (r : Option Row) (old mid next new : Words) → p.kind ≡ Join
    → TakesWindow p (Some (start, end)) old mid → TakesInteger (Some key) mid next
    → Takes (HasKey p start end key) behind_key r next new → TakesRow p r old new
pair_of p start end key r old mid next new k h z more =
    pair_at p start end r old mid new k h
    (after IsSigned integer_words key key_in (HasWindow p start end) behind_window behind_key r mid next new (pair_key p start end k) z more)

pub pair_no_left : (p : Plan) (start end : ℕ) (key : ℤ) (old mid next new new' : Words) → p.kind ≡ Join
    → TakesWindow p (Some (start, end)) old mid → TakesInteger (Some key) mid next
    → TakesSide p.left start end key None next new → TakesRow p None old new'
pair_no_left p start end key old mid next new new' k h z l =
    pair_of p start end key None old mid next new' k h z
    (stopped (FitsSideOf p.left start end key) side_words left_in (HasKey p start end key) behind_key behind_left next new new' (pair_left p start end key k) l)

pair_with : (p : Plan) (start end : ℕ) (key : ℤ) (left : Given) (r : Option Row) (old mid next last new : Words) → p.kind ≡ Join
    → TakesWindow p (Some (start, end)) old mid
    → TakesInteger (Some key) mid next → TakesSide p.left start end key (Some left) next last
    → Takes (HasLeft p start end key left) behind_left r last new → TakesRow p r old new
pair_with p start end key left r old mid next last new k h z l more =
    pair_of p start end key r old mid next new k h z
    (after (FitsSideOf p.left start end key) side_words left left_in (HasKey p start end key) behind_key behind_left r next last new (pair_left p start end key k) l more)

pub pair_no_right : (p : Plan) (start end : ℕ) (key : ℤ) (left : Given) (old mid next last new new' : Words) → p.kind ≡ Join
    → TakesWindow p (Some (start, end)) old mid
    → TakesInteger (Some key) mid next → TakesSide p.left start end key (Some left) next last
    → TakesSide p.right start end key None last new → TakesRow p None old new'
pair_no_right p start end key left old mid next last new new' k h z l r =
    pair_with p start end key left None old mid next last new' k h z l
    (stopped (FitsSideOf p.right start end key) side_words right_in (HasLeft p start end key left) behind_left behind_all last new new' (pair_right p start end key left k) r)

pub pair_taken : (p : Plan) (start end : ℕ) (key : ℤ) (left right : Given) (old mid next last new : Words) → p.kind ≡ Join
    → TakesWindow p (Some (start, end)) old mid
    → TakesInteger (Some key) mid next → TakesSide p.left start end key (Some left) next last
    → TakesSide p.right start end key (Some right) last new → TakesRow p (Some (Pair start end left right)) old new
pair_taken p start end key left right old mid next last new k h z l r =
    let own_left = (l.right left refl).0 in
    let own_right = (r.right right refl).0 in
    pair_with p start end key left (Some (Pair start end left right)) old mid next last new k h z l
    (after (FitsSideOf p.right start end key) side_words right right_in (HasLeft p start end key left) behind_left behind_all (Some (Pair start end left right)) last new new (pair_right p start end key left k) r
    (done (HasBoth p start end key left right) (Pair start end left right) new
    (((((k, (h.right (start, end) refl).0, own_left.0, own_right.0, own_left.1 ∙ sym own_right.1), refl), own_left.1), refl), refl)
    (pair_only p start end key left right k)))

-- a row of a selection
pub selected : (p : Plan) (r : Option Given) (old new : Words) → p.kind ≡ Select → Takes (FitsRecord p.left) given_words r old new → TakesRow p (option_map {U = Row} Sel r) old new
selected p r old new k h = record { right = told r h; found = met }
  where
    told : (o : Option Given) → Takes (FitsRecord p.left) given_words o old new → (x : Row) → option_map {U = Row} Sel o ≡ Some x → FitsRow p x × (old ≡ row_words x ++ new)
    told None m x e = cc e
    told (Some g) m x e = let own = m.right g refl in subst (λ y. FitsRow p y × (old ≡ row_words y ++ new)) (same_some (Sel g) x e) ((k, own.0), own.1)

    met : (x : Row) (rest : Words) → FitsRow p x → old ≡ row_words x ++ rest → (option_map {U = Row} Sel r ≡ Some x) × (new ≡ rest)
    met (Sel g) rest q e = let own = h.found g rest q.1 e in (ap (option_map {U = Row} Sel) own.0, own.1)
    met (Agg start end group value) rest q e = absurd (subst (λ kind. FitsValue kind value) k q.2)
    met (Pair start end left right) rest q e = cc (k, q.0)
