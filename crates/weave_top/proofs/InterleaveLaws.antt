-- The lines of parcels interleave those of their feeders, and so do the first of them.
use Rattle.std.proofs.Common.{◌≡◌, ◌≢◌, ℕ, ◌<◌, ◌==◌, ⊎_elim, Bool, true, false, cond, List, [], ◌∷◌, ◌++◌, refl, sym, ap, ◌∙◌}
use Rattle.std.proofs.lemmas.Bool.{cond-true, cond-false, eq-eqb, ne_eqb}
use Rattle.std.proofs.lemmas.Bool.Decides.{eqb_tells}
use Rattle.std.proofs.lemmas.List.Concat.{flat_map-append}
use Rattle.as_words.specs.Prefix.{IsPrefix}
use Rattle.as_base.specs.declared.item.Item.{Item}
use Rattle.inbox.specs.declared.load.Load.{Load}
use Rattle.inbox.specs.declared.load.Load.TheVariants.{Line, Last}
use Rattle.inbox.specs.Roles.{from, AllFed}
use Rattle.inbox.specs.Sound.{IsSound}
use Rattle.feeder.specs.Loads.{line_in, lines_in, lines_of}
use Rattle.weave_top.specs.Interleave.{Interleaves}

-- ---- what is from one feeder

-- the feeder's own parcel comes first
pub from-own : (n : ℕ) (x : Load) (t : List (ℕ × Load)) → from n ((n, x) ∷ t) ≡ x ∷ from n t
from-own n x t = cond-true (n == n) (x ∷ from n t) (from n t) (eq-eqb n n refl)

-- that of another does not count
pub from-other : (n i : ℕ) (x : Load) (t : List (ℕ × Load)) → i ≢ n → from i ((n, x) ∷ t) ≡ from i t
from-other n i x t other = cond-false (n == i) (x ∷ from i t) (from i t) (ne_eqb n i (λ e. other (sym e)))

pub from-append : (i : ℕ) (a b : List (ℕ × Load)) → from i (a ++ b) ≡ from i a ++ from i b
from-append i [] b = refl
from-append i (p ∷ a) b = by (p.0 == i) (from i (a ++ b)) (from-append i a b)
  where
    by : (own : Bool) (all : List Load) → all ≡ from i a ++ from i b
        → cond own (p.1 ∷ all) all ≡ cond own (p.1 ∷ from i a) (from i a) ++ from i b
    by true all is = ap (λ l. p.1 ∷ l) is
    by false all is = is

-- a last load adds no line
last_adds : (n i : ℕ) (x : Load) (t : List (ℕ × Load)) → line_in x ≡ [] → lines_in (from i ((n, x) ∷ t)) ≡ lines_in (from i t)
last_adds n i x t none = by (n == i)
  where
    by : (own : Bool) → lines_in (cond own (x ∷ from i t) (from i t)) ≡ lines_in (from i t)
    by true = ap (λ l. l ++ lines_in (from i t)) none
    by false = refl

-- ---- all parcels

-- the lists are the lines of the feeders 1 to 5 among the parcels
abbrev pub AreLines : (ℕ → List Item) → List (ℕ × Load) → Type 0
AreLines lists t = (i : ℕ) → 0 < i → i < 6 → lists i ≡ lines_in (from i t)

-- what is left of the lists after a line of feeder n
left_of : ℕ → List Item → (ℕ → List Item) → ℕ → List Item
left_of n mine lists i = cond (i == n) mine (lists i)

left_same : (n : ℕ) (mine : List Item) (lists : ℕ → List Item) → left_of n mine lists n ≡ mine
unfolding left_of
left_same n mine lists = cond-true (n == n) mine (lists n) (eq-eqb n n refl)

left_other : (n : ℕ) (mine : List Item) (lists : ℕ → List Item) (i : ℕ) → i ≢ n → left_of n mine lists i ≡ lists i
unfolding left_of
left_other n mine lists i other = cond-false (i == n) mine (lists i) (ne_eqb i n other)

left_lines : (n : ℕ) (x : Item) (t : List (ℕ × Load)) (lists : ℕ → List Item) → AreLines lists ((n, Line x) ∷ t)
    → AreLines (left_of n (lines_in (from n t)) lists) t
left_lines n x t lists are = λ i low high.
    let mine = lines_in (from n t) in
    ⊎_elim
    (λ (is : ((i == n) ≡ true) × (i ≡ n)). ap (left_of n mine lists) is.1 ∙ left_same n mine lists ∙ ap (λ k. lines_in (from k t)) (sym is.1))
    (λ (is : ((i == n) ≡ false) × (i ≢ n)). left_other n mine lists i is.1 ∙ are i low high ∙ ap lines_in (from-other n i (Line x) t is.1))
    (eqb_tells i n)

-- The lines of parcels of feeders 1 to 5 interleave those of each.
pub interleaves : (t : List (ℕ × Load)) (lists : ℕ → List Item) → AllFed IsSound t → AreLines lists t → Interleaves (lines_of t) lists
interleaves [] lists fed are = are
interleaves ((n, Last e) ∷ t) lists fed are = interleaves t lists fed.3 (λ i low high. are i low high ∙ last_adds n i (Last e) t refl)
interleaves ((n, Line x) ∷ t) lists fed are =
    let mine = lines_in (from n t) in (
      n,
      fed.0,
      fed.1,
      (
        left_of n mine lists,
        are n fed.0 fed.1 ∙ ap lines_in (from-own n (Line x) t) ∙ ap (λ l. x ∷ l) (sym (left_same n mine lists)),
        (λ i other. sym (left_other n mine lists i other)),
        interleaves t (left_of n mine lists) fed.3 (left_lines n x t lists are),
      ),
    )

pub taken_interleaves : (t : List (ℕ × Load)) → AllFed IsSound t → Interleaves (lines_of t) (λ i. lines_in (from i t))
taken_interleaves t fed = interleaves t (λ i. lines_in (from i t)) fed (λ i low high. refl)

-- ---- the first of the parcels

pub fed-front : (a b : List (ℕ × Load)) → AllFed IsSound (a ++ b) → AllFed IsSound a
fed-front [] b fed = tt
fed-front (p ∷ a) b fed = (fed.0, fed.1, fed.2, fed-front a b fed.3)

-- Parcels were cut in two: the journal is the lines of those before.
pub record IsCut (journal : List Item) (t : List (ℕ × Load)) : Type 0 where
  pub before : List (ℕ × Load)
  pub after : List (ℕ × Load)
  pub all : t ≡ before ++ after
  pub lines : journal ≡ lines_of before

cut_more : (p : ℕ × Load) (journal more : List Item) (t : List (ℕ × Load)) → more ≡ line_in p.1 ++ journal → IsCut journal t
    → IsCut more (p ∷ t)
cut_more p journal more t is cut = record {
  before = p ∷ cut.before;
  after = cut.after;
  all = ap (λ l. p ∷ l) cut.all;
  lines = is ∙ ap (λ l. line_in p.1 ++ l) cut.lines;
}

-- where first lines end, the parcels can be cut
pub cut_at : (t : List (ℕ × Load)) (journal rest : List Item) → lines_of t ≡ journal ++ rest → IsCut journal t
cut_at t [] rest is = record { before = []; after = t; all = refl; lines = refl }
cut_at [] (x ∷ journal) rest is = absurd (cc)
cut_at ((n, Last e) ∷ t) (x ∷ journal) rest is = cut_more (n, Last e) (x ∷ journal) (x ∷ journal) t refl (cut_at t (x ∷ journal) rest is)
cut_at ((n, Line y) ∷ t) (x ∷ journal) rest is =
    let first : x ≡ y = cc in
    let others : lines_of t ≡ journal ++ rest = cc in
    cut_more (n, Line y) journal (x ∷ journal) t (ap (λ z. z ∷ journal) first) (cut_at t journal rest others)

-- the lines of a feeder among the first parcels are the first of its lines
pub front_lines : (a b : List (ℕ × Load)) (i : ℕ) → IsPrefix (lines_in (from i a)) (lines_in (from i (a ++ b)))
front_lines a b i = (lines_in (from i b), ap lines_in (from-append i a b) ∙ flat_map-append line_in (from i a) (from i b))
