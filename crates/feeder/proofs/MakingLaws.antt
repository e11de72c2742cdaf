-- The steps of a maker.
use Rattle.std.proofs.Common.{◌≡◌, ℕ, ◌+◌, ◌≤◌, Option, List, [], ◌∷◌, ◌++◌, length, take, drop, refl, sym, ap, ◌∙◌, arith, append_assoc, append-nil, length-append, subst, ◌==◌, if◌then◌else◌}
use Rattle.std.specs.Option.{option_to_list}
use Rattle.std.proofs.lemmas.List.{map-append, take-append-drop, nil_from_length, length-take, length-drop}
use Rattle.std.proofs.Math.Seq.{take-append_seam}
use Rattle.as_base.specs.declared.item.Item.{Item}
use Rattle.inbox.specs.declared.load.Load.{Load}
use Rattle.inbox.specs.declared.load.Load.TheVariants.{Line, Last}
use Rattle.inbox.specs.declared.load.Ending.TheVariants as ending
use Rattle.as_lineform.specs.Lines.{lines, items, rest}
use Rattle.as_lineform.specs.Cutter.{HasRead}
use Rattle.as_lineform.specs.Item.{item_of}
use Rattle.as_lineform.proofs.LineLaws.{lines_push}
use Rattle.feeder.specs.declared.maker.Phase.{Phase}
use Rattle.feeder.specs.declared.maker.Phase.TheVariants as phase
use Rattle.feeder.specs.Maker.{line_loads, IsReading, IsClosing, IsEnded, IsIn, IsUnread}

-- what a cutter does that takes so many of the bytes, which give these items
abbrev pub Cuts : Option (List ℕ) → Option (List ℕ) → List ℕ → List Item → Type 0
Cuts old new front its = (before : List ℕ) → HasRead old before → HasRead new (before ++ front) × (lines (before ++ front) ≡ lines before ++ its)

reading_cut : (beyond : ℕ) (old new : Option (List ℕ)) (front w : List ℕ) (most limit : ℕ) (given : List ℕ) (made : List Load) (its : List Item) →
    Cuts old new front its → IsReading beyond old (front ++ w) most limit given made → IsReading beyond new w most limit given (made ++ line_loads its)
reading_cut beyond old new front w most limit given made its cuts r =
    let next = cuts r.read r.cut in
    let seam : r.read ++ (front ++ w) ≡ (r.read ++ front) ++ w = sym (append_assoc r.read front w) in
    record {
      read = r.read ++ front;
      extra = r.extra;
      all = r.all ∙ ap (λ x. x ++ r.extra) seam;
      over = r.over;
      cut = next.0;
      loads = ap (λ x. x ++ line_loads its) r.loads ∙ sym (ap line_loads next.1 ∙ map-append Line (lines r.read) its);
      room = ap (λ x. length x + most) (sym seam) ∙ r.room;
    }

in_cut_apart : (p : Phase) (old new : Option (List ℕ)) (front w : List ℕ) (most limit : ℕ) (given : List ℕ) (left : Option (List ℕ)) (made : List Load) (its : List Item) →
    IsUnread p → Cuts old new front its → IsIn p old (front ++ w) most limit given left made → IsIn p new w most limit given left (made ++ line_loads its)
in_cut_apart phase.Reading old new front w most limit given left made its u cuts r = reading_cut 0 old new front w most limit given made its cuts r
in_cut_apart phase.Over old new front w most limit given left made its u cuts r = reading_cut 1 old new front w 0 limit given made its cuts r
in_cut_apart phase.Closing old new front w most limit given left made its u cuts r = absurd u
in_cut_apart (phase.Ended e) old new front w most limit given left made its u cuts r = absurd u

-- so many of the bytes that wait were cut
pub in_cut : (p : Phase) (old new : Option (List ℕ)) (used : ℕ) (w : List ℕ) (most limit : ℕ) (given : List ℕ) (left : Option (List ℕ)) (made : List Load) (its : List Item) (next : Option Load) →
    IsUnread p → Cuts old new (take used w) its → option_to_list next ≡ line_loads its
    → IsIn p old w most limit given left made → IsIn p new (drop used w) most limit given left (made ++ option_to_list next)
in_cut p old new used w most limit given left made its next u cuts is was =
    rw is
    (in_cut_apart p old new (take used w) (drop used w) most limit given left made its u cuts
    (subst (λ x. IsIn p old x most limit given left made) (sym (take-append-drop used w)) was))

-- more bytes add lines behind
lines_grow : (before bytes : List ℕ) → (more : List Item) × (lines (before ++ bytes) ≡ lines before ++ more)
lines_grow before [] = ([], ap lines (append-nil before) ∙ sym (append-nil (lines before)))
lines_grow before (b ∷ bytes) =
    let later = lines_grow (before ++ b ∷ []) bytes in
    let one : List Item = if b == 10 then item_of (rest before) ∷ [] else [] in (
      one ++ later.0,
      ap lines (sym (append_assoc before (b ∷ []) bytes)) ∙ later.1 ∙ ap (λ x. x ++ later.0) (lines_push before b) ∙ append_assoc (lines before) one later.0,
    )

reading_no_memory : (beyond : ℕ) (old : Option (List ℕ)) (w : List ℕ) (most limit : ℕ) (given : List ℕ) (left : Option (List ℕ)) (made : List Load) → beyond ≤ 1 →
    IsReading beyond old w most limit given made → IsEnded ending.NoMemory limit given left (made ++ Last ending.NoMemory ∷ [])
reading_no_memory beyond old w most limit given left made one r =
    let given_is : given ≡ r.read ++ (w ++ r.extra) = r.all ∙ append_assoc r.read w r.extra in
    let next = lines_grow r.read (w ++ r.extra) in
    record {
      its = lines r.read;
      end = (
        omega (arith, one, r.room, r.over, ap length r.all, length-append (r.read ++ w) r.extra),
        (next.0, ap lines given_is ∙ next.1),
      );
      loads = ap (λ x. x ++ Last ending.NoMemory ∷ []) r.loads;
    }

pub in_no_memory : (p : Phase) (old : Option (List ℕ)) (w : List ℕ) (most limit : ℕ) (given : List ℕ) (left : Option (List ℕ)) (made : List Load) →
    IsUnread p → IsIn p old w most limit given left made → IsEnded ending.NoMemory limit given left (made ++ Last ending.NoMemory ∷ [])
in_no_memory phase.Reading old w most limit given left made u r = reading_no_memory 0 old w most limit given left made (omega arith) r
in_no_memory phase.Over old w most limit given left made u r = reading_no_memory 1 old w 0 limit given left made (omega arith) r
in_no_memory phase.Closing old w most limit given left made u r = absurd u
in_no_memory (phase.Ended e) old w most limit given left made u r = absurd u

-- nothing waits, and nothing came beyond
pub reading_all : (old : Option (List ℕ)) (most limit : ℕ) (given : List ℕ) (made : List Load) (r : IsReading 0 old [] most limit given made) → given ≡ r.read
reading_all old most limit given made r =
    let none : r.extra ≡ [] = nil_from_length r.extra r.over in
    r.all ∙ ap (λ x. (r.read ++ []) ++ x) none ∙ append-nil (r.read ++ []) ∙ append-nil r.read

pub too_long : (old : Option (List ℕ)) (limit : ℕ) (given : List ℕ) (left : Option (List ℕ)) (made : List Load) →
    IsReading 1 old [] 0 limit given made → IsEnded ending.TooLong limit given left (made ++ Last ending.TooLong ∷ [])
too_long old limit given left made r =
    let size : length r.read ≡ limit = omega (arith, r.room, ap length (append-nil r.read)) in
    let given_is : given ≡ r.read ++ r.extra = r.all ∙ ap (λ x. x ++ r.extra) (append-nil r.read) in
    let front : take limit given ≡ r.read = ap (λ n. take n given) (sym size) ∙ ap (take (length r.read)) given_is ∙ take-append_seam r.read r.extra in
    record {
      its = lines (take limit given);
      end = (refl, omega (arith, ap length given_is, length-append r.read r.extra, r.over, size));
      loads = ap (λ x. x ++ Last ending.TooLong ∷ []) (r.loads ∙ ap (λ x. line_loads (lines x)) (sym front));
    }

pub reading_beyond : (old : Option (List ℕ)) (w w' : List ℕ) (most limit : ℕ) (given : List ℕ) (made : List Load) → w' ≡ take most w → length w ≡ most + 1 →
    IsReading 0 old [] most limit given made → IsReading 1 old w' 0 limit (given ++ w) made
reading_beyond old w w' most limit given made within size r =
    let same = reading_all old most limit given made r in
    let seam : w' ++ drop most w ≡ w = ap (λ x. x ++ drop most w) within ∙ take-append-drop most w in
    record {
      read = r.read;
      extra = drop most w;
      all = ap (λ x. x ++ w) same ∙ ap (λ x. r.read ++ x) (sym seam) ∙ sym (append_assoc r.read w' (drop most w));
      over = omega (arith, length-drop most w);
      cut = r.cut;
      loads = r.loads;
      room = omega (arith, r.room, length-append r.read w', ap length within, length-take most w, ap length (append-nil r.read));
    }

-- the end of the source, whose last line gave these items
abbrev pub Finishes : Option (List ℕ) → List Item → Type 0
Finishes old its = (bytes : List ℕ) → HasRead old bytes → items bytes ≡ lines bytes ++ its

-- all loads but the last were made
pub closing_ends : (limit : ℕ) (given : List ℕ) (left : Option (List ℕ)) (made : List Load) →
    IsClosing limit given left made → IsEnded ending.Whole limit given left (made ++ Last ending.Whole ∷ [])
closing_ends limit given left made r = record {
  its = items given;
  end = (refl, r.fits, r.empty);
  loads = ap (λ x. x ++ Last ending.Whole ∷ []) r.loads;
}
