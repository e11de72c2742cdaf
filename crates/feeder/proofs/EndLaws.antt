-- What a maker has made is loads of lines, and then at most one last load; where that was taken, all was offered and taken.
use Rattle.std.proofs.Common.{◌≡◌, ◌⊎◌, inl, inr, ⊎_elim, ℕ, zero, suc, ◌<◌, ◌≤◌, ◌+◌, true, false, Option, None, Some, List, [], ◌∷◌, ◌++◌, length, take, refl, sym, ap, ◌∙◌, arith, length-append, append-nil}
use Rattle.std.specs.Option.{option_to_list}
use Rattle.std.specs.List.{list_any}
use Rattle.std.proofs.lemmas.Bool.{false≢true}
use Rattle.std.proofs.lemmas.List.{length-map, length-take, take-append-le, take_all}
use Rattle.as_base.specs.declared.item.Item.{Item}
use Rattle.as_lineform.specs.Lines.{lines, items}
use Rattle.inbox.specs.declared.load.Load.{Load}
use Rattle.inbox.specs.declared.load.Load.TheVariants.{Line, Last}
use Rattle.inbox.specs.declared.load.Ending.{Ending}
use Rattle.feeder.specs.declared.maker.Maker.{Maker}
use Rattle.feeder.specs.declared.maker.Phase.{Phase}
use Rattle.feeder.specs.declared.maker.Phase.TheVariants as phase
use Rattle.feeder.specs.Maker.{line_loads, IsEnd, IsIn, HasMade, failed_at, failed_in}
use Rattle.feeder.specs.Loads.{is_last, lines_in, ending_in}

-- All loads were made: those of lines, and the last, which says how the source ended; so many pulls failed.
pub record IsDone (limit : ℕ) (given : List ℕ) (failed : ℕ) (left : Option (List ℕ)) (made : List Load) : Type 0 where
  pub last : Ending
  pub its : List Item
  pub end : IsEnd last limit given left its
  pub loads : made ≡ line_loads its ++ Last last ∷ []
  pub faults : failed ≡ failed_at last

-- all are loads of lines
abbrev pub AreLines : List Load → Type 0
AreLines made = (its : List Item) × (made ≡ line_loads its)

done_or_lines : (p : Phase) (cutter : Option (List ℕ)) (w : List ℕ) (most limit : ℕ) (given : List ℕ) (failed : ℕ) (left : Option (List ℕ)) (made : List Load) →
    IsIn p cutter w most limit given left made → failed ≡ failed_in p → IsDone limit given failed left made ⊎ AreLines made
done_or_lines phase.Reading cutter w most limit given failed left made r told = inr (lines r.read, r.loads)
done_or_lines phase.Over cutter w most limit given failed left made r told = inr (lines r.read, r.loads)
done_or_lines phase.Closing cutter w most limit given failed left made r told = inr (items given, r.loads)
done_or_lines (phase.Ended e) cutter w most limit given failed left made r told =
    inl (record { last = e; its = r.its; end = r.end; loads = r.loads; faults = told })

-- a maker has made all loads, or loads of lines alone
pub made_loads : (limit : ℕ) (given : List ℕ) (failed : ℕ) (left : Option (List ℕ)) (m : Maker) (offered : List Load) → HasMade limit given failed left m offered →
    IsDone limit given failed left (offered ++ option_to_list m.next) ⊎ AreLines (offered ++ option_to_list m.next)
made_loads limit given failed left m offered made =
    done_or_lines m.phase m.cutter m.waiting m.most limit given failed left (offered ++ option_to_list m.next) made.loads made.faults

last_at : (its : List Item) (e : Ending) (k : ℕ) → list_any is_last (take k (line_loads its ++ Last e ∷ [])) ≡ true → length its < k
last_at its e zero has = absurd (false≢true has)
last_at [] e (suc k) has = omega arith
last_at (x ∷ its) e (suc k) has = let more = last_at its e k has in omega (arith, more)

none_in : (its : List Item) (k : ℕ) → list_any is_last (take k (line_loads its)) ≡ false
none_in its zero = refl
none_in [] (suc k) = refl
none_in (x ∷ its) (suc k) = none_in its k

none_waits : (next : Option Load) → length (option_to_list next) ≡ 0 → option_to_list next ≡ []
none_waits None h = refl
none_waits (Some x) h = absurd (omega (arith, h))

-- These are the first of what was offered, and a last load is among them: all that was offered, and all was made.
pub all_taken : (front : List Load) (limit : ℕ) (given : List ℕ) (failed : ℕ) (left : Option (List ℕ)) (m : Maker) (offered : List Load) → HasMade limit given failed left m offered →
    front ≡ take (length front) offered → list_any is_last front ≡ true → (front ≡ offered) × IsDone limit given failed left offered
all_taken front limit given failed left m offered made prefix has =
    let n = length front in
    let next = option_to_list m.next in
    let within : n ≤ length offered = omega (arith, ap length prefix, length-take n offered) in
    let first : front ≡ take n (offered ++ next) = prefix ∙ sym (take-append-le n offered next within) in
    ⊎_elim
    (λ (done : IsDone limit given failed left (offered ++ next)).
    let more : length done.its < n = last_at done.its done.last n (sym (ap (list_any is_last) (first ∙ ap (take n) done.loads)) ∙ has) in
    let size : length offered + length next ≡ length done.its + 1 =
    sym (length-append offered next) ∙ ap length done.loads ∙ length-append (line_loads done.its) (Last done.last ∷ []) ∙ ap (λ k. k + 1) (length-map done.its Line) in
    let same : offered ++ next ≡ offered = ap (λ l. offered ++ l) (none_waits m.next (omega (arith, within, more, size))) ∙ append-nil offered in (
      prefix ∙ take_all n offered (omega (arith, within, more, size)),
      record { last = done.last; its = done.its; end = done.end; loads = sym same ∙ done.loads; faults = done.faults },
    ))
    (λ (lines : AreLines (offered ++ next)). absurd (false≢true (sym (none_in lines.0 n) ∙ sym (ap (list_any is_last) (first ∙ ap (take n) lines.1)) ∙ has)))
    (made_loads limit given failed left m offered made)

-- what loads of lines and a last load say
pub lines_all : (its : List Item) (e : Ending) → lines_in (line_loads its ++ Last e ∷ []) ≡ its
lines_all [] e = refl
lines_all (x ∷ its) e = ap (λ l. x ∷ l) (lines_all its e)

pub ending_all : (its : List Item) (e : Ending) → ending_in (line_loads its ++ Last e ∷ []) ≡ Some e
ending_all [] e = refl
ending_all (x ∷ its) e = ending_all its e
