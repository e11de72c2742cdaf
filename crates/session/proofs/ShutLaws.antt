-- The ends that follow the items: one after another they are those of `shut`, and none has an answer.
use Rattle.std.proofs.Common.{◌≡◌, ◌&&◌, not, eqb, Bool, true, false, cond, Some, None, List, [], ◌∷◌, ◌++◌, refl, sym, ap, ◌∙◌, append_assoc, append-nil}
use Rattle.std.specs.List.{filter, list_any}
use Rattle.std.proofs.lemmas.List.Elements.{filter-append}
use Rattle.std.specs.Option.{option_to_list}
use Rattle.as_base.specs.Stream.{place_of}
use Rattle.as_base.specs.Config.{is_configured}
use Rattle.as_base.specs.declared.answer.Word.TheVariants.{Stranger, Ended}
use Rattle.as_base.specs.declared.config.Config.{Config}
use Rattle.as_base.specs.declared.item.Item.{Item}
use Rattle.as_base.specs.declared.item.Item.TheVariants.{End}
use Rattle.as_base.specs.declared.stream.StreamId.{StreamId}
use Rattle.as_base.specs.declared.stream.StreamId.TheVariants.{A, B, C, D}
use Rattle.session.specs.Acceptance.{is_on, is_end, up_to_end, has_ended, is_open}
use Rattle.session.specs.Answers.{answers, answer_to, answered, or_else}
use Rattle.session.specs.Shut.{end_of, shut}
use Rattle.session.proofs.WalkLaws.{answers-push}

-- the end of another stream ends no stream
open-other : (c : Config) (h : List Item) (r s : StreamId) → eqb (place_of r) (place_of s) ≡ false → is_open c (h ++ End r ∷ []) s ≡ is_open c h s
open-other c h r s other = ap (λ l. is_configured c s && not (list_any is_end (cond (is_configured c s) (up_to_end l) []))) same
  where
    same : filter (is_on s) (h ++ End r ∷ []) ≡ filter (is_on s) h
    same = filter-append (is_on s) h (End r ∷ []) ∙ ap (λ b. filter (is_on s) h ++ cond b (End r ∷ []) []) other ∙ append-nil (filter (is_on s) h)

end_of-other : (c : Config) (h : List Item) (r s : StreamId) → eqb (place_of r) (place_of s) ≡ false → end_of c (h ++ end_of c h r) s ≡ end_of c h s
end_of-other c h r s other = go (is_open c h r)
  where
    go : (b : Bool) → end_of c (h ++ cond b (End r ∷ []) []) s ≡ end_of c h s
    go true = ap (λ b. cond b (End s ∷ []) []) (open-other c h r s other)
    go false = ap (λ l. end_of c l s) (append-nil h)

-- The ends of the four streams, one after another, are those that follow the items.
pub ends-shut : (c : Config) (h : List Item)
    → let a = h ++ end_of c h A in let b = a ++ end_of c a B in let d = b ++ end_of c b C in d ++ end_of c d D ≡ shut c h
ends-shut c h =
    let a : List Item = h ++ end_of c h A in
    let b : List Item = a ++ end_of c a B in
    let d : List Item = b ++ end_of c b C in
    let eb : end_of c a B ≡ end_of c h B = end_of-other c h A B refl in
    let ec : end_of c b C ≡ end_of c h C = end_of-other c a B C refl ∙ end_of-other c h A C refl in
    let ed : end_of c d D ≡ end_of c h D = end_of-other c b C D refl ∙ end_of-other c a B D refl ∙ end_of-other c h A D refl in
    ap (λ l. d ++ l) ed
    ∙ ap (λ l. (b ++ l) ++ end_of c h D) ec
    ∙ ap (λ l. ((a ++ l) ++ end_of c h C) ++ end_of c h D) eb
    ∙ grouped h (end_of c h A) (end_of c h B) (end_of c h C) (end_of c h D)
  where
    grouped : (h a b d e : List Item) → (((h ++ a) ++ b) ++ d) ++ e ≡ h ++ (a ++ (b ++ (d ++ (e ++ []))))
    grouped h a b d e = append_assoc ((h ++ a) ++ b) d e ∙ append_assoc (h ++ a) b (d ++ e) ∙ append_assoc h a (b ++ (d ++ e)) ∙ ap (λ l. h ++ (a ++ (b ++ (d ++ l)))) (sym (append-nil e))

-- an open stream's end is accepted without an answer
pub answer_to-end : (c : Config) (h : List Item) (s : StreamId) → is_open c h s ≡ true → answer_to c h (End s) ≡ None
answer_to-end c h s o = go (is_configured c s) (has_ended c h s) o
  where
    go : (a b : Bool) → (a && not b) ≡ true → answered h (or_else (cond (not a) (Some Stranger) (cond b (Some Ended) None)) None) ≡ None
    go true false e = refl
    go true true e = cc e
    go false b e = cc e

pub answers-end : (c : Config) (h : List Item) (s : StreamId) → answers c (h ++ end_of c h s) ≡ answers c h
answers-end c h s = go (is_open c h s) refl
  where
    go : (b : Bool) → is_open c h s ≡ b → answers c (h ++ cond b (End s ∷ []) []) ≡ answers c h
    go true o = answers-push c h (End s) ∙ ap (λ a. answers c h ++ option_to_list a) (answer_to-end c h s o) ∙ append-nil (answers c h)
    go false o = ap (answers c) (append-nil h)

-- The ends that follow the items have no answer.
pub answers-shut : (c : Config) (h : List Item) → answers c (shut c h) ≡ answers c h
answers-shut c h =
    let a : List Item = h ++ end_of c h A in
    let b : List Item = a ++ end_of c a B in
    let d : List Item = b ++ end_of c b C in
    sym (ap (answers c) (ends-shut c h)) ∙ answers-end c d D ∙ answers-end c b C ∙ answers-end c a B ∙ answers-end c h A
