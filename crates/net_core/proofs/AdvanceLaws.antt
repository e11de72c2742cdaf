-- Each part is sent one advance for each accepted watermark or end.
use Rattle.std.proofs.Common.{◌≡◌, ℕ, ◌+◌, ◌&&◌, Bool, true, false, cond, ⊎_elim, Option, Some, None, is_none, List, [], ◌∷◌, ◌++◌, length, count_by, refl, sym, ap, ◌∙◌, length-append, arith}
use Rattle.std.specs.Result.{result_ok}
use Rattle.std.proofs.lemmas.List.Sums.{sum_by-append}
use Rattle.as_base.specs.declared.config.Config.{Config}
use Rattle.as_base.specs.declared.item.Item.{Item}
use Rattle.as_base.specs.declared.item.Item.TheVariants.{Rec, Mark, End, Create, Delete, Bad}
use Rattle.as_base.specs.declared.message.Msg.TheVariants as msg
use Rattle.as_base.specs.declared.query.Plan.{Plan}
use Rattle.session.specs.Book.{refusal}
use Rattle.session.specs.Message.{opening, message_of}
use Rattle.session.specs.Planned.{plan_for}
use Rattle.session.specs.Prints.{is_mark_or_end}
use Rattle.session.proofs.DecisionLaws.{refused-message, accepted-message}
use Rattle.session.proofs.HistoryLaws.{by_push}
use Rattle.session.proofs.ViewLaws.{refused_or_not}
use Rattle.session.proofs.WalkLaws.{walk-push}
use Rattle.net_core.specs.Due.{due, due_at, dues}
use Rattle.net_core.specs.Machine.{is_advance}
use Rattle.net_core.specs.Sent.{goes_to, addressed, sent_by, sent}
use Rattle.net_core.proofs.SentLaws.{sent-push}

accepted-advance : (c : Config) (h : List Item) (x : Item) (p : ℕ) → count_by is_advance (addressed c p (message_of c h x)) ≡ length (cond (is_mark_or_end x) (due c h x ∷ []) [])
accepted-advance c h (Rec g) p = go (goes_to c p (record { seq = length h + 1; given = g }))
  where
    go : (b : Bool) → count_by is_advance (cond b (msg.Rec (record { seq = length h + 1; given = g }) ∷ []) []) ≡ 0
    go true = refl
    go false = refl
accepted-advance c h (Mark s t) p = refl
accepted-advance c h (End s) p = refl
accepted-advance c h (Create text) p = go (result_ok (plan_for c text))
  where
    go : (o : Option Plan) → count_by is_advance (addressed c p (opening c h o)) ≡ 0
    go None = refl
    go (Some plan) = refl
accepted-advance c h (Delete n) p = refl
accepted-advance c h (Bad cause) p = refl

item-advance : (c : Config) (h : List Item) (x : Item) (p : ℕ) → count_by is_advance (sent_by c h x p) ≡ length (due_at c h x)
item-advance c h x p =
    ⊎_elim
    (λ r. ap (λ o. count_by is_advance (addressed c p o)) (refused-message c h x r.0 r.1) ∙ sym (ap (λ o. length (cond (is_none o && is_mark_or_end x) (due c h x ∷ []) [])) r.1))
    (λ e. ap (λ o. count_by is_advance (addressed c p o)) (accepted-message c h x e) ∙ accepted-advance c h x p
    ∙ sym (ap (λ o. length (cond (is_none o && is_mark_or_end x) (due c h x ∷ []) [])) e))
    (refused_or_not (refusal c h x))

-- as many advances as watermarks and ends that were accepted
pub advances-sent : (c : Config) (h : List Item) (p : ℕ) → count_by is_advance (sent c h p) ≡ length (dues c h)
advances-sent c h p = by_push (λ l. count_by is_advance (sent c l p) ≡ length (dues c l)) refl more h
  where
    more : (l : List Item) (x : Item) → count_by is_advance (sent c l p) ≡ length (dues c l) → count_by is_advance (sent c (l ++ x ∷ []) p) ≡ length (dues c (l ++ x ∷ []))
    more l x old =
        let a = ap (count_by is_advance) (sent-push c l x p) ∙ sum_by-append (λ m. cond (is_advance m) 1 0) (sent c l p) (sent_by c l x p) in
        let b = item-advance c l x p in
        let d = ap length (walk-push (due_at c) [] l x) ∙ length-append (dues c l) (due_at c l x) in
        omega (arith, a, b, d, old)
