-- What is decided of an item, by its refusal.
use Rattle.std.proofs.Common.{◌≡◌, ℕ, ◌+◌, cond, not, ◌&&◌, ◌⊎◌, inl, inr, Bool, true, false, true≢false, Some, None, is_none, List, length, refl, sym, ap, ap₂, ◌∙◌}
use Rattle.as_base.specs.declared.config.Config.{Config}
use Rattle.as_base.specs.declared.stream.StreamId.{StreamId}
use Rattle.as_base.specs.declared.item.Item.{Item}
use Rattle.as_base.specs.declared.answer.Word.{Word}
use Rattle.as_base.specs.declared.answer.Word.TheVariants as word
use Rattle.as_base.specs.declared.message.Change.{Change}
use Rattle.as_base.specs.declared.message.Msg.{Msg}
use Rattle.as_base.specs.declared.message.Msg.TheVariants as msg
use Rattle.as_base.specs.Config.{is_configured}
use Rattle.session.specs.declared.decision.Decision.TheVariants.{Pass, Told, Acted}
use Rattle.session.specs.Acceptance.{has_ended, is_open}
use Rattle.session.specs.Answers.{answered, or_else, acceptance_word, answer_to}
use Rattle.session.specs.Book.{stream_refusal, refusal}
use Rattle.session.specs.Decision.{IsDecided}
use Rattle.session.specs.Message.{message_of, message}

pub refused-message : (c : Config) (h : List Item) (x : Item) (w : Word) → refusal c h x ≡ Some w → message c h x ≡ None
refused-message c h x w e = ap (λ o. cond (is_none o) (message_of c h x) None) e

pub refused-answer : (c : Config) (h : List Item) (x : Item) (w : Word) → refusal c h x ≡ Some w → answer_to c h x ≡ Some (record { line = length h + 1; word = w })
refused-answer c h x w e = ap (λ o. answered h (or_else o (acceptance_word c h x))) e

pub accepted-message : (c : Config) (h : List Item) (x : Item) → refusal c h x ≡ None → message c h x ≡ message_of c h x
accepted-message c h x e = ap (λ o. cond (is_none o) (message_of c h x) None) e

pub accepted-answer : (c : Config) (h : List Item) (x : Item) → refusal c h x ≡ None → answer_to c h x ≡ answered h (acceptance_word c h x)
accepted-answer c h x e = ap (λ o. answered h (or_else o (acceptance_word c h x))) e

-- a refused item is told its word
pub told : (c : Config) (h : List Item) (x : Item) (w : Word) (line : ℕ) → line ≡ length h + 1 → refusal c h x ≡ Some w → IsDecided c h x (Told (record { line = line; word = w }))
told c h x w line at e = (refused-message c h x w e, refused-answer c h x w e ∙ ap (λ n. Some (record { line = n; word = w })) (sym at))

-- an accepted item without a word passes on
pub passed : (c : Config) (h : List Item) (x : Item) (m : Msg) → refusal c h x ≡ None → acceptance_word c h x ≡ None → message_of c h x ≡ Some m → IsDecided c h x (Pass m)
passed c h x m e quiet is = (accepted-message c h x e ∙ is, accepted-answer c h x e ∙ ap (answered h) quiet)

-- an accepted item with a word
pub acted : (c : Config) (h : List Item) (x : Item) (w : Word) (change : Change) (line : ℕ) → line ≡ length h + 1 → refusal c h x ≡ None → acceptance_word c h x ≡ Some w → message_of c h x ≡ Some (msg.Change change)
    → IsDecided c h x (Acted (record { line = line; word = w }) change)
acted c h x w change line at e says is =
    (accepted-message c h x e ∙ is, accepted-answer c h x e ∙ ap (answered h) says ∙ ap (λ n. Some (record { line = n; word = w })) (sym at))

-- why an item of a stream is refused: the stream is not open, or the item is behind
pub refused-why : (c : Config) (h : List Item) (s : StreamId) (behind : Bool) (last w : Word) → stream_refusal c h s behind last ≡ Some w → (is_open c h s ≡ false) ⊎ (behind ≡ true)
refused-why c h s behind last w e = go (is_configured c s) (has_ended c h s) behind e
  where
    go : (a b d : Bool) → cond (not a) (Some word.Stranger) (cond b (Some word.Ended) (cond d (Some last) None)) ≡ Some w → ((a && not b) ≡ false) ⊎ (d ≡ true)
    go false b d e = inl refl
    go true true d e = inl refl
    go true false true e = inr refl
    go true false false e = absurd (true≢false (ap is_none e))

-- an item of a stream that is not refused
pub record Open (c : Config) (h : List Item) (s : StreamId) (behind : Bool) : Type 0 where
  pub open_is : is_open c h s ≡ true
  pub going : has_ended c h s ≡ false
  pub ahead : behind ≡ false

pub accepted-open : (c : Config) (h : List Item) (s : StreamId) (behind : Bool) (last : Word) → stream_refusal c h s behind last ≡ None → Open c h s behind
accepted-open c h s behind last e = go (is_configured c s) (has_ended c h s) behind refl refl refl e
  where
    go : (a b d : Bool) → is_configured c s ≡ a → has_ended c h s ≡ b → behind ≡ d → cond (not a) (Some word.Stranger) (cond b (Some word.Ended) (cond d (Some last) None)) ≡ None → Open c h s behind
    go false b d p q r e = absurd (true≢false (sym (ap is_none e)))
    go true true d p q r e = absurd (true≢false (sym (ap is_none e)))
    go true false true p q r e = absurd (true≢false (sym (ap is_none e)))
    go true false false p q r e = record { open_is = ap₂ (λ a b. a && not b) p q; going = q; ahead = r }
