-- What several calls append to a buffer.
use Rattle.std.proofs.Common.{◌≡◌, ℕ, Result, Ok, Err, List, [], ◌++◌, refl, sym, ap, ◌∙◌, append_assoc, append-nil}
use Rattle.std.specs.Result.{IsErr}
use Rattle.as_words.specs.Prefix.{IsPrefix}
use Rattle.as_words.specs.Appends.{AppendsPrefix}

-- text was appended, and then more of it, or a prefix of that
pub AppendsPrefix-after : {X E : Type 0} (r : Result X E) (old now new text more all : List ℕ) → now ≡ old ++ text → all ≡ text ++ more → AppendsPrefix r now new more → AppendsPrefix r old new all
AppendsPrefix-after (Ok x) old now new text more all e a h = h ∙ ap (λ xs. xs ++ more) e ∙ append_assoc old text more ∙ ap (λ xs. old ++ xs) (sym a)
AppendsPrefix-after (Err x) old now new text more all e a h =
    (text ++ h.0, (h.1.0, a ∙ ap (λ xs. text ++ xs) h.1.1 ∙ sym (append_assoc text h.0 h.1.0)), h.2 ∙ ap (λ xs. xs ++ h.0) e ∙ append_assoc old text h.0)

-- text was appended, then a prefix of more of it, and there a `?` ended the call
pub AppendsPrefix-stopped : {X E : Type 0} (r : Result X E) (old now new text more behind all : List ℕ) → IsErr r → now ≡ old ++ text → all ≡ text ++ more ++ behind
    → (front : List ℕ) × IsPrefix front more × (new ≡ now ++ front) → AppendsPrefix r old new all
AppendsPrefix-stopped (Ok x) old now new text more behind all h e a p = cc h
AppendsPrefix-stopped (Err x) old now new text more behind all h e a p = (
  text ++ p.0,
  (p.1.0 ++ behind, a ∙ ap (λ xs. text ++ xs ++ behind) p.1.1 ∙ ap (λ xs. xs ++ behind) (sym (append_assoc text p.0 p.1.0)) ∙ append_assoc (text ++ p.0) p.1.0 behind),
  p.2 ∙ ap (λ xs. xs ++ p.0) e ∙ append_assoc old text p.0,
)

-- a prefix of the first part of a text, where a `?` ended the call
pub AppendsPrefix-within : {X E : Type 0} (r : Result X E) (old new text behind : List ℕ) → IsErr r → (front : List ℕ) × IsPrefix front text × (new ≡ old ++ front) → AppendsPrefix r old new (text ++ behind)
AppendsPrefix-within r old new text behind h p = AppendsPrefix-stopped r old old new [] text behind (text ++ behind) h (sym (append-nil old)) refl p
