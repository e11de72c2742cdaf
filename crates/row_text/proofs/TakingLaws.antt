-- What a word spells, and what is taken off the front of words: one word, one part after another, and nothing.
use Rattle.std.proofs.Common.{◌≡◌, ◌↔◌, ℕ, suc, ◌^◌, ◌<◌, Bool, true, false, ℤ, Option, Some, None, List, [], ◌∷◌, ◌++◌, map, decimal, refl, sym, ap, ap₂, subst, ◌∙◌, append_assoc, arith, option_map, IsTrue}
use Rattle.std.specs.Bool.{then_some}
use Rattle.std.specs.Fmt.{signed_decimal}
use Rattle.as_words.specs.Number.{IsSigned, IsWide, natural, integer, wide_integer}
use Rattle.as_words.proofs.NumberLaws.{natural-Some, spells-natural, spells-integer, integer-spelled}
use Rattle.as_words.proofs.WideLaws.{spells-wide, wide-spelled}
use Rattle.row_text.specs.Taking.{natural_words, Spells, Takes, FitsValues, integer_words}

-- a word of a list, and the words
abbrev pub Words : Type 0
Words = List (List ℕ)

pub same_some : {X : Type 0} (x y : X) → Some x ≡ Some y → x ≡ y
same_some x y e = cc e

-- what the readers of one word read
pub natural_spelled : (r : Option ℕ) (word : List ℕ) → r ≡ natural (2 ^ 64) word → Spells (λ n. n < 2 ^ 64) (λ n. decimal n) r word
natural_spelled r word e = record {
  right = λ n h. spells-natural (2 ^ 64) n word (sym e ∙ h);
  found = λ n l w. e ∙ natural-Some (2 ^ 64) n word l l w;
}

integer_spelled : (r : Option ℤ) (word : List ℕ) → r ≡ integer word → Spells IsSigned signed_decimal r word
integer_spelled r word e = record {
  right = λ z h. spells-integer word z (sym e ∙ h);
  found = λ z h w. e ∙ ap integer w ∙ integer-spelled z h;
}

pub wide_spelled : (r : Option ℤ) (word : List ℕ) → r ≡ wide_integer word → Spells IsWide signed_decimal r word
wide_spelled r word e = record {
  right = λ z h. spells-wide word z (sym e ∙ h);
  found = λ z h w. e ∙ ap wide_integer w ∙ wide-spelled z h;
}

-- one word is taken
one : {X : Type 0} (P : X → Type 0) (s : X → List ℕ) (r : Option X) (word : List ℕ) (old new : Words) → Spells P s r word → old ≡ word ∷ new → Takes P (λ x. s x ∷ []) r old new
one P s r word old new h e = record {
  right = λ x k. let own = h.right x k in (own.0, e ∙ ap (λ w. w ∷ new) own.1);
  found = λ x rest p k.
      let both : word ∷ new ≡ s x ∷ rest = sym e ∙ k in
      let first : word ≡ s x = cc both in
      let behind : new ≡ rest = cc both in
      (h.found x p first, behind);
}

-- a word that was read is taken
pub natural_taken : (r : Option ℕ) (word : List ℕ) (old new : Words) → r ≡ natural (2 ^ 64) word → old ≡ word ∷ new → Takes (λ n. n < 2 ^ 64) natural_words r old new
natural_taken r word old new e w = one (λ n. n < 2 ^ 64) (λ n. decimal n) r word old new (natural_spelled r word e) w

pub integer_taken : (r : Option ℤ) (word : List ℕ) (old new : Words) → r ≡ integer word → old ≡ word ∷ new → Takes IsSigned integer_words r old new
integer_taken r word old new e w = one IsSigned signed_decimal r word old new (integer_spelled r word e) w

-- what was taken is kept where it passes a test
pub kept : {X : Type 0} (P Q : X → Type 0) (words_of : X → Words) (x : X) (test : Bool) (old new : Words) → Takes P words_of (Some x) old new
    → IsTrue test ↔ Q x → Takes (λ y. P y × Q y) words_of (then_some test x) old new
kept P Q words_of x true old new h holds = record {
  right = λ y e. let own = h.right y e in ((own.0, subst Q (same_some x y e) (holds.0 refl)), own.1);
  found = λ y rest p e. h.found y rest p.0 e;
}
kept P Q words_of x false old new h holds = record {
  right = λ y e. cc e;
  found = λ y rest p e. let same = h.found y rest p.0 e in absurd (cc (holds.1 (subst Q (sym (same_some x y same.0)) p.1)));
}

-- where the first part of what is asked for is not there, all of it is not
pub stopped : {A X : Type 0} (P : A → Type 0) (words_of : A → Words) (part : X → A) (Q : X → Type 0) (all behind : X → Words) (old new new' : Words)
    → ((x : X) → Q x → P (part x) × (all x ≡ words_of (part x) ++ behind x)) → Takes P words_of None old new → Takes Q all None old new'
stopped P words_of part Q all behind old new new' parts h = record {
  right = λ x e. cc e;
  found = λ x rest q e.
      let own = parts x q in
      let none = h.found (part x) (behind x ++ rest) own.0 (e ∙ ap (λ ws. ws ++ rest) own.1 ∙ append_assoc (words_of (part x)) (behind x) rest) in
      absurd (cc none.0);
}

-- after the first part, what is asked for is taken where its other words are
pub after : {A X : Type 0} (P : A → Type 0) (words_of : A → Words) (a : A) (part : X → A) (Q : X → Type 0) (all behind : X → Words) (r : Option X) (old mid new : Words)
    → ((x : X) → Q x → P (part x) × (all x ≡ words_of (part x) ++ behind x)) → Takes P words_of (Some a) old mid
    → Takes (λ x. Q x × (part x ≡ a)) behind r mid new → Takes Q all r old new
after P words_of a part Q all behind r old mid new parts h more = record {
  right = λ x e.
      let own = more.right x e in
      let front = parts x own.0.0 in
      (own.0.0, (h.right a refl).1 ∙ ap₂ (λ y ws. words_of y ++ ws) (sym own.0.1) own.1 ∙ sym (append_assoc (words_of (part x)) (behind x) new) ∙ ap (λ ws. ws ++ new) (sym front.1));
  found = λ x rest q e.
      let own = parts x q in
      let front = h.found (part x) (behind x ++ rest) own.0 (e ∙ ap (λ ws. ws ++ rest) own.1 ∙ append_assoc (words_of (part x)) (behind x) rest) in
      more.found x rest (q, sym (same_some a (part x) front.0)) front.1;
}

-- nothing more is asked for
pub done : {X : Type 0} (P : X → Type 0) (x : X) (words : Words) → P x → ((y : X) → P y → y ≡ x) → Takes P (λ y. []) (Some x) words words
done P x words h only = record {
  right = λ y e. (subst P (same_some x y e) h, refl);
  found = λ y rest p e. (ap (λ z. Some z) (sym (only y p)), e);
}

-- signed numbers, of which the first is not there
pub no_first : (n : ℕ) (old new new' : Words) → Takes IsSigned integer_words None old new → Takes (FitsValues (suc n)) (map signed_decimal) None old new'
no_first n old new new' h = record { right = λ v e. cc e; found = missing }
  where
    missing : (v : List ℤ) (rest : Words) → FitsValues (suc n) v → old ≡ map signed_decimal v ++ rest → (None ≡ Some v) × (new' ≡ rest)
    missing [] rest p e = absurd (omega (arith, p.0))
    missing (z ∷ v) rest p e = let none = h.found z (map signed_decimal v ++ rest) p.1.0 e in absurd (cc none.0)

-- the first of them, and those behind it
pub first_then : (n : ℕ) (a : ℤ) (r : Option (List ℤ)) (old mid new : Words) → Takes IsSigned integer_words (Some a) old mid
    → Takes (FitsValues n) (map signed_decimal) r mid new → Takes (FitsValues (suc n)) (map signed_decimal) (option_map (λ v. a ∷ v) r) old new
first_then n a r old mid new h more = record { right = told r more; found = met }
  where
    told : (o : Option (List ℤ)) → Takes (FitsValues n) (map signed_decimal) o mid new → (v : List ℤ) → option_map (λ v. a ∷ v) o ≡ Some v → FitsValues (suc n) v × (old ≡ map signed_decimal v ++ new)
    told None m v e = cc e
    told (Some w) m v e =
        let first = h.right a refl in
        let own = m.right w refl in
        subst (λ x. FitsValues (suc n) x × (old ≡ map signed_decimal x ++ new)) (same_some (a ∷ w) v e)
        ((omega (arith, own.0.0), (first.0, own.0.1)), first.1 ∙ ap (λ ws. signed_decimal a ∷ ws) own.1)

    met : (v : List ℤ) (rest : Words) → FitsValues (suc n) v → old ≡ map signed_decimal v ++ rest → (option_map (λ v. a ∷ v) r ≡ Some v) × (new ≡ rest)
    met [] rest p e = absurd (omega (arith, p.0))
    met (z ∷ v) rest p e =
        let first = h.found z (map signed_decimal v ++ rest) p.1.0 e in
        let behind = more.found v rest (omega (arith, p.0), p.1.1) first.1 in
        (ap (option_map (λ v. a ∷ v)) behind.0 ∙ ap (λ x. Some (x ∷ v)) (same_some a z first.0), behind.1)

-- none of them
pub no_values : (words : Words) → Takes (FitsValues 0) (map signed_decimal) (Some []) words words
no_values words = record {
  right = λ v e. subst (λ x. FitsValues 0 x × (words ≡ map signed_decimal x ++ words)) (same_some [] v e) ((refl, tt), refl);
  found = empty;
}
  where
    empty : (v : List ℤ) (rest : Words) → FitsValues 0 v → words ≡ map signed_decimal v ++ rest → (Some [] ≡ Some v) × (words ≡ rest)
    empty [] rest p e = (refl, e)
    empty (z ∷ v) rest p e = absurd (omega (arith, p.0))
