-- The fields of a record, read word by word.
use Rattle.std.proofs.Common.{◌≡◌, ◌↔◌, ◌^◌, ℕ, ℤ, Bool, true, false, Option, Some, None, List, [], ◌∷◌, refl, sym, ap, ◌∙◌, option_map}
use Rattle.std.specs.Bool.{IsTrue, then_some}
use Rattle.as_base.specs.declared.stream.StreamId.{StreamId}
use Rattle.as_base.specs.declared.item.Given.{Given}
use Rattle.as_words.specs.Number.{natural, integer}
use Rattle.as_lineform.specs.Item.{◌>>=◌, given_of}
use Rattle.as_lineform.specs.Reading.{next_by, next_four}
use Rattle.std.proofs.Common.{to_z, of_z, w64}
use Rattle.std.proofs.lemmas.Int.{to_z-of_z}
use Rattle.as_words.proofs.NumberLaws.{mag-signed, spells-integer}

bind_map : {X Y Z : Type 0} (o : Option X) (g : X → Y) (k : Y → Option Z) → (option_map g o >>= k) ≡ (o >>= (λ x. k (g x)))
bind_map None g k = refl
bind_map (Some x) g k = refl

bind_same : {X Y : Type 0} (o : Option X) (k l : X → Option Y) → ((x : X) → k x ≡ l x) → (o >>= k) ≡ (o >>= l)
bind_same None k l h = refl
bind_same (Some x) k l h = h x

bind_bind : {X Y Z : Type 0} (o : Option X) (k : X → Option Y) (l : Y → Option Z) → ((o >>= k) >>= l) ≡ (o >>= (λ x. k x >>= l))
bind_bind None k l = refl
bind_bind (Some x) k l = refl

pub bind_some : {X Y : Type 0} (o : Option X) (k : X → Option Y) (y : Y) → (o >>= k) ≡ Some y → (x : X) × (o ≡ Some x) × (k x ≡ Some y)
bind_some None k y e = cc e
bind_some (Some x) k y e = (x, refl, e)

pair_some : {X Y : Type 0} (p q : X × Y) → Some p ≡ Some q → p ≡ q
pair_some p q e = cc e

map_some : {X Y : Type 0} (o : Option X) (words : Y) (p : X × Y) → option_map {U = X × Y} (λ y. (y, words)) o ≡ Some p → (o ≡ Some p.0) × (words ≡ p.1)
map_some None words p e = cc e
map_some {X} {Y} (Some y) words p e =
    let same = pair_some (y, words) p e in
    (ap (λ (q : X × Y). Some q.0) same, ap (λ (q : X × Y). q.1) same)

-- the word that was read, and the words after it
pub next_by-Some : {X : Type 0} (f : List ℕ → Option X) (words : List (List ℕ)) (p : X × List (List ℕ)) → next_by f words ≡ Some p
    → (word : List ℕ) × (words ≡ word ∷ p.1) × (f word ≡ Some p.0)
next_by-Some f [] p e = cc e
next_by-Some f (word ∷ words) p e =
    let s = map_some (f word) words p e in
    (word, ap (λ ws. word ∷ ws) s.1, s.0)

after_next : {X Y : Type 0} (f : List ℕ → Option X) (words : List (List ℕ)) (k : X × List (List ℕ) → Option Y) (y : Y) → (next_by f words >>= k) ≡ Some y
    → (word : List ℕ) × (p : X × List (List ℕ)) × (words ≡ word ∷ p.1) × (k p ≡ Some y)
after_next f words k y e =
    let s = bind_some (next_by f words) k y e in
    let n = next_by-Some f words s.0 s.1 in
    (n.0, s.0, n.1, s.2)

-- the four words of four numbers
pub next_four-Some : (words : List (List ℕ)) (v : List ℤ) (left : List (List ℕ)) → next_four words ≡ Some (v, left)
    → (a b c d : List ℕ) × (words ≡ a ∷ b ∷ c ∷ d ∷ left)
next_four-Some words v left e =
    let w1 = after_next integer words _ (v, left) e in
    let w2 = after_next integer w1.1.1 _ (v, left) w1.3 in
    let w3 = after_next integer w2.1.1 _ (v, left) w2.3 in
    let w4 = after_next integer w3.1.1 _ (v, left) w3.3 in
    let end : w4.1.1 ≡ left = ap (λ (q : List ℤ × List (List ℕ)). q.1) (pair_some (w1.1.0 ∷ w2.1.0 ∷ w3.1.0 ∷ w4.1.0 ∷ [], w4.1.1) (v, left) w4.3) in
    (w1.0, w2.0, w3.0, w4.0, w1.2 ∙ ap (λ ws. w1.0 ∷ ws) (w2.2 ∙ ap (λ ws. w2.0 ∷ ws) (w3.2 ∙ ap (λ ws. w3.0 ∷ ws) (w4.2 ∙ ap (λ ws. w4.0 ∷ ws) end))))

-- four words as numbers, and then k of them
abbrev four_then : {Y : Type 0} → List ℕ → List ℕ → List ℕ → List ℕ → (List ℤ → Option Y) → Option Y
four_then a b c d k = do
  x1 ← integer a
  x2 ← integer b
  x3 ← integer c
  x4 ← integer d
  k (x1 ∷ x2 ∷ x3 ∷ x4 ∷ [])

next_four-four : (a b c d : List ℕ) (left : List (List ℕ)) → next_four (a ∷ b ∷ c ∷ d ∷ left) ≡ four_then a b c d (λ v. Some (v, left))
next_four-four a b c d left =
    bind_map (integer a) (λ x. (x, b ∷ c ∷ d ∷ left)) _ ∙ bind_same (integer a) _ _ (λ x1.
    bind_map (integer b) (λ x. (x, c ∷ d ∷ left)) _ ∙ bind_same (integer b) _ _ (λ x2.
    bind_map (integer c) (λ x. (x, d ∷ left)) _ ∙ bind_same (integer c) _ _ (λ x3.
    bind_map (integer d) (λ x. (x, left)) _)))

four_then-bind : {Y : Type 0} (a b c d : List ℕ) (left : List (List ℕ)) (k : List ℤ → Option Y)
    → (four_then {Y = List ℤ × List (List ℕ)} a b c d (λ v. Some (v, left)) >>= (λ p. k p.0)) ≡ four_then a b c d k
four_then-bind a b c d left k =
    bind_bind (integer a) _ (λ p. k p.0) ∙ bind_same (integer a) _ _ (λ x1.
    bind_bind (integer b) _ (λ p. k p.0) ∙ bind_same (integer b) _ _ (λ x2.
    bind_bind (integer c) _ (λ p. k p.0) ∙ bind_same (integer c) _ _ (λ x3.
    bind_bind (integer d) _ (λ p. k p.0))))

-- the record of its numbers
abbrev pub made : StreamId → ℕ → ℤ → List ℤ → Given
made stream time key v = record { stream = stream; time = time; key = key; v = v }

given_of-exact : (stream : StreamId) (t k a b c d : List ℕ) (time : ℕ) (key : ℤ) → natural (2 ^ 62) t ≡ Some time → integer k ≡ Some key
    → given_of stream (t ∷ k ∷ a ∷ b ∷ c ∷ d ∷ []) ≡ four_then a b c d (λ v. Some (made stream time key v))
given_of-exact stream t k a b c d time key et ek = rw (et, ek) refl

short : (stream : StreamId) (t k : List ℕ) (left : List (List ℕ)) (time : ℕ) (key : ℤ) → natural (2 ^ 62) t ≡ Some time → integer k ≡ Some key → next_four left ≡ None
    → given_of stream (t ∷ k ∷ left) ≡ None
short stream t k [] time key et ek none = refl
short stream t k (a ∷ []) time key et ek none = refl
short stream t k (a ∷ b ∷ []) time key et ek none = refl
short stream t k (a ∷ b ∷ c ∷ []) time key et ek none = refl
short stream t k (a ∷ b ∷ c ∷ d ∷ []) time key et ek none =
    given_of-exact stream t k a b c d time key et ek
    ∙ sym (four_then-bind a b c d [] (λ v. Some (made stream time key v)))
    ∙ ap (λ o. o >>= (λ p. Some (made stream time key p.0))) (sym (next_four-four a b c d []) ∙ none)
short stream t k (a ∷ b ∷ c ∷ d ∷ e ∷ left) time key et ek none = refl

-- a record's words that end too early or are no numbers
pub given_of-None : (stream : StreamId) (words : List (List ℕ)) (time : ℕ) (key : ℤ) (more left : List (List ℕ))
    → next_by (natural (2 ^ 62)) words ≡ Some (time, more) → next_by integer more ≡ Some (key, left) → next_four left ≡ None → given_of stream words ≡ None
given_of-None stream words time key more left et ek none =
    let t = next_by-Some (natural (2 ^ 62)) words (time, more) et in
    let k = next_by-Some integer more (key, left) ek in
    ap (given_of stream) (t.1 ∙ ap (λ ws. t.0 ∷ ws) k.1) ∙ short stream t.0 k.0 left time key t.2 k.2 none

whole_or_long : (stream : StreamId) (t k a b c d : List ℕ) (time : ℕ) (key : ℤ) (v : List ℤ) (left : List (List ℕ)) (last : Bool)
    → natural (2 ^ 62) t ≡ Some time → integer k ≡ Some key → next_four (a ∷ b ∷ c ∷ d ∷ left) ≡ Some (v, left) → IsTrue last ↔ (left ≡ [])
    → then_some last (made stream time key v) ≡ given_of stream (t ∷ k ∷ a ∷ b ∷ c ∷ d ∷ left)
whole_or_long stream t k a b c d time key v [] last et ek some ends =
    ap (λ o. then_some o (made stream time key v)) (ends.1 refl)
    ∙ sym (given_of-exact stream t k a b c d time key et ek
    ∙ sym (four_then-bind a b c d [] (λ w. Some (made stream time key w)))
    ∙ ap (λ o. o >>= (λ p. Some (made stream time key p.0))) (sym (next_four-four a b c d []) ∙ some))
whole_or_long stream t k a b c d time key v (e ∷ left) true et ek some ends = cc (ends.0 refl)
whole_or_long stream t k a b c d time key v (e ∷ left) false et ek some ends = refl

-- a record's words, of which none is left, or some
pub given_of-Some : (stream : StreamId) (words : List (List ℕ)) (time : ℕ) (key : ℤ) (v : List ℤ) (more four left : List (List ℕ)) (last : Bool)
    → next_by (natural (2 ^ 62)) words ≡ Some (time, more) → next_by integer more ≡ Some (key, four) → next_four four ≡ Some (v, left) → IsTrue last ↔ (left ≡ [])
    → then_some last (made stream time key v) ≡ given_of stream words
given_of-Some stream words time key v more four left last et ek ev ends =
    let t = next_by-Some (natural (2 ^ 62)) words (time, more) et in
    let k = next_by-Some integer more (key, four) ek in
    let w = next_four-Some four v left ev in
    whole_or_long stream t.0 k.0 w.0 w.1 w.2 w.3 time key v left last t.2 k.2 (ap next_four (sym w.4) ∙ ev) ends
    ∙ sym (ap (given_of stream) (t.1 ∙ ap (λ ws. t.0 ∷ ws) (k.1 ∙ ap (λ ws. k.0 ∷ ws) w.4)))

-- a signed number that was read comes through a register as it is
pub through : (words : List (List ℕ)) (z : ℤ) (left : List (List ℕ)) → next_by integer words ≡ Some (z, left) → to_z w64 (of_z w64 z) ≡ z
through words z left e =
    let n = next_by-Some integer words (z, left) e in
    to_z-of_z w64 z (record { sfits = mag-signed z (spells-integer n.0 z n.2).0 })
