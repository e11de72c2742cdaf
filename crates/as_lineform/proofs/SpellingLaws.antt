-- An item's line says the item, and a line in a form is the one line of its item.
use Rattle.std.proofs.Common.{◌≡◌, ℕ, ◌<◌, ◌≤◌, ◌^◌, ◌&&◌, true, ℤ, Option, Some, None, List, [], ◌∷◌, ◌++◌, map, length, take, drop, replicate, codes, refl, sym, ap, ap₂, ◌∙◌, subst, arith, bytes_eq, nat_lt, nat_le, decimal, option_map, unwrap_or, append-nil, length-append, take-append-drop}
use Rattle.std.proofs.lemmas.Bool.{lt-ltb, le-ltb, leb-true, ltb-false, ltb-true, cond_both, cond-true, cond-false, and_parts}
use Rattle.std.proofs.lemmas.List.{length-replicate}
use Rattle.std.proofs.lemmas.Slice.Eq.{bytes_eq-Decides}
use Rattle.std.specs.Prelude.{IsTrue, IfSome, ◌↔◌}
use Rattle.std.specs.Fmt.{signed_decimal}
use Rattle.std.specs.List.{AllByRecursion}
use Rattle.std.specs.Option.{option_map_or}
use Rattle.as_base.specs.Stream.{streams, stream_name, stream_named}
use Rattle.as_base.specs.declared.stream.StreamId.{StreamId}
use Rattle.as_base.specs.declared.stream.StreamId.TheVariants.{A, B, C, D}
use Rattle.as_base.specs.declared.item.Given.{Given}
use Rattle.as_base.specs.declared.item.Cause.TheVariants.{Long, Form}
use Rattle.as_base.specs.declared.item.Item.{Item}
use Rattle.as_base.specs.declared.item.Item.TheVariants.{Rec, Mark, End, Create, Delete, Bad}
use Rattle.as_base.specs.Range.{IsTime, IsSpelled}
use Rattle.as_base.specs.Text.{is_text}
use Rattle.as_words.specs.Parts.{parts_of}
use Rattle.as_words.specs.Number.{IsSigned, natural, integer}
use Rattle.as_words.specs.Words.{is_words, spaced, joined}
use Rattle.as_lineform.specs.Item.{◌>>=◌, given_of, alone_of, end_of, item_of_stream, item_of_form, item_of_words, creation_of, item_of_short, item_of}
use Rattle.as_lineform.specs.Spelling.{item_text, IsRead}
use Rattle.as_words.proofs.NumberLaws.{natural-Some, spells-natural, spells-integer, integer-spelled}
use Rattle.as_words.proofs.JoinedLaws.{IsShort, short_words, parts_of-joined, joined-parts_of, length-spaced-le, IsShort-decimal, IsShort-signed}
use Rattle.as_words.proofs.WordLaws.{pick-Some}
use Rattle.as_lineform.proofs.ReadingLaws.{bind_some, made}
use Rattle.as_lineform.proofs.ItemLaws.{is_text-creation_of}

IsShort-name : (stream : StreamId) → IsShort (stream_name stream)
IsShort-name A = (refl, omega arith)
IsShort-name B = (refl, omega arith)
IsShort-name C = (refl, omega arith)
IsShort-name D = (refl, omega arith)

-- the item of a line that is not too long
short_line : (line : List ℕ) → length line ≤ 4096 → item_of line ≡ item_of_short line
short_line line l = cond-false (nat_lt 4096 (length line)) (Bad Long) (item_of_short line) (le-ltb 4096 (length line) l)

-- a line of few plain words says what its words say
words_line : (form : List ℕ) (words : List (List ℕ)) (i : Item) → IsShort form → AllByRecursion IsShort words → length words ≤ 7
    → creation_of (form ++ spaced words) ≡ None → item_of_words (form ∷ words) ≡ Some i → item_of (form ++ spaced words) ≡ i
words_line form words i f ws few none some =
    short_line (form ++ spaced words) (omega (arith, f.1, few, length-append form (spaced words), length-spaced-le words ws))
    ∙ ap (λ o. option_map_or Create o (unwrap_or (item_of_words (parts_of 32 (form ++ spaced words))) (Bad Form))) none
    ∙ ap (λ parts. unwrap_or (item_of_words parts) (Bad Form)) (parts_of-joined form words f.0 (short_words words ws))
    ∙ ap (λ o. unwrap_or o (Bad Form)) some

stream_named-name : (stream : StreamId) → stream_named (stream_name stream) ≡ Some stream
stream_named-name A = refl
stream_named-name B = refl
stream_named-name C = refl
stream_named-name D = refl

natural-own : (limit n : ℕ) → n < limit → n < 2 ^ 64 → natural limit (decimal n) ≡ Some n
natural-own limit n l fits = natural-Some limit n (decimal n) l fits refl

given_words : (s : StreamId) (t : ℕ) (k a b c d : ℤ) → IsTime t → IsSigned k → IsSigned a → IsSigned b → IsSigned c → IsSigned d
    → given_of s (decimal t ∷ signed_decimal k ∷ signed_decimal a ∷ signed_decimal b ∷ signed_decimal c ∷ signed_decimal d ∷ []) ≡ Some (made s t k (a ∷ b ∷ c ∷ d ∷ []))
given_words s t k a b c d ht hk ha hb hc hd =
    rw (natural-own (2 ^ 62) t ht (omega (arith, ht)), integer-spelled k hk, integer-spelled a ha, integer-spelled b hb, integer-spelled c hc, integer-spelled d hd) refl

record_line : (s : StreamId) (t : ℕ) (k : ℤ) (v : List ℤ) → IsTime t → IsSigned k → length v ≡ 4 → AllByRecursion IsSigned v
    → item_of (item_text (Rec (made s t k v))) ≡ Rec (made s t k v)
record_line s t k (a ∷ b ∷ c ∷ d ∷ []) ht hk l h =
    let fields : List (List ℕ) = decimal t ∷ signed_decimal k ∷ signed_decimal a ∷ signed_decimal b ∷ signed_decimal c ∷ signed_decimal d ∷ [] in
    words_line (codes "rec") (stream_name s ∷ fields) (Rec (made s t k (a ∷ b ∷ c ∷ d ∷ [])))
    (refl, omega arith)
    (IsShort-name s, (IsShort-decimal t (omega (arith, ht)), (IsShort-signed k hk, (IsShort-signed a h.0, (IsShort-signed b h.1.0, (IsShort-signed c h.1.1.0, (IsShort-signed d h.1.1.1.0, tt)))))))
    (omega arith) refl
    (ap (λ o. o >>= item_of_stream (codes "rec") fields) (stream_named-name s) ∙ ap (option_map Rec) (given_words s t k a b c d ht hk h.0 h.1.0 h.1.1.0 h.1.1.1.0))
record_line s t k [] ht hk l h = absurd (omega (arith, l))
record_line s t k (a ∷ []) ht hk l h = absurd (omega (arith, l))
record_line s t k (a ∷ b ∷ []) ht hk l h = absurd (omega (arith, l))
record_line s t k (a ∷ b ∷ c ∷ []) ht hk l h = absurd (omega (arith, l))
record_line s t k (a ∷ b ∷ c ∷ d ∷ e ∷ v) ht hk l h = absurd (omega (arith, l))

mark_line : (s : StreamId) (t : ℕ) → IsTime t → item_of (item_text (Mark s t)) ≡ Mark s t
mark_line s t ht =
    words_line (codes "mark") (stream_name s ∷ decimal t ∷ []) (Mark s t) (refl, omega arith)
    (IsShort-name s, (IsShort-decimal t (omega (arith, ht)), tt)) (omega arith) refl
    (ap (λ o. o >>= item_of_stream (codes "mark") (decimal t ∷ [])) (stream_named-name s) ∙ ap (option_map (Mark s)) (natural-own (2 ^ 62) t ht (omega (arith, ht))))

end_line : (s : StreamId) → item_of (item_text (End s)) ≡ End s
end_line s =
    words_line (codes "end") (stream_name s ∷ []) (End s) (refl, omega arith)
    (IsShort-name s, tt) (omega arith) refl
    (ap (λ o. o >>= item_of_stream (codes "end") []) (stream_named-name s))

deletion_line : (n : ℕ) → n < 2 ^ 63 → item_of (item_text (Delete n)) ≡ Delete n
deletion_line n h =
    words_line (codes "delete") (decimal n ∷ []) (Delete n) (refl, omega arith)
    (IsShort-decimal n (omega (arith, h)), tt) (omega arith) refl
    (ap (option_map Delete) (natural-own (2 ^ 63) n h (omega (arith, h))))

-- the line of a query text
creation_line : (b : ℕ) (text : List ℕ) → is_text (b ∷ text) ≡ true → item_of (item_text (Create (b ∷ text))) ≡ Create (b ∷ text)
creation_line b text h =
    let parts = and_parts (nat_le (length (b ∷ text)) 4089) (is_words (b ∷ text)) h in
    let same : item_text (Create (b ∷ text)) ≡ codes "create " ++ b ∷ text = ap (λ xs. codes "create " ++ xs) (append-nil (b ∷ text)) in
    ap item_of same
    ∙ short_line (codes "create " ++ b ∷ text) (omega (arith, leb-true (length (b ∷ text)) 4089 parts.0))
    ∙ ap (λ o. option_map_or Create o (unwrap_or (item_of_words (parts_of 32 (codes "create " ++ b ∷ text))) (Bad Form)))
    (cond-true (is_words (b ∷ text)) (Some (b ∷ text)) None parts.1)

long_line : item_of (item_text (Bad Long)) ≡ Bad Long
long_line =
    let line : List ℕ = replicate 4097 45 in
    let long : length line ≡ 4097 = length-replicate {A = ℕ} 4097 45 in
    cond-true (nat_lt 4096 (length line)) (Bad Long) (item_of_short line) (lt-ltb 4096 (length line) (omega (arith, long)))

-- the item of an item's line
pub item_of-item_text : (i : Item) → IsSpelled i → item_of (item_text i) ≡ i
item_of-item_text (Rec g) h = record_line g.stream g.time g.key g.v h.0 h.1 h.2 h.3
item_of-item_text (Mark s t) h = mark_line s t h
item_of-item_text (End s) h = end_line s
item_of-item_text (Create []) h = refl
item_of-item_text (Create (b ∷ text)) h = creation_line b text h
item_of-item_text (Delete n) h = deletion_line n h
item_of-item_text (Bad Long) h = long_line
item_of-item_text (Bad Form) h = refl

-- what was read of an option's map
map_from : {X Y : Type 0} (f : X → Y) (o : Option X) (y : Y) → option_map f o ≡ Some y → (x : X) × (o ≡ Some x) × (f x ≡ y)
map_from f None y e = cc e
map_from f (Some x) y e = (x, refl, cc e)

-- a test that was met
tested : (word text : List ℕ) → bytes_eq word text ≡ true → word ≡ text
tested word text h = (bytes_eq-Decides word text).0 h

alone_spells : (limit : ℕ) (words : List (List ℕ)) (n : ℕ) → alone_of limit words ≡ Some n → (n < limit) × (words ≡ decimal n ∷ [])
alone_spells limit [] n e = cc e
alone_spells limit (word ∷ []) n e =
    let s = spells-natural limit n word e in
    (s.0, ap (λ w. w ∷ []) s.1)
alone_spells limit (word ∷ next ∷ words) n e = cc e

-- the words spell this record of the stream
abbrev Gives : StreamId → List (List ℕ) → Given → Type 0
Gives s words g = IsSpelled (Rec g) × (g.stream ≡ s) × (words ≡ decimal g.time ∷ signed_decimal g.key ∷ map signed_decimal g.v)

same_text : (t u : List ℕ) → Some t ≡ Some u → t ≡ u
same_text t u e = cc e

some_has : {X : Type 0} (o : Option X) (x : X) (P : X → Type 0) → IfSome o P → o ≡ Some x → P x
some_has None x P h e = cc e
some_has (Some y) x P h e = subst P (cc e) h

same_given : (g h : Given) → Some g ≡ Some h → g ≡ h
same_given g h e = cc e

six_give : (s : StreamId) (w1 w2 w3 w4 w5 w6 : List ℕ) (g : Given) → given_of s (w1 ∷ w2 ∷ w3 ∷ w4 ∷ w5 ∷ w6 ∷ []) ≡ Some g → Gives s (w1 ∷ w2 ∷ w3 ∷ w4 ∷ w5 ∷ w6 ∷ []) g
six_give s w1 w2 w3 w4 w5 w6 g e =
    let t = bind_some (natural (2 ^ 62) w1) _ g e in
    let k = bind_some (integer w2) _ g t.2 in
    let a = bind_some (integer w3) _ g k.2 in
    let b = bind_some (integer w4) _ g a.2 in
    let c = bind_some (integer w5) _ g b.2 in
    let d = bind_some (integer w6) _ g c.2 in
    let time = spells-natural (2 ^ 62) t.0 w1 t.1 in
    let key = spells-integer w2 k.0 k.1 in
    let x1 = spells-integer w3 a.0 a.1 in
    let x2 = spells-integer w4 b.0 b.1 in
    let x3 = spells-integer w5 c.0 c.1 in
    let x4 = spells-integer w6 d.0 d.1 in
    subst (Gives s (w1 ∷ w2 ∷ w3 ∷ w4 ∷ w5 ∷ w6 ∷ [])) (same_given (made s t.0 k.0 (a.0 ∷ b.0 ∷ c.0 ∷ d.0 ∷ [])) g d.2) (
      (time.0, key.0, refl, (x1.0, (x2.0, (x3.0, (x4.0, tt))))),
      refl,
      ap₂ (λ x xs. x ∷ xs) time.1 (ap₂ (λ x xs. x ∷ xs) key.1 (ap₂ (λ x xs. x ∷ xs) x1.1 (ap₂ (λ x xs. x ∷ xs) x2.1 (ap₂ (λ x xs. x ∷ xs) x3.1 (ap (λ x. x ∷ []) x4.1))))),
    )

given_gives : (s : StreamId) (words : List (List ℕ)) (g : Given) → given_of s words ≡ Some g → Gives s words g
given_gives s [] g e = cc e
given_gives s (w1 ∷ []) g e = cc e
given_gives s (w1 ∷ w2 ∷ []) g e = cc e
given_gives s (w1 ∷ w2 ∷ w3 ∷ []) g e = cc e
given_gives s (w1 ∷ w2 ∷ w3 ∷ w4 ∷ []) g e = cc e
given_gives s (w1 ∷ w2 ∷ w3 ∷ w4 ∷ w5 ∷ []) g e = cc e
given_gives s (w1 ∷ w2 ∷ w3 ∷ w4 ∷ w5 ∷ w6 ∷ []) g e = six_give s w1 w2 w3 w4 w5 w6 g e
given_gives s (w1 ∷ w2 ∷ w3 ∷ w4 ∷ w5 ∷ w6 ∷ w7 ∷ words) g e = cc e

-- the line is the one line of the item
abbrev Spells : List ℕ → Item → Type 0
Spells line i = IsSpelled i × (line ≡ item_text i)

end_gives : (s : StreamId) (words : List (List ℕ)) (i : Item) → end_of s words ≡ Some i → (End s ≡ i) × (words ≡ [])
end_gives s [] i e = (cc e, refl)
end_gives s (word ∷ words) i e = cc e

stream_spelled : (form : List ℕ) (fields : List (List ℕ)) (s : StreamId) (i : Item) → item_of_stream form fields s ≡ Some i → Spells (joined (form ∷ stream_name s ∷ fields)) i
stream_spelled form fields s i =
    let Told : Option Item → Type 0 = λ o. o ≡ Some i → Spells (form ++ spaced (stream_name s ∷ fields)) i in
    cond_both (bytes_eq form (codes "rec")) (option_map Rec (given_of s fields)) _ Told
    (λ h e. let m = map_from Rec (given_of s fields) i e in
    let g = given_gives s fields m.0 m.1 in
    subst (Spells (form ++ spaced (stream_name s ∷ fields))) m.2
    (g.0, ap (λ f. f ++ spaced (stream_name s ∷ fields)) (tested form (codes "rec") h) ∙ ap₂ (λ x ws. codes "rec" ++ spaced (stream_name x ∷ ws)) (sym g.1) g.2))
    (λ _. cond_both (bytes_eq form (codes "mark")) (option_map (Mark s) (alone_of (2 ^ 62) fields)) _ Told
    (λ h e. let m = map_from (Mark s) (alone_of (2 ^ 62) fields) i e in
    let n = alone_spells (2 ^ 62) fields m.0 m.1 in
    subst (Spells (form ++ spaced (stream_name s ∷ fields))) m.2
    (n.0, ap₂ (λ f ws. f ++ spaced (stream_name s ∷ ws)) (tested form (codes "mark") h) n.1))
    (λ _. cond_both (bytes_eq form (codes "end")) (end_of s fields) None Told
    (λ h e. let m = end_gives s fields i e in
    subst (Spells (form ++ spaced (stream_name s ∷ fields))) m.0
    (tt, ap₂ (λ f ws. f ++ spaced (stream_name s ∷ ws)) (tested form (codes "end") h) m.1))
    (λ _ e. cc e)))

form_spelled : (form : List ℕ) (fields : List (List ℕ)) (i : Item) → item_of_form form fields ≡ Some i → Spells (joined (form ∷ fields)) i
form_spelled form [] i e = cc e
form_spelled form (word ∷ fields) i e =
    let s = bind_some (stream_named word) (item_of_stream form fields) i e in
    subst (λ w. Spells (joined (form ∷ w ∷ fields)) i) (sym (pick-Some stream_name streams word s.0 s.1)) (stream_spelled form fields s.0 i s.2)

words_spelled : (words : List (List ℕ)) (i : Item) → item_of_words words ≡ Some i → Spells (joined words) i
words_spelled [] i e = cc e
words_spelled (form ∷ fields) i e =
    cond_both (bytes_eq form (codes "delete")) (option_map Delete (alone_of (2 ^ 63) fields)) (item_of_form form fields) (λ o. o ≡ Some i → Spells (joined (form ∷ fields)) i)
    (λ h e. let m = map_from Delete (alone_of (2 ^ 63) fields) i e in
    let n = alone_spells (2 ^ 63) fields m.0 m.1 in
    subst (Spells (joined (form ∷ fields))) m.2 (n.0, ap₂ (λ f ws. f ++ spaced ws) (tested form (codes "delete") h) n.1))
    (λ h e. form_spelled form fields i e) e

spelled_or_bad : (o : Option Item) → ((i : Item) → o ≡ Some i → IsSpelled i) → IsSpelled (unwrap_or o (Bad Form))
spelled_or_bad None h = tt
spelled_or_bad (Some i) h = h i refl

-- what a line's words say is spelled
pub IsSpelled-words : (words : List (List ℕ)) → IsSpelled (unwrap_or (item_of_words words) (Bad Form))
IsSpelled-words words = spelled_or_bad (item_of_words words) (λ i e. (words_spelled words i e).0)

text_line : (text : List ℕ) → is_words text ≡ true → codes "create " ++ text ≡ item_text (Create text)
text_line [] h = cc h
text_line (b ∷ text) h = ap (λ xs. codes "create " ++ xs) (sym (append-nil (b ∷ text)))

creation_line_of : (line text : List ℕ) → creation_of line ≡ Some text → line ≡ item_text (Create text)
creation_line_of line text =
    let Told : Option (List ℕ) → Type 0 = λ o. o ≡ Some text → line ≡ item_text (Create text) in
    cond_both (bytes_eq line (codes "create")) (Some []) _ Told
    (λ h e. tested line (codes "create") h ∙ ap (λ t. item_text (Create t)) (same_text [] text e))
    (λ _. cond_both (bytes_eq (take 7 line) (codes "create ") && is_words (drop 7 line)) (Some (drop 7 line)) None Told
    (λ h e. let parts = and_parts (bytes_eq (take 7 line) (codes "create ")) (is_words (drop 7 line)) h in
    sym (take-append-drop 7 line) ∙ ap (λ xs. xs ++ drop 7 line) (tested (take 7 line) (codes "create ") parts.0)
    ∙ text_line (drop 7 line) parts.1 ∙ ap (λ t. item_text (Create t)) (same_text (drop 7 line) text e))
    (λ _ e. cc e))

pick : (o : Option (List ℕ)) (p : Option Item) (line : List ℕ) (i : Item) → ((text : List ℕ) → o ≡ Some text → Spells line (Create text)) → ((j : Item) → p ≡ Some j → Spells line j)
    → option_map_or Create o (unwrap_or p (Bad Form)) ≡ i → IsRead i → Spells line i
pick (Some text) p line i create other e read = subst (Spells line) e (create text refl)
pick None (Some j) line i create other e read = subst (Spells line) e (other j refl)
pick None None line i create other e read = absurd (subst IsRead (sym e) read)

short_spelled : (line : List ℕ) (i : Item) → length line ≤ 4096 → item_of_short line ≡ i → IsRead i → Spells line i
short_spelled line i l =
    pick (creation_of line) (item_of_words (parts_of 32 line)) line i
    (λ text e. (some_has (creation_of line) text (λ t. IsTrue (is_text t)) (is_text-creation_of line l) e, creation_line_of line text e))
    (λ j e. let s = words_spelled (parts_of 32 line) j e in (s.0, sym (joined-parts_of line) ∙ s.1))

-- a line in one of the forms is the line of its item
pub item_text-item_of : (line : List ℕ) (i : Item) → IsRead i → item_of line ≡ i → IsSpelled i × (line ≡ item_text i)
item_text-item_of line i read =
    cond_both (nat_lt 4096 (length line)) (Bad Long) (item_of_short line) (λ j. j ≡ i → IsSpelled i × (line ≡ item_text i))
    (λ h e. absurd (subst IsRead (sym e) read))
    (λ h e. short_spelled line i (ltb-false 4096 (length line) h) e read)

-- each item has one line that is in a form
pub one_spelling : (i : Item) (line : List ℕ) → IsRead i → (item_of line ≡ i) ↔ (IsSpelled i × (line ≡ item_text i))
one_spelling i line read = (
  item_text-item_of line i read,
  λ h. ap item_of h.1 ∙ item_of-item_text i h.0,
)

not_long : (o : Option (List ℕ)) (p : Option Item) → ((j : Item) → p ≡ Some j → j ≡ Bad Long → ⊥) → option_map_or Create o (unwrap_or p (Bad Form)) ≡ Bad Long → ⊥
not_long (Some text) p other e = cc e
not_long None (Some j) other e = other j refl e
not_long None None other e = cc e

short_not_long : (line : List ℕ) → length line ≤ 4096 → item_of_short line ≡ Bad Long → ⊥
short_not_long line l =
    not_long (creation_of line) (item_of_words (parts_of 32 line)) (λ j e long.
    let s = words_spelled (parts_of 32 line) j e in
    let same : line ≡ replicate 4097 45 = sym (joined-parts_of line) ∙ s.1 ∙ ap item_text long in
    let size : length line ≡ 4097 = ap length same ∙ length-replicate {A = ℕ} 4097 45 in
    omega (arith, l, size))

-- just the lines with too many bytes are too long
pub long_lines : (line : List ℕ) → (item_of line ≡ Bad Long) ↔ (4096 < length line)
long_lines line =
    cond_both (nat_lt 4096 (length line)) (Bad Long) (item_of_short line) (λ j. (j ≡ Bad Long) ↔ (4096 < length line))
    (λ h. (λ e. ltb-true 4096 (length line) h, λ l. refl))
    (λ h. let few = ltb-false 4096 (length line) h in (λ e. absurd (short_not_long line few e), λ l. absurd (omega (arith, few, l))))
