-- What a cutter keeps and gives at each byte, at a part of a line, and at a whole one.
use Rattle.std.proofs.Common.{◌≡◌, ◌≢◌, ℕ, true, false, ◌==◌, nat_le, nat_lt, Option, Some, None, List, [], ◌∷◌, ◌++◌, length, refl, sym, ap, ◌∙◌, arith, length-append, suc, zero, ◌<◌, ◌+◌, get_or, take, position, append-nil, append_assoc, subst, take_all}
use Rattle.std.proofs.lemmas.Bool.{cond_both, cond-true, cond-false, leb-false, lt-ltb, lt-leb, eq-eqb, ne_eqb, eqb-true, ltb-false}
use Rattle.std.proofs.lemmas.List.{take_more, get_or-take, length-take-le}
use Rattle.std.proofs.lemmas.List.Quantifiers.{position-Some}
use Rattle.std.proofs.lemmas.List.Sums.{fails_before_first}
use Rattle.std.specs.List.{position_or_len}
use Rattle.as_base.specs.declared.item.Given.{Given}
use Rattle.as_base.specs.declared.item.Cause.TheVariants.{Long}
use Rattle.as_base.specs.declared.item.Item.{Item}
use Rattle.as_base.specs.declared.item.Item.TheVariants.{Bad, Rec}
use Rattle.as_base.specs.Range.{IsSpelled}
use Rattle.as_lineform.specs.Item.{item_of, IsCreation}
use Rattle.as_lineform.specs.Spelling.{item_text}
use Rattle.as_lineform.specs.Lines.{rest, lines}
use Rattle.as_lineform.specs.Cutter.{kept, keep, keep_all, kept_item, HasRead}
use Rattle.as_lineform.proofs.LineLaws.{rest_push, lines_push}
use Rattle.as_lineform.proofs.SpellingLaws.{item_of-item_text}
use Rattle.as_lineform.proofs.RecordLaws.{NoFeed, no_feed-record}

-- what is kept of a line says the line's item
pub kept_item-kept : (line : List ℕ) → kept_item (kept line) ≡ item_of line
kept_item-kept line =
    cond_both (nat_le (length line) 4096) (Some line) None (λ o. kept_item o ≡ item_of line)
    (λ h. refl)
    (λ h. sym (cond-true (nat_lt 4096 (length line)) (Bad Long) _ (lt-ltb 4096 (length line) (leb-false (length line) 4096 h))))

-- a line with one more byte
pub keep-kept : (line : List ℕ) (b : ℕ) → keep (kept line) b ≡ kept (line ++ b ∷ [])
keep-kept line b =
    cond_both (nat_le (length line) 4096) (Some line) None (λ o. keep o b ≡ kept (line ++ b ∷ []))
    (λ h. refl)
    (λ h. let long = leb-false (length line) 4096 h in
    sym (cond-false (nat_le (length (line ++ b ∷ [])) 4096) (Some (line ++ b ∷ [])) None
    (lt-leb (length (line ++ b ∷ [])) 4096 (omega (arith, long, length-append line (b ∷ []))))))

-- a line feed ends the line
pub reads_line : (bytes : List ℕ) (byte : ℕ) (old new : Option (List ℕ)) (item : Item) → byte ≡ 10 → HasRead old bytes → new ≡ Some [] → item ≡ kept_item old
    → HasRead new (bytes ++ byte ∷ []) × (lines (bytes ++ byte ∷ []) ≡ lines bytes ++ item ∷ [])
reads_line bytes byte old new item feed read empty is =
    let test : (byte == 10) ≡ true = eq-eqb byte 10 feed in
    let said : item ≡ item_of (rest bytes) = is ∙ ap kept_item read ∙ kept_item-kept (rest bytes) in (
      empty ∙ ap kept (sym (rest_push bytes byte ∙ cond-true (byte == 10) [] (rest bytes ++ byte ∷ []) test)),
      lines_push bytes byte ∙ ap (λ one. lines bytes ++ one) (cond-true (byte == 10) (item_of (rest bytes) ∷ []) [] test ∙ ap (λ i. i ∷ []) (sym said)),
    )

-- any other byte goes on with it
pub reads_more : (bytes : List ℕ) (byte : ℕ) (old new : Option (List ℕ)) → byte ≢ 10 → HasRead old bytes → new ≡ keep old byte
    → HasRead new (bytes ++ byte ∷ []) × (lines (bytes ++ byte ∷ []) ≡ lines bytes ++ [])
reads_more bytes byte old new other read more =
    let test : (byte == 10) ≡ false = ne_eqb byte 10 other in (
      more ∙ ap (λ o. keep o byte) read ∙ keep-kept (rest bytes) byte ∙ ap kept (sym (rest_push bytes byte ∙ cond-false (byte == 10) [] (rest bytes ++ byte ∷ []) test)),
      lines_push bytes byte ∙ ap (λ one. lines bytes ++ one) (cond-false (byte == 10) (item_of (rest bytes) ∷ []) [] test),
    )

-- no byte of the line is a line feed
abbrev HasNoFeed : List ℕ → Type 0
HasNoFeed line = (k : ℕ) → k < length line → (get_or line k 0 == 10) ≡ false

-- the bytes before the first line feed, and with it
first_feed : (bytes : List ℕ) (at : ℕ) → position (λ b. b == 10) bytes ≡ Some at
    → (at < length bytes) × HasNoFeed (take at bytes) × (take (at + 1) bytes ≡ take at bytes ++ 10 ∷ [])
first_feed bytes at e =
    let first = position-Some (λ b. b == 10) bytes at 0 e in
    let inside : at < length bytes = first.0 in (
      inside,
      λ k l. let len : length (take at bytes) ≡ at = length-take-le at bytes (omega arith) in let below : k < at = omega arith in ap (λ b. b == 10) (get_or-take at bytes k 0 below) ∙ first.2 k below,
      take_more bytes at 0 inside ∙ ap (λ b. take at bytes ++ b ∷ []) (eqb-true (get_or bytes at 0) 10 first.1),
    )

-- no byte is a line feed
no_feed : (bytes : List ℕ) → position (λ b. b == 10) bytes ≡ None → HasNoFeed bytes
no_feed bytes =
    let first : ℕ = position_or_len (λ b. b == 10) bytes in
    cond_both (nat_lt first (length bytes)) (Some first) None (λ o. o ≡ None → HasNoFeed bytes)
    (λ h e. cc e)
    (λ h e k l. fails_before_first (λ b. b == 10) bytes k 0 (omega (arith, l, ltb-false first (length bytes) h)))

-- bytes without a line feed go on with the line
part_goes_on : (bytes line : List ℕ) → HasNoFeed line → (rest (bytes ++ line) ≡ rest bytes ++ line) × (lines (bytes ++ line) ≡ lines bytes)
part_goes_on bytes [] none = (ap rest (append-nil bytes) ∙ sym (append-nil (rest bytes)), ap lines (append-nil bytes))
part_goes_on bytes (b ∷ line) none =
    let other : (b == 10) ≡ false = none 0 (omega arith) in
    let later = part_goes_on (bytes ++ b ∷ []) line (λ k l. none (suc k) (omega arith)) in
    let one : rest (bytes ++ b ∷ []) ≡ rest bytes ++ b ∷ [] = rest_push bytes b ∙ cond-false (b == 10) [] (rest bytes ++ b ∷ []) other in
    let same : lines (bytes ++ b ∷ []) ≡ lines bytes =
    lines_push bytes b ∙ ap (λ more. lines bytes ++ more) (cond-false (b == 10) (item_of (rest bytes) ∷ []) [] other) ∙ append-nil (lines bytes) in (
      ap rest (sym (append_assoc bytes (b ∷ []) line)) ∙ later.0 ∙ ap (λ xs. xs ++ line) one ∙ append_assoc (rest bytes) (b ∷ []) line,
      ap lines (sym (append_assoc bytes (b ∷ []) line)) ∙ later.1 ∙ same,
    )

-- more bytes of the line: what is kept of it, byte by byte
keep_all-kept : (line bytes : List ℕ) → keep_all (kept line) bytes ≡ kept (line ++ bytes)
keep_all-kept line [] = ap kept (sym (append-nil line))
keep_all-kept line (b ∷ bytes) = ap (λ o. keep_all o bytes) (keep-kept line b) ∙ keep_all-kept (line ++ b ∷ []) bytes ∙ ap kept (append_assoc line (b ∷ []) bytes)

pub keep_all-push : (cutter : Option (List ℕ)) (bytes : List ℕ) (b : ℕ) → keep_all cutter (bytes ++ b ∷ []) ≡ keep (keep_all cutter bytes) b
keep_all-push cutter [] b = refl
keep_all-push cutter (c ∷ bytes) b = keep_all-push (keep cutter c) bytes b

-- a part of a line that was kept
part_read : (bytes line : List ℕ) (old new : Option (List ℕ)) → HasNoFeed line → HasRead old bytes → new ≡ keep_all old line → HasRead new (bytes ++ line)
part_read bytes line old new none read more =
    more ∙ ap (λ o. keep_all o line) read ∙ keep_all-kept (rest bytes) line ∙ ap kept (sym (part_goes_on bytes line none).0)

part_lines : (bytes line : List ℕ) → HasNoFeed line → lines (bytes ++ line) ≡ lines bytes ++ []
part_lines bytes line none = (part_goes_on bytes line none).1 ∙ sym (append-nil (lines bytes))

-- all of the bytes, none of which is a line feed
pub rest_read : (before bytes : List ℕ) (old new : Option (List ℕ)) → None ≡ position (λ b. b == 10) bytes → HasRead old before → new ≡ keep_all old bytes → HasRead new (before ++ take (length bytes) bytes)
rest_read before bytes old new none read more =
    subst (λ xs. HasRead new (before ++ xs)) (sym (take_all (length bytes) bytes (omega arith))) (part_read before bytes old new (no_feed bytes (sym none)) read more)

pub rest_lines : (before bytes : List ℕ) → None ≡ position (λ b. b == 10) bytes → lines (before ++ take (length bytes) bytes) ≡ lines before ++ []
rest_lines before bytes none =
    ap (λ xs. lines (before ++ xs)) (take_all (length bytes) bytes (omega arith)) ∙ part_lines before bytes (no_feed bytes (sym none))

-- the bytes before the first line feed, where others of its line were kept
pub before_read : (before bytes : List ℕ) (at : ℕ) (old new : Option (List ℕ)) → position (λ b. b == 10) bytes ≡ Some at → HasRead old before → new ≡ keep_all old (take at bytes) → HasRead new (before ++ take at bytes)
before_read before bytes at old new e read more = part_read before (take at bytes) old new (first_feed bytes at e).1 read more

pub before_lines : (before bytes : List ℕ) (at : ℕ) → position (λ b. b == 10) bytes ≡ Some at → lines (before ++ take at bytes) ≡ lines before ++ []
before_lines before bytes at e = part_lines before (take at bytes) (first_feed bytes at e).1

kept-empty : (line : List ℕ) → kept line ≡ Some [] → line ≡ []
kept-empty line =
    cond_both (nat_le (length line) 4096) (Some line) None (λ o. o ≡ Some [] → line ≡ [])
    (λ h e. cc e)
    (λ h e. cc e)

-- a whole line, with its line feed, where nothing was kept
reads_whole : (bytes line : List ℕ) (cutter : Option (List ℕ)) (item : Item) → HasNoFeed line → cutter ≡ Some [] → HasRead cutter bytes → item ≡ item_of line
    → HasRead cutter (bytes ++ (line ++ 10 ∷ [])) × (lines (bytes ++ (line ++ 10 ∷ [])) ≡ lines bytes ++ item ∷ [])
reads_whole bytes line cutter item none empty read is =
    let on = part_goes_on bytes line none in
    let nothing : rest bytes ≡ [] = kept-empty (rest bytes) (sym read ∙ empty) in
    let same : rest (bytes ++ line) ≡ line = on.0 ∙ ap (λ xs. xs ++ line) nothing in
    let end = reads_line (bytes ++ line) 10 (kept line) cutter item refl (ap kept (sym same)) empty (is ∙ sym (kept_item-kept line)) in
    let place : bytes ++ (line ++ 10 ∷ []) ≡ (bytes ++ line) ++ 10 ∷ [] = sym (append_assoc bytes line (10 ∷ [])) in
    (end.0 ∙ ap (λ xs. kept (rest xs)) (sym place), ap lines place ∙ end.1 ∙ ap (λ xs. xs ++ item ∷ []) on.1)

-- the line that stands whole at the front
pub whole_read : (before bytes : List ℕ) (at : ℕ) (cutter : Option (List ℕ)) → position (λ b. b == 10) bytes ≡ Some at → cutter ≡ Some [] → HasRead cutter before → HasRead cutter (before ++ take (at + 1) bytes)
whole_read before bytes at cutter e empty read =
    let first = first_feed bytes at e in
    subst (λ xs. HasRead cutter (before ++ xs)) (sym first.2) (reads_whole before (take at bytes) cutter (item_of (take at bytes)) first.1 empty read refl).0

pub whole_lines : (before bytes : List ℕ) (at : ℕ) (cutter : Option (List ℕ)) (item : Item) → position (λ b. b == 10) bytes ≡ Some at → cutter ≡ Some [] → HasRead cutter before → item ≡ item_of (take at bytes)
    → lines (before ++ take (at + 1) bytes) ≡ lines before ++ item ∷ []
whole_lines before bytes at cutter item e empty read is =
    let first = first_feed bytes at e in
    ap (λ xs. lines (before ++ xs)) first.2 ∙ (reads_whole before (take at bytes) cutter item first.1 empty read is).1

-- a line feed that stands first
one_feed : (bytes : List ℕ) (at : ℕ) → position (λ b. b == 10) bytes ≡ Some at → at ≡ 0 → take 1 bytes ≡ 10 ∷ []
one_feed bytes at e none_before = ap (λ n. take (n + 1) bytes) (sym none_before) ∙ (first_feed bytes at e).2 ∙ ap (λ n. take n bytes ++ 10 ∷ []) none_before

-- the line feed that ends what was kept
pub feed_read : (before bytes : List ℕ) (at : ℕ) (old new : Option (List ℕ)) → position (λ b. b == 10) bytes ≡ Some at → at ≡ 0 → new ≡ Some [] → HasRead old before → HasRead new (before ++ take 1 bytes)
feed_read before bytes at old new e none_before empty read =
    subst (λ xs. HasRead new (before ++ xs)) (sym (one_feed bytes at e none_before)) (reads_line before 10 old new (kept_item old) refl read empty refl).0

pub feed_lines : (before bytes : List ℕ) (at : ℕ) (old : Option (List ℕ)) (item : Item) → position (λ b. b == 10) bytes ≡ Some at → at ≡ 0 → HasRead old before → item ≡ kept_item old → lines (before ++ take 1 bytes) ≡ lines before ++ item ∷ []
feed_lines before bytes at old item e none_before read is =
    ap (λ xs. lines (before ++ xs)) (one_feed bytes at e none_before) ∙ (reads_line before 10 old (Some []) item refl read refl is).1

-- the same of a line, place by place
by_place : (line : List ℕ) → NoFeed line → HasNoFeed line
by_place [] h k l = absurd (omega arith)
by_place (b ∷ line) h zero l = h.0
by_place (b ∷ line) h (suc k) l = by_place line h.1 k (omega arith)

-- a record's line, with its line feed, where nothing was kept
record_reads : (bytes front : List ℕ) (cutter : Option (List ℕ)) (g : Given) → IsSpelled (Rec g) → front ≡ item_text (Rec g) ++ 10 ∷ [] → cutter ≡ Some [] → HasRead cutter bytes
    → HasRead cutter (bytes ++ front) × (lines (bytes ++ front) ≡ lines bytes ++ Rec g ∷ [])
record_reads bytes front cutter g spelled e empty read =
    rw e
    (reads_whole bytes (item_text (Rec g)) cutter (Rec g) (by_place (item_text (Rec g)) (no_feed-record g spelled)) empty read (sym (item_of-item_text (Rec g) spelled)))

pub record_read : (before bytes : List ℕ) (used : ℕ) (cutter : Option (List ℕ)) (g : Given) → IsSpelled (Rec g) → take used bytes ≡ item_text (Rec g) ++ 10 ∷ [] → cutter ≡ Some [] → HasRead cutter before → HasRead cutter (before ++ take used bytes)
record_read before bytes used cutter g spelled e empty read = (record_reads before (take used bytes) cutter g spelled e empty read).0

pub record_lines : (before bytes : List ℕ) (used : ℕ) (cutter : Option (List ℕ)) (g : Given) → IsSpelled (Rec g) → take used bytes ≡ item_text (Rec g) ++ 10 ∷ [] → cutter ≡ Some [] → HasRead cutter before → lines (before ++ take used bytes) ≡ lines before ++ Rec g ∷ []
record_lines before bytes used cutter g spelled e empty read = (record_reads before (take used bytes) cutter g spelled e empty read).1

-- the line feed that could not be taken ends a creation
pub ends_whole : (bytes : List ℕ) (at : ℕ) (cutter : Option (List ℕ)) → cutter ≡ Some [] → IsCreation (item_of (take at bytes)) → IsCreation (kept_item (keep_all cutter (take at bytes)))
ends_whole bytes at cutter empty creation =
    subst IsCreation (sym (ap (λ o. kept_item (keep_all o (take at bytes))) empty ∙ ap kept_item (keep_all-kept [] (take at bytes)) ∙ kept_item-kept (take at bytes))) creation

-- what is taken up to the first line feed
pub ruleset taking = (before_read, before_lines, whole_read, whole_lines, feed_read, feed_lines, ends_whole)
