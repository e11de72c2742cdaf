-- What is kept of changes, after one more.
use Rattle.std.proofs.Common.{◌≡◌, ℕ, ◌+◌, ◌<◌, ◌≤◌, nat_le, eqb, max, Bool, true, false, cond, List, [], ◌∷◌, ◌++◌, length, length-drop, get_or, set, take, drop, ◌-◌, refl, sym, ap, subst, ◌∙◌, append_assoc, arith}
use Rattle.std.proofs.lemmas.List.{length-append, length-map, map-append, take-append-drop}
use Rattle.std.proofs.lemmas.Bool.{eqb-true}
use Rattle.std.proofs.lemmas.List.Sums.{count_by-le-length}
use Rattle.std.proofs.Math.Seq.{take-append-add}
use Rattle.as_base.specs.declared.message.Change.{Change}
use Rattle.as_base.specs.declared.stream.StreamId.{StreamId}
use Rattle.changelog.specs.declared.spans.Span.{Span}
use Rattle.views.specs.IsHolder.{time_of}
use Rattle.changelog.specs.Changes.{slot_of, opened_by, times_of, AreClimbing, until, epoch_at, owner, last_or, began, edge_of, greatest_below, start_in, slice_start}
use Rattle.changelog.specs.EpochsFor.{Keeps, spans_of}
use Rattle.changelog.specs.Spans.{holder_at}
use Rattle.changelog.proofs.EdgeLaws.{greatest_below-same}
use Rattle.changelog.proofs.NumberLaws.{last_or-append, last_or-split, climbing-push, until-is}
use Rattle.changelog.proofs.OwnerLaws.{owner-push}
use Rattle.changelog.proofs.SpanLaws.{holder_at-push}
use Rattle.changelog.proofs.TableLaws.{spans_of-set}

either : {X : Type 0} (b : Bool) (x : X) → x ≡ cond b x x
either true x = refl
either false x = refl

-- the table of the same changes, with another list for a slot that says the same
pub keeps-table : (last floor : ℕ) (times : List ℕ) (table other : List (List Span)) (cs : List Change) → ((slot : ℕ) → spans_of other slot ≡ spans_of table slot) → Keeps last floor times table cs → Keeps last floor times other cs
keeps-table last floor times table other cs same k = record {
  trimmed = k.trimmed;
  stamps = k.stamps;
  count = k.count;
  latest = k.latest;
  rises = k.rises;
  owners = λ slot epoch asked. ap (λ xs. holder_at xs epoch) (same slot) ∙ k.owners slot epoch asked;
}

owners-push : (last : ℕ) (xs more : List Span) (cs : List Change) (c : Change) (x : Span) (slot epoch : ℕ) → last ≡ length cs → x.epoch ≡ last + 1 → x.holder ≡ opened_by c
    → more ≡ cond (eqb (slot_of c) slot) (xs ++ x ∷ []) xs → holder_at xs epoch ≡ owner cs epoch slot → holder_at more epoch ≡ owner (cs ++ c ∷ []) epoch slot
owners-push last xs more cs c x slot epoch count begins holds put was =
    ap (λ ys. holder_at ys epoch) put ∙ by_cases (eqb (slot_of c) slot) ∙ sym (owner-push cs c epoch slot)
  where
    number : x.epoch ≡ length cs + 1
    number = omega (arith, begins, count)

    by_cases : (b : Bool) → holder_at (cond b (xs ++ x ∷ []) xs) epoch ≡ cond (nat_le (length cs + 1) epoch) (cond b (opened_by c) (owner cs epoch slot)) (owner cs epoch slot)
    by_cases true = holder_at-push xs x epoch ∙ (λ i. cond (nat_le (number i) epoch) (holds i) (was i))
    by_cases false = was ∙ either (nat_le (length cs + 1) epoch) (owner cs epoch slot)

-- one change more
pub keeps-push : (last floor : ℕ) (times : List ℕ) (table more : List (List Span)) (cs : List Change) (c : Change) (x : Span) → Keeps last floor times table cs → last_or floor times ≤ time_of c
    → x.epoch ≡ last + 1 → x.holder ≡ opened_by c → ((slot : ℕ) → spans_of more slot ≡ cond (eqb (slot_of c) slot) (spans_of table slot ++ x ∷ []) (spans_of table slot))
    → Keeps (last + 1) floor (times ++ time_of c ∷ []) more (cs ++ c ∷ [])
keeps-push last floor times table more cs c x k late begins holds put = record {
  trimmed = k.trimmed;
  stamps = sym (append_assoc k.trimmed times (time_of c ∷ [])) ∙ ap (λ ns. ns ++ time_of c ∷ []) k.stamps ∙ sym (map-append time_of cs (c ∷ []));
  count = omega (arith, k.count, length-append cs (c ∷ []));
  latest = k.latest;
  rises = subst AreClimbing (sym (map-append time_of cs (c ∷ []))) (climbing-push (times_of cs) (time_of c) k.rises (subst (λ n. n ≤ time_of c) newest late));
  owners = λ slot epoch asked. owners-push last (spans_of table slot) (spans_of more slot) cs c x slot epoch k.count begins holds (put slot)
      (k.owners slot epoch (omega (arith, asked, length-append times (time_of c ∷ []))));
}
  where
    newest : last_or floor times ≡ last_or 0 (times_of cs)
    newest = ap (λ n. last_or n times) k.latest ∙ sym (last_or-append 0 k.trimmed times) ∙ ap (last_or 0) k.stamps

-- the epoch at a time
pub keeps-epoch : (last floor : ℕ) (times : List ℕ) (table : List (List Span)) (cs : List Change) (left t : ℕ) → Keeps last floor times table cs → left ≤ length times → until t (drop left times) ≡ 0
    → (0 < left → get_or times (left - 1) 0 ≤ t) → last ≤ epoch_at cs t + length times → last - (length times - left) ≡ epoch_at cs t
keeps-epoch last floor times table cs left t k within later earlier asked =
    until-is k.trimmed times (times_of cs) last left t k.stamps (k.count ∙ sym (length-map cs time_of)) k.rises within later earlier asked

-- the same, from what the code has
pub keeps-epoch-by : (last floor : ℕ) (times : List ℕ) (table : List (List Span)) (cs : List Change) (seen : List ℕ) (left long t result : ℕ) → Keeps last floor times table cs → seen ≡ times
    → left ≤ length seen → until t (drop left seen) ≡ 0 → (0 < left → get_or seen (left - 1) 0 ≤ t) → long ≡ length times → result ≡ last - (long - left)
    → last ≤ epoch_at cs t + length times → result ≡ epoch_at cs t
keeps-epoch-by last floor times table cs seen left long t result k same within later earlier all value asked =
    let exact = keeps-epoch last floor times table cs left t k (subst (λ ns. left ≤ length ns) same within) (subst (λ ns. until t (drop left ns) ≡ 0) same later)
    (λ some. subst (λ ns. get_or ns (left - 1) 0 ≤ t) same (earlier some)) asked in
    value ∙ ap (λ n. last - (n - left)) all ∙ exact

-- when an epoch began
pub keeps-began : (last floor : ℕ) (times : List ℕ) (table : List (List Span)) (cs : List Change) (epoch : ℕ) → Keeps last floor times table cs → last ≤ epoch + length times → epoch ≤ length cs
    → last_or floor (take (length times - (last - epoch)) times) ≡ began cs epoch
keeps-began last floor times table cs epoch k asked within =
    let long = length-append k.trimmed times in
    let all : length (k.trimmed ++ times) ≡ length (times_of cs) = ap length k.stamps in
    let number : length k.trimmed + (length times - (last - epoch)) ≡ epoch = omega (arith, long, all, length-map cs time_of, k.count, asked, within) in
    let first = take (length times - (last - epoch)) times in
    ap (λ n. last_or n first) k.latest
    ∙ sym (last_or-append 0 k.trimmed first)
    ∙ ap (last_or 0) (sym (take-append-add k.trimmed times (length times - (last - epoch))))
    ∙ (λ i. last_or 0 (take (number i) (k.stamps i)))

-- the greatest edge of the owners
pub keeps-edges : (last floor : ℕ) (times : List ℕ) (table : List (List Span)) (cs : List Change) (epoch : ℕ) (s : StreamId) (t : ℕ) → Keeps last floor times table cs → last ≤ epoch + length times
    → greatest_below (λ slot. edge_of s t (holder_at (spans_of table slot) epoch)) 512 ≡ greatest_below (λ slot. edge_of s t (owner cs epoch slot)) 512
keeps-edges last floor times table cs epoch s t k asked =
    greatest_below-same (λ slot. edge_of s t (holder_at (spans_of table slot) epoch)) (λ slot. edge_of s t (owner cs epoch slot)) 512 (λ slot. ap (edge_of s t) (k.owners slot epoch asked))

-- what only epochs before the base need has gone
pub keeps-trim : (last floor : ℕ) (times : List ℕ) (table other : List (List Span)) (cs : List Change) (base later latest : ℕ) → Keeps last floor times table cs → base ≤ last → later ≡ last - base
    → latest ≡ last_or floor (take (length times - later) times) → ((slot e : ℕ) → base ≤ e → holder_at (spans_of other slot) e ≡ holder_at (spans_of table slot) e)
    → Keeps last latest (drop (length times - later) times) other cs
keeps-trim last floor times table other cs base later latest k low is now same = record {
  trimmed = k.trimmed ++ take n times;
  stamps = append_assoc k.trimmed (take n times) (drop n times) ∙ ap (λ ns. k.trimmed ++ ns) (take-append-drop n times) ∙ k.stamps;
  count = k.count;
  latest = now ∙ ap (λ b. last_or b (take n times)) k.latest ∙ sym (last_or-append 0 k.trimmed (take n times));
  rises = k.rises;
  owners = λ slot e asked.
      let left : length (drop n times) ≡ length times - n = length-drop n times in
      same slot e (omega (arith, asked, left, is, low)) ∙ k.owners slot e (omega (arith, asked, left));
}
  where
    n : ℕ
    n = length times - later

-- one change more, from what the code has
pub keeps-append : (last floor : ℕ) (times longer : List ℕ) (table filled more : List (List Span)) (cs : List Change) (c : Change) (time place : ℕ) (x : Span) → Keeps last floor times table cs
    → last_or floor times ≤ time_of c → x.epoch ≡ last + 1 → x.holder ≡ opened_by c → ((slot : ℕ) → spans_of filled slot ≡ spans_of table slot) → place < length filled → time ≡ time_of c
    → place ≡ slot_of c → longer ≡ times ++ time ∷ [] → more ≡ set filled place (spans_of filled place ++ x ∷ []) → Keeps (last + 1) floor longer more (cs ++ c ∷ [])
keeps-append last floor times longer table filled more cs c time place x k late begins holds same within at slot_is times_are table_is =
    subst (λ ns. Keeps (last + 1) floor ns more (cs ++ c ∷ [])) (sym (times_are ∙ ap (λ n. times ++ n ∷ []) at))
    (keeps-push last floor times filled more cs c x (keeps-table last floor times table filled cs same k) late begins holds put)
  where
    by_cases : (slot : ℕ) (b : Bool) → eqb place slot ≡ b → cond b (spans_of filled place ++ x ∷ []) (spans_of filled slot) ≡ cond b (spans_of filled slot ++ x ∷ []) (spans_of filled slot)
    by_cases slot true e = ap (λ n. spans_of filled n ++ x ∷ []) (eqb-true place slot e)
    by_cases slot false e = refl

    put : (slot : ℕ) → spans_of more slot ≡ cond (eqb (slot_of c) slot) (spans_of filled slot ++ x ∷ []) (spans_of filled slot)
    put slot = ap (λ ts. spans_of ts slot) table_is ∙ spans_of-set filled place (spans_of filled place ++ x ∷ []) slot within ∙ by_cases slot (eqb place slot) refl
        ∙ ap (λ n. cond (eqb n slot) (spans_of filled slot ++ x ∷ []) (spans_of filled slot)) slot_is

pub epoch_at-le : (cs : List Change) (t : ℕ) → epoch_at cs t ≤ length cs
epoch_at-le cs t = omega (arith, count_by-le-length (λ n. nat_le n t) (times_of cs), length-map cs time_of)

-- where a slice begins
pub keeps-start : (last floor : ℕ) (times : List ℕ) (table seen : List (List Span)) (cs : List Change) (epoch : ℕ) (s : StreamId) (t first edges result : ℕ) → Keeps last floor times table cs
    → last ≤ epoch + length times → epoch ≡ epoch_at cs t → seen ≡ table → result ≡ max first edges → first ≡ began cs epoch
    → edges ≡ greatest_below (λ slot. edge_of s t (holder_at (spans_of seen slot) epoch)) 512 → result ≡ slice_start cs s t
keeps-start last floor times table seen cs epoch s t first edges result k kept now same value begins edges_are =
    let all = edges_are ∙ ap (λ ts. greatest_below (λ slot. edge_of s t (holder_at (spans_of ts slot) epoch)) 512) same ∙ keeps-edges last floor times table cs epoch s t k kept in
    value ∙ (λ i. max (begins i) (all i)) ∙ ap (λ n. start_in cs n s t) now

-- trimming, from what the code has
pub keeps-trim-by : (last floor : ℕ) (times seen shorter : List ℕ) (table other : List (List Span)) (cs : List Change) (base long latest : ℕ) → Keeps last floor times table cs → base ≤ last
    → long ≡ length times → seen ≡ times → latest ≡ last_or floor (take (length seen - (last - base)) seen) → shorter ≡ drop (long - (last - base)) times
    → ((slot e : ℕ) → base ≤ e → holder_at (spans_of other slot) e ≡ holder_at (spans_of table slot) e) → Keeps last latest shorter other cs
keeps-trim-by last floor times seen shorter table other cs base long latest k low all same now rest owners =
    subst (λ ns. Keeps last latest ns other cs) (sym (rest ∙ ap (λ n. drop (n - (last - base)) times) all))
    (keeps-trim last floor times table other cs base (last - base) latest k low refl (now ∙ ap (λ ns. last_or floor (take (length ns - (last - base)) ns)) same) owners)

pub newest-trim-by : (last floor : ℕ) (times seen shorter : List ℕ) (base long latest : ℕ) → long ≡ length times → seen ≡ times
    → latest ≡ last_or floor (take (length seen - (last - base)) seen) → shorter ≡ drop (long - (last - base)) times → last_or latest shorter ≡ last_or floor times
newest-trim-by last floor times seen shorter base long latest all same now rest =
    (λ i. last_or ((now ∙ ap (λ ns. last_or floor (take (length ns - (last - base)) ns)) same) i) ((rest ∙ ap (λ n. drop (n - (last - base)) times) all) i))
    ∙ last_or-split floor times (length times - (last - base))
