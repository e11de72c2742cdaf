-- Up to the end of a slice its beginning stays; there another one begins.
use Rattle.std.proofs.Common.{◌≡◌, ℕ, ◌+◌, ◌-◌, ◌^◌, ◌<◌, ◌≤◌, max, min, List, ◌++◌, length, get_or, take, drop, sym, ap, subst, ◌∙◌, ⊎_elim, arith}
use Rattle.std.proofs.lemmas.Bool.{cases_lt}
use Rattle.std.proofs.lemmas.List.{length-append, get_or-append-add}
use Rattle.as_base.specs.declared.message.Change.{Change}
use Rattle.as_base.specs.declared.stream.StreamId.{StreamId}
use Rattle.changelog.specs.declared.spans.Span.{Span}
use Rattle.changelog.specs.Changes.{times_of, AreClimbing, last_or, until, epoch_at, owner, began, edge_of, greatest_below, start_in, slice_start}
use Rattle.changelog.specs.Ends.{edge_after, least_below}
use Rattle.changelog.specs.EpochsFor.{Keeps, spans_of}
use Rattle.changelog.specs.Spans.{holder_at}
use Rattle.changelog.proofs.EdgeLaws.{greatest_below-le, greatest_below-while, least_below-lt}
use Rattle.changelog.proofs.EndLaws.{edge_of-while, edge_after-after}
use Rattle.changelog.proofs.KeepLaws.{keeps-epoch}
use Rattle.changelog.proofs.NumberLaws.{until-none, until-mono, climbing-back}
use Rattle.changelog.proofs.ReachLaws.{edge_after-reach, edge_of-le, least_below-reach, last_or-until-le, last_or-until-reach, found}

-- no change, no other epoch
pub epoch-while : (last floor : ℕ) (times : List ℕ) (table : List (List Span)) (cs : List Change) (left t u : ℕ) → Keeps last floor times table cs → left ≤ length times
    → until t (drop left times) ≡ 0 → (0 < left → get_or times (left - 1) 0 ≤ t) → last ≤ epoch_at cs t + length times → t ≤ u → u < get_or times left (2 ^ 62) → epoch_at cs u ≡ epoch_at cs t
epoch-while last floor times table cs left t u k within later earlier asked le below =
    let climbs : AreClimbing times = climbing-back k.trimmed times (subst AreClimbing (sym k.stamps) k.rises) in
    let more : epoch_at cs t ≤ epoch_at cs u = until-mono (times_of cs) t u le in
    sym (keeps-epoch last floor times table cs left u k within (until-none times left u (2 ^ 62) climbs below) (λ some. let e = earlier some in omega (arith, e, le)) (omega (arith, asked, more)))
    ∙ keeps-epoch last floor times table cs left t k within later earlier asked

-- no edge, no other beginning
pub start-while : (last floor : ℕ) (times : List ℕ) (table : List (List Span)) (cs : List Change) (s : StreamId) (epoch t u : ℕ) → Keeps last floor times table cs → last ≤ epoch + length times → t ≤ u
    → u < least_below (λ slot. edge_after s t (holder_at (spans_of table slot) epoch)) 512 → start_in cs epoch s u ≡ start_in cs epoch s t
start-while last floor times table cs s epoch t u k asked le below =
    ap (max (began cs epoch)) (greatest_below-while (λ slot. edge_of s u (owner cs epoch slot)) (λ slot. edge_of s t (owner cs epoch slot)) (λ slot. edge_after s t (holder_at (spans_of table slot) epoch)) u 512
    (λ slot h. edge_of-while s t u (owner cs epoch slot) le (subst (λ holder. u < edge_after s t holder) (k.owners slot epoch asked) h)) below)

-- neither, from what the code has
pub slice-while : (last floor : ℕ) (times seen : List ℕ) (table rows : List (List Span)) (cs : List Change) (s : StreamId) (epoch left t u change next result : ℕ) → Keeps last floor times table cs
    → last ≤ epoch_at cs t + length times → seen ≡ times → left ≤ length seen → until t (drop left seen) ≡ 0 → (0 < left → get_or seen (left - 1) 0 ≤ t) → epoch ≡ epoch_at cs t
    → change ≡ min (get_or seen left (2 ^ 62)) (2 ^ 62) → rows ≡ table → next ≡ least_below (λ slot. edge_after s t (holder_at (spans_of rows slot) epoch)) 512 → result ≡ min change next
    → t ≤ u → u < result → slice_start cs s u ≡ slice_start cs s t
slice-while last floor times seen table rows cs s epoch left t u change next result k asked same within later earlier now change_is rows_are next_is value le below =
    let change_at : u < get_or times left (2 ^ 62) = subst (λ ns. u < get_or ns left (2 ^ 62)) same (omega (arith, below, value, change_is)) in
    let epochs = epoch-while last floor times table cs left t u k (subst (λ ns. left ≤ length ns) same within) (subst (λ ns. until t (drop left ns) ≡ 0) same later)
    (λ some. subst (λ ns. get_or ns (left - 1) 0 ≤ t) same (earlier some)) asked le change_at in
    let least = least_below (λ slot. edge_after s t (holder_at (spans_of rows slot) epoch)) 512 in
    let early : u < least = omega (arith, below, value, next_is) in
    let here : u < least_below (λ slot. edge_after s t (holder_at (spans_of table slot) (epoch_at cs t))) 512 =
    subst (λ n. u < least_below (λ slot. edge_after s t (holder_at (spans_of table slot) n)) 512) now
    (subst (λ ts. u < least_below (λ slot. edge_after s t (holder_at (spans_of ts slot) epoch)) 512) rows_are early) in
    ap (λ n. start_in cs n s u) epochs ∙ start-while last floor times table cs s (epoch_at cs t) t u k asked le here

pub edges-after : (table : List (List Span)) (s : StreamId) (epoch t : ℕ) → t < 2 ^ 62 → t < least_below (λ slot. edge_after s t (holder_at (spans_of table slot) epoch)) 512
edges-after table s epoch t most =
    least_below-lt (λ slot. edge_after s t (holder_at (spans_of table slot) epoch)) t 512 most (λ slot. edge_after-after s t (holder_at (spans_of table slot) epoch) most)

-- a slice begins no later than a time that it holds
pub slice_start-le : (cs : List Change) (s : StreamId) (t : ℕ) → AreClimbing (times_of cs) → slice_start cs s t ≤ t
slice_start-le cs s t rises =
    let change : began cs (epoch_at cs t) ≤ t = last_or-until-le 0 t (times_of cs) rises (omega arith) in
    let edges : greatest_below (λ slot. edge_of s t (owner cs (epoch_at cs t) slot)) 512 ≤ t = greatest_below-le (λ slot. edge_of s t (owner cs (epoch_at cs t) slot)) t 512 (λ slot. edge_of-le s t (owner cs (epoch_at cs t) slot)) in
    omega (arith, change, edges)

-- at a change
at_change : (last floor : ℕ) (times : List ℕ) (table : List (List Span)) (cs : List Change) (s : StreamId) (left r : ℕ) → Keeps last floor times table cs → get_or times left (2 ^ 62) ≡ r → r < 2 ^ 62 → r ≤ slice_start cs s r
at_change last floor times table cs s left r k is most =
    let there = found times left (2 ^ 62) r is most in
    let within : left < length times = there.0 in
    let all = k.trimmed ++ times in
    let reach : r ≤ began cs (epoch_at cs r) = subst (λ ns. r ≤ last_or 0 (take (until r ns) ns)) k.stamps
    (last_or-until-reach 0 r all (length k.trimmed + left) (subst AreClimbing (sym k.stamps) k.rises) (omega (arith, length-append k.trimmed times, within)) (get_or-append-add k.trimmed times left 0 ∙ there.1)) in
    omega (arith, reach)

-- at an edge
at_edge : (last floor : ℕ) (times : List ℕ) (table : List (List Span)) (cs : List Change) (s : StreamId) (t r : ℕ) → Keeps last floor times table cs → last ≤ epoch_at cs t + length times
    → least_below (λ slot. edge_after s t (holder_at (spans_of table slot) (epoch_at cs t))) 512 ≡ r → r < 2 ^ 62 → epoch_at cs r ≡ epoch_at cs t → r ≤ slice_start cs s r
at_edge last floor times table cs s t r k asked is most same =
    let reach = least_below-reach (λ slot. edge_of s r (owner cs (epoch_at cs t) slot)) (λ slot. edge_after s t (holder_at (spans_of table slot) (epoch_at cs t))) r 512 most
    (λ slot here. subst (λ holder. r ≤ edge_of s r holder) (k.owners slot (epoch_at cs t) asked) (edge_after-reach s t r (holder_at (spans_of table slot) (epoch_at cs t)) here most)) is in
    let all : r ≤ start_in cs (epoch_at cs t) s r = omega (arith, reach) in
    subst (λ n. r ≤ start_in cs n s r) (sym same) all

pub slice-next : (last floor : ℕ) (times seen : List ℕ) (table rows : List (List Span)) (cs : List Change) (s : StreamId) (epoch left t change next result : ℕ) → Keeps last floor times table cs
    → last ≤ epoch_at cs t + length times → seen ≡ times → left ≤ length seen → until t (drop left seen) ≡ 0 → (0 < left → get_or seen (left - 1) 0 ≤ t) → epoch ≡ epoch_at cs t
    → change ≡ min (get_or seen left (2 ^ 62)) (2 ^ 62) → rows ≡ table → next ≡ least_below (λ slot. edge_after s t (holder_at (spans_of rows slot) epoch)) 512 → result ≡ min change next
    → t ≤ result → result < 2 ^ 62 → slice_start cs s result ≡ result
slice-next last floor times seen table rows cs s epoch left t change next result k asked same within later earlier now change_is rows_are next_is value le most =
    let up : result ≤ slice_start cs s result = ⊎_elim by_edge by_change (cases_lt next change) in
    let down = slice_start-le cs s result k.rises in
    omega (arith, up, down)
  where
    change_at : change ≡ min (get_or times left (2 ^ 62)) (2 ^ 62)
    change_at = subst (λ ns. change ≡ min (get_or ns left (2 ^ 62)) (2 ^ 62)) same change_is

    next_at : next ≡ least_below (λ slot. edge_after s t (holder_at (spans_of table slot) (epoch_at cs t))) 512
    next_at = next_is ∙ (λ i. least_below (λ slot. edge_after s t (holder_at (spans_of (rows_are i) slot) (now i))) 512)

    by_change : change ≤ next → result ≤ slice_start cs s result
    by_change l = at_change last floor times table cs s left result k (omega (arith, change_at, value, l, most)) most

    by_edge : next < change → result ≤ slice_start cs s result
    by_edge l =
        let is : next ≡ result = omega (arith, value, l) in
        let epochs = epoch-while last floor times table cs left t result k (subst (λ ns. left ≤ length ns) same within) (subst (λ ns. until t (drop left ns) ≡ 0) same later)
        (λ some. subst (λ ns. get_or ns (left - 1) 0 ≤ t) same (earlier some)) asked le (omega (arith, change_at, is, l)) in
        at_edge last floor times table cs s t result k asked (sym next_at ∙ is) most epochs
