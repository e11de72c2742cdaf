-- What the says of generated lines do to the counts of faults, and one more of them.
use Rattle.std.proofs.Common.{◌≡◌, ℕ, ◌+◌, ◌<◌, List, [], ◌∷◌, ◌++◌, map, length, refl, sym, ap, subst, append-nil, ◌∙◌, zero, suc, arith}
use Rattle.std.specs.List.{sum_by, range_with_len}
use Rattle.std.proofs.lemmas.List.{map-append}
use Rattle.std.proofs.lemmas.List.FromFn.{length-map-range_with_len}
use Rattle.std.proofs.lemmas.List.Sums.{sum_by-cons}
use Rattle.as_outside.specs.declared.entry.Entry.{Entry}
use Rattle.as_outside.specs.declared.entry.Entry.TheVariants.{Said, SayFailed}
use Rattle.as_outside.specs.declared.report.Status.{Status}
use Rattle.as_outside.specs.declared.report.Status.TheVariants as status
use Rattle.as_outside.specs.Failures.{failed_on, say_failed_by, note_failed_by, pull_failed_by}
use Rattle.as_outside.specs.Makes.{Seen, Makes, Does}
use Rattle.as_outside.proofs.FailureLaws.{failures-append, say_failures-append, note_failures-append, pull_failures-append}
use Rattle.as_outside.proofs.MakesLaws.{makes_after}
use Rattle.views.proofs.NumberLaws.{range-push}
use Rattle.generate.specs.Generated.{generated}
use Rattle.soak.specs.Soaked.{items_of}
use Rattle.astream_top.specs.Causes.{IsCaused}
use Rattle.astream_top.specs.Generation.{ended_line, says_of, IsGenerated, HasTakenAll}
use Rattle.astream_top.specs.Says.{SaysOnce}
use Rattle.astream_top.proofs.CauseLaws.{said_so}

-- one line more
pub says-more : (number streams count : ℕ) → says_of number streams (count + 1) ≡ says_of number streams count ++ Said (ended_line number streams (count + 1)) ∷ []
says-more number streams count =
    let next : 1 + count ≡ count + 1 = omega arith in
    ap (map (λ i. Said (ended_line number streams i))) (range-push 1 count)
    ∙ map-append (λ i. Said (ended_line number streams i)) (range_with_len 1 count) ((1 + count) ∷ [])
    ∙ ap (λ i. says_of number streams count ++ Said (ended_line number streams i) ∷ []) next

-- says that are done fail nowhere
silent : (f : Entry → ℕ) → ((bytes : List ℕ) → f (Said bytes) ≡ 0) → (number streams k n : ℕ) → sum_by f (map (λ i. Said (ended_line number streams i)) (range_with_len k n)) ≡ 0
silent f none number streams k zero = refl
silent f none number streams k (suc n) =
    let all = sum_by-cons f (Said (ended_line number streams k)) (map (λ i. Said (ended_line number streams i)) (range_with_len (k + 1) n)) in
    let first = none (ended_line number streams k) in
    let rest = silent f none number streams (k + 1) n in
    omega (arith, all, first, rest)

pub generated_causes : (number lines streams : ℕ) (s : Status) (count : ℕ) (a b : Seen) → Does a b (IsGenerated number lines streams s count) → IsCaused s [] a.faults b.faults
generated_causes number lines streams status.Done count a b h =
    let all = subst (Makes a b) h.holds.1 h.makes in
    said_so status.Done (says_of number streams lines) a b all
    (silent pull_failed_by (λ bytes. refl) number streams 1 lines) (silent say_failed_by (λ bytes. refl) number streams 1 lines) (silent note_failed_by (λ bytes. refl) number streams 1 lines)
    (λ n. silent (failed_on n) (λ bytes. refl) number streams 1 lines) refl
generated_causes number lines streams status.NoMemory count a b h =
    let all = subst (Makes a b) h.holds.1 h.makes in
    said_so status.NoMemory (says_of number streams count) a b all
    (silent pull_failed_by (λ bytes. refl) number streams 1 count) (silent say_failed_by (λ bytes. refl) number streams 1 count) (silent note_failed_by (λ bytes. refl) number streams 1 count)
    (λ n. silent (failed_on n) (λ bytes. refl) number streams 1 count) tt
generated_causes number lines streams status.AnswerFault count a b h =
    let front = h.holds.1.0 in
    let last = SayFailed front ∷ [] in
    let says = says_of number streams count in
    let all = subst (Makes a b) h.holds.1.2 h.makes in
    said_so status.AnswerFault (says ++ last) a b all
    (let e = pull_failures-append says last in let f = silent pull_failed_by (λ bytes. refl) number streams 1 count in omega (arith, e, f))
    (let e = say_failures-append says last in let f = silent say_failed_by (λ bytes. refl) number streams 1 count in omega (arith, e, f))
    (let e = note_failures-append says last in let f = silent note_failed_by (λ bytes. refl) number streams 1 count in omega (arith, e, f))
    (λ n. let e = failures-append n says last in let f = silent (failed_on n) (λ bytes. refl) number streams 1 count in omega (arith, e, f)) tt
generated_causes number lines streams status.Usage count a b h = absurd h.holds
generated_causes number lines streams status.ReadFault count a b h = absurd h.holds
generated_causes number lines streams status.OutputBroken count a b h = absurd h.holds
generated_causes number lines streams status.TooLong count a b h = absurd h.holds
generated_causes number lines streams status.JournalFault count a b h = absurd h.holds

-- one line more was said
pub said-more : (number streams count : ℕ) (a b d : Seen) → Makes a b (says_of number streams count) → Does b d (SaysOnce (ended_line number streams (count + 1)) status.Done)
    → Makes a d (says_of number streams (count + 1))
said-more number streams count a b d before h =
    subst (Makes a d) (ap (λ l. says_of number streams count ++ l) h.holds ∙ sym (says-more number streams count)) (makes_after a b d (says_of number streams count) h.calls before h.makes)

-- or the say of it failed, or there was no memory for it
pub stopped_at : (number lines streams count : ℕ) (s : Status) (a b d : Seen) → count < lines → ¬ (s ≡ status.Done) → Makes a b (says_of number streams count)
    → Does b d (SaysOnce (ended_line number streams (count + 1)) s) → Does a d (IsGenerated number lines streams s count)
stopped_at number lines streams count status.Done a b d few not_done before h = absurd (not_done refl)
stopped_at number lines streams count status.NoMemory a b d few not_done before h = record {
  calls = says_of number streams count ++ h.calls;
  makes = makes_after a b d (says_of number streams count) h.calls before h.makes;
  holds = (few, ap (λ l. says_of number streams count ++ l) h.holds ∙ append-nil (says_of number streams count));
}
stopped_at number lines streams count status.AnswerFault a b d few not_done before h = record {
  calls = says_of number streams count ++ h.calls;
  makes = makes_after a b d (says_of number streams count) h.calls before h.makes;
  holds = (few, (h.holds.0, h.holds.1, ap (λ l. says_of number streams count ++ l) h.holds.2));
}
stopped_at number lines streams count status.Usage a b d few not_done before h = absurd h.holds
stopped_at number lines streams count status.ReadFault a b d few not_done before h = absurd h.holds
stopped_at number lines streams count status.OutputBroken a b d few not_done before h = absurd h.holds
stopped_at number lines streams count status.TooLong a b d few not_done before h = absurd h.holds
stopped_at number lines streams count status.JournalFault a b d few not_done before h = absurd h.holds

-- ---- a soak

pub length-items_of : (number lines streams : ℕ) → length (items_of number lines streams) ≡ lines
length-items_of number lines streams = length-map-range_with_len (λ i. generated number i streams) 1 lines

-- all lines were taken, however the say went
pub all_taken : (lines : ℕ) (s : Status) (count : ℕ) → count ≡ lines → HasTakenAll lines s count
all_taken lines status.Done count e = e
all_taken lines status.NoMemory count e = omega (arith, e)
all_taken lines status.AnswerFault count e = e
all_taken lines status.Usage count e = e
all_taken lines status.ReadFault count e = e
all_taken lines status.OutputBroken count e = e
all_taken lines status.TooLong count e = e
all_taken lines status.JournalFault count e = e
