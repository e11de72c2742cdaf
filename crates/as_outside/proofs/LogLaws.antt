-- The words of a log go along with `++`: what a log and the calls after it say together.
use Rattle.std.proofs.Common.{ℕ, ◌≡◌, ◌+◌, ◌||◌, Bool, true, false, List, [], ◌∷◌, ◌++◌, refl, sym, ap, ◌∙◌, true≢false, append-nil}
use Rattle.std.proofs.lemmas.Bool.{false≢true}
use Rattle.std.proofs.lemmas.List.Concat.{flat_map-append}
use Rattle.std.proofs.lemmas.List.Sums.{sum_by-append, sum_by-cons}
use Rattle.as_outside.specs.declared.entry.Entry.{Entry}
use Rattle.as_outside.specs.declared.entry.Entry.TheVariants.{Pulled}
use Rattle.as_outside.specs.Entries.{HasNo}
use Rattle.as_outside.specs.Log.{pulled_by, pulled, said_by, said, is_pull, is_note, is_cue, begun_by, begins, put_by, puts, held_after, held_from, held}
use Rattle.as_outside.proofs.EntryLaws.{HasNo-fewer}

pub pulled-append : (a b : List Entry) → pulled (a ++ b) ≡ pulled a ++ pulled b
pulled-append a b = flat_map-append pulled_by a b

pub said-append : (a b : List Entry) → said (a ++ b) ≡ said a ++ said b
said-append a b = flat_map-append said_by a b

pub begins-append : (n : ℕ) (a b : List Entry) → begins n (a ++ b) ≡ begins n a + begins n b
begins-append n a b = sum_by-append (begun_by n) a b

pub puts-append : (n : ℕ) (a b : List Entry) → puts n (a ++ b) ≡ puts n a + puts n b
puts-append n a b = sum_by-append (put_by n) a b

pub held_from-append : (n : ℕ) (bytes : List ℕ) (a b : List Entry) → held_from n bytes (a ++ b) ≡ held_from n (held_from n bytes a) b
held_from-append n bytes [] b = refl
held_from-append n bytes (e ∷ a) b = held_from-append n (held_after n bytes e) a b

pub held-append : (n : ℕ) (a b : List Entry) → held n (a ++ b) ≡ held_from n (held n a) b
held-append n a b = held_from-append n [] a b

-- from the first call and the rest
pub begins-cons : (n : ℕ) (e : Entry) (log : List Entry) → begins n (e ∷ log) ≡ begun_by n e + begins n log
begins-cons n e log = sum_by-cons (begun_by n) e log

pub puts-cons : (n : ℕ) (e : Entry) (log : List Entry) → puts n (e ∷ log) ≡ put_by n e + puts n log
puts-cons n e log = sum_by-cons (put_by n) e log

neither : (a b : Bool) → (a || b) ≡ false → a ≡ false
neither true b h = absurd (true≢false h)
neither false b h = refl

-- a log without cues has no pulls
pub no_pull : (log : List Entry) → HasNo is_cue log → HasNo is_pull log
no_pull log h = HasNo-fewer is_cue is_pull (λ e none. neither (is_pull e) (is_note e) none) log h

none_pulled : (e : Entry) → is_pull e ≡ false → pulled_by e ≡ []
none_pulled (Pulled bytes) quiet = absurd (false≢true (sym quiet))
none_pulled _ quiet = refl

pulled-quiet : (log : List Entry) → HasNo is_pull log → pulled log ≡ []
pulled-quiet [] quiet = refl
pulled-quiet (e ∷ log) quiet = ap (λ bytes. bytes ++ pulled log) (none_pulled e quiet.0) ∙ pulled-quiet log quiet.1

-- calls that are no pulls leave the bytes pulled
pub pulled-append_quiet : (a b : List Entry) → HasNo is_pull b → pulled (a ++ b) ≡ pulled a
pulled-append_quiet a b quiet = pulled-append a b ∙ ap (λ bytes. pulled a ++ bytes) (pulled-quiet b quiet) ∙ append-nil (pulled a)
