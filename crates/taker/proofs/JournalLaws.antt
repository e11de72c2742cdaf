-- The journal along with more calls: a note that went well adds its item, and no other call changes the journal.
use Rattle.std.proofs.Common.{◌≡◌, ℕ, ◌||◌, Bool, true, false, true≢false, List, [], ◌∷◌, ◌++◌, refl, sym, ap, ◌∙◌, subst, append-nil}
use Rattle.std.specs.List.{flat_map}
use Rattle.std.proofs.lemmas.List.{map-append}
use Rattle.std.proofs.lemmas.List.Concat.{flat_map-append}
use Rattle.as_base.specs.declared.config.Config.{Config}
use Rattle.as_base.specs.declared.item.Item.{Item}
use Rattle.as_base.specs.Range.{IsSpelled}
use Rattle.as_outside.specs.declared.entry.Entry.{Entry}
use Rattle.as_outside.specs.declared.entry.Entry.TheVariants.{Noted, NoteFailed}
use Rattle.as_outside.specs.Entries.{HasNo}
use Rattle.as_outside.specs.Log.{is_pull, is_note, is_cue}
use Rattle.as_outside.proofs.EntryLaws.{HasNo-fewer, BeforeEach-quiet, BeforeEach-one}
use Rattle.as_lineform.specs.Lines.{lines, rest, last_item, items}
use Rattle.service.specs.Due.{IsDue}
use Rattle.taker.specs.Journal.{note_of, note_in, notes, noted, IsDueSoFar, IsJournal}
use Rattle.taker.proofs.FeedLaws.{note_reads}

notes-append : (a b : List Entry) → notes (a ++ b) ≡ notes a ++ notes b
notes-append a b = flat_map-append note_in a b

noted-append : (a b : List Entry) → noted (a ++ b) ≡ noted a ++ noted b
noted-append a b = ap (flat_map (λ note. note)) (notes-append a b) ∙ flat_map-append (λ note. note) (notes a) (notes b)

-- ---- calls that are no notes

second : (a b : Bool) → (a || b) ≡ false → b ≡ false
second true b h = absurd (true≢false h)
second false b h = h

-- a log without cues has no notes
no_note : (log : List Entry) → HasNo is_cue log → HasNo is_note log
no_note log h = HasNo-fewer is_cue is_note (λ e none. second (is_pull e) (is_note e) none) log h

none_in : (e : Entry) → is_note e ≡ false → note_in e ≡ []
none_in (Noted bytes) quiet = absurd (true≢false quiet)
none_in _ quiet = refl

notes-quiet : (log : List Entry) → HasNo is_note log → notes log ≡ []
notes-quiet [] quiet = refl
notes-quiet (e ∷ log) quiet = ap (λ l. l ++ notes log) (none_in e quiet.0) ∙ notes-quiet log quiet.1

notes_after : (a b : List Entry) → notes b ≡ [] → notes (a ++ b) ≡ notes a
notes_after a b none = notes-append a b ∙ ap (λ l. notes a ++ l) none ∙ append-nil (notes a)

noted_after : (a b : List Entry) → notes b ≡ [] → noted (a ++ b) ≡ noted a
noted_after a b none = ap (flat_map (λ note. note)) (notes_after a b none)

-- they leave the bytes noted
pub noted-quiet : (a b : List Entry) → HasNo is_cue b → noted (a ++ b) ≡ noted a
noted-quiet a b quiet = noted_after a b (notes-quiet b (no_note b quiet))

-- and the journal
pub journal-quiet : (c : Config) (journal : List Item) (a b : List Entry) → IsJournal c journal a → HasNo is_cue b
    → IsJournal c journal (a ++ b)
journal-quiet c journal a b was quiet =
    let none : HasNo is_note b = no_note b quiet in
    record {
      notes = notes_after a b (notes-quiet b none) ∙ was.notes;
      read = ap items (noted-quiet a b quiet) ∙ was.read;
      prompt = BeforeEach-quiet is_note (IsDueSoFar c) a b was.prompt none;
    }

-- ---- notes

due_so_far : (c : Config) (journal : List Item) (a : List Entry) → IsJournal c journal a → IsDue c journal a → IsDueSoFar c a
due_so_far c journal a was due = subst (λ l. IsDue c l a) (sym was.read) due

-- a note that failed leaves the journal
pub journal-note_failed : (c : Config) (journal : List Item) (a : List Entry) (front : List ℕ) → IsDue c journal a
    → IsJournal c journal a → IsJournal c journal (a ++ NoteFailed front ∷ [])
journal-note_failed c journal a front due was = record {
  notes = notes_after a (NoteFailed front ∷ []) refl ∙ was.notes;
  read = ap items (noted_after a (NoteFailed front ∷ []) refl) ∙ was.read;
  prompt = BeforeEach-one is_note (IsDueSoFar c) a (NoteFailed front) was.prompt (due_so_far c journal a was due);
}

noted-one : (a : List Entry) (bytes : List ℕ) → noted (a ++ Noted bytes ∷ []) ≡ noted a ++ bytes
noted-one a bytes = noted-append a (Noted bytes ∷ []) ∙ ap (λ l. noted a ++ l) (append-nil bytes)

-- all bytes are in whole lines
all_whole : (bytes : List ℕ) → rest bytes ≡ [] → items bytes ≡ lines bytes
all_whole bytes whole = ap (λ r. lines bytes ++ last_item r) whole ∙ append-nil (lines bytes)

-- a note that went well leaves whole lines
pub whole-noted : (a : List Entry) (x : Item) → IsSpelled x → rest (noted a) ≡ [] → rest (noted (a ++ Noted (note_of x) ∷ [])) ≡ []
whole-noted a x spelled whole = ap rest (noted-one a (note_of x)) ∙ (note_reads (noted a) x spelled whole).1

-- and adds its item to the journal
pub journal-noted : (c : Config) (journal : List Item) (a : List Entry) (x : Item) → IsSpelled x → IsDue c journal a
    → rest (noted a) ≡ [] → IsJournal c journal a → IsJournal c (journal ++ x ∷ []) (a ++ Noted (note_of x) ∷ [])
journal-noted c journal a x spelled due whole was =
    let e : Entry = Noted (note_of x) in
    let reads = note_reads (noted a) x spelled whole in
    let before : lines (noted a) ≡ journal = sym (all_whole (noted a) whole) ∙ was.read in
    record {
      notes = notes-append a (e ∷ []) ∙ ap (λ l. l ++ note_of x ∷ []) was.notes ∙ sym (map-append note_of journal (x ∷ []));
      read = ap items (noted-one a (note_of x)) ∙ all_whole (noted a ++ note_of x) reads.1 ∙ reads.0 ∙ ap (λ l. l ++ x ∷ []) before;
      prompt = BeforeEach-one is_note (IsDueSoFar c) a e was.prompt (due_so_far c journal a was due);
    }
