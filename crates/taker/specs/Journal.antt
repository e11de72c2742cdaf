-- The journal: the notes of a log, the items that they note, and that all that is due was out before each.
use Rattle.std.specs.Prelude.{ℕ, ◌≡◌, List, [], ◌∷◌, ◌++◌, map}
use Rattle.std.specs.List.{flat_map}
use Rattle.as_base.specs.declared.config.Config.{Config}
use Rattle.as_base.specs.declared.item.Item.{Item}
use Rattle.as_outside.specs.declared.entry.Entry.{Entry}
use Rattle.as_outside.specs.declared.entry.Entry.TheVariants.{Noted}
use Rattle.as_outside.specs.Log.{is_note}
use Rattle.as_outside.specs.Entries.{BeforeEach}
use Rattle.as_lineform.specs.Lines.{items}
use Rattle.as_lineform.specs.Spelling.{item_text}
use Rattle.service.specs.Due.{IsDue}

-- the note of an item: a line that says it
abbrev pub note_of : Item → List ℕ
note_of item = item_text item ++ 10 ∷ []

abbrev pub note_in : Entry → List (List ℕ)
note_in (Noted bytes) = bytes ∷ []
note_in _ = []

-- the notes that went well, in order
abbrev pub notes : List Entry → List (List ℕ)
notes log = flat_map note_in log

-- the bytes of the journal: those of the notes that went well
abbrev pub noted : List Entry → List ℕ
noted log = flat_map (λ note. note) (notes log)

-- what is due for the items noted so far is out
abbrev pub IsDueSoFar : Config → List Entry → Type 0
IsDueSoFar c calls = IsDue c (items (noted calls)) calls

-- These items are the journal of the calls.
pub record IsJournal (c : Config) (journal : List Item) (calls : List Entry) : Type 0 where
  -- each note that went well is that of an item
  pub notes : notes calls ≡ map note_of journal
  -- read as lines, the journal's bytes say these items
  pub read : items (noted calls) ≡ journal
  -- before each note, also a failed one, all that was due for the items noted so far was out
  pub prompt : BeforeEach is_note (IsDueSoFar c) calls
