-- The log that a desk in memory keeps, and what becomes of an entry.
use Rattle.std.specs.Prelude.{◌≡◌, ◌⊎◌, ◌≤◌, vec_len, vec_capacity, true, false, if◌then◌else◌, Option, None, Some, List, [], ◌∷◌, ◌++◌}
use Rattle.as_outside.specs.declared.entry.Entry.{Entry}
use Rattle.as_outside.specs.declared.mem_desk.call_log.CallLog.{CallLog}
use Rattle.as_outside.specs.declared.mem_desk.call_log.Kept.{Kept}
use Rattle.as_outside.specs.declared.mem_desk.call_log.Kept.TheVariants.{Added, Untold, Lost}

-- the whole log, unless an entry could not be kept
abbrev pub whole_log : CallLog → Option (List Entry)
whole_log log = if log.lost then None else Some log.entries.items

-- what became of an entry; one is lost where it could not be made or there was no room for it
abbrev pub IsKept : Kept → Option Entry → CallLog → CallLog → Type 0
IsKept Added entry old new = (e : Entry) × (entry ≡ Some e) × (old.lost ≡ false) × (new.lost ≡ false)
    × (new.entries.items ≡ old.entries.items ++ e ∷ [])
IsKept Untold entry old new = (old.lost ≡ true) × (new ≡ old)
IsKept Lost entry old new = (old.lost ≡ false) × (new.lost ≡ true) × (new.entries.items ≡ old.entries.items)
    × ((entry ≡ None) ⊎ (vec_capacity old.entries ≤ vec_len old.entries))
