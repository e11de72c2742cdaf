-- What a call appends to a buffer, and what is left of that after want of memory.
use Rattle.std.specs.Prelude.{ℕ, ◌≡◌, Result, Ok, Err, List, ◌++◌}
use Rattle.as_words.specs.Prefix.{IsPrefix}

-- The call appended the text, or it failed and left the buffer as it was.
abbrev pub Appends : {X E : Type 0} → Result X E → List ℕ → List ℕ → List ℕ → Type 0
Appends (Ok x) old new text = new ≡ old ++ text
Appends (Err e) old new text = new ≡ old

-- The call appended the text, or it failed and appended a prefix of it.
abbrev pub AppendsPrefix : {X E : Type 0} → Result X E → List ℕ → List ℕ → List ℕ → Type 0
AppendsPrefix (Ok x) old new text = new ≡ old ++ text
AppendsPrefix (Err e) old new text = (front : List ℕ) × IsPrefix front text × (new ≡ old ++ front)
