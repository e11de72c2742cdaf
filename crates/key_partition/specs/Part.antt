-- The part that the records with a key go to.
use Rattle.std.specs.Prelude.{ℕ, ◌^◌, ◌%◌, ℤ, pos, unsigned_abs}
use Rattle.std.specs.Int.{int_rem_euclid}

-- the key modulo 2^64: 0 to 2^64 - 1, for a negative key too
abbrev pub key_number : ℤ → ℕ
key_number key = unsigned_abs (int_rem_euclid key (pos (2 ^ 64)))

-- the part, of so many, that the records with this key go to
abbrev pub part_of : ℤ → ℕ → ℕ
part_of key parts = key_number key % parts
