-- Numbers, each in its one spelling.
use Rattle.std.specs.Prelude.{ℕ, ◌^◌, ◌&&◌, ℤ, pos, negsuc, nat_lt, int_lt, IsTrue, Bool, if◌then◌else◌, Option, Some, None, List, decimal}
use Rattle.std.specs.Fmt.{signed_decimal}
use Rattle.std.specs.Str.{bytes_eq}
use Rattle.std.specs.Str.Parse.{digits_value, signed_digits_value}

-- the number is from -2^63 to 2^63 - 1
abbrev pub is_signed : ℤ → Bool
is_signed z = int_lt (negsuc (2 ^ 63)) z && int_lt z (pos (2 ^ 63))

-- the same as a fact
abbrev pub IsSigned : ℤ → Type 0
IsSigned z = IsTrue (is_signed z)

-- the number is from -2^127 to 2^127 - 1
abbrev pub is_wide : ℤ → Bool
is_wide z = int_lt (negsuc (2 ^ 127)) z && int_lt z (pos (2 ^ 127))

-- the same as a fact
abbrev pub IsWide : ℤ → Type 0
IsWide z = IsTrue (is_wide z)

-- the number below the limit that the word spells
abbrev pub natural : ℕ → List ℕ → Option ℕ
natural limit word = let n = digits_value 10 word in if bytes_eq (decimal n) word && nat_lt n limit then Some n else None

-- the number from -2^63 to 2^63 - 1 that the word spells
abbrev pub integer : List ℕ → Option ℤ
integer word = let z = signed_digits_value 10 word in if bytes_eq (signed_decimal z) word && is_signed z then Some z else None

-- the number from -2^127 to 2^127 - 1 that the word spells
abbrev pub wide_integer : List ℕ → Option ℤ
wide_integer word = let z = signed_digits_value 10 word in if bytes_eq (signed_decimal z) word && is_wide z then Some z else None
