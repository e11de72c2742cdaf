-- The number of an option after some of its values.
use Rattle.std.proofs.Common.{◌≡◌, ℕ, Option, Some, None, List, [], ◌∷◌, refl, IfSome, rules}
use Rattle.std.specs.Option.{option_or}
use Rattle.options.specs.Options.{name_of, span_of, within, number_by, number, values_of, IsWithin}
use Rattle.options.specs.declared.option.NumberOption.{NumberOption}
use Rattle.options.specs.declared.option.Span.{Span}

-- the number by what was found before and the values after it
abbrev pub number_after : Span → Option ℕ → List (List ℕ) → Option ℕ
number_after o None values = number_by o values
number_after o (Some n) [] = Some n
number_after o (Some n) (value ∷ values) = None

pub number_ends : (o : Span) (found : Option ℕ) → number_after o found [] ≡ option_or found o.default
number_ends o None = refl
number_ends o (Some n) = refl

-- a value that is no number in the range is refused, wherever it stands
pub number_refused : (o : Span) (found : Option ℕ) (value : List ℕ) (values : List (List ℕ)) → within o value ≡ None
    → number_after o found (value ∷ values) ≡ None
number_refused o (Some n) value values bad = refl
number_refused o None value [] bad = bad
number_refused o None value (other ∷ values) bad = refl

pub number_taken : (o : Span) (n : ℕ) (value : List ℕ) (values : List (List ℕ)) → within o value ≡ Some n
    → number_after o None (value ∷ values) ≡ number_after o (Some n) values
number_taken o n value [] is = is
number_taken o n value (other ∷ values) is = refl

-- ---- each number is within the span of its option

within-within : (s : Span) (word : List ℕ) → IfSome (within s word) (IsWithin s)
within-within s word = search rules

number_by-within : (o : NumberOption) (values : List (List ℕ)) → IfSome (number_by (span_of o) values) (IsWithin (span_of o))
number_by-within o [] = search rules
number_by-within o (value ∷ []) = within-within (span_of o) value
number_by-within o (value ∷ other ∷ values) = tt

pub number_within : (o : NumberOption) (words : List (List ℕ)) → IfSome (number o words) (IsWithin (span_of o))
number_within o words = number_by-within o (values_of (name_of o) words)
