-- Numbers that words spell.
use Rattle.std.specs.Prelude.{ℕ, List, Bool, not, ◌&&◌, nat_lt, Option, Some, None, if◌then◌else◌, length}
use Rattle.std.specs.Char.{is_ascii_digit}
use Rattle.std.specs.List.{list_all}
use Rattle.std.specs.Str.Parse.{digits_value}

abbrev pub is_within : ℕ → ℕ → ℕ → Bool
is_within least most n = not (nat_lt n least) && not (nat_lt most n)

-- the number that a word spells in decimal digits, of which it has one to `digits`, where it lies between these two
abbrev pub number_in : ℕ → ℕ → ℕ → List ℕ → Option ℕ
number_in digits least most word =
    if list_all is_ascii_digit word && (is_within 1 digits (length word) && is_within least most (digits_value 10 word))
    then Some (digits_value 10 word) else None
