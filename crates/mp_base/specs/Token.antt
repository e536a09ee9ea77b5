-- The bytes of names and numerals, in every text that the program reads.
use Rattle.std.specs.Prelude.{ℕ, [], ◌∷◌, Bool, ◌||◌, ◌&&◌, nat_le, ◌==◌}
use Rattle.std.specs.List.{list_any}

abbrev pub is_digit : ℕ → Bool
is_digit c = nat_le 48 c && nat_le c 57

abbrev pub is_letter : ℕ → Bool
is_letter c = (nat_le 65 c && nat_le c 90) || (nat_le 97 c && nat_le c 122)

-- - _ + * / < = >
abbrev pub is_sign : ℕ → Bool
is_sign c = list_any (λ s. c == s) (45 ∷ 95 ∷ 43 ∷ 42 ∷ 47 ∷ 60 ∷ 61 ∷ 62 ∷ [])

-- a byte that names and numbers are made of
abbrev pub is_token : ℕ → Bool
is_token c = is_letter c || is_digit c || is_sign c
