-- Parts whose state is one number.
use Rattle.std.specs.Prelude.{ℕ, ◌+◌, ◌*◌, ◌%◌, ◌^◌, List, [], ◌∷◌}

-- the number, which the part drives
abbrev pub number_in : List ℕ → ℕ
number_in [] = 0
number_in (n ∷ rest) = n

-- one more, modulo 2^64
abbrev pub counted : List ℕ → ℕ → List ℕ
counted state seen = (number_in state + 1) % 2 ^ 64 ∷ []

-- twice the number and the lowest bit that was seen, modulo 2^64
abbrev pub shifted : List ℕ → ℕ → List ℕ
shifted state seen = (number_in state * 2 + seen % 2) % 2 ^ 64 ∷ []

-- what was seen
abbrev pub echoed : List ℕ → ℕ → List ℕ
echoed state seen = seen ∷ []
