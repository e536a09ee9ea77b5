-- A part that counts how often it moves.
use Rattle.std.specs.Prelude.{ℕ, ◌+◌, ◌*◌, ◌%◌, ◌^◌, List, [], ◌∷◌}

-- a thousand times the number of its moves, and what it saw last
abbrev pub told_by : List ℕ → ℕ
told_by (moves ∷ seen ∷ rest) = (moves * 1000 + seen) % 2 ^ 64
told_by state = 0

-- one more move, modulo 2^64
abbrev pub moved_by : List ℕ → ℕ → List ℕ
moved_by (moves ∷ rest) seen = (moves + 1) % 2 ^ 64 ∷ seen ∷ []
moved_by [] seen = []
