-- A memory: its state is an address, and then the words.
use Rattle.std.specs.Prelude.{ℕ, ◌/◌, ◌%◌, List, [], ◌∷◌, ◌==◌, if◌then◌else◌, slice_index, slice_set}

-- the word at the address, which the memory drives
abbrev pub word_in : List ℕ → ℕ
word_in [] = 0
word_in (address ∷ words) = slice_index words address

-- the lowest 8 bits seen are the next address; where bit 8 is 1, the bits above it are first stored at the address
-- before
abbrev pub remembered : List ℕ → ℕ → List ℕ
remembered [] seen = []
remembered (address ∷ words) seen =
    seen % 256 ∷ (if (seen / 256 % 2) == 1 then slice_set words address (seen / 512) else words)
