-- Marks by the numbers of the nodes.
use Rattle.std.specs.Prelude.{◌≡◌, ℕ, List, Bool, true, false, slice_index_or}

-- whether a node is marked
abbrev pub IsMarked : List Bool → ℕ → Type 0
IsMarked marks n = slice_index_or marks n false ≡ true
