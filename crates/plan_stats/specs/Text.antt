-- The text of a chip's size.
use Rattle.std.specs.Prelude.{◌+◌, ℕ, List, [], ◌∷◌, ◌++◌, codes}
use Rattle.std.specs.Fmt.{decimal}
use Rattle.track_assign.specs.declared.packing.Tracks.{Tracks}

-- a word, a number and a line feed
abbrev pub number_line : List ℕ → ℕ → List ℕ
number_line word n = word ++ (decimal n ++ 10 ∷ [])

-- `group I tracks N column N`
abbrev pub group_line : ℕ → Tracks → List ℕ
group_line i t =
    codes "group " ++ (decimal i ++ (codes " tracks " ++ (decimal t.rows ++ number_line (codes " column ") t.column)))

-- the groups, of which the first has this number
abbrev pub group_lines : ℕ → List Tracks → List ℕ
group_lines i [] = []
group_lines i (t ∷ ts) = group_line i t ++ group_lines (i + 1) ts

-- the weight, the columns, the signal rows of all bands, and the groups from 0 on
abbrev pub stats_lines : (weight columns rows : ℕ) → List Tracks → List ℕ
stats_lines weight columns rows groups =
    number_line (codes "weight ") weight
    ++ (number_line (codes "columns ") columns ++ (number_line (codes "rows ") rows ++ group_lines 0 groups))
