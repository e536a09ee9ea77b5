-- Lines and columns of a text.
use Rattle.std.specs.Prelude.{ℕ, ◌+◌, List, [], ◌∷◌, Bool, cond, ◌==◌, take}
use Rattle.mp_base.specs.declared.refusal.Place.{Place}

-- line feeds part lines
abbrev pub is_feed : ℕ → Bool
is_feed c = c == 10

-- the line behind a text that begins in line n
abbrev pub line_after : ℕ → List ℕ → ℕ
line_after n [] = n
line_after n (c ∷ cs) = line_after (cond (is_feed c) (n + 1) n) cs

-- the column behind a text that begins in column n
abbrev pub column_after : ℕ → List ℕ → ℕ
column_after n [] = n
column_after n (c ∷ cs) = column_after (cond (is_feed c) 1 (n + 1)) cs

-- the place of an offset in a text; lines and columns count from 1
abbrev pub place_at : List ℕ → ℕ → Place
place_at text o = record { offset = o; line = line_after 1 (take o text); column = column_after 1 (take o text) }
