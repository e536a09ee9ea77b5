-- The cells of a set.
use Rattle.std.specs.Prelude.{◌≡◌, ◌==◌, ℕ, ◌+◌, ◌-◌, ◌*◌, ◌/◌, ◌%◌, ◌<◌, ◌≤◌, Bool, true, false, length}
use Rattle.std.specs.Int.{bit_at}
use Rattle.cell_set.specs.declared.set.CellSet.{CellSet}
use Rattle.cell_set.specs.Tree.{word_at}

-- the leaf of the cell
abbrev pub leaf : CellSet → ℕ → ℕ
leaf s c = length s.words.items - 1 + c

-- whether the set has the cell
unfoldable pub has : CellSet → ℕ → Bool
has s c = bit_at (word_at s.words.items (leaf s c / 64)) (leaf s c % 64) == 1

-- more cells than so many aren't in it
unfoldable pub room_of : CellSet → ℕ
room_of s = 63 * length s.words.items + 1

-- the last cell of the set before this one
pub record IsLastCell (s : CellSet) (cell r : ℕ) : Type 0 where
  pub order : r < cell
  pub own : has s r ≡ true
  pub none : (c : ℕ) → r < c → c < cell → has s c ≡ false

-- the first from this one on
pub record IsFirstCell (s : CellSet) (cell r : ℕ) : Type 0 where
  pub order : cell ≤ r
  pub own : has s r ≡ true
  pub none : (c : ℕ) → cell ≤ c → c < r → has s c ≡ false
