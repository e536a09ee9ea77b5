-- The colours of a row, by the borders between cells of different colours and the colours from these on.
use Rattle.std.specs.Prelude.{◌≡◌, ◌≢◌, ◌⊎◌, ◌&&◌, ◌==◌, ℕ, zero, suc, ◌+◌, ◌<◌, ◌≤◌, ◌^◌, Bool, true, false, List, []}
use Rattle.std.specs.Prelude.{◌∷◌, ◌++◌, get_or, set, length, nat_lt, nat_le, if◌then◌else◌}
use Rattle.cell_set.specs.declared.set.CellSet.{CellSet}
use Rattle.cell_set.specs.Sets.{has, room_of}
use Rattle.mask_runs.specs.declared.run.Run.{Run}

-- the colour that is noted at a cell
abbrev pub noted : List ℕ → ℕ → ℕ
noted colours c = get_or colours c 0

-- the colour that is noted at the last border at or before a cell
unfoldable pub colour_to : CellSet → List ℕ → ℕ → ℕ
colour_to borders colours zero = noted colours 0
colour_to borders colours (suc c) = if has borders (suc c) then noted colours (suc c) else colour_to borders colours c

-- the colours of the cells from `from` up to `to`, and 0 beside them
abbrev pub windowed : ℕ → ℕ → (ℕ → ℕ) → ℕ → ℕ
windowed from to colour c = if nat_le from c && nat_lt c to then colour c else 0

-- the runs and one more, unless that has no colour
abbrev pub with_run : List Run → Run → List Run
with_run runs run = if run.colour == 0 then runs else runs ++ run ∷ []

-- the first cell is a border, and each other border stands between cells of different colours
pub record AreBorders (borders : CellSet) (colours : List ℕ) : Type 0 where
  pub some : 0 < length colours
  pub small : length colours < 2 ^ 31
  pub room : length colours < room_of borders
  pub first : has borders 0 ≡ true
  pub within : (c : ℕ) → has borders c ≡ true → c < length colours
  pub change : (c : ℕ) → has borders (suc c) ≡ true → colour_to borders colours c ≢ noted colours (suc c)

-- the last border at the cell or before it
pub record IsBorderTo (borders : CellSet) (cell border : ℕ) : Type 0 where
  pub order : border ≤ cell
  pub own : has borders border ≡ true
  pub none : (c : ℕ) → border < c → c ≤ cell → has borders c ≡ false

-- the first one past it, or the end of the row
pub record IsBorderAfter (borders : CellSet) (cells cell border : ℕ) : Type 0 where
  pub order : cell < border
  pub within : border ≤ cells
  pub none : (c : ℕ) → cell < c → c < border → has borders c ≡ false
  pub own : (border ≡ cells) ⊎ (has borders border ≡ true)

-- the cell before has another colour, if there is one
abbrev pub Begins : (ℕ → ℕ) → ℕ → ℕ → Type 0
Begins colours cell colour = (cell ≡ 0) ⊎ ((c : ℕ) → c + 1 ≡ cell → colours c ≢ colour)

-- the cells from one up to another have no border but the first, if that is one, at which the colour is noted
pub record IsFilled (old now : CellSet) (colours painted : List ℕ) (from to colour : ℕ)
    (is_border : Bool) : Type 0 where
  pub own : has now from ≡ is_border
  pub inside : (c : ℕ) → from < c → c < to → has now c ≡ false
  pub beside : (c : ℕ) → (c < from) ⊎ (to ≤ c) → has now c ≡ has old c
  pub noted : painted ≡ set colours from colour
  pub room : room_of now ≡ room_of old
