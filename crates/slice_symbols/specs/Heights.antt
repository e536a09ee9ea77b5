-- Bands of one height, and rectangles that are lifted from one to another.
use Rattle.std.specs.Prelude.{ℕ, ◌*◌, ◌+◌, ◌<◌, ◌≤◌, List, map, ℤ, pos, neg_ℤ, ◌+ℤ◌, ◌<ℤ◌, ◌≤ℤ◌}
use Rattle.std.specs.List.{range_with_len}
use Rattle.lam_geom.specs.declared.rect.Rect.{Rect}
use Rattle.lam_geom.specs.Moves.{IsNear, shifted}
use Rattle.slice_symbols.specs.declared.bands.Bands.{Bands}

-- they have a height, and aren't many
pub record AreUsable (b : Bands) : Type 0 where
  pub low : IsNear b.low
  pub height : 0 < b.height
  pub few : b.count ≤ 64

-- how far the band with that number lies above the first
abbrev pub height_of : Bands → ℕ → ℤ
height_of b k = pos (k * b.height)

-- the heights of so many bands, from the first on
abbrev pub heights : Bands → ℕ → List ℤ
heights b many = map (height_of b) (range_with_len 0 many)

-- the rectangle, so much higher
abbrev pub raised : ℤ → Rect → Rect
raised height r = shifted (pos 0) height r

-- the rectangle stands in the band with that number
pub record StandsIn (b : Bands) (k : ℕ) (r : Rect) : Type 0 where
  pub bottom : (b.low +ℤ height_of b k) ≤ℤ r.y0
  pub below : r.y0 <ℤ (b.low +ℤ height_of b (k + 1))
  pub top : r.y1 ≤ℤ (b.low +ℤ height_of b (k + 1))

-- less than 2^50 in size
abbrev pub IsShift : ℤ → Type 0
IsShift z = (neg_ℤ (pos 1_125_899_906_842_624) ≤ℤ z) × (z ≤ℤ pos 1_125_899_906_842_624)
