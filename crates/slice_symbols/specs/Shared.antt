-- What stands alike in each band, and the rest.
use Rattle.std.specs.Prelude.{ℕ, ◌≡◌, ◌<◌, List, Contains}
use Rattle.lam_geom.specs.declared.rect.Rect.{Rect}
use Rattle.slice_symbols.specs.declared.bands.Bands.{Bands}
use Rattle.slice_symbols.specs.Heights.{StandsIn, height_of, raised}
use Rattle.slice_symbols.specs.Ordered.{AreAll}

-- it stands in the first band, and one like it is among the rectangles in each
pub record IsCommon (rects : List Rect) (b : Bands) (c : Rect) : Type 0 where
  pub first : StandsIn b 0 c
  pub each : (k : ℕ) → k < b.count → Contains rects (raised (height_of b k) c)

-- it is a common one, raised into a band
pub record IsCopy (rects : List Rect) (b : Bands) (r : Rect) : Type 0 where
  pub original : Rect
  pub common : IsCommon rects b original
  pub band : ℕ
  pub few : band < b.count
  pub same : raised (height_of b band) original ≡ r

-- all that is common, and all that is no copy of it, each in order and once
pub record AreSharedOut (rects : List Rect) (b : Bands) (common rest : List Rect) : Type 0 where
  pub alike : AreAll (IsCommon rects b) common
  pub others : AreAll (λ r. Contains rects r × ¬ IsCopy rects b r) rest
