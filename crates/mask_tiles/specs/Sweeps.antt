-- What a sweep of a mask finds.
use Rattle.std.specs.Prelude.{List}
use Rattle.std.specs.List.{AllZip}
use Rattle.lam_geom.specs.declared.rect.Rect.{Rect}
use Rattle.lam_geom.specs.declared.place.Point.{Point}
use Rattle.mask_runs.specs.declared.mask.Mask.{Mask}
use Rattle.mask_tiles.specs.declared.swept.Swept.{Swept}
use Rattle.mask_tiles.specs.Tiles.{AreTiles, AreWhole, IsTileOf}
use Rattle.mask_tiles.specs.Touching.{AreTouching}

-- the tiles of the rectangles, those that share an edge, and the tile at each place
pub record IsSweepOf (shapes : List Rect) (mask : Mask) (places : List Point) (s : Swept) : Type 0 where
  pub tiles : AreTiles shapes mask s.tiles
  pub whole : AreWhole shapes mask s.tiles
  pub pairs : AreTouching s.tiles s.pairs
  pub found : AllZip (IsTileOf shapes mask s.tiles) places s.found
