use Rattle.std.proofs.Common.{◌≡◌, ◌++◌, map, take}
use Rattle.mask_pieces.specs.Columns.{corner_point}
use Rattle.mask_sizes.proofs.masks.add_corners.Given as goal

abbrev pub invariant-loop-tile : goal.invariant-loop-tile
invariant-loop-tile l = l.corners ≡ l.fn.corners ++ map corner_point (take l.tile-index l.tiles)
