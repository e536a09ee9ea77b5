-- What sweeps find can be cut into pieces.
use Rattle.std.proofs.Common.{List}
use Rattle.lam_geom.specs.declared.place.Point.{Point}
use Rattle.lam_geom.specs.declared.rect.Rect.{Rect}
use Rattle.mask_runs.specs.declared.mask.Mask.{Mask}
use Rattle.mask_tiles.specs.declared.swept.Swept.{Swept}
use Rattle.mask_tiles.specs.Sweeps.{IsSweepOf}
use Rattle.mask_pieces.specs.CutOf.{IsReady}
use Rattle.mask_pieces.proofs.Covering.{found_inside}

pub is_ready : (shapes : List Rect) (mask : Mask) (places : List Point) (s : Swept) → IsSweepOf shapes mask places s
    → IsReady s
is_ready shapes mask places s h =
    record { ascending = h.tiles.ascending; found = found_inside shapes mask s.tiles places s.found h.found }
