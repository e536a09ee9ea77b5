use Rattle.std.proofs.Common.{◌≡◌, ◌++◌}
use Rattle.std.specs.Prelude.{flat_map}
use Rattle.std.specs.List.{range_with_len}
use Rattle.fabric.specs.Shape.{band_rects}
use Rattle.fabric.proofs.drawing.draw_bands.Given as goal

abbrev pub invariant-loop-b : goal.invariant-loop-b
invariant-loop-b l = l.shape ≡ l.fn.shape ++ flat_map (band_rects l.plan)
    (range_with_len 0 l.b)
