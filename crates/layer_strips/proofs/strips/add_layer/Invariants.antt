-- The tiles so far.
use Rattle.std.proofs.Common.{◌≡◌, ◌++◌, map, take}
use Rattle.layer_strips.specs.Layers.{rect_of}
use Rattle.layer_strips.proofs.strips.add_layer.Given as goal

abbrev pub invariant-loop-tile : goal.invariant-loop-tile
invariant-loop-tile l = l.strips ≡ l.fn.strips ++ map (rect_of l.fn.layer) (take l.tile-index l.tile-items)
