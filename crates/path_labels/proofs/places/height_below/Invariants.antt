use Rattle.std.proofs.Common.{◌≡◌}
use Rattle.fabric.specs.Shape.{base}
use Rattle.path_labels.proofs.places.height_below.Given as goal

abbrev pub invariant-loop-index : goal.invariant-loop-index
invariant-loop-index l = l.height ≡ base l.fabric l.index
