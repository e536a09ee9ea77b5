-- The strips of the layers so far.
use Rattle.layer_strips.specs.Layers.{AreUpTo}
use Rattle.layer_strips.proofs.cutting.all_strips.Given as goal

abbrev pub invariant-loop-number : goal.invariant-loop-number
invariant-loop-number l = AreUpTo l.shapes l.number l.strips
