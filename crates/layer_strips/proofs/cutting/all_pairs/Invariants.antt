-- The pairs of the layers so far.
use Rattle.layer_strips.proofs.Listing.{AreCaught}
use Rattle.layer_strips.proofs.cutting.all_pairs.Given as goal

abbrev pub invariant-loop-number : goal.invariant-loop-number
invariant-loop-number l = AreCaught l.strips l.number l.pairs
