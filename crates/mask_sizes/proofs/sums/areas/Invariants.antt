use Rattle.mask_sizes.specs.Sums.{AreValues, piece_area, sum_below}
use Rattle.mask_sizes.proofs.sums.areas.Given as goal

abbrev pub invariant-loop-i : goal.invariant-loop-i
invariant-loop-i l = AreValues (λ k. sum_below (piece_area l.what l.pieces l.classes k) l.i) l.count l.sums.items
