use Rattle.std.proofs.Common.{take}
use Rattle.std.specs.Prelude.{All}
use Rattle.fabric.specs.Plan.{SegmentsApart}
use Rattle.fabric_cases.proofs.fits.segments_apart.Given as goal

abbrev pub invariant-loop-t : goal.invariant-loop-t
invariant-loop-t l = All (λ x. SegmentsApart x l.s) (take l.t-index l.segments)
