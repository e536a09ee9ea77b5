use Rattle.std.proofs.Common.{take}
use Rattle.std.specs.Prelude.{All}
use Rattle.fabric.specs.Plan.{MarksApart}
use Rattle.fabric_cases.proofs.fits.marks_apart.Given as goal

abbrev pub invariant-loop-n : goal.invariant-loop-n
invariant-loop-n l = All (λ x. MarksApart x l.m) (take l.n-index l.marks)
