use Rattle.std.proofs.Common.{take}
use Rattle.std.specs.Prelude.{All}
use Rattle.fabric.specs.Plan.{LinesApart}
use Rattle.fabric_cases.proofs.fits.lines_apart.Given as goal

abbrev pub invariant-loop-m : goal.invariant-loop-m
invariant-loop-m l = All (λ x. LinesApart x l.l) (take l.m-index l.lines)
