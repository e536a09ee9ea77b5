use Rattle.std.proofs.Common.{All}
use Rattle.track_assign.specs.Density.{IsInterval}
use Rattle.path_cases.proofs.packing.intervals.Given as goal

abbrev pub invariant-loop-word : goal.invariant-loop-word
invariant-loop-word l = All IsInterval l.intervals.items
