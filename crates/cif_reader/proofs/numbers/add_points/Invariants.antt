use Rattle.std.proofs.Common.{◌≤◌, ◌-◌, length}
use Rattle.cif_reader.proofs.Paths.{PathSoFar}
use Rattle.cif_reader.proofs.numbers.add_points.Given as goal

abbrev pub invariant-points : goal.invariant-points
invariant-points l = record {
  behind : l.at ≤ l.from;
  within : l.from ≤ length l.bytes;
  so_far : PathSoFar l.bytes l.at l.from l.points;
}

abbrev pub decreases-points : goal.decreases-points
decreases-points l = length l.bytes - l.from
