use Rattle.std.proofs.Common.{◌≤◌, ◌-◌, length}
use Rattle.cif_reader.proofs.Paths.{TurnsSoFar}
use Rattle.cif_reader.proofs.numbers.turns.Given as goal

abbrev pub invariant-turns : goal.invariant-turns
invariant-turns l = record {
  behind : l.at ≤ l.from;
  within : l.from ≤ length l.bytes;
  so_far : TurnsSoFar l.bytes l.at l.from l.turns;
}

abbrev pub decreases-turns : goal.decreases-turns
decreases-turns l = length l.bytes - l.from
