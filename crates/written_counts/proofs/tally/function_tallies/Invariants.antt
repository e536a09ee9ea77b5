use Rattle.std.proofs.Common.{◌≡◌}
use Rattle.written_counts.specs.Tallies.{AreTallies}
use Rattle.written_counts.proofs.tally.function_tallies.Given as goal

abbrev pub invariant-loop-body : goal.invariant-loop-body
invariant-loop-body l = record {
  number : l.function ≡ l.body-index;
  tallies : AreTallies l.counting.measure l.counting.program.now l.counting.cap l.body-index l.tallies;
}
