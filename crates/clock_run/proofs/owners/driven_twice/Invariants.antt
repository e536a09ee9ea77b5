use Rattle.clock_run.specs.Owners.{AreWithin, AreOwners}
use Rattle.clock_run.proofs.owners.driven_twice.Given as goal

abbrev pub invariant-loop-i : goal.invariant-loop-i
invariant-loop-i l = record {
  within : AreWithin l.network.tags l.owners.items;
  owners : AreOwners l.drivers l.network.tags l.owners.items l.i;
}
