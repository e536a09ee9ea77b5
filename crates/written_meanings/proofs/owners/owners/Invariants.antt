use Rattle.written_meanings.specs.Owners.{AreOwners}
use Rattle.written_meanings.proofs.owners.owners.Given as goal

abbrev pub invariant-loop-e : goal.invariant-loop-e
invariant-loop-e l = AreOwners l.program l.e l.owners
