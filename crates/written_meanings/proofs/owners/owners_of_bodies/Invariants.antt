use Rattle.written_meanings.proofs.BodyOwners.{AreBodies}
use Rattle.written_meanings.proofs.owners.owners_of_bodies.Given as goal

abbrev pub invariant-loop-number : goal.invariant-loop-number
invariant-loop-number l = AreBodies l.program l.number l.owners
