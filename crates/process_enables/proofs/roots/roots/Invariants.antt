use Rattle.process_enables.specs.Roots.{AreRootsBefore}
use Rattle.process_enables.proofs.roots.roots.Given as goal

abbrev pub invariant-loop-process : goal.invariant-loop-process
invariant-loop-process l = AreRootsBefore l.program l.places l.process l.enables
