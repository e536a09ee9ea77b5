use Rattle.process_enables.specs.Places.{PutsAllPlaces}
use Rattle.process_enables.proofs.places.put_all_places.Given as goal

abbrev pub invariant-loop-process : goal.invariant-loop-process
invariant-loop-process l = PutsAllPlaces l.program l.layout.roles l.layout.cells l.process l.fn.exprs l.exprs l.all
