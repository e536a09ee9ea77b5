use Rattle.process_enables.proofs.Rooting.{PlacesBelow}
use Rattle.process_enables.proofs.roots.assign_places.Given as goal

abbrev pub invariant-loop-index : goal.invariant-loop-index
invariant-loop-index l = PlacesBelow l.process l.forms l.places l.index l.fn.enables l.enables
