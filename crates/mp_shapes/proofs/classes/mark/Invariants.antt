use Rattle.mp_shapes.specs.Marking.{Marked}
use Rattle.mp_shapes.proofs.classes.mark.Given as goal

abbrev pub invariant-loop-j : goal.invariant-loop-j
invariant-loop-j l = Marked l.layout l.items l.j l.initial.classes l.classes
