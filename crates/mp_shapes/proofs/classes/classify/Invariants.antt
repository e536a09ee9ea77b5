use Rattle.mp_shapes.proofs.Finding.{Found}
use Rattle.mp_shapes.proofs.classes.classify.Given as goal

abbrev pub invariant-loop-n : goal.invariant-loop-n
invariant-loop-n l = Found l.forms l.n l.classes
