use Rattle.fabric.proofs.Classes.{ClassesSoFar}
use Rattle.fabric.proofs.numbers.number.Given as goal

abbrev pub invariant-loop-i : goal.invariant-loop-i
invariant-loop-i l = ClassesSoFar l.least l.numbers l.count l.i
