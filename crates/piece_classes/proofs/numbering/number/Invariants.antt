use Rattle.piece_classes.specs.Numbers.{Conducts}
use Rattle.piece_classes.proofs.Numbered.{IsNumbered}
use Rattle.piece_classes.proofs.numbering.number.Given as goal

abbrev pub invariant-loop-i : goal.invariant-loop-i
invariant-loop-i l = IsNumbered (Conducts l.pieces l.conducting) l.least l.i l.classes.roots l.classes.numbers
