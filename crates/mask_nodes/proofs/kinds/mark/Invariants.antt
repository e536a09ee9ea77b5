use Rattle.mask_nodes.proofs.Ending.{AreMarks}
use Rattle.mask_nodes.proofs.kinds.mark.Given as goal

abbrev pub invariant-loop-i : goal.invariant-loop-i
invariant-loop-i l = AreMarks l.pieces l.channels l.part l.count l.i l.marks.items
