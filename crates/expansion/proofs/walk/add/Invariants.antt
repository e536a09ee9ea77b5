use Rattle.std.proofs.Common.{take}
use Rattle.expansion.specs.Walking.{AddsPieces}
use Rattle.expansion.proofs.walk.add.Given as goal

abbrev pub invariant-loop-item : goal.invariant-loop-item
invariant-loop-item l = AddsPieces l.program.exprs l.top (take l.item-index l.items) l.fn.pieces l.pieces
