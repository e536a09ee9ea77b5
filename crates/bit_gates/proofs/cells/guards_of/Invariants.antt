use Rattle.std.proofs.Common.{take}
use Rattle.std.specs.List.{AllZip}
use Rattle.bit_gates.specs.Cells.{GuardOf}
use Rattle.bit_gates.proofs.cells.guards_of.Given as goal

abbrev pub invariant-loop-transfer : goal.invariant-loop-transfer
invariant-loop-transfer l = AllZip (GuardOf l.exprs) (take l.transfer-index l.transfers) l.guards
