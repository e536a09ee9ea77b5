use Rattle.std.proofs.Common.{◌≡◌, take}
use Rattle.bit_gates.specs.Cells.{transfers_to}
use Rattle.bit_gates.proofs.cells.select_transfers.Given as goal

abbrev pub invariant-loop-transfer : goal.invariant-loop-transfer
invariant-loop-transfer l = l.selected ≡ transfers_to (take l.transfer-index l.transfers) l.target
