use Rattle.std.proofs.Common.{take}
use Rattle.bit_gates.specs.Cells.{AreTerms}
use Rattle.bit_gates.proofs.cells.add_terms.Given as goal

abbrev pub invariant-loop-transfer : goal.invariant-loop-transfer
invariant-loop-transfer l = AreTerms l.exprs (take l.transfer-index l.transfers) l.initial.net l.net l.terms
