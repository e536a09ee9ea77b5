use Rattle.std.proofs.Common.{take}
use Rattle.std.specs.List.{AllZip}
use Rattle.bit_gates.specs.Rails.{NegationOf}
use Rattle.bit_gates.proofs.rails.negations_of.Given as goal

abbrev pub invariant-loop-index : goal.invariant-loop-index
invariant-loop-index l = AllZip (NegationOf l.entries) (take l.index-index l.indices) l.ids
