use Rattle.std.proofs.Common.{take}
use Rattle.std.specs.List.{AllZip}
use Rattle.bit_gates.specs.Rails.{BitOf}
use Rattle.bit_gates.proofs.rails.bits_of.Given as goal

abbrev pub invariant-loop-index : goal.invariant-loop-index
invariant-loop-index l = AllZip (BitOf l.entries) (take l.index-index l.indices) l.ids
