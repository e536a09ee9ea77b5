use Rattle.std.proofs.Common.{◌≡◌, map, take}
use Rattle.bit_gates.specs.Rails.{net_of}
use Rattle.control_nor.proofs.lower.nets_of.Given as goal

abbrev pub invariant-loop-entry : goal.invariant-loop-entry
invariant-loop-entry l = l.nets ≡ map net_of (take l.entry-index l.bits)
