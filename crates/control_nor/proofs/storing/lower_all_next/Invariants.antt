use Rattle.control_nor.specs.NextValues.{AreStored}
use Rattle.control_nor.proofs.storing.lower_all_next.Given as goal

abbrev pub invariant-loop-index : goal.invariant-loop-index
invariant-loop-index l = AreStored l.rtl l.bits l.index l.reset l.initial.net l.net
