use Rattle.control_nor.specs.First.{AreFirstDone}
use Rattle.control_nor.proofs.first.lower_all_first.Given as goal

abbrev pub invariant-loop-cell : goal.invariant-loop-cell
invariant-loop-cell l = AreFirstDone l.rtl l.cell-index l.initial.net l.net l.cells l.pads
