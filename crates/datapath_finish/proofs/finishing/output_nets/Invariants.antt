use Rattle.datapath_finish.specs.Finishing.{AreOutputNets}
use Rattle.datapath_finish.proofs.finishing.output_nets.Given as goal

abbrev pub invariant-loop-index : goal.invariant-loop-index
invariant-loop-index l = AreOutputNets l.rtl l.making l.index l.outputs
