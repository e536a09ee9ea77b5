use Rattle.datapath_finish.specs.Finishing.{AreInputNets}
use Rattle.datapath_finish.proofs.finishing.input_nets.Given as goal

abbrev pub invariant-loop-pad : goal.invariant-loop-pad
invariant-loop-pad l = AreInputNets l.rtl l.making l.pad-index l.inputs
