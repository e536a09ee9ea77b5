use Rattle.sequencer_cases.proofs.Fitting.{AreInputsOfFirst}
use Rattle.sequencer_cases.proofs.inputs.inputs_of.Given as goal

abbrev pub invariant-loop-k : goal.invariant-loop-k
invariant-loop-k l = AreInputsOfFirst l.k l.entries l.inputs
