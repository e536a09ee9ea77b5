use Rattle.mp_program.proofs.Lengths.{length_zero_outputs}
use Rattle.sequencer_cases.proofs.running.agree_on.Goals as goal

pub clock-requires-clause-outputs : goal.clock-requires-clause-outputs
clock-requires-clause-outputs c =
    length_zero_outputs c.args.machine.now.program c.pads-pads.result.now c.in_ok-outputs.outputs c.pads-pads.ensures
    c.in_ok-outputs.ensures
