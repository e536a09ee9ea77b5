use Rattle.sequencer_cases.proofs.Fitting.{inputs_fit}
use Rattle.sequencer_cases.proofs.running.agree.Goals as goal

pub agree_on-requires : goal.agree_on-requires
agree_on-requires c =
    inputs_fit c.args.machine.now.program c.pads-pads.result.now c.in_ok-inputs.inputs c.pads-pads.ensures
    c.in_ok-inputs.ensures
