use Rattle.sequencer_cases.proofs.Fitting.{inputs_more}
use Rattle.sequencer_cases.proofs.inputs.inputs_of.Goals as goal

pub loop-k-preserved : goal.loop-k-preserved
loop-k-preserved c =
    inputs_more c.as_slice-entries.result.now c.loop-k.k c.input_for-input.result c.loop-k.inputs c.push.new.self
    c.index-entries-k.result c.loop-k.invariant c.index-entries-k.is c.input_for-input.ensures c.in_ok-push.ensures.ok
