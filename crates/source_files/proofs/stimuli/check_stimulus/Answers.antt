use Rattle.std.proofs.Common.{arith, Some}
use Rattle.source_files.proofs.ProgramPads.{few_inputs, keeps_40}
use Rattle.source_files.proofs.StimulusRules.{few_pads, read_clocks}
use Rattle.source_files.proofs.stimuli.check_stimulus.Goals as goal

pub read_stimulus-requires-clause-few : goal.read_stimulus-requires-clause-few
read_stimulus-requires-clause-few c =
    let p = c.args.checked.now.program in
    let few = few_inputs p c.pads.result.now c.pads.ensures.padded
    (c.few_namings.ensures p (keeps_40 p c.unbroken.ensures)) in
    omega (arith, few)

pub returns-clause-judged : goal.returns-clause-judged
returns-clause-judged c =
    rw c.pads.ensures.same at c.read_stimulus.ensures.judged

pub returns-clause-few_inputs : goal.returns-clause-few_inputs
returns-clause-few_inputs c =
    let p = c.args.checked.now.program in
    let few = few_inputs p c.pads.result.now c.pads.ensures.padded
    (c.few_namings.ensures p (keeps_40 p c.unbroken.ensures)) in
    few_pads c.pads.result.now c.args.text.now c.read_stimulus.result few c.read_stimulus.ensures.ok

pub returns-clause-few_clocks : goal.returns-clause-few_clocks
returns-clause-few_clocks c = read_clocks
    (Some c.pads.result.now) c.args.text.now c.read_stimulus.result c.read_stimulus.ensures.ok
