use Rattle.std.proofs.Common.{◌∙◌, length}
use Rattle.path_flat.specs.Numbers.{number_of}
use Rattle.path_flat.proofs.Numbering.{inputs_below}
use Rattle.path_flat.proofs.adding.add_gate.Goals as goal

pub gate-requires-clause-inputs : goal.gate-requires-clause-inputs
gate-requires-clause-inputs c =
    inputs_below (number_of c.args.numbers.now) c.args.band c.args.inputs.now c.loop-input.input-index
    c.as_slice.result.now (length c.args.net.now) c.loop-input-test.false
    (c.as_slice.ensures ∙ c.loop-input.invariant) c.requires.below
