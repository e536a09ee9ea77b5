use Rattle.std.proofs.Common.{arith, length, refl}
use Rattle.nor_net.specs.declared.net.Part.TheVariants.{Input}
use Rattle.bit_gates.proofs.Groups.{entry_made, inputs_left, is_below, nets_left, one_below}
use Rattle.bit_gates.proofs.gates.add_entry.Goals as goal

pub gate-requires-clause-room : goal.gate-requires-clause-room
gate-requires-clause-room c =
    nets_left c.args.net.now c.input.new.self Input c.in_ok-bit.bit c.in_ok-bit.ensures.ok 2 1 refl
    c.requires.room

pub gate-requires-clause-inputs_room : goal.gate-requires-clause-inputs_room
gate-requires-clause-inputs_room c =
    inputs_left c.args.net.now c.input.new.self Input c.in_ok-bit.bit c.in_ok-bit.ensures.ok 1 1
    (omega arith) c.requires.inputs_room

pub gate-requires-clause-inputs : goal.gate-requires-clause-inputs
gate-requires-clause-inputs c =
    one_below (length c.input.new.self) c.in_ok-bit.bit
    (is_below c.args.net.now c.input.new.self Input c.in_ok-bit.bit c.in_ok-bit.ensures.ok)

pub returns : goal.returns
returns c =
    entry_made c.args.net.now c.input.new.self c.gate.new.self c.in_ok-bit.bit c.in_ok-negation.negation
    c.in_ok-bit.ensures.ok c.in_ok-negation.ensures.ok
