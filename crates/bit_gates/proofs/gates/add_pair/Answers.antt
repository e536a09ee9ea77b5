use Rattle.std.proofs.Common.{arith, length, refl}
use Rattle.nor_net.specs.declared.net.Part.TheVariants.{Gate}
use Rattle.bit_gates.proofs.Adding.{added_counted}
use Rattle.bit_gates.proofs.Groups.{is_below, nets_left, one_below, pair_made}
use Rattle.bit_gates.proofs.gates.add_pair.Goals as goal

pub gate-requires-2-clause-room : goal.gate-requires-2-clause-room
gate-requires-2-clause-room c =
    nets_left c.args.net.now c.gate.new.self (Gate c.args.inputs.now) c.in_ok-bit.bit c.in_ok-bit.ensures.ok 2 1 refl
    c.requires.room

pub gate-requires-2-clause-inputs_room : goal.gate-requires-2-clause-inputs_room
gate-requires-2-clause-inputs_room c =
    let e = (added_counted c.args.net.now c.gate.new.self (Gate c.args.inputs.now) c.in_ok-bit.bit
    c.in_ok-bit.ensures.ok).input_count in
    let r = c.requires.inputs_room in
    omega (arith, e, r)

pub gate-requires-2-clause-inputs : goal.gate-requires-2-clause-inputs
gate-requires-2-clause-inputs c =
    one_below (length c.gate.new.self) c.in_ok-bit.bit
    (is_below c.args.net.now c.gate.new.self (Gate c.args.inputs.now) c.in_ok-bit.bit c.in_ok-bit.ensures.ok)

pub returns : goal.returns
returns c =
    pair_made c.args.net.now c.gate.new.self c.gate-2.new.self c.args.inputs.now c.in_ok-bit.bit
    c.in_ok-negation.negation c.in_ok-bit.ensures.ok c.in_ok-negation.ensures.ok
