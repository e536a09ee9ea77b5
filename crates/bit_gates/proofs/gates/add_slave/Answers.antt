use Rattle.std.proofs.Common.{None, arith, length, refl}
use Rattle.nor_net.specs.declared.net.Part.TheVariants.{Latch}
use Rattle.nor_net.specs.declared.net.Phase.TheVariants.{B}
use Rattle.bit_gates.proofs.Groups.{inputs_left, is_below, nets_left, one_below, slave_made}
use Rattle.bit_gates.proofs.gates.add_slave.Goals as goal

pub gate-requires-clause-room : goal.gate-requires-clause-room
gate-requires-clause-room c =
    nets_left c.args.net.now c.latch.new.self (Latch B None) c.in_ok-negation.negation c.in_ok-negation.ensures.ok
    2 1 refl c.requires.room

pub gate-requires-clause-inputs_room : goal.gate-requires-clause-inputs_room
gate-requires-clause-inputs_room c =
    inputs_left c.args.net.now c.latch.new.self (Latch B None) c.in_ok-negation.negation c.in_ok-negation.ensures.ok 1 1
    (omega arith) c.requires.inputs_room

pub gate-requires-clause-inputs : goal.gate-requires-clause-inputs
gate-requires-clause-inputs c =
    one_below (length c.latch.new.self) c.in_ok-negation.negation
    (is_below c.args.net.now c.latch.new.self (Latch B None) c.in_ok-negation.negation c.in_ok-negation.ensures.ok)

pub returns : goal.returns
returns c =
    slave_made c.args.net.now c.latch.new.self c.gate.new.self c.in_ok-bit.bit c.in_ok-negation.negation
    c.in_ok-negation.ensures.ok c.in_ok-bit.ensures.ok
