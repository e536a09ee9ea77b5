use Rattle.std.proofs.Common.{Some, arith, length, refl, subst, sym}
use Rattle.nor_net.specs.declared.net.Phase.TheVariants.{C}
use Rattle.nor_net.specs.declared.net.Part.TheVariants.{Input, Latch}
use Rattle.nor_net.specs.Shape.{MayFeed}
use Rattle.bit_gates.proofs.Adding.{added_at}
use Rattle.bit_gates.proofs.Groups.{inputs_left, is_below, nets_left, one_below, port_made}
use Rattle.bit_gates.proofs.gates.add_port.Goals as goal

pub add_latch-requires-clause-room : goal.add_latch-requires-clause-room
add_latch-requires-clause-room c =
    let more = nets_left c.args.net.now c.input.new.self Input c.in_ok-pad.pad c.in_ok-pad.ensures.ok 3 2 refl
    c.requires.room in
    omega (arith, more)

pub add_latch-requires-clause-source : goal.add_latch-requires-clause-source
add_latch-requires-clause-source c =
    subst (MayFeed C) (sym (added_at c.args.net.now c.input.new.self Input c.in_ok-pad.pad c.in_ok-pad.ensures.ok)) refl

pub gate-requires-clause-room : goal.gate-requires-clause-room
gate-requires-clause-room c =
    nets_left c.input.new.self c.add_latch.new.net (Latch C (Some c.in_ok-pad.pad)) c.in_ok-bit.bit
    c.in_ok-bit.ensures 2 1 refl
    (nets_left c.args.net.now c.input.new.self Input c.in_ok-pad.pad c.in_ok-pad.ensures.ok 3 2 refl c.requires.room)

pub gate-requires-clause-inputs_room : goal.gate-requires-clause-inputs_room
gate-requires-clause-inputs_room c =
    inputs_left c.input.new.self c.add_latch.new.net (Latch C (Some c.in_ok-pad.pad)) c.in_ok-bit.bit
    c.in_ok-bit.ensures 1 1 (omega arith)
    (inputs_left c.args.net.now c.input.new.self Input c.in_ok-pad.pad c.in_ok-pad.ensures.ok 1 1 (omega arith)
    c.requires.inputs_room)

pub gate-requires-clause-inputs : goal.gate-requires-clause-inputs
gate-requires-clause-inputs c =
    one_below (length c.add_latch.new.net) c.in_ok-bit.bit
    (is_below c.input.new.self c.add_latch.new.net (Latch C (Some c.in_ok-pad.pad)) c.in_ok-bit.bit
    c.in_ok-bit.ensures)

pub returns : goal.returns
returns c =
    port_made c.args.net.now c.input.new.self c.add_latch.new.net c.gate.new.self c.in_ok-pad.pad c.in_ok-bit.bit
    c.in_ok-negation.negation c.in_ok-pad.ensures.ok c.in_ok-bit.ensures c.in_ok-negation.ensures.ok
