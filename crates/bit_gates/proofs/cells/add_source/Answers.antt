use Rattle.std.proofs.Common.{◌∷◌, ◌++◌, ◌∙◌, [], ap, length, suc}
use Rattle.std.proofs.lemmas.Slice.Zip.{AllZip-long}
use Rattle.nor_net.specs.declared.net.Part.TheVariants.{Gate}
use Rattle.nor_net.specs.Shape.{gate_inputs}
use Rattle.bit_gates.specs.Cells.{GuardOf, IsTerm}
use Rattle.bit_gates.proofs.Adding.{added_three, gates_longer}
use Rattle.bit_gates.proofs.Groups.{kept_below, longer, next_number}
use Rattle.bit_gates.proofs.Next.{below_later, data_room, gate_counted, guards_below, hold_room, off_room}
use Rattle.bit_gates.proofs.Terms.{terms_below}
use Rattle.bit_gates.proofs.cells.add_source.Goals as goal

pub add_gate_on-requires-clause-inputs_room : goal.add_gate_on-requires-clause-inputs_room
add_gate_on-requires-clause-inputs_room c =
    hold_room (gate_inputs c.args.net.now) (length c.args.transfers.now) (gate_inputs c.add_terms.new.net)
    c.in_ok-terms.ensures.counted.input_count c.requires.room.inputs_room (length c.in_ok-guards.guards)
    (AllZip-long (GuardOf c.args.exprs.now) c.args.transfers.now c.in_ok-guards.guards c.in_ok-guards.ensures)

pub add_gate_on-requires-clause-inputs : goal.add_gate_on-requires-clause-inputs
add_gate_on-requires-clause-inputs c =
    below_later (length c.args.net.now) (length c.add_terms.new.net) c.in_ok-guards.guards
    (gates_longer c.args.net.now c.add_terms.new.net c.in_ok-terms.ensures.adds)
    (guards_below (length c.args.net.now) c.args.exprs.now c.requires.below c.args.transfers.now c.in_ok-guards.guards
    c.in_ok-guards.ensures)

pub add_gate_on-requires-2-clause-inputs_room : goal.add_gate_on-requires-2-clause-inputs_room
add_gate_on-requires-2-clause-inputs_room c =
    let count = length c.args.transfers.now in
    let n = AllZip-long (GuardOf c.args.exprs.now) c.args.transfers.now c.in_ok-guards.guards c.in_ok-guards.ensures in
    off_room (gate_inputs c.args.net.now) count (gate_inputs c.add_terms.new.net)
    c.in_ok-terms.ensures.counted.input_count c.requires.room.inputs_room (gate_inputs c.add_gate_on.new.net)
    (length c.in_ok-terms.terms)
    (gate_counted count c.in_ok-guards.guards c.args.slave c.add_terms.new.net c.add_gate_on.new.net
    c.in_ok-hold.hold n c.in_ok-hold.ensures)
    (AllZip-long (IsTerm c.args.exprs.now (length c.args.net.now) c.add_terms.new.net) c.args.transfers.now
    c.in_ok-terms.terms c.in_ok-terms.ensures.each)

pub add_gate_on-requires-2-clause-inputs : goal.add_gate_on-requires-2-clause-inputs
add_gate_on-requires-2-clause-inputs c =
    kept_below c.add_terms.new.net c.add_gate_on.new.net (Gate (c.in_ok-guards.guards ++ c.args.slave ∷ []))
    c.in_ok-hold.hold c.in_ok-hold.ensures c.in_ok-terms.terms
    (terms_below c.args.exprs.now c.args.transfers.now c.args.net.now c.add_terms.new.net c.in_ok-terms.terms
    c.in_ok-terms.ensures)

pub gate-requires-clause-inputs_room : goal.gate-requires-clause-inputs_room
gate-requires-clause-inputs_room c =
    let count = length c.args.transfers.now in
    let n = AllZip-long (GuardOf c.args.exprs.now) c.args.transfers.now c.in_ok-guards.guards c.in_ok-guards.ensures in
    let m = AllZip-long (IsTerm c.args.exprs.now (length c.args.net.now) c.add_terms.new.net) c.args.transfers.now
    c.in_ok-terms.terms c.in_ok-terms.ensures.each in
    data_room (gate_inputs c.args.net.now) count (gate_inputs c.add_terms.new.net)
    c.in_ok-terms.ensures.counted.input_count c.requires.room.inputs_room (gate_inputs c.add_gate_on.new.net)
    (gate_inputs c.add_gate_on-2.new.net)
    (gate_counted count c.in_ok-guards.guards c.args.slave c.add_terms.new.net c.add_gate_on.new.net
    c.in_ok-hold.hold n c.in_ok-hold.ensures)
    (gate_counted count c.in_ok-terms.terms c.in_ok-hold.hold c.add_gate_on.new.net c.add_gate_on-2.new.net
    c.in_ok-off.off m c.in_ok-off.ensures)

pub returns : goal.returns
returns c =
    let guarded = Gate (c.in_ok-guards.guards ++ c.args.slave ∷ []) in
    let joined = Gate (c.in_ok-terms.terms ++ c.in_ok-hold.hold ∷ []) in
    record {
      middle = c.add_terms.new.net;
      terms = c.in_ok-terms.terms;
      guards = c.in_ok-guards.guards;
      hold = c.in_ok-hold.hold;
      off = c.in_ok-off.off;
      are_terms = c.in_ok-terms.ensures;
      are_guards = c.in_ok-guards.ensures;
      parts = added_three c.add_terms.new.net c.add_gate_on.new.net c.add_gate_on-2.new.net c.gate.new.self guarded
          joined (Gate (c.in_ok-off.off ∷ c.args.reset ∷ [])) c.in_ok-hold.hold c.in_ok-off.off
          c.in_ok-source.source c.in_ok-hold.ensures c.in_ok-off.ensures c.in_ok-source.ensures.ok;
      at_hold = c.in_ok-hold.ensures.number;
      at_off = next_number c.add_terms.new.net c.add_gate_on.new.net guarded c.in_ok-hold.hold c.in_ok-hold.ensures
          c.in_ok-off.off c.in_ok-off.ensures.number;
      at_source = next_number c.add_gate_on.new.net c.add_gate_on-2.new.net joined c.in_ok-off.off
          c.in_ok-off.ensures c.in_ok-source.source c.in_ok-source.ensures.ok.number
          ∙ ap suc (longer c.add_terms.new.net c.add_gate_on.new.net guarded c.in_ok-hold.hold c.in_ok-hold.ensures);
    }
