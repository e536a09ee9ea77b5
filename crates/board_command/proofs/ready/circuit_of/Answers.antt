use Rattle.board_command.proofs.ready.circuit_of.Goals as goal

pub drawn_network-requires : goal.drawn_network-requires
drawn_network-requires c =
    c.chips_run.ensures.draws c.args.checked.now.program c.args.chip.now c.requires.chip.chip

pub open-requires-clause-has_pads : goal.open-requires-clause-has_pads
open-requires-clause-has_pads c =
    c.chips_run.ensures.padded c.args.checked.now.program c.args.chip.now c.in_ok-network.network
    c.pads-pads.result.now c.requires.chip.chip c.pads-pads.ensures.padded c.in_ok-network.ensures
