use Rattle.replay_command.proofs.played.circuit_of.Goals as goal

pub drawn_network-requires : goal.drawn_network-requires
drawn_network-requires c =
    c.chips_run.ensures.draws c.args.made.now.checked.program c.args.chip.now (c.requires.masks).chip

pub open-requires-clause-has_pads : goal.open-requires-clause-has_pads
open-requires-clause-has_pads c =
    let made = c.args.made.now in
    c.chips_run.ensures.padded made.checked.program c.args.chip.now c.in_ok-network.network made.stimulus.pads
    (c.requires.masks).chip c.requires.padded c.in_ok-network.ensures
