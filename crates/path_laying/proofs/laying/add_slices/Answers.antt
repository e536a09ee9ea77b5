use Rattle.path_laying.proofs.Emptied.{few}
use Rattle.path_laying.proofs.Raised.{slices_fitted, slices_space, slices_in}
use Rattle.path_laying.proofs.laying.add_slices.Goals as goal

pub place_slices-requires-clause-fitted : goal.place_slices-requires-clause-fitted
place_slices-requires-clause-fitted c =
    let p = c.args.path.now in
    slices_fitted p (few p c.requires.small) c.args.fabric.now c.args.control.now c.requires.control
    c.controls_leave_room.ensures c.len-nets.ensures.shape

pub place_slices-requires-clause-space : goal.place_slices-requires-clause-space
place_slices-requires-clause-space c =
    let p = c.args.path.now in
    slices_space p (few p c.requires.small) c.args.fabric.now c.args.control.now c.requires.control

pub returns : goal.returns
returns c =
    let p = c.args.path.now in
    slices_in p (few p c.requires.small) c.args.fabric.now c.args.control.now c.requires.control
    c.place_slices.new.fabric c.in_ok-placed.placed c.in_ok-placed.ensures
