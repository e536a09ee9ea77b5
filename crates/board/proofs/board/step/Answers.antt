use Rattle.board.proofs.Ready.{give_fits, room_after, stepped}
use Rattle.board.proofs.board.step.Goals as goal

pub clock-requires-clause-fit : goal.clock-requires-clause-fit
clock-requires-clause-fit g c =
    give_fits c.args.pads.now (g.D.Device.pads_of c.args.device.now) c.as_slice.result.now c.args.links.now _
    c.args.clock c.give.new.inputs c.requires.pads c.as_slice.ensures c.give.ensures

pub returns-clause-room : goal.returns-clause-room
returns-clause-room g c =
    room_after c.args.pads.now (g.D.Device.pads_of c.args.device.now) c.as_slice.result.now c.args.links.now _
    c.args.clock c.give.new.inputs c.requires.pads c.as_slice.ensures c.give.ensures c.clock.new.outputs
    c.clock.ensures.as_many

pub returns-clause-steps : goal.returns-clause-steps
returns-clause-steps g c =
    stepped c.args.pads.now (g.D.Device.pads_of c.args.device.now) c.as_slice.result.now c.args.links.now _
    c.args.clock c.give.new.inputs c.requires.pads c.as_slice.ensures c.give.ensures g.D.Device.steps
    c.args.device.now c.clock.new.self c.clock.new.outputs c.clock.ensures.steps
