use Rattle.datapath_steps.proofs.Latching.{port_made, port_step}
use Rattle.datapath_steps.proofs.latches.add_port.Goals as goal

pub returns-clause-step : goal.returns-clause-step
returns-clause-step c =
    port_step c.args.cell c.args.pad c.args.making.now c.add_port.new.net c.in_ok-port.port.pad c.in_ok-port.port.latch
    c.in_ok-port.ensures c.set.new.self c.set-2.new.self c.set.ensures c.set-2.ensures c.requires.made
    c.requires.cell c.requires.pad

pub returns-clause-port : goal.returns-clause-port
returns-clause-port c =
    port_made c.args.cell c.args.pad c.args.making.now c.add_port.new.net c.in_ok-port.port.pad c.in_ok-port.port.latch
    c.in_ok-port.ensures c.set.new.self c.set-2.new.self c.set.ensures c.set-2.ensures c.requires.made
    c.requires.cell c.requires.pad
