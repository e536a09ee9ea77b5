use Rattle.datapath_steps.proofs.Latching.{slave_made, slave_step}
use Rattle.datapath_steps.proofs.latches.add_slave.Goals as goal

pub returns-clause-step : goal.returns-clause-step
returns-clause-step c =
    slave_step c.args.cell c.args.making.now c.add_slave.new.net c.in_ok-word.word c.in_ok-word.ensures c.set.new.self
    c.set.ensures c.requires.made c.requires.cell

pub returns-clause-slave : goal.returns-clause-slave
returns-clause-slave c =
    slave_made c.args.cell c.args.making.now c.add_slave.new.net c.in_ok-word.word c.in_ok-word.ensures c.set.new.self
    c.set.ensures c.requires.made c.requires.cell
