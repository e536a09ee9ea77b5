use Rattle.datapath_steps.proofs.Words.{number_made, number_step}
use Rattle.datapath_steps.proofs.operators.add_number.Goals as goal

pub returns-clause-step : goal.returns-clause-step
returns-clause-step c =
    number_step c.args.expr c.args.bits c.args.making.now c.input.new.self c.in_ok-net.net c.in_ok-net.ensures.ok
    c.push.new.self c.set.new.self c.in_ok-push.ensures.ok c.set.ensures c.requires.made

pub returns-clause-number : goal.returns-clause-number
returns-clause-number c =
    number_made c.args.expr c.args.bits c.args.making.now c.input.new.self c.in_ok-net.net c.in_ok-net.ensures.ok
    c.push.new.self c.set.new.self c.in_ok-push.ensures.ok c.set.ensures c.requires.made
