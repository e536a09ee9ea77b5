use Rattle.datapath_steps.proofs.Words.{operator_made_on, operator_step_on}
use Rattle.datapath_steps.proofs.operators.add_operator.Goals as goal

pub returns-clause-step : goal.returns-clause-step
returns-clause-step c =
    operator_step_on c.args.op c.args.args.now c.args.making.now c.add_organelle.new.making c.in_ok-word.word
    c.in_ok-word.ensures c.requires.made c.args.expr c.set.new.self c.set.ensures

pub returns-clause-operator : goal.returns-clause-operator
returns-clause-operator c =
    operator_made_on c.args.op c.args.args.now c.args.making.now c.add_organelle.new.making c.in_ok-word.word
    c.in_ok-word.ensures c.requires.made c.args.expr c.set.new.self c.set.ensures
