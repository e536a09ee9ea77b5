use Rattle.program_clock.proofs.KindValues.{given_all}
use Rattle.program_clock.proofs.settle.give.Goals as goal

pub returns-clause-given : goal.returns-clause-given
returns-clause-given c =
    given_all c.args.program.now.defs c.args.stored.now c.args.inputs.now c.args.env.now c.give_inputs.new.env
    c.give_stored.new.env c.requires.steady c.give_inputs.ensures.given c.give_inputs.ensures.others
    c.give_stored.ensures.given c.give_stored.ensures.others
