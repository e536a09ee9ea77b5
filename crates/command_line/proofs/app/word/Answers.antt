use Rattle.command_line.proofs.Settings.{required_word, required_local}
use Rattle.command_line.proofs.app.word.Goals as goal

pub returns-clause-rule : goal.returns-clause-rule
returns-clause-rule c =
    required_word c.args.id.now c.new.result c.required.result c.new.ensures.rule c.required.ensures

pub returns-clause-local : goal.returns-clause-local
returns-clause-local c = required_local c.new.result c.required.result c.new.ensures.optional.1 c.required.ensures
