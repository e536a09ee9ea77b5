use Rattle.command_line.proofs.Settings.{many_words, many_local}
use Rattle.command_line.proofs.app.words.Goals as goal

pub returns-clause-rule : goal.returns-clause-rule
returns-clause-rule c =
    many_words c.args.id.now c.word.result c.num_args.result c.word.ensures.rule c.num_args.ensures.0
    c.num_args.ensures.1

pub returns-clause-local : goal.returns-clause-local
returns-clause-local c = many_local c.word.result c.num_args.result c.word.ensures.local c.num_args.ensures.0
