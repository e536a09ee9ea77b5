use Rattle.std.proofs.Common.{sym, ◌∙◌, rules}
use Rattle.board.proofs.Clocks.{unread}
use Rattle.board.proofs.planning.clock_of.Goals as goal

pub returns-in-Err : goal.returns-in-Err
returns-in-Err c = unread c.args.word.now c.in-Err.field-0 (search rules)
    (sym c.is_empty.ensures ∙ c.if-is_empty.false) (search rules) (search rules)
