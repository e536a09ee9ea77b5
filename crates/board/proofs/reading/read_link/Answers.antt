use Rattle.board.proofs.Words.{broken_at}
use Rattle.board.proofs.reading.read_link.Goals as goal

pub returns-in_ok-broken-in-Err-clause-err : goal.returns-in_ok-broken-in-Err-clause-err
returns-in_ok-broken-in-Err-clause-err g c =
    broken_at c.args.earlier.now c.naming.result _ c.args.word.now c.in-Err.rule c.in_ok-broken-in-Err.field-0
    c.naming.ensures c.in-Err.ensures.err c.in_ok-broken-in-Err.ensures.0 c.in_ok-broken-in-Err.ensures.1
