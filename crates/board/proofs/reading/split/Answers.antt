use Rattle.board.proofs.Words.{split_cases}
use Rattle.board.proofs.reading.split.Goals as goal

pub returns : goal.returns
returns c = split_cases c.args.text.now c.split_once.result c.split_once.ensures.cases
