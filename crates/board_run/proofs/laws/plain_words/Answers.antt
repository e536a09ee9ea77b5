use Rattle.board_run.proofs.Plain.{plain_words}
use Rattle.board_run.proofs.laws.plain_words.Goals as goal

pub returns : goal.returns
returns c = plain_words
