use Rattle.board_command.proofs.Known.{plays_follow}
use Rattle.board_command.proofs.laws.plays_follow.Goals as goal

pub returns : goal.returns
returns c = plays_follow c.one_source.ensures c.swapped_boards_follow.ensures
