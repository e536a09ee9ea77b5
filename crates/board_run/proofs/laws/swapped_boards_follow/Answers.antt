use Rattle.board_run.proofs.Following.{swapped_boards_follow}
use Rattle.board_run.proofs.laws.swapped_boards_follow.Goals as goal

pub returns : goal.returns
returns c =
    swapped_boards_follow c.swapped_chips_loop.ensures c.one_network.ensures c.sound_with_pads.ensures
    c.one_pads.ensures c.swapped_loops_agree.ensures
