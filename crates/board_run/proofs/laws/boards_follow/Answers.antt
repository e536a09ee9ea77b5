use Rattle.board_run.proofs.Following.{boards_follow}
use Rattle.board_run.proofs.laws.boards_follow.Goals as goal

pub returns : goal.returns
returns c =
    boards_follow c.swapped_chips_loop.ensures c.one_network.ensures c.sound_with_pads.ensures
    c.one_pads.ensures c.swapped_loops_agree.ensures
