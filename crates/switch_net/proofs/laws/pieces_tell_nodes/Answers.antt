use Rattle.switch_net.proofs.Pieces.{conductors_follow, channels_follow}
use Rattle.switch_net.proofs.laws.pieces_tell_nodes.Goals as goal

pub returns-clause-conductors : goal.returns-clause-conductors
returns-clause-conductors c = conductors_follow c.rectangles_are_joined.ensures

pub returns-clause-channels : goal.returns-clause-channels
returns-clause-channels c = channels_follow c.rectangles_are_joined.ensures
