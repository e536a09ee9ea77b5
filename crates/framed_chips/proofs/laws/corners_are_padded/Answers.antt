use Rattle.framed_chips.proofs.Cornered.{corners_carried, corners_parted}
use Rattle.framed_chips.proofs.laws.corners_are_padded.Goals as goal

pub returns-clause-parted : goal.returns-clause-parted
returns-clause-parted c =
    corners_parted c.ports_are_parted.ensures.parted c.ports_are_parted.ensures.nets c.labels_are_carried.ensures

pub returns-clause-carried : goal.returns-clause-carried
returns-clause-carried c =
    corners_carried c.ports_are_parted.ensures.parted c.ports_are_parted.ensures.nets c.labels_are_carried.ensures
