use Rattle.padded_chips.proofs.Carried.{labels_carried}
use Rattle.padded_chips.proofs.laws.labels_are_carried.Goals as goal

pub returns : goal.returns
returns c = labels_carried c.pads_are_glued.ensures.nets c.labels_stand.ensures
