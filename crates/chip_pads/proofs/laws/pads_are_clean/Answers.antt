use Rattle.chip_pads.proofs.Loose.{pads_clean}
use Rattle.chip_pads.proofs.laws.pads_are_clean.Goals as goal

pub returns : goal.returns
returns c = pads_clean c.rectangles_are_joined.ensures c.fabrics_face_west.ensures.west c.fabrics_are_clean.ensures
