use Rattle.chip_pads.proofs.Glued.{pads_glued, pads_drawn}
use Rattle.chip_pads.proofs.Held.{pads_held}
use Rattle.chip_pads.proofs.Reached.{pads_reach}
use Rattle.chip_pads.proofs.laws.pads_are_glued.Goals as goal

pub returns-clause-glued : goal.returns-clause-glued
returns-clause-glued c = pads_glued c.rectangles_are_joined.ensures c.fabrics_face_west.ensures.west

pub returns-clause-nets : goal.returns-clause-nets
returns-clause-nets c = pads_reach c.rectangles_are_joined.ensures c.fabrics_face_west.ensures.west

pub returns-clause-drawn : goal.returns-clause-drawn
returns-clause-drawn c = pads_drawn

pub returns-clause-held : goal.returns-clause-held
returns-clause-held c = pads_held c.fabrics_face_west.ensures.west c.fabrics_face_west.ensures.held
