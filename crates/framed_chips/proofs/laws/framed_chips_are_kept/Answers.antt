use Rattle.framed_chips.proofs.Framed.{framed_clean, framed_emittable, framed_few, framed_held, framed_sized}
use Rattle.framed_chips.proofs.laws.framed_chips_are_kept.Goals as goal

pub returns-clause-held : goal.returns-clause-held
returns-clause-held c = framed_held c.pads_are_glued.ensures.held c.pads_are_glued.ensures.drawn

pub returns-clause-clean : goal.returns-clause-clean
returns-clause-clean c = framed_clean c.pads_are_clean.ensures c.pads_are_glued.ensures.drawn

pub returns-clause-sized : goal.returns-clause-sized
returns-clause-sized c =
    framed_sized c.pads_are_glued.ensures.glued c.pads_are_glued.ensures.drawn c.metal_is_glued.ensures.channels
    c.channels_are_sized.ensures

pub returns-clause-few : goal.returns-clause-few
returns-clause-few c = framed_few

pub returns-clause-emittable : goal.returns-clause-emittable
returns-clause-emittable c =
    framed_emittable c.fabrics_face_west.ensures.west c.fabrics_face_west.ensures.held c.fabrics_are_on_grid.ensures
