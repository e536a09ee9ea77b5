use Rattle.lam_geom.specs.declared.layer.Layer.TheVariants.{NM, NP, ND}
use Rattle.mask_pieces.proofs.Covering.{are_inside}
use Rattle.piece_classes.proofs.Classing.{long_enough, long_enough_then, inside_then, number_then, classed_then}
use Rattle.piece_classes.proofs.classed.classify.Goals as goal

pub link_all-requires-clause-metal : goal.link_all-requires-clause-metal
link_all-requires-clause-metal g c =
    let m = c.args.masks.now in let k = c.args.cut.now in record {
      inside = are_inside NM m.metal.tiles m.metal.pairs k.metal.numbers k.pieces c.requires.0.metal_swept.pairs
          c.requires.1.metal_numbers;
      over = long_enough _ _ _ m.contacts.tiles _ m.metal.found k.metal.over _ c.requires.0.metal_swept.found
          c.requires.1.metal_over;
    }

pub link_all-requires-clause-polysilicon : goal.link_all-requires-clause-polysilicon
link_all-requires-clause-polysilicon g c =
    let m = c.args.masks.now in let k = c.args.cut.now in record {
      inside = are_inside NP m.polysilicon.tiles m.polysilicon.pairs k.polysilicon.numbers k.pieces
          c.requires.0.polysilicon_swept.pairs c.requires.1.polysilicon_numbers;
      over = long_enough_then _ _ _ m.contacts.tiles _ _ m.polysilicon.found k.polysilicon.over _
          c.requires.0.polysilicon_swept.found c.requires.1.polysilicon_over;
    }

pub link_all-requires-clause-diffusion : goal.link_all-requires-clause-diffusion
link_all-requires-clause-diffusion g c =
    let m = c.args.masks.now in let k = c.args.cut.now in record {
      inside = are_inside ND m.diffusion.tiles m.diffusion.pairs k.diffusion.numbers k.pieces
          c.requires.0.diffusion_swept.pairs c.requires.1.diffusion_numbers;
      over = long_enough _ _ _ m.contacts.tiles _ m.diffusion.found k.diffusion.over _
          c.requires.0.diffusion_swept.found c.requires.1.diffusion_over;
    }

pub leasts-requires : goal.leasts-requires
leasts-requires g c =
    inside_then c.one_colour.ensures c.rectangles_are_joined.ensures g.drawn.0 g.drawn.1 c.args.masks.now
    c.args.cut.now c.in_ok-links.links c.requires.0 c.requires.1 c.in_ok-links.ensures
    c.as_slice-pieces.result.now c.as_slice-pieces.ensures c.in-Ok.count c.in-Ok.ensures.1
    c.as_slice.result.now c.as_slice.ensures

pub number-requires-clause-as_many : goal.number-requires-clause-as_many
number-requires-clause-as_many g c =
    (number_then c.one_colour.ensures c.rectangles_are_joined.ensures g.drawn.0 g.drawn.1 c.args.masks.now
    c.args.cut.now c.in_ok-links.links c.requires.0 c.requires.1 c.in_ok-links.ensures
    c.as_slice-pieces.result.now c.as_slice-pieces.ensures c.in-Ok.count c.in-Ok.ensures.1
    c.as_slice.result.now c.as_slice.ensures c.in_ok-least.least.items c.in_ok-least.ensures c.as_slice-2.result.now
    c.as_slice-2.ensures.value).as_many

pub number-requires-clause-below : goal.number-requires-clause-below
number-requires-clause-below g c =
    (number_then c.one_colour.ensures c.rectangles_are_joined.ensures g.drawn.0 g.drawn.1 c.args.masks.now
    c.args.cut.now c.in_ok-links.links c.requires.0 c.requires.1 c.in_ok-links.ensures
    c.as_slice-pieces.result.now c.as_slice-pieces.ensures c.in-Ok.count c.in-Ok.ensures.1
    c.as_slice.result.now c.as_slice.ensures c.in_ok-least.least.items c.in_ok-least.ensures c.as_slice-2.result.now
    c.as_slice-2.ensures.value).below_

pub number-requires-clause-stay : goal.number-requires-clause-stay
number-requires-clause-stay g c =
    (number_then c.one_colour.ensures c.rectangles_are_joined.ensures g.drawn.0 g.drawn.1 c.args.masks.now
    c.args.cut.now c.in_ok-links.links c.requires.0 c.requires.1 c.in_ok-links.ensures
    c.as_slice-pieces.result.now c.as_slice-pieces.ensures c.in-Ok.count c.in-Ok.ensures.1
    c.as_slice.result.now c.as_slice.ensures c.in_ok-least.least.items c.in_ok-least.ensures c.as_slice-2.result.now
    c.as_slice-2.ensures.value).conductors

pub number-requires-clause-still : goal.number-requires-clause-still
number-requires-clause-still g c =
    (number_then c.one_colour.ensures c.rectangles_are_joined.ensures g.drawn.0 g.drawn.1 c.args.masks.now
    c.args.cut.now c.in_ok-links.links c.requires.0 c.requires.1 c.in_ok-links.ensures
    c.as_slice-pieces.result.now c.as_slice-pieces.ensures c.in-Ok.count c.in-Ok.ensures.1
    c.as_slice.result.now c.as_slice.ensures c.in_ok-least.least.items c.in_ok-least.ensures c.as_slice-2.result.now
    c.as_slice-2.ensures.value).still_

pub number-requires-2-clause-as_many : goal.number-requires-2-clause-as_many
number-requires-2-clause-as_many g c =
    (number_then c.one_colour.ensures c.rectangles_are_joined.ensures g.drawn.0 g.drawn.1 c.args.masks.now
    c.args.cut.now c.in_ok-links.links c.requires.0 c.requires.1 c.in_ok-links.ensures
    c.as_slice-pieces.result.now c.as_slice-pieces.ensures c.in-Ok.count c.in-Ok.ensures.1
    c.as_slice.result.now c.as_slice.ensures c.in_ok-least.least.items c.in_ok-least.ensures c.as_slice-3.result.now
    c.as_slice-3.ensures.value).as_many

pub number-requires-2-clause-below : goal.number-requires-2-clause-below
number-requires-2-clause-below g c =
    (number_then c.one_colour.ensures c.rectangles_are_joined.ensures g.drawn.0 g.drawn.1 c.args.masks.now
    c.args.cut.now c.in_ok-links.links c.requires.0 c.requires.1 c.in_ok-links.ensures
    c.as_slice-pieces.result.now c.as_slice-pieces.ensures c.in-Ok.count c.in-Ok.ensures.1
    c.as_slice.result.now c.as_slice.ensures c.in_ok-least.least.items c.in_ok-least.ensures c.as_slice-3.result.now
    c.as_slice-3.ensures.value).below_

pub number-requires-2-clause-stay : goal.number-requires-2-clause-stay
number-requires-2-clause-stay g c =
    (number_then c.one_colour.ensures c.rectangles_are_joined.ensures g.drawn.0 g.drawn.1 c.args.masks.now
    c.args.cut.now c.in_ok-links.links c.requires.0 c.requires.1 c.in_ok-links.ensures
    c.as_slice-pieces.result.now c.as_slice-pieces.ensures c.in-Ok.count c.in-Ok.ensures.1
    c.as_slice.result.now c.as_slice.ensures c.in_ok-least.least.items c.in_ok-least.ensures c.as_slice-3.result.now
    c.as_slice-3.ensures.value).channels

pub number-requires-2-clause-still : goal.number-requires-2-clause-still
number-requires-2-clause-still g c =
    (number_then c.one_colour.ensures c.rectangles_are_joined.ensures g.drawn.0 g.drawn.1 c.args.masks.now
    c.args.cut.now c.in_ok-links.links c.requires.0 c.requires.1 c.in_ok-links.ensures
    c.as_slice-pieces.result.now c.as_slice-pieces.ensures c.in-Ok.count c.in-Ok.ensures.1
    c.as_slice.result.now c.as_slice.ensures c.in_ok-least.least.items c.in_ok-least.ensures c.as_slice-3.result.now
    c.as_slice-3.ensures.value).still_

pub returns : goal.returns
returns g c =
    classed_then c.one_colour.ensures c.rectangles_are_joined.ensures g.drawn.0 g.drawn.1 c.args.masks.now
    c.args.cut.now c.in_ok-links.links c.requires.0 c.requires.1 c.in_ok-links.ensures
    c.as_slice-pieces.result.now c.as_slice-pieces.ensures c.in-Ok.count c.in-Ok.ensures.1
    c.as_slice.result.now c.as_slice.ensures c.in_ok-least.least.items c.in_ok-least.ensures
    c.as_slice-2.result.now c.as_slice-3.result.now c.as_slice-2.ensures.value c.as_slice-3.ensures.value
    c.in_ok-nodes.nodes c.in_ok-channels.channels c.in_ok-nodes.ensures.roots c.in_ok-nodes.ensures.numbers
    c.in_ok-channels.ensures.roots c.in_ok-channels.ensures.numbers
