use Rattle.lam_geom.specs.declared.layer.Layer.TheVariants.{NM, NP, ND}
use Rattle.mask_pieces.proofs.Covering.{found_inside, over_fewer, metal_over, polysilicon_over, diffusion_over}
use Rattle.mask_nodes.proofs.Placing.{inside_slice, slice_long, column_long, column_longer, nodes_then}
use Rattle.mask_nodes.proofs.columns.node_columns.Goals as goal

pub nodes_over-requires-clause-long : goal.nodes_over-requires-clause-long
nodes_over-requires-clause-long g c =
    slice_long c.as_slice.result.now c.args.cut.now.metal.over c.args.masks.now.contacts.tiles g.drawn.1
    c.len-first.result c.args.count
    (column_long _ _ _ c.args.masks.now.contacts.tiles g.drawn.1 c.args.masks.now.metal.found
    c.args.cut.now.metal.over _ c.requires.0.masks.metal_swept.found c.requires.0.cut.metal_over)
    c.as_slice.ensures c.len-first.ensures c.requires.1

pub nodes_over-requires-clause-inside : goal.nodes_over-requires-clause-inside
nodes_over-requires-clause-inside g c =
    inside_slice NM c.args.masks.now.metal.tiles c.args.cut.now.pieces c.args.cut.now.metal.numbers
    c.args.masks.now.metal.found c.args.cut.now.metal.over c.as_slice.result.now c.args.classes.now.nodes.numbers
    c.as_slice-numbers.result.now c.requires.0.cut.metal_numbers
    (found_inside _ _ c.args.masks.now.metal.tiles _ c.args.masks.now.metal.found c.requires.0.masks.metal_swept.found)
    c.requires.0.cut.metal_over c.requires.0.classed.as_many c.as_slice.ensures c.as_slice-numbers.ensures

pub nodes_over-requires-2-clause-long : goal.nodes_over-requires-2-clause-long
nodes_over-requires-2-clause-long g c =
    slice_long c.as_slice-2.result.now c.args.cut.now.polysilicon.over c.args.masks.now.contacts.tiles g.drawn.1
    c.len-first.result c.args.count
    (column_longer _ _ _ c.args.masks.now.contacts.tiles g.drawn.1 _ c.args.masks.now.polysilicon.found
    c.args.cut.now.polysilicon.over _ c.requires.0.masks.polysilicon_swept.found c.requires.0.cut.polysilicon_over)
    c.as_slice-2.ensures c.len-first.ensures c.requires.1

pub nodes_over-requires-2-clause-inside : goal.nodes_over-requires-2-clause-inside
nodes_over-requires-2-clause-inside g c =
    inside_slice NP c.args.masks.now.polysilicon.tiles c.args.cut.now.pieces c.args.cut.now.polysilicon.numbers
    c.args.masks.now.polysilicon.found c.args.cut.now.polysilicon.over c.as_slice-2.result.now
    c.args.classes.now.nodes.numbers c.as_slice-numbers.result.now c.requires.0.cut.polysilicon_numbers
    (found_inside _ _ c.args.masks.now.polysilicon.tiles _ c.args.masks.now.polysilicon.found
    c.requires.0.masks.polysilicon_swept.found) c.requires.0.cut.polysilicon_over c.requires.0.classed.as_many
    c.as_slice-2.ensures c.as_slice-numbers.ensures

pub nodes_over-requires-3-clause-long : goal.nodes_over-requires-3-clause-long
nodes_over-requires-3-clause-long g c =
    slice_long c.as_slice-3.result.now c.args.cut.now.diffusion.over c.args.masks.now.contacts.tiles g.drawn.1
    c.len-first.result c.args.count
    (column_long _ _ _ c.args.masks.now.contacts.tiles g.drawn.1 c.args.masks.now.diffusion.found
    c.args.cut.now.diffusion.over _ c.requires.0.masks.diffusion_swept.found c.requires.0.cut.diffusion_over)
    c.as_slice-3.ensures c.len-first.ensures c.requires.1

pub nodes_over-requires-3-clause-inside : goal.nodes_over-requires-3-clause-inside
nodes_over-requires-3-clause-inside g c =
    inside_slice ND c.args.masks.now.diffusion.tiles c.args.cut.now.pieces c.args.cut.now.diffusion.numbers
    c.args.masks.now.diffusion.found c.args.cut.now.diffusion.over c.as_slice-3.result.now
    c.args.classes.now.nodes.numbers c.as_slice-numbers.result.now c.requires.0.cut.diffusion_numbers
    (found_inside _ _ c.args.masks.now.diffusion.tiles _ c.args.masks.now.diffusion.found
    c.requires.0.masks.diffusion_swept.found) c.requires.0.cut.diffusion_over c.requires.0.classed.as_many
    c.as_slice-3.ensures c.as_slice-numbers.ensures

pub returns-clause-metal : goal.returns-clause-metal
returns-clause-metal g c =
    nodes_then g.drawn.0 c.args.cut.now.pieces c.args.classes.now.nodes c.args.classes.now.channels NM
    c.args.masks.now.contacts.tiles g.drawn.1 c.args.cut.now.metal.over c.as_slice.result.now c.in_ok-metal.metal
    c.as_slice-numbers.result.now c.len-first.result c.args.count
    c.requires.0.classed
    (metal_over g.drawn.0 c.args.cut.now.pieces c.args.cut.now.metal.numbers c.args.masks.now.metal.tiles _
    c.args.masks.now.metal.found c.args.cut.now.metal.over c.requires.0.masks.metal_swept.tiles
    c.requires.0.cut.metal_numbers c.requires.0.masks.metal_swept.found c.requires.0.cut.metal_over)
    (column_long _ _ _ c.args.masks.now.contacts.tiles g.drawn.1 c.args.masks.now.metal.found
    c.args.cut.now.metal.over _ c.requires.0.masks.metal_swept.found c.requires.0.cut.metal_over) c.as_slice.ensures
    c.as_slice-numbers.ensures c.len-first.ensures c.requires.1 c.in_ok-metal.ensures

pub returns-clause-polysilicon : goal.returns-clause-polysilicon
returns-clause-polysilicon g c =
    nodes_then g.drawn.0 c.args.cut.now.pieces c.args.classes.now.nodes c.args.classes.now.channels NP
    c.args.masks.now.contacts.tiles g.drawn.1 c.args.cut.now.polysilicon.over c.as_slice-2.result.now
    c.in_ok-polysilicon.polysilicon c.as_slice-numbers.result.now c.len-first.result c.args.count
    c.requires.0.classed
    (over_fewer _ _ NP _ _ _
    (polysilicon_over g.drawn.0 c.args.cut.now.pieces c.args.cut.now.polysilicon.numbers
    c.args.masks.now.polysilicon.tiles _ c.args.masks.now.polysilicon.found c.args.cut.now.polysilicon.over
    c.requires.0.masks.polysilicon_swept.tiles c.requires.0.cut.polysilicon_numbers
    c.requires.0.masks.polysilicon_swept.found c.requires.0.cut.polysilicon_over))
    (column_longer _ _ _ c.args.masks.now.contacts.tiles g.drawn.1 _ c.args.masks.now.polysilicon.found
    c.args.cut.now.polysilicon.over _ c.requires.0.masks.polysilicon_swept.found c.requires.0.cut.polysilicon_over)
    c.as_slice-2.ensures c.as_slice-numbers.ensures c.len-first.ensures c.requires.1 c.in_ok-polysilicon.ensures

pub returns-clause-diffusion : goal.returns-clause-diffusion
returns-clause-diffusion g c =
    nodes_then g.drawn.0 c.args.cut.now.pieces c.args.classes.now.nodes c.args.classes.now.channels ND
    c.args.masks.now.contacts.tiles g.drawn.1 c.args.cut.now.diffusion.over c.as_slice-3.result.now
    c.in_ok-diffusion.diffusion c.as_slice-numbers.result.now c.len-first.result c.args.count
    c.requires.0.classed
    (diffusion_over g.drawn.0 c.args.cut.now.pieces c.args.cut.now.diffusion.numbers c.args.masks.now.diffusion.tiles _
    c.args.masks.now.diffusion.found c.args.cut.now.diffusion.over c.requires.0.masks.diffusion_swept.tiles
    c.requires.0.cut.diffusion_numbers c.requires.0.masks.diffusion_swept.found c.requires.0.cut.diffusion_over)
    (column_long _ _ _ c.args.masks.now.contacts.tiles g.drawn.1 c.args.masks.now.diffusion.found
    c.args.cut.now.diffusion.over _ c.requires.0.masks.diffusion_swept.found c.requires.0.cut.diffusion_over)
    c.as_slice-3.ensures c.as_slice-numbers.ensures c.len-first.ensures c.requires.1 c.in_ok-diffusion.ensures
