use Rattle.std.proofs.Common.{◌≡◌, ◌+◌, ◌-◌, ◌<◌, length, ap, sym, subst₂, refl, arith, ℕ, List}
use Rattle.std.specs.Prelude.{All}
use Rattle.lam_geom.specs.declared.layer.Layer.TheVariants.{ND}
use Rattle.union_find.specs.declared.pair.Pair.{Pair}
use Rattle.mask_pieces.specs.declared.piece.Part.TheVariants.{Plain, Implanted}
use Rattle.mask_pieces.proofs.Covering.{are_inside}
use Rattle.mask_nodes.proofs.ChannelsMade.{over_length, has_gate, channels_then, number_inside}
use Rattle.mask_nodes.proofs.channels.channels.Goals as goal

pub overflow_sub-first : goal.overflow_sub-first
overflow_sub-first g c =
    let k = over_length c.one_colour.ensures g.drawn.0 g.drawn.1 c.args.masks.now.contacts c.args.masks.now.metal
    c.args.masks.now.polysilicon c.args.masks.now.diffusion c.args.cut.now c.args.classes.now.nodes
    c.args.classes.now.channels c.requires.masks c.requires.cut c.requires.classed in
    let m : length c.as_slice-over.result.now ≡ length c.args.cut.now.polysilicon.over =
    ap length c.as_slice-over.ensures in
    let n = c.len.ensures in
    omega arith

pub gates-requires : goal.gates-requires
gates-requires g c =
    let k = over_length c.one_colour.ensures g.drawn.0 g.drawn.1 c.args.masks.now.contacts c.args.masks.now.metal
    c.args.masks.now.polysilicon c.args.masks.now.diffusion c.args.cut.now c.args.classes.now.nodes
    c.args.classes.now.channels c.requires.masks c.requires.cut c.requires.classed in
    let m : length c.as_slice-over.result.now ≡ length c.args.cut.now.polysilicon.over =
    ap length c.as_slice-over.ensures in
    let n = c.len.ensures in
    let e : length c.as_slice-over.result.now - c.len.result ≡ length c.args.masks.now.contacts.tiles
    + length g.drawn.1 = omega arith in
    has_gate c.one_colour.ensures g.drawn.0 g.drawn.1 c.args.masks.now.contacts c.args.masks.now.metal
    c.args.masks.now.polysilicon c.args.masks.now.diffusion c.args.cut.now c.args.classes.now.nodes
    c.args.classes.now.channels c.requires.masks c.requires.cut c.requires.classed
    (length c.as_slice-over.result.now - c.len.result) c.as_slice-over.result.now c.as_slice-pieces.result.now
    c.as_slice-nodes.result.now c.as_slice-roots.result.now e c.as_slice-over.ensures c.as_slice-pieces.ensures
    c.as_slice-nodes.ensures c.as_slice-roots.ensures

pub all_ends-requires-clause-tiles : goal.all_ends-requires-clause-tiles
all_ends-requires-clause-tiles g c =
    subst₂ (λ (a : List ℕ) (ps : List Pair). All (λ (p : Pair). (p.a < length a) × (p.b < length a)) ps)
    (sym c.as_slice.ensures) (sym c.as_slice-touching.ensures)
    (are_inside ND c.args.masks.now.diffusion.tiles c.args.masks.now.diffusion.pairs c.args.cut.now.diffusion.numbers
    c.args.cut.now.pieces c.requires.masks.diffusion_swept.pairs c.requires.cut.diffusion_numbers).tiles

pub all_ends-requires-clause-pieces : goal.all_ends-requires-clause-pieces
all_ends-requires-clause-pieces g c =
    subst₂ (λ a ps. All (λ (k : ℕ). k < length ps) a) (sym c.as_slice.ensures) (sym c.as_slice-pieces.ensures)
    (are_inside ND c.args.masks.now.diffusion.tiles c.args.masks.now.diffusion.pairs c.args.cut.now.diffusion.numbers
    c.args.cut.now.pieces c.requires.masks.diffusion_swept.pairs c.requires.cut.diffusion_numbers).pieces_in

pub mark-requires-clause-within : goal.mark-requires-clause-within
mark-requires-clause-within g c =
    number_inside c.one_colour.ensures g.drawn.0 g.drawn.1 c.args.masks.now.contacts c.args.masks.now.metal
    c.args.masks.now.polysilicon c.args.masks.now.diffusion c.args.cut.now c.args.classes.now.nodes
    c.args.classes.now.channels c.requires.masks c.requires.cut c.requires.classed
    Plain refl c.as_slice-pieces.result.now c.as_slice-numbers.result.now c.as_slice-roots.result.now
    c.as_slice-pieces.ensures c.as_slice-numbers.ensures c.as_slice-roots.ensures

pub mark-requires-2-clause-within : goal.mark-requires-2-clause-within
mark-requires-2-clause-within g c =
    number_inside c.one_colour.ensures g.drawn.0 g.drawn.1 c.args.masks.now.contacts c.args.masks.now.metal
    c.args.masks.now.polysilicon c.args.masks.now.diffusion c.args.cut.now c.args.classes.now.nodes
    c.args.classes.now.channels c.requires.masks c.requires.cut c.requires.classed
    Implanted refl c.as_slice-pieces.result.now c.as_slice-numbers.result.now c.as_slice-roots.result.now
    c.as_slice-pieces.ensures c.as_slice-numbers.ensures c.as_slice-roots.ensures

pub returns : goal.returns
returns g c =
    let k = over_length c.one_colour.ensures g.drawn.0 g.drawn.1 c.args.masks.now.contacts c.args.masks.now.metal
    c.args.masks.now.polysilicon c.args.masks.now.diffusion c.args.cut.now c.args.classes.now.nodes
    c.args.classes.now.channels c.requires.masks c.requires.cut c.requires.classed in
    let m : length c.as_slice-over.result.now ≡ length c.args.cut.now.polysilicon.over =
    ap length c.as_slice-over.ensures in
    let n = c.len.ensures in
    let e : length c.as_slice-over.result.now - c.len.result ≡ length c.args.masks.now.contacts.tiles
    + length g.drawn.1 = omega arith in
    channels_then c.one_colour.ensures g.drawn.0 g.drawn.1 c.args.masks.now.contacts c.args.masks.now.metal
    c.args.masks.now.polysilicon c.args.masks.now.diffusion c.args.cut.now c.args.classes.now.nodes
    c.args.classes.now.channels c.requires.masks c.requires.cut c.requires.classed
    (length c.as_slice-over.result.now - c.len.result) c.as_slice-over.result.now c.as_slice-pieces.result.now
    c.as_slice-nodes.result.now c.as_slice-numbers.result.now c.as_slice-roots.result.now c.as_slice.result.now
    c.as_slice-touching.result.now
    c.in_ok-gates.gates c.as_slice-2.result.now c.in_ok-ends.ends.items c.deref.result.now c.in_ok-plain.plain.items
    c.deref-2.result.now c.in_ok-implanted.implanted.items c.deref-3.result.now c.in_ok-channels.channels
    e c.as_slice-over.ensures c.as_slice-pieces.ensures c.as_slice-nodes.ensures c.as_slice-numbers.ensures
    c.as_slice-roots.ensures c.as_slice.ensures c.as_slice-touching.ensures
    c.as_slice-2.ensures c.deref.ensures.value c.deref-2.ensures.value c.deref-3.ensures.value c.in_ok-gates.ensures
    c.in_ok-ends.ensures.each c.in_ok-plain.ensures.each c.in_ok-implanted.ensures.each c.in_ok-channels.ensures
