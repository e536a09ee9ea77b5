use Rattle.std.proofs.Common.{◌<◌, length, sym, subst₂, ℕ, List}
use Rattle.std.specs.Prelude.{All}
use Rattle.lam_geom.specs.declared.layer.Layer.TheVariants.{ND}
use Rattle.union_find.specs.declared.pair.Pair.{Pair}
use Rattle.mask_pieces.proofs.Covering.{are_inside}
use Rattle.mask_sizes.proofs.measuring.sum_up.Goals as goal

pub edges-requires-clause-tiles : goal.edges-requires-clause-tiles
edges-requires-clause-tiles c =
    subst₂ (λ (a : List ℕ) (ps : List Pair). All (λ (p : Pair). (p.a < length a) × (p.b < length a)) ps)
    (sym c.as_slice-numbers.ensures) (sym c.as_slice-touching.ensures)
    (are_inside ND c.args.masks.now.diffusion.tiles c.args.masks.now.diffusion.pairs c.args.cut.now.diffusion.numbers
    c.args.cut.now.pieces c.requires.masks.diffusion_swept.pairs c.requires.cut.diffusion_numbers).tiles

pub edges-requires-clause-pieces : goal.edges-requires-clause-pieces
edges-requires-clause-pieces c =
    subst₂ (λ a ps. All (λ (k : ℕ). k < length ps) a) (sym c.as_slice-numbers.ensures) (sym c.as_slice-pieces.ensures)
    (are_inside ND c.args.masks.now.diffusion.tiles c.args.masks.now.diffusion.pairs c.args.cut.now.diffusion.numbers
    c.args.cut.now.pieces c.requires.masks.diffusion_swept.pairs c.requires.cut.diffusion_numbers).pieces_in
