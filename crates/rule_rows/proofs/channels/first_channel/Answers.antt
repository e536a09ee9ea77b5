-- The first tile of such a colour begins with the least channel.
use Rattle.std.proofs.Common.{subst, sym}
use Rattle.mask_runs.specs.declared.mask.Mask.TheVariants.{Diffusion}
use Rattle.mask_tiles.specs.Tiles.{AreTiles, AreWhole}
use Rattle.rule_rows.proofs.Deep.{first_of_tiles}
use Rattle.rule_rows.proofs.channels.first_channel.Goals as goal

pub returns : goal.returns
returns c =
    let e = c.as_slice.ensures in
    first_of_tiles c.args.drawing.now c.as_slice.result.now
    (subst (AreTiles c.args.drawing.now Diffusion) (sym e) c.in_ok-swept.ensures.tiles)
    (subst (AreWhole c.args.drawing.now Diffusion) (sym e) c.in_ok-swept.ensures.whole)
    c.first_deep.result c.first_deep.ensures
