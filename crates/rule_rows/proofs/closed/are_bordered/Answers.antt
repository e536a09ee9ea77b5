-- No tile is of diffusion alone.
use Rattle.std.proofs.Common.{subst}
use Rattle.mask_runs.specs.declared.mask.Mask.TheVariants.{Diffusion}
use Rattle.mask_tiles.specs.Tiles.{AreWhole}
use Rattle.rule_rows.specs.Closed.{AreDeep}
use Rattle.rule_rows.proofs.Crossing.{bordered}
use Rattle.rule_rows.proofs.closed.are_bordered.Goals as goal

pub returns : goal.returns
returns c = λ e.
    let d3 = c.spread-2.new.drawing in
    let found = c.in_ok-swept.swept.tiles in
    bordered c.args.shapes.now c.in_ok-drawing.drawing c.spread.new.drawing d3 c.args.tiles.now
    c.in_ok-drawing.ensures c.in_ok-spread.ensures c.in_ok-spread-2.ensures found
    (subst (λ d. AreWhole d Diffusion found) c.as_slice.ensures c.in_ok-swept.ensures.whole)
    (subst AreDeep c.as_slice-2.ensures (c.are_deep.ensures e))
