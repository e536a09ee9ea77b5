-- The blocks are those of the rectangles.
use Rattle.std.proofs.Common.{sym, subst}
use Rattle.std.proofs.lemmas.Result.{IfOk-weaker}
use Rattle.region_sweep.specs.Grid.{AreBlocks}
use Rattle.region_sweep.proofs.swept.sweep_grid.Goals as goal

pub returns : goal.returns
returns c =
    let grid = c.args.grid.now in
    IfOk-weaker c.sweep_blocks.result _ _ (λ s is. is c.args.shapes.now c.requires
    (subst (AreBlocks grid.columns.marks.items grid.rows.marks.items c.args.mask c.args.shapes.now)
    (sym c.as_slice.ensures.value) c.in_ok-blocks.ensures.blocks)) c.sweep_blocks.ensures
