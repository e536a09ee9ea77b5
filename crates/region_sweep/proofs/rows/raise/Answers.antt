-- Block by block.
use Rattle.std.proofs.Common.{◌∙◌}
use Rattle.cover_tree.specs.Trees.{cover_of}
use Rattle.region_sweep.proofs.Rowwise.{raised_more}
use Rattle.region_sweep.proofs.rows.raise.Goals as goal

pub loop-next-preserved : goal.loop-next-preserved
loop-next-preserved c = record {
  mask = c.raise.ensures.raised.same_mask ∙ c.loop-next.invariant.mask;
  cells = c.raise.ensures.raised.as_wide ∙ c.loop-next.invariant.cells;
  row = c.raise.ensures.row ∙ c.loop-next.invariant.row;
  told = λ x. c.raise.ensures.told x ∙ c.loop-next.invariant.told x;
  raised =
      raised_more c.args.blocks.now c.args.row c.loop-next.next (cover_of c.loop-next.tree)
      (cover_of c.raise.new.self) c.loop-next.invariant.raised
      c.loop-next-test.true c.if-blocks-next.true c.raise.ensures.raised;
}
