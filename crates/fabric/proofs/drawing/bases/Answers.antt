use Rattle.std.proofs.Common.{arith}
use Rattle.fabric.proofs.Low.{all_bases, next_base}
use Rattle.fabric.proofs.drawing.bases.Goals as goal

pub overflow_add-base-in-loop-row : goal.overflow_add-base-in-loop-row
overflow_add-base-in-loop-row c = let h = next_base c.args.plan.now c.args.rows.now c.loop-row.base c.loop-row.row-index
    c.requires.rows c.requires.room c.loop-row.invariant.1 c.loop-row-test.true in omega arith

pub returns : goal.returns
returns c = all_bases c.args.plan.now c.args.rows.now c.loop-row.bases c.loop-row.row-index c.requires.rows
    c.requires.room c.loop-row.invariant.0 c.loop-row.invariant.2 (omega (arith, c.loop-row-test.false))
